-- What a problem prints as, and which problems are refusals.
use Rattle.std.specs.Prelude.{Bool, true, false, ℕ, List, ◌++◌, codes, decimal}
use Rattle.desk.specs.Failures.{failure_text}
use Rattle.desk.specs.declared.failures.Failure.TheVariants.{Refused, NoMemory}
use Rattle.drill.specs.declared.problems.Problem.{Problem}
use Rattle.drill.specs.declared.problems.Problem.TheVariants.{Failed, BadLine, NoFloor, NoInput}

-- what failed below by its own text, a line of the script by its number, and the others by their words
abbrev pub problem_text : Problem → List ℕ
problem_text (Failed f) = failure_text f
problem_text (BadLine n) =
    codes "line " ++ (decimal n ++ codes " is no call: write place, book or objection and a number")
problem_text NoFloor = codes "usage: drill FLOOR < SCRIPT"
problem_text NoInput = codes "the floor or the script cannot be read"

-- the floor or a line of the script is at fault, and not the way the program was started or the machine
abbrev pub refuses : Problem → Bool
refuses (Failed (Refused _)) = true
refuses (Failed NoMemory) = false
refuses (BadLine _) = true
refuses NoFloor = false
refuses NoInput = false
