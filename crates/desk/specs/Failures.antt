-- What a failure prints as.
use Rattle.std.specs.Prelude.{ℕ, List, codes}
use Rattle.site.specs.Refusals.{told, refusal_text}
use Rattle.desk.specs.declared.failures.Failure.{Failure}
use Rattle.desk.specs.declared.failures.Failure.TheVariants.{Refused, NoMemory}

-- a refusal by its number and place, and want of memory by its words
abbrev pub failure_text : Failure → List ℕ
failure_text (Refused f) = refusal_text (told f)
failure_text NoMemory = codes "out of memory"
