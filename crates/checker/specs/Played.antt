-- What playing a list of calls answers.
use Rattle.std.specs.Prelude.{ℕ, List, length, Ok, Result, nat_lt}
use Rattle.site.specs.Arena.{Arena}
use Rattle.site.specs.Refusals.{Refusal, unless}
use Rattle.site.specs.declared.faults.Fault.{Fault}
use Rattle.checker.specs.declared.leaves.Leaf.{Leaf}
use Rattle.checker.specs.declared.runs.Run.{Run}
use Rattle.checker.specs.declared.calls.Call.{Call}
use Rattle.checker.specs.Runs.{ran, recorded}

-- The record of the run that the calls make; fewer places for answers than calls are refused by 9.
abbrev pub played : Arena → List Leaf → List ℕ → List Call → List (Result ℕ Fault) → Result Run Refusal
played m leaves replies calls answers =
    unless (nat_lt (length answers) (length calls)) 9 (length calls) (Ok (recorded m (ran m leaves replies calls)))
