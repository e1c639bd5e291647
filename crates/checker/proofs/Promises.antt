-- The law of runs: the record is the run's, and an accepted pair keeps the promises of its parts.
use Rattle.std.proofs.Common.{ℕ, List, inl, inr}
use Rattle.std.proofs.lemmas.Bool.{both_ways}
use Rattle.site.specs.Arena.{Arena, Lawful}
use Rattle.checker.specs.declared.leaves.Leaf.{Leaf}
use Rattle.checker.specs.declared.calls.Call.{Call}
use Rattle.checker.specs.Witness.{Accepted}
use Rattle.checker.specs.Runs.{ran}
use Rattle.checker.specs.RunLaws.{Kept, RunLaw}
use Rattle.checker.proofs.Agreeing.{agrees}
use Rattle.checker.proofs.BookRuns.{on_the_book}
use Rattle.checker.proofs.ObjectionRuns.{on_the_objection}
use Rattle.checker.proofs.Chains.{chain_origin}
use Rattle.checker.proofs.Keeping.{Booked, BookStep, Replied, ReplyStep, one_part}

module _ (m : Arena) (lawful : Lawful m) (leaves : List Leaf) (replies : List ℕ) (accepted : Accepted m leaves replies) where
  -- by the part in which the run was placed
  kept : (calls : List Call) → Kept m leaves replies calls
  kept calls =
      let run = ran m leaves replies calls in
      record {
        covered = λ s from is.
            elim (one_part m lawful leaves replies accepted calls) [
              | inl chain ↦ on_the_book m lawful leaves replies accepted run chain
              | inr chain ↦ absurd (both_ways _ (chain_origin (Replied m leaves) (ReplyStep m leaves) run s chain from).1 is)
            ];
        uncovered = λ s from is.
            elim (one_part m lawful leaves replies accepted calls) [
              | inl chain ↦ absurd (both_ways _ is (chain_origin (Booked m leaves) (BookStep m leaves) run s chain from).1)
              | inr chain ↦ on_the_objection m lawful leaves replies accepted run chain
            ];
      }

pub run_law : (m : Arena) → Lawful m → RunLaw m
run_law m lawful leaves replies calls =
    (agrees m lawful leaves replies calls, (λ accepted. kept m lawful leaves replies accepted calls))
