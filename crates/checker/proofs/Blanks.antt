-- A record stays blank until a placing is accepted, and never is blank again.
use Rattle.std.proofs.Common.{◌≡◌, ℕ, Bool, true, false, ◌&&◌, eqb, leb, List, [], ◌∷◌, Ok, Err, Decides, Result, sym, refl, ap, ◌∙◌}
use Rattle.std.proofs.lemmas.Bool.{cond_both, false≢true}
use Rattle.std.proofs.lemmas.Bool.Decides.{Decides-at}
use Rattle.site.specs.Arena.{Arena}
use Rattle.site.specs.Refusals.{Refusal, unless}
use Rattle.checker.specs.declared.leaves.Leaf.{Leaf}
use Rattle.checker.specs.declared.runs.Run.{Run}
use Rattle.checker.specs.declared.runs.Run.TheVariants.{Blank, Placed}
use Rattle.checker.specs.declared.calls.Call.{Call}
use Rattle.checker.specs.declared.calls.Call.TheVariants.{Place, Book, Objection}
use Rattle.checker.specs.Rounds.{answer, after_placing, after_round, counted, state_of}
use Rattle.checker.specs.Runs.{left_from, left_by, unplaced}

abbrev is_blank : Run → Bool
is_blank Blank = true
is_blank (Placed v c d o) = false

blank_decides : (run : Run) → Decides (is_blank run) (run ≡ Blank)
blank_decides Blank = ((λ e. refl), (λ e. refl))
blank_decides (Placed v c d o) = ((λ e. absurd (false≢true e)), (λ e. ap is_blank e))

-- counting a state leaves the stage as it is
counted_stage : (g : ℕ) (run : Run) → is_blank (counted g run) ≡ is_blank run
counted_stage g Blank = refl
counted_stage g (Placed v c d o) =
    cond_both (eqb g 0) _ _ (λ r. is_blank r ≡ false) (λ _. refl)
    (λ _. cond_both (eqb g 1) _ _ (λ r. is_blank r ≡ false) (λ _. refl) (λ _. refl))

module _ (m : Arena) where
  -- a round leaves it too
  round_stage : (result : Result ℕ Refusal) (run : Run) → is_blank (after_round m result run) ≡ is_blank run
  round_stage (Ok t) Blank = refl
  round_stage (Ok t) (Placed v c d o) = counted_stage (m.grade t) (Placed t c d o)
  round_stage (Err e) run = refl

  -- an accepted placing ends a blank record
  placing_stage : (bad : Bool) (s : ℕ) (run : Run) → is_blank (after_placing m (unless bad 15 s (Ok s)) run) ≡ (bad && is_blank run)
  placing_stage true s run = refl
  placing_stage false s run = counted_stage (m.grade s) (Placed s 0 0 0)

and_swap : (x y z : Bool) → ((x && y) && z) ≡ (y && (x && z))
and_swap true y z = refl
and_swap false true z = refl
and_swap false false z = refl

module _ (m : Arena) (leaves : List Leaf) (replies : List ℕ) where
  stage_after : (calls : List Call) (run : Run) → is_blank (left_from m leaves replies run calls) ≡ (is_blank run && unplaced m calls)
  unfolding left_from
  stage_after [] Blank = refl
  stage_after [] (Placed v c d o) = refl
  stage_after (Place s ∷ calls) run =
      stage_after calls (after_placing m (answer m leaves replies (state_of run) (Place s)) run)
      ∙ ap (λ b. b && unplaced m calls) (placing_stage m (leb m.states s) s run)
      ∙ and_swap (leb m.states s) (is_blank run) (unplaced m calls)
  stage_after (Book b ∷ calls) run =
      stage_after calls (after_round m (answer m leaves replies (state_of run) (Book b)) run)
      ∙ ap (λ b. b && unplaced m calls) (round_stage m (answer m leaves replies (state_of run) (Book b)) run)
  stage_after (Objection a ∷ calls) run =
      stage_after calls (after_round m (answer m leaves replies (state_of run) (Objection a)) run)
      ∙ ap (λ b. b && unplaced m calls) (round_stage m (answer m leaves replies (state_of run) (Objection a)) run)

  -- the record is blank exactly while no placing was accepted
  pub blank_while : (calls : List Call) → Decides (unplaced m calls) (left_by m leaves replies calls ≡ Blank)
  blank_while calls = Decides-at _ _ (sym (stage_after calls Blank)) (blank_decides (left_by m leaves replies calls))
