-- The record that calls leave is the one that belongs to their run.
use Rattle.std.proofs.Common.{◌≡◌, ℕ, zero, suc, ◌+◌, ◌≤◌, List, [], ◌∷◌, Ok, Err, Result, refl, ap, ◌∙◌, arith}
use Rattle.site.specs.Arena.{Arena, Lawful}
use Rattle.site.specs.Refusals.{Refusal}
use Rattle.checker.specs.declared.leaves.Leaf.{Leaf}
use Rattle.checker.specs.declared.runs.Run.{Run}
use Rattle.checker.specs.declared.runs.Run.TheVariants.{Placed}
use Rattle.checker.specs.declared.calls.Call.{Call}
use Rattle.checker.specs.declared.calls.Call.TheVariants.{Place, Book, Objection}
use Rattle.checker.specs.Rounds.{answer, after_call, counted, state_of, capped}
use Rattle.checker.specs.Runs.{latest, extended, next_run, ran_from, ran, recorded, confirmations, doubts, row, left_from, left_by}
use Rattle.checker.specs.RunLaws.{Agrees}
use Rattle.checker.proofs.Blanks.{blank_while}
use Rattle.checker.proofs.Refusing.{no_first_book, no_first_objection}

-- one more, capped after or before
capped_more : (n : ℕ) → capped (capped n + 1) ≡ capped (1 + n)
capped_more n = omega arith

placed_same : (t : ℕ) {c c' d d' o o' : ℕ} → c ≡ c' → d ≡ d' → o ≡ o' → Placed t c d o ≡ Placed t c' d' o'
placed_same t p q r = cc

module _ (m : Arena) (lawful : Lawful m) (leaves : List Leaf) (replies : List ℕ) where
  -- one more state counted is that of the longer run
  counted_more : (t : ℕ) (run : List ℕ) → counted (m.grade t) (Placed t (capped (confirmations m run)) (capped (doubts m run)) (capped (row m run))) ≡ recorded m (t ∷ run)
  counted_more t run = go (m.grade t) refl (lawful.few_grades t)
    where
      go : (g : ℕ) → m.grade t ≡ g → g ≤ 2 → counted (m.grade t) (Placed t (capped (confirmations m run)) (capped (doubts m run)) (capped (row m run))) ≡ recorded m (t ∷ run)
      go zero e l = rw e (ap (λ n. Placed t n 0 0) (capped_more _))
      go (suc zero) e l = rw (e, e) (placed_same t (omega arith) (omega arith) refl)
      go (suc (suc zero)) e l = rw (e, e) (placed_same t (omega arith) (omega arith) (omega arith))
      go (suc (suc (suc g))) e l = absurd (omega arith)

  -- the state of the record is that of the run
  pub same_state : (run : List ℕ) → state_of (recorded m run) ≡ latest run
  same_state [] = refl
  same_state (v ∷ older) = refl

  -- the record after a call with an answer is that of the longer run; a round is answered by a state only
  -- where there is one
  after_more : (run : List ℕ) (call : Call) (result : Result ℕ Refusal) → answer m leaves replies (latest run) call ≡ result → after_call m result (recorded m run) call ≡ recorded m (extended result run call)
  after_more [] (Place s) (Ok t) e = counted_more t []
  after_more (v ∷ older) (Place s) (Ok t) e = counted_more t []
  after_more [] (Book b) (Ok t) e = absurd (no_first_book m leaves b t e)
  after_more [] (Objection a) (Ok t) e = absurd (no_first_objection m leaves replies a t e)
  after_more (v ∷ older) (Book b) (Ok t) e = counted_more t (v ∷ older)
  after_more (v ∷ older) (Objection b) (Ok t) e = counted_more t (v ∷ older)
  after_more run (Place s) (Err f) e = refl
  after_more run (Book s) (Err f) e = refl
  after_more run (Objection s) (Err f) e = refl

  -- one more call on the record of a run leaves that of the longer run
  pub one_more : (run : List ℕ) (call : Call) (before : Run) → before ≡ recorded m run → after_call m (answer m leaves replies (state_of before) call) before call ≡ recorded m (next_run m leaves replies run call)
  one_more run call before e = rw (e, same_state run) (after_more run call _ refl)

  -- any calls after a run
  left_more : (run : List ℕ) (calls : List Call) → left_from m leaves replies (recorded m run) calls ≡ recorded m (ran_from m leaves replies run calls)
  unfolding left_from ran_from
  left_more run [] = refl
  left_more run (call ∷ calls) =
      rw (same_state run, after_more run call _ refl) (left_more (next_run m leaves replies run call) calls)

  -- the calls and the run agree
  pub agrees : (calls : List Call) → Agrees m leaves replies calls
  agrees calls =
      let e : left_by m leaves replies calls ≡ recorded m (ran m leaves replies calls) = left_more [] calls in
      record {
        record_is = e;
        answer_is = λ call. ap (λ at. answer m leaves replies at call) (ap state_of e ∙ same_state (ran m leaves replies calls));
        blank_while = blank_while m leaves replies calls;
      }
