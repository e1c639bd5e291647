-- The run that calls and their answers tell of is the run of the calls.
use Rattle.std.proofs.Common.{◌≡◌, ℕ, ◌+◌, ◌<◌, List, [], ◌∷◌, ◌++◌, map, reverse, length, get_or, take, Ok, Err, Result, sym, refl, ap, ◌∙◌, arith, length-take}
use Rattle.std.proofs.lemmas.List.{take_more, map_push, length-map, reverse-append}
use Rattle.site.specs.Arena.{Arena}
use Rattle.site.specs.Refusals.{Refusal, answered}
use Rattle.site.specs.declared.faults.Fault.{Fault}
use Rattle.checker.specs.Runs.{extended, next_run, ran_from, answers_from}
use Rattle.checker.specs.declared.calls.Call.{Call}
use Rattle.checker.specs.declared.calls.Call.TheVariants.{Place, Book, Objection}
use Rattle.checker.specs.declared.leaves.Leaf.{Leaf}
use Rattle.desk.specs.Drills.{told_from, longer}

-- the answers of calls tell of their run
pub told_ran : (m : Arena) (leaves : List Leaf) (replies : List ℕ) (run : List ℕ) (calls : List Call) → told_from run calls (answers_from m leaves replies run calls) ≡ ran_from m leaves replies run calls
unfolding ran_from answers_from
told_ran m leaves replies run [] = refl
told_ran m leaves replies run (call ∷ calls) = told_ran m leaves replies (next_run m leaves replies run call) calls

-- one call more with its answer
told_push : (run : List ℕ) (calls : List Call) (answers : List (Result ℕ Refusal)) (call : Call) (a : Result ℕ Refusal) → length calls ≡ length answers → told_from run (calls ++ call ∷ []) (answers ++ a ∷ []) ≡ extended a (told_from run calls answers) call
told_push run [] [] call a e = refl
told_push run [] (x ∷ answers) call a e = absurd (omega arith)
told_push run (c ∷ calls) [] call a e = absurd (omega arith)
told_push run (c ∷ calls) (x ∷ answers) call a e = told_push (extended x run c) calls answers call a (omega arith)

pub told_more : (calls : List Call) (answers : List (Result ℕ Fault)) (i : ℕ) (d : Call) (e : Result ℕ Fault) → length calls ≡ length answers → i < length calls → told_from [] (take (i + 1) calls) (map answered (take (i + 1) answers)) ≡ extended (answered (get_or answers i e)) (told_from [] (take i calls) (map answered (take i answers))) (get_or calls i d)
told_more calls answers i d e same lt =
    rw (take_more calls i d lt, take_more answers i e (omega arith), map_push answered (take i answers) (get_or answers i e))
    (told_push [] (take i calls) (map answered (take i answers)) (get_or calls i d) (answered (get_or answers i e)) (simp (length-map, length-take) (omega arith)))

-- a state more, the first first or the latest first
pub longer_is : (call : Call) (s : ℕ) (run : List ℕ) → longer call s (reverse run) ≡ reverse (extended (Ok s) run call)
longer_is (Place p) s run = refl
longer_is (Book b) s run = sym (reverse-append (s ∷ []) run)
longer_is (Objection a) s run = sym (reverse-append (s ∷ []) run)

-- the states of the run after one call more, by its answer
module _ (calls : List Call) (answers : List (Result ℕ Fault)) (i : ℕ) (d : Call) (e : Result ℕ Fault) (same : length calls ≡ length answers) (lt : i < length calls) (items : List ℕ) (so_far : items ≡ reverse (told_from [] (take i calls) (map answered (take i answers)))) where
  pub reached_more : (s : ℕ) (after : List ℕ) → get_or answers i e ≡ Ok s → after ≡ longer (get_or calls i d) s items → after ≡ reverse (told_from [] (take (i + 1) calls) (map answered (take (i + 1) answers)))
  reached_more s after ok is =
      let run = told_from [] (take i calls) (map answered (take i answers)) in
      is
      ∙ (ap (longer (get_or calls i d) s) so_far
      ∙ (longer_is (get_or calls i d) s run
      ∙ (ap (λ a. reverse (extended (answered a) run (get_or calls i d))) (sym ok) ∙ ap reverse (sym (told_more calls answers i d e same lt)))))

  pub refused_more : (f : Fault) → get_or answers i e ≡ Err f → items ≡ reverse (told_from [] (take (i + 1) calls) (map answered (take (i + 1) answers)))
  refused_more f no_way =
      let run = told_from [] (take i calls) (map answered (take i answers)) in
      so_far ∙ (ap (λ a. reverse (extended (answered a) run (get_or calls i d))) (sym no_way) ∙ ap reverse (sym (told_more calls answers i d e same lt)))
