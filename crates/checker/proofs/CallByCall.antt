-- Calls played one after another: how far the list has come.
use Rattle.std.proofs.Common.{◌≡◌, ℕ, ◌+◌, ◌<◌, ◌≤◌, List, [], ◌∷◌, ◌++◌, map, length, get_or, take, drop, set, Ok, Result, sym, refl, ap, ◌∙◌, arith}
use Rattle.std.proofs.lemmas.List.{take_more, take_more_set, drop-set-lt, drop-drop, map_push, take_all}
use Rattle.std.proofs.lemmas.Bool.{le-ltb}
use Rattle.site.specs.Arena.{Arena, Lawful}
use Rattle.site.specs.Refusals.{answered}
use Rattle.site.specs.declared.faults.Fault.{Fault}
use Rattle.checker.specs.declared.leaves.Leaf.{Leaf}
use Rattle.checker.specs.declared.runs.Run.{Run}
use Rattle.checker.specs.declared.calls.Call.{Call}
use Rattle.checker.specs.Rounds.{answer, after_call, state_of}
use Rattle.checker.specs.Runs.{latest, next_run, ran_from, ran, answers_from, answers_to, recorded}
use Rattle.checker.specs.Played.{played}
use Rattle.checker.proofs.Agreeing.{same_state, one_more}

module _ (m : Arena) (leaves : List Leaf) (replies : List ℕ) where
  -- one call more at the end of the list
  ran_push : (run : List ℕ) (calls : List Call) (call : Call) → ran_from m leaves replies run (calls ++ call ∷ []) ≡ next_run m leaves replies (ran_from m leaves replies run calls) call
  unfolding ran_from
  ran_push run [] call = refl
  ran_push run (c ∷ calls) call = ran_push (next_run m leaves replies run c) calls call

  answers_push : (run : List ℕ) (calls : List Call) (call : Call) → answers_from m leaves replies run (calls ++ call ∷ []) ≡ answers_from m leaves replies run calls ++ answer m leaves replies (latest (ran_from m leaves replies run calls)) call ∷ []
  unfolding ran_from answers_from
  answers_push run [] call = refl
  answers_push run (c ∷ calls) call =
      ap (λ rest. answer m leaves replies (latest run) c ∷ rest) (answers_push (next_run m leaves replies run c) calls call)

-- The first i calls were played: the record and the answers are those of their run, and all places from the
-- i-th on are as before.
pub record SoFar (m : Arena) (leaves : List Leaf) (replies : List ℕ) (calls : List Call) (before : List (Result ℕ Fault)) (i : ℕ) (run : Run) (answers : List (Result ℕ Fault)) : Type 0 where
  pub run_is : run ≡ recorded m (ran m leaves replies (take i calls))
  pub written : map answered (take i answers) ≡ answers_to m leaves replies (take i calls)
  pub beyond : drop i answers ≡ drop i before

module _ (m : Arena) (lawful : Lawful m) (leaves : List Leaf) (replies : List ℕ) (calls : List Call) (before : List (Result ℕ Fault)) where
  pub none_played : (run : Run) → run ≡ recorded m [] → SoFar m leaves replies calls before 0 run before
  unfolding ran_from answers_from
  none_played run e = record { run_is = e; written = refl; beyond = refl }

  pub one_played : (i : ℕ) (run after : Run) (answers : List (Result ℕ Fault)) (d : Call) (r : Result ℕ Fault) → SoFar m leaves replies calls before i run answers → i < length calls → i < length answers → answered r ≡ answer m leaves replies (state_of run) (get_or calls i d) → after ≡ after_call m (answer m leaves replies (state_of run) (get_or calls i d)) run (get_or calls i d) → SoFar m leaves replies calls before (i + 1) after (set answers i r)
  one_played i run after answers d r h l l' e e' =
      let call = get_or calls i d in
      let state = ap state_of h.run_is ∙ same_state m lawful leaves replies (ran m leaves replies (take i calls)) in
      record {
        run_is =
            rw (take_more calls i d l, ran_push m leaves replies [] (take i calls) call)
            (e' ∙ one_more m lawful leaves replies (ran m leaves replies (take i calls)) call run h.run_is);
        written =
            rw (take_more calls i d l, answers_push m leaves replies [] (take i calls) call, take_more_set answers i r l', map_push answered (take i answers) r, h.written, e, state) refl;
        beyond = drop-set-lt (i + 1) answers i r (omega arith) ∙ sym (drop-drop 1 i answers) ∙ ap (drop 1) h.beyond ∙ drop-drop 1 i before;
      }

  -- all calls were played
  pub all_played : (i : ℕ) (run : Run) (answers : List (Result ℕ Fault)) → SoFar m leaves replies calls before i run answers → i ≤ length calls → length calls ≤ i → length calls ≤ length before → (answered (Ok run) ≡ played m leaves replies calls before) × (map answered (take (length calls) answers) ≡ answers_to m leaves replies calls) × (drop (length calls) answers ≡ drop (length calls) before)
  all_played i run answers h l all enough =
      let same : i ≡ length calls = omega arith in
      let whole = take_all (length calls) calls (omega arith) in
      let done : SoFar m leaves replies calls before (length calls) run answers = rw same at h in
      (rw (le-ltb _ _ enough) (ap Ok (rw whole at done.run_is)), rw whole at done.written, done.beyond)
