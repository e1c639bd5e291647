-- Chains of iterators over the numbers below a bound: what tests, folds and counts over them come to.
use Rattle.std.proofs.Common.{◌≡◌, ℕ, zero, suc, ◌+◌, ◌<◌, ◌≤◌, min, max, Bool, true, false, cond, List, [], ◌∷◌, ◌++◌, length, Option, Some, None, MatchOption, unwrap_or, refl, sym, ap, ◌∙◌, zero-add, arith}
use denote.Param.Members.{Mut}
use denote.Bor.{Bor}
use Rattle.std.specs.Bool.{MatchBool}
use Rattle.std.specs.Iterator.{ActsAsAt, ActsAsOnTwo}
use Rattle.std.specs.Iterator.Runs.{Run, SomeRun, WholeRun, EachRunFrom, IsFilterRun, ItemsCountUp}
use Rattle.std.specs.List.{range_with_len, fold, zip, HoldsAt, AllWithin}
use Rattle.std.proofs.lemmas.Slice.Zip.{get_or-zip, length-zip}
use Rattle.std.proofs.iter.Yields.{nat_range_steps}
use Rattle.std.proofs.iter.runs.Sources.{range_runs}
use Rattle.std.proofs.lemmas.List.{ext_get_or}
use Rattle.std.proofs.lemmas.List.FromFn.{length-range_with_len, get_or-range_with_len}
use Rattle.std.proofs.lemmas.List.Sums.{fold-append}
use Rattle.site.specs.Arena.{Arena}
use Rattle.site.specs.Counting.{some, count}
use Rattle.parts.specs.Lifting.{at, worst, best}
use Rattle.parts.specs.Regions.{lowest}
use Rattle.parts.proofs.Lowest.{some_not, lowest_none, lowest_found}
use Rattle.parts.proofs.Steps.{some_at}

-- a fold over one number more
range_more : (a n : ℕ) → range_with_len a (suc n) ≡ range_with_len a n ++ (a + n) ∷ []
range_more a zero = ap (λ k. k ∷ []) (omega arith)
range_more a (suc n) =
    ap (λ ks. a ∷ ks) (range_more (a + 1) n ∙ ap (λ k. range_with_len (a + 1) n ++ k ∷ []) (omega arith))

fold_more : (f : ℕ → ℕ → ℕ) (x n : ℕ) → fold f x (range_with_len 0 (suc n)) ≡ f (fold f x (range_with_len 0 n)) n
fold_more f x n =
    ap (fold f x) (range_more 0 n ∙ ap (λ k. range_with_len 0 n ++ k ∷ []) (zero-add n)) ∙ fold-append f x (range_with_len 0 n) (n ∷ [])

count_fold : (q : ℕ → Bool) (n : ℕ) → fold (λ k s. k + cond (q s) 1 0) 0 (range_with_len 0 n) ≡ count q n
count_fold q zero = refl
count_fold q (suc n) =
    fold_more (λ k s. k + cond (q s) 1 0) 0 n ∙ ap (λ k. k + cond (q n) 1 0) (count_fold q n)

-- a run of calls over the numbers below n
module _ (p : Run nat_range_steps) (k n : ℕ) (from : p.from ≡ record { start = 0; end = k }) (end : k ≡ n) where
  up : ItemsCountUp p 0 n
  up = rw (from, end) at (range_runs p p.seen)

  items : p.whole ≡ true → p.items ≡ range_with_len 0 n
  items w =
      ext_get_or 0 p.items (range_with_len 0 n) (omega (arith, p.long, up.1 w, length-range_with_len 0 n)) (λ i lt.
      let inside : i < p.len = omega (arith, p.long) in
      ap (λ o. unwrap_or o 0) (sym (p.reads i 0 inside) ∙ up.3 i inside) ∙ sym (get_or-range_with_len 0 n i 0 (omega (arith, up.0))))

-- what `fold` says of such a run
pub fold_is : {F B : Type 0} {g : Mut F (B × (ℕ × Unit {0})) B} {f : F} {k : ℕ} {x r : B} (h : B → ℕ → B) (n : ℕ) → WholeRun nat_range_steps (record { start = 0; end = k }) (λ p. (h : B → ℕ → B) → ActsAsOnTwo g f h → r ≡ fold h x p.items) → k ≡ n → ActsAsOnTwo g f h → r ≡ fold h x (range_with_len 0 n)
fold_is {k = k} {x = x} h n run end acts = run.3 h acts ∙ ap (fold h x) (items run.0 k n run.1 end run.2)

-- `filter` and `count` over it, and `find`
pub count_is : {S F : Type 0} {steps : S → Option ℕ → S → Type 0} {s : S} {g : Mut F (Bor ℕ × Unit {0}) Bool} {f : F} {k r : ℕ} (q : ℕ → Bool) (n : ℕ) → WholeRun steps s (λ u. r ≡ u.len) → EachRunFrom steps s (λ u. SomeRun nat_range_steps (record { start = 0; end = k }) (λ v. IsFilterRun u v g f)) → k ≡ n → ActsAsAt g f q → r ≡ count q n
count_is {k = k} q n counted filtered end acts =
    let v = filtered counted.0 counted.0.seen counted.1 in
    counted.3
    ∙ (v.2.5 (λ m x. m + cond (q x) 1 0) (λ x b f' m called. let h = acts x b f' called in (h.0, ap (λ z. m + cond z 1 0) (sym h.1)))
    ∙ (ap (fold (λ m x. m + cond (q x) 1 0) 0) (items v.0 k n v.1 end (v.2.0 ∙ counted.2)) ∙ count_fold q n))

pub found_is : (p : ℕ → Bool) (n : ℕ) (r : Option ℕ) → MatchOption r ((k : ℕ) → 0 ≤ k → k < n → p k ≡ false) (λ i. (0 ≤ i) × (i < n) × (p i ≡ true) × ((k : ℕ) → 0 ≤ k → k < i → p k ≡ false)) → unwrap_or r n ≡ lowest p n
found_is p n None h = sym (lowest_none p n (some_not p n (λ k lt. h k (omega arith) lt)))
found_is p n (Some i) h = sym (lowest_found p n i (some_not p i (λ k lt. h.3 k (omega arith) lt)) h.2 h.1)

module _ (m : Arena) (x : ℕ → ℕ) (s : ℕ) where
  pub worst_fold : (a e : ℕ) → fold (λ most b. max most (x (m.next s a b))) 0 (range_with_len 0 e) ≡ worst m x s a e
  worst_fold a zero = refl
  worst_fold a (suc e) =
      fold_more (λ most b. max most (x (m.next s a b))) 0 e ∙ ap (λ most. max most (x (m.next s a e))) (worst_fold a e)

  pub best_fold : (top c : ℕ) → fold (λ least a. min least (worst m x s a (m.events s))) top (range_with_len 0 c) ≡ best m top x s c
  best_fold top zero = refl
  best_fold top (suc c) =
      fold_more (λ least a. min least (worst m x s a (m.events s))) top c ∙ ap (λ least. min least (worst m x s c (m.events s))) (best_fold top c)

-- a test asked of two rows state by state
pub some_zip : (xs ys : List ℕ) (n : ℕ) (q : ℕ → ℕ → Bool) → length xs ≡ n → length ys ≡ n → (r : Bool) → MatchBool r ((k : ℕ) × (k < length (zip xs ys)) × HoldsAt (λ p. q p.0 p.1 ≡ true) (zip xs ys) k) (AllWithin (λ p. q p.0 p.1 ≡ false) (zip xs ys) 0 (length (zip xs ys))) → r ≡ some (λ s. q (at xs s) (at ys s)) n
some_zip xs ys n q lx ly true h =
    let in< : h.0 < n = omega (arith, h.1, length-zip xs ys, lx, ly) in
    sym (some_at (λ s. q (at xs s) (at ys s)) n h.0 (rw (get_or-zip xs ys h.0 (0, 0) (omega arith) (omega arith)) at (h.2 (0, 0))) in<)
some_zip xs ys n q lx ly false h =
    sym (some_not (λ s. q (at xs s) (at ys s)) n (λ k lt. rw (get_or-zip xs ys k (0, 0) (omega arith) (omega arith)) at (h k (0, 0) (omega arith) (omega (arith, length-zip xs ys)))))
