-- Loops that write entries one after another.
use Rattle.std.proofs.Common.{◌≡◌, ℕ, ◌+◌, ◌-◌, ◌≤◌, Bool, true, false, if◌then◌else◌, Some, None, refl, List, [], ◌∷◌, ◌++◌, map, length, take, drop, set, sym, ap, ◌∙◌, add-zero, zero-add, arith, length-drop}
use borrow.Rule.Slice.PartMut.{put_mid}
use Rattle.std.proofs.lemmas.List.{take_rest, drop_all, append-nil, length-take-le}
use Rattle.std.specs.List.{range_with_len}
use Rattle.std.specs.Option.{is_some}
use Rattle.std.proofs.lemmas.List.FromFn.{map-range_with_len_more, length-map-range_with_len}
use Rattle.site.specs.Laid.{laid}
use Rattle.site.proofs.Laid.{laid_push, laid_part, laid_whole}

-- one entry more of a function of the index
pub laid_counted_more : (f : ℕ → ℕ) (k x : ℕ) (xs ys : List ℕ) → xs ≡ laid 0 (map f (range_with_len 0 k)) ys → x ≡ f k → set xs k x ≡ laid 0 (map f (range_with_len 0 (k + 1))) ys
laid_counted_more f k x xs ys e here =
    let place : 0 + length (map f (range_with_len 0 k)) ≡ k = rw (length-map-range_with_len f 0 k) (zero-add k) in
    let grown : laid 0 (map f (range_with_len 0 (k + 1))) ys ≡ laid 0 (map f (range_with_len 0 k) ++ f k ∷ []) ys = ap (λ zs. laid 0 zs ys) (map-range_with_len_more f 0 k k (zero-add k)) in
    let pushed : laid 0 (map f (range_with_len 0 k) ++ f k ∷ []) ys ≡ set (laid 0 (map f (range_with_len 0 k)) ys) (0 + length (map f (range_with_len 0 k))) (f k) = laid_push 0 (map f (range_with_len 0 k)) (f k) ys in
    ap (λ zs. set zs k x) e ∙ (ap (set (laid 0 (map f (range_with_len 0 k)) ys) k) here ∙ sym (grown ∙ (pushed ∙ ap (λ i. set (laid 0 (map f (range_with_len 0 k)) ys) i (f k)) place)))

-- entries written over the part of a slice from k on that was lent
pub laid_lent : (k : ℕ) (ys xs last : List ℕ) → k ≤ length xs → last ≡ laid 0 ys (take (length xs - k) (drop k xs)) → put_mid k (length xs - k) xs last ≡ laid k ys xs
laid_lent k ys xs last le e =
    let rest : drop (length xs - k) (drop k xs) ≡ [] = drop_all (length xs - k) (drop k xs) (rw length-drop (omega arith)) in
    let part : last ≡ laid 0 ys (drop k xs) = e ∙ ap (laid 0 ys) (take_rest xs k) in
    rw (rest, part) (rw append-nil (laid_part k 0 ys xs le ∙ ap (λ i. laid i ys xs) (add-zero k)))

-- a state that has a first number is open
pub opened : (covered : Bool) (first : ℕ) → is_some (if covered then None else Some first) ≡ true → covered ≡ false
opened false first h = refl
opened true first h = sym h

-- entries laid over all of a slice's front are laid over the slice
pub laid_front : (n : ℕ) (xs ys : List ℕ) → length xs ≡ n → n ≤ length ys → laid 0 xs (take n ys) ++ drop n ys ≡ laid 0 xs ys
laid_front n xs ys size room =
    let long : length (take n ys) ≡ n = length-take-le n ys room in
    ap (λ zs. zs ++ drop n ys) (laid_whole xs (take n ys) (omega arith) ∙ (ap (λ zs. xs ++ zs) (drop_all (length xs) (take n ys) (omega arith)) ∙ append-nil xs))
    ∙ (ap (λ k. xs ++ drop k ys) (sym size) ∙ sym (laid_whole xs ys (omega arith)))
