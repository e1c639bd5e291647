-- Pieces of text that a pen writes, one after the other.
use Rattle.std.proofs.Common.{◌≡◌, ℕ, ◌+◌, ◌-◌, ◌/◌, ◌%◌, ◌^◌, ◌<◌, ◌≤◌, List, [], ◌∷◌, ◌++◌, length, get_or, take, drop, decimal, sym, refl, ap, ◌∙◌, add-zero, add_assoc, arith}
use Rattle.std.specs.List.{flat_map}
use Rattle.std.proofs.Math.Nat.{mod-eq_of_lt}
use Rattle.std.proofs.lemmas.Fmt.{decimal_digit, decimal_step, length-decimal-le}
use Rattle.std.proofs.lemmas.List.{append_assoc, take_more, length-append, flat_map_more, drop-drop}
use borrow.Rule.Slice.PartMut.{put_mid}
use Rattle.site.specs.Laid.{laid}
use Rattle.site.proofs.Laid.{laid_none, laid_is, laid_append}
use Rattle.records.specs.Pens.{Wrote, Short}
use Rattle.records.specs.declared.pen.Pen.{Pen}

-- the text that is copied over a part of a buffer
pub part_is_laid : (at : ℕ) (text before : List ℕ) → at + length text ≤ length before → put_mid at (at + length text - at) before text ≡ laid at text before
part_is_laid at text before le =
    let many : at + length text - at ≡ length text = omega arith in
    rw (many, drop-drop) (sym (append_assoc (take at before) text (drop (at + length text) before)) ∙ sym (laid_is at text before le))

-- nothing
pub put_none : (pen : Pen) → Wrote [] pen pen
put_none pen =
    record { same = refl; ends = sym (add-zero pen.at); lies = sym (laid_none pen.at pen.buffer.now); keeps = refl }

-- one piece after another
pub put_then : {start mid end : Pen} {xs ys : List ℕ} → Wrote xs start mid → Wrote ys mid end → Wrote (xs ++ ys) start end
put_then {start} {mid} {end} {xs} {ys} p q =
    record {
      same = q.same ∙ p.same;
      ends = q.ends ∙ (ap (λ m. m + length ys) p.ends ∙ (add_assoc start.at (length xs) (length ys) ∙ ap (λ m. start.at + m) (sym (length-append xs ys))));
      lies = q.lies ∙ rw (laid_append start.at xs ys start.buffer.now, ← p.lies, ← p.ends) refl;
      keeps = q.keeps ∙ p.keeps;
    }

-- one piece more of pieces that are put one after another
pub piece_put : {start mid end : Pen} (piece : ℕ → List ℕ) (xs : List ℕ) (i : ℕ) → i < length xs → Wrote (flat_map piece (take i xs)) start mid → Wrote (piece (get_or xs i 0)) mid end → Wrote (flat_map piece (take (i + 1) xs)) start end
piece_put piece xs i lt p q =
    let more : flat_map piece (take (i + 1) xs) ≡ flat_map piece (take i xs) ++ piece (get_or xs i 0) = ap (flat_map piece) (take_more xs i 0 lt) ∙ sym (flat_map_more piece [] (take i xs) (get_or xs i 0)) in
    rw more (put_then p q)

-- the digits of a number of one digit, of two, three and four
pub one_digit : (n : ℕ) → n < 10 → decimal n ≡ (48 + n % 10) ∷ []
one_digit n lt = decimal_digit n lt ∙ ap (λ k. (48 + k) ∷ []) (sym (mod-eq_of_lt lt))

pub two_digits : (n : ℕ) → 10 ≤ n → n < 100 → n < 2 ^ 64 → decimal n ≡ (48 + n / 10 % 10) ∷ ((48 + n % 10) ∷ [])
two_digits n le lt fits = decimal_step n le fits ∙ ap (λ xs. xs ++ (48 + n % 10) ∷ []) (one_digit (n / 10) (omega arith))

pub three_digits : (n : ℕ) → 100 ≤ n → n < 1000 → n < 2 ^ 64 → decimal n ≡ (48 + n / 10 / 10 % 10) ∷ ((48 + n / 10 % 10) ∷ ((48 + n % 10) ∷ []))
three_digits n le lt fits =
    decimal_step n (omega arith) fits ∙ ap (λ xs. xs ++ (48 + n % 10) ∷ []) (two_digits (n / 10) (omega arith) (omega arith) (omega arith))

pub four_digits : (n : ℕ) → 1000 ≤ n → n < 10000 → n < 2 ^ 64 → decimal n ≡ (48 + n / 10 / 10 / 10 % 10) ∷ ((48 + n / 10 / 10 % 10) ∷ ((48 + n / 10 % 10) ∷ ((48 + n % 10) ∷ [])))
four_digits n le lt fits =
    decimal_step n (omega arith) fits ∙ ap (λ xs. xs ++ (48 + n % 10) ∷ []) (three_digits (n / 10) (omega arith) (omega arith) (omega arith))

-- no number has more than 20 digits
pub few_digits : (n : ℕ) → n < 2 ^ 64 → length (decimal n) ≤ 20
few_digits n fits = length-decimal-le 20 n (omega arith) (omega arith) fits

-- how far words and a number after them reach
pub field_short : (start end : Pen) (long n : ℕ) → n < 2 ^ 64 → end.at ≡ start.at + long + length (decimal n) → Short long n start end
field_short start end long n fits e = (
  omega (arith, few_digits n fits),
  λ lt. omega (arith, length-decimal-le 3 n (omega arith) lt fits),
  λ lt. omega (arith, length-decimal-le 5 n (omega arith) lt fits),
)
