-- A table's bytes piece by piece: how long they are, and one piece more.
use Rattle.std.proofs.Common.{◌≡◌, ℕ, zero, suc, ◌+◌, ◌*◌, ◌/◌, ◌%◌, ◌<◌, ◌≤◌, List, ◌++◌, length, Ok, refl, ap, ◌∙◌, inl, inr, mod-lt, mul-le-mul, mul-le-mul_right, suc-mul, zero-add, add-one, map, sum, sym, ◌∷◌, [], arith}
use Rattle.std.specs.List.{range_with_len, sum_by}
use Rattle.std.proofs.lemmas.List.FromFn.{map-range_with_len_more}
use Rattle.std.proofs.lemmas.List.Sums.{sum-map, sum_by_push}
use lib.Arith.{digits_div, digits_mod}
use Rattle.std.proofs.lemmas.Nat.{div_below}
use Rattle.std.proofs.lemmas.List.{length-append}
use Rattle.std.proofs.lemmas.Bool.{cases_eq, cond-false, le-ltb, or_from}
use Rattle.site.specs.Arena.{Arena, Lawful}
use Rattle.records.specs.Pens.{Wrote}
use Rattle.records.specs.declared.pen.Pen.{Pen}
use Rattle.records.specs.TableWritten.{numbered, aim, arrows_bytes, row_bytes, moves, states_bytes, table_bytes, arrows_to, table_long, table_answer}
use Rattle.records.proofs.Putting.{put_then}
use Rattle.records.proofs.Listed.{BytesDone, bytes_put}

-- an arrow takes three bytes
pub arrows_long : (m : Arena) (s i : ℕ) → length (arrows_bytes m s i) ≡ 3 * i
arrows_long m s zero = refl
arrows_long m s (suc i) =
    length-append (arrows_bytes m s i) (numbered 3 (aim m s i)) ∙ omega (arith, arrows_long m s i)

-- a row takes four
pub states_long : (m : Arena) (k : ℕ) → length (states_bytes m k) ≡ 4 * k + 3 * arrows_to m k
states_long m zero = refl
states_long m (suc k) =
    length-append (states_bytes m k) (row_bytes m k ++ arrows_bytes m k (moves m k))
    ∙ omega (arith, states_long m k, arrows_long m k (moves m k))

pub table_bytes_long : (m : Arena) → length (table_bytes m) ≡ table_long m
table_bytes_long m = omega (arith, states_long m m.states)

-- a state has at most 256 arrows
pub few_moves : (m : Arena) → Lawful m → (s : ℕ) → moves m s ≤ 256
few_moves m law s = mul-le-mul (law.few_commands s) (law.few_events s)

pub few_arrows : (m : Arena) → Lawful m → (k : ℕ) → arrows_to m k ≤ 256 * k
few_arrows m law zero = omega arith
few_arrows m law (suc k) = omega (arith, few_arrows m law k, few_moves m law k)

-- a sum over the first numbers, and one number more
pub sum_more : (f : ℕ → ℕ) (k : ℕ) → sum_by f (range_with_len 0 (suc k)) ≡ sum_by f (range_with_len 0 k) + f k
sum_more f k =
    let xs = range_with_len 0 k in
    let front : map f (range_with_len 0 (suc k)) ≡ map f xs ++ f k ∷ [] = ap (λ j. map f (range_with_len 0 j)) (sym (add-one k)) ∙ map-range_with_len_more f 0 k k (zero-add k) in
    let last : sum (map f xs ++ f k ∷ []) ≡ sum (map f xs) + f k = sum_by_push (λ x. x) (map f xs) (f k) in
    sym (sum-map f (range_with_len 0 (suc k))) ∙ (ap sum front ∙ (last ∙ ap (λ z. z + f k) (sum-map f xs)))

-- all arrows as a sum
pub moves_sum : (m : Arena) (k : ℕ) → sum_by (moves m) (range_with_len 0 k) ≡ arrows_to m k
moves_sum m zero = refl
moves_sum m (suc k) = sum_more (moves m) k ∙ ap (λ z. z + moves m k) (moves_sum m k)

-- the arrows of the states before s are among those of the states before n
pub arrows_to_grows : (m : Arena) (s n : ℕ) → s ≤ n → arrows_to m s ≤ arrows_to m n
arrows_to_grows m s zero le = let e : s ≡ 0 = omega arith in rw e (omega arith)
arrows_to_grows m s (suc n) le =
    elim (cases_eq s (suc n)) [
      | inl e ↦ rw e (omega arith)
      | inr ne ↦ omega (arith, arrows_to_grows m s n (omega arith))
    ]

-- an arrow leads to one of the states
pub aim_below : (m : Arena) → Lawful m → (s i : ℕ) → s < m.states → i < moves m s → aim m s i < m.states
aim_below m law s i lt among =
    let some : 0 < m.events s = law.some_event s lt in
    law.closed s (i / m.events s) (i % m.events s) lt (div_below i (m.events s) (m.commands s) some among) (mod-lt i some)

-- the arrow of a command and an event
pub aim_of : (m : Arena) (s a b : ℕ) → b < m.events s → aim m s (a * m.events s + b) ≡ m.next s a b
aim_of m s a b lt =
    let e = m.events s in
    ap (λ x. m.next s x ((a * e + b) % e)) (digits_div a lt) ∙ ap (λ x. m.next s a x) (digits_mod a lt)

-- its place among the arrows of the state
pub arrow_among : (m : Arena) (s a b : ℕ) → a < m.commands s → b < m.events s → a * m.events s + b < moves m s
arrow_among m s a b a< b< =
    let up : a * m.events s + m.events s ≤ moves m s = rw (← suc-mul) (mul-le-mul_right (m.events s) a<) in
    omega arith

-- a site that is small enough has its table
pub table_fits : (m : Arena) (room : ℕ) → table_long m ≤ room → m.states ≤ 1024 → arrows_to m m.states ≤ 16384 → table_answer m room ≡ Ok (table_bytes m)
table_fits m room fits states arrows =
    cond-false _ _ _ (le-ltb room (table_long m) fits)
    ∙ cond-false _ _ _ (or_from _ _ (le-ltb 1024 m.states states) (le-ltb 16384 (arrows_to m m.states) arrows))

-- the whole table
pub table_put : {start mid end : Pen} (m : Arena) (before : List ℕ) (n : ℕ) → n ≡ m.states → table_long m ≤ length before → m.states ≤ 1024 → arrows_to m m.states ≤ 16384 → start.at ≡ 0 → start.buffer.now ≡ before → Wrote (numbered 1 n) start mid → Wrote (states_bytes m m.states) mid end → BytesDone (table_answer m (length before)) before end.at end.buffer.now
table_put m before n n_is fits states arrows front holds p q =
    bytes_put (table_answer m (length before)) (table_bytes m) before (table_fits m (length before) fits states arrows) front holds (put_then (rw n_is at p) q)
