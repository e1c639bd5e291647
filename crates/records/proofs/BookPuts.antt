-- A book's bytes piece by piece: how long they are, and one piece more.
use Rattle.std.proofs.Common.{◌≡◌, ℕ, zero, suc, ◌+◌, ◌*◌, ◌<◌, ◌≤◌, List, [], ◌∷◌, length, take, map, Ok, sym, refl, ap, ◌∙◌, zero-add, inl, inr, add-one, arith}
use Rattle.std.specs.List.{flat_map, sum_by, enumerate_from, range_with_len}
use Rattle.std.proofs.lemmas.List.FromFn.{fill_by_all, length-enumerate_from, get_or-enumerate_from, sum_by-map-range_with_len_more}
use Rattle.std.proofs.lemmas.List.{length-append, length-take, length-drop, length-take-le, get_or-take}
use Rattle.std.proofs.lemmas.Bool.{cases_eq, cond-false, le-ltb}
use Rattle.site.specs.Arena.{Arena, Lawful}
use Rattle.checker.specs.Leaves.{leaf_at}
use Rattle.checker.specs.declared.leaves.Leaf.{Leaf}
use Rattle.checker.specs.declared.leaves.Leaf.TheVariants.{Covered, Open}
use Rattle.records.specs.BookWritten.{reply_bytes, leaf_bytes, leaves_bytes, book_bytes, leaf_long, leaves_long, book_long, book_answer}
use Rattle.records.specs.BookBytes.{leaf_width, replies_due}
use Rattle.records.specs.Lines.{own_replies}
use Rattle.records.specs.Pens.{Wrote}
use Rattle.records.specs.declared.pen.Pen.{Pen}
use Rattle.records.specs.TableWritten.{numbered}
use Rattle.records.proofs.Listed.{BytesDone, bytes_put}
use Rattle.records.proofs.Putting.{put_then}

-- a reply takes two bytes
pub replies_long : (xs : List ℕ) → length (flat_map reply_bytes xs) ≡ 2 * length xs
replies_long [] = refl
replies_long (x ∷ xs) = omega (arith, replies_long xs)

pub leaf_bytes_long : (leaf : Leaf) (own : List ℕ) → length (leaf_bytes leaf own) ≡ leaf_long leaf (length own)
leaf_bytes_long (Covered a r) own = refl
leaf_bytes_long (Open u w) own = omega (arith, replies_long own)

-- each state has a reply place for each of its commands
pub own_long : (m : Arena) → Lawful m → (replies : List ℕ) (s : ℕ) → s < m.states → 16 * m.states ≤ length replies → length (own_replies m replies s) ≡ m.commands s
own_long m law replies s lt room =
    simp (length-take, length-drop) (omega (arith, law.few_commands s))

pub leaves_bytes_long : (m : Arena) → Lawful m → (leaves : List Leaf) (replies : List ℕ) (k : ℕ) → k ≤ m.states → 16 * m.states ≤ length replies → length (leaves_bytes m leaves replies k) ≡ leaves_long m leaves k
leaves_bytes_long m law leaves replies zero le room = refl
leaves_bytes_long m law leaves replies (suc k) le room =
    let own = own_replies m replies k in
    let leaf = leaf_at leaves k in
    length-append (leaves_bytes m leaves replies k) (leaf_bytes leaf own)
    ∙ (ap (λ j. length (leaves_bytes m leaves replies k) + j) (leaf_bytes_long leaf own ∙ ap (leaf_long leaf) (own_long m law replies k (omega arith) room))
    ∙ ap (λ j. j + leaf_long leaf (m.commands k)) (leaves_bytes_long m law leaves replies k (omega arith) room))

-- a leaf takes its own record, and two bytes for each reply
pub leaf_size : (leaf : Leaf) (c : ℕ) → leaf_width leaf + 2 * replies_due leaf c ≡ leaf_long leaf c
leaf_size (Covered a r) c = refl
leaf_size (Open u w) c = refl

leaf_few : (leaf : Leaf) (c : ℕ) → c ≤ 16 → leaf_long leaf c ≤ 37
leaf_few (Covered a r) c le = omega arith
leaf_few (Open u w) c le = omega arith

-- at most 37 bytes
pub few_leaves_long : (m : Arena) → Lawful m → (leaves : List Leaf) (k : ℕ) → leaves_long m leaves k ≤ 37 * k
few_leaves_long m law leaves zero = omega arith
few_leaves_long m law leaves (suc k) =
    omega (arith, few_leaves_long m law leaves k, leaf_few (leaf_at leaves k) (m.commands k) (law.few_commands k))

-- how many bytes a state's leaf takes
abbrev pub pair_long : Arena → ℕ × Leaf → ℕ
pair_long m p = leaf_long p.1 (m.commands p.0)

pairs_sum : (m : Arena) (leaves : List Leaf) (k : ℕ) → sum_by (pair_long m) (map (λ j. (j, leaf_at leaves j)) (range_with_len 0 k)) ≡ leaves_long m leaves k
pairs_sum m leaves zero = refl
pairs_sum m leaves (suc k) =
    ap (λ j. sum_by (pair_long m) (map (λ i. (i, leaf_at leaves i)) (range_with_len 0 j))) (sym (add-one k))
    ∙ (sum_by-map-range_with_len_more (pair_long m) (λ i. (i, leaf_at leaves i)) 0 k k (zero-add k)
    ∙ ap (λ z. z + leaf_long (leaf_at leaves k) (m.commands k)) (pairs_sum m leaves k))

-- all leaves as a sum
pub pairs_long : (m : Arena) (leaves : List Leaf) (k : ℕ) → k ≤ length leaves → sum_by (pair_long m) (enumerate_from 0 (take k leaves)) ≡ leaves_long m leaves k
pairs_long m leaves k le =
    let at : ℕ → ℕ × Leaf = λ j. (j, leaf_at leaves j) in
    let many : length (take k leaves) ≡ k = length-take-le k leaves le in
    let pairs : enumerate_from 0 (take k leaves) ≡ map at (range_with_len 0 k) = fill_by_all at (enumerate_from 0 (take k leaves)) k (0, Covered 0 0) (length-enumerate_from 0 (take k leaves) ∙ many) (λ j lt. get_or-enumerate_from 0 (take k leaves) j (0, Covered 0 0) (rw many lt) ∙ rw (zero-add, get_or-take k leaves j (Covered 0 0) lt) refl) in
    ap (sum_by (pair_long m)) pairs ∙ pairs_sum m leaves k

-- the first leaves take no more than all
pub leaves_long_grows : (m : Arena) (leaves : List Leaf) (s n : ℕ) → s ≤ n → leaves_long m leaves s ≤ leaves_long m leaves n
leaves_long_grows m leaves s zero le = let e : s ≡ 0 = omega arith in rw e (omega arith)
leaves_long_grows m leaves s (suc n) le =
    elim (cases_eq s (suc n)) [
      | inl e ↦ rw e (omega arith)
      | inr ne ↦ omega (arith, leaves_long_grows m leaves s n (omega arith))
    ]

-- one leaf more
pub leaf_put : {start mid end : Pen} (m : Arena) (leaves : List Leaf) (replies : List ℕ) (k : ℕ) (leaf : Leaf) (own : List ℕ) → leaf ≡ leaf_at leaves k → own ≡ own_replies m replies k → Wrote (leaves_bytes m leaves replies k) start mid → Wrote (leaf_bytes leaf own) mid end → Wrote (leaves_bytes m leaves replies (k + 1)) start end
leaf_put m leaves replies k leaf own leaf_is own_is p q = rw add-one (put_then p (rw (leaf_is, own_is) at q))

-- slices that are long enough have their book
pub book_fits : (m : Arena) (leaves : List Leaf) (replies : List ℕ) (room : ℕ) → m.states ≤ length leaves → 16 * m.states ≤ length replies → book_long m leaves ≤ room → book_answer m leaves replies room ≡ Ok (book_bytes m leaves replies)
book_fits m leaves replies room a b c =
    cond-false _ _ _ (le-ltb (length leaves) m.states a)
    ∙ (cond-false _ _ _ (le-ltb (length replies) (16 * m.states) b)
    ∙ cond-false _ _ _ (le-ltb room (book_long m leaves) c))

-- the whole book
pub book_put : {start mid end : Pen} (m : Arena) (leaves : List Leaf) (replies before : List ℕ) (n : ℕ) → n ≡ m.states → m.states ≤ length leaves → 16 * m.states ≤ length replies → book_long m leaves ≤ length before → start.at ≡ 0 → start.buffer.now ≡ before → Wrote (numbered 17 n) start mid → Wrote (leaves_bytes m leaves replies m.states) mid end → BytesDone (book_answer m leaves replies (length before)) before end.at end.buffer.now
book_put m leaves replies before n n_is a b c front holds p q =
    bytes_put (book_answer m leaves replies (length before)) (book_bytes m leaves replies) before (book_fits m leaves replies (length before) a b c) front holds (put_then (rw n_is at p) q)
