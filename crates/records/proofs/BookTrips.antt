-- A book that was written is read back: record by record, whatever bytes follow.
use Rattle.std.proofs.Common.{◌≡◌, ℕ, zero, suc, ◌+◌, ◌*◌, ◌<◌, ◌≤◌, false, List, [], ◌∷◌, ◌++◌, length, get_or, take, drop, Ok, sym, refl, ap, ◌∙◌, inl, inr, zero-add, arith}
use Rattle.std.specs.List.{flat_map}
use Rattle.std.proofs.lemmas.List.{append_assoc, append-nil, length_push, get_or_append_left, get_or_push, get_or-take, get_or-drop}
use Rattle.std.proofs.lemmas.Bool.{cases_eq, eq-eqb}
use Rattle.site.specs.Arena.{Arena, Lawful}
use Rattle.site.specs.Laid.{laid}
use Rattle.site.proofs.Laid.{laid_before, laid_within, length_laid}
use Rattle.checker.specs.Leaves.{leaf_at, is_covered}
use Rattle.checker.specs.declared.leaves.Leaf.{Leaf}
use Rattle.checker.specs.declared.leaves.Leaf.TheVariants.{Covered, Open}
use Rattle.records.specs.BookBytes.{book_head_in, reply_in, replies_in, BookRead, one_leaf, leaves_in, book_ended, book_in}
use Rattle.records.specs.BookRead.{spread}
use Rattle.records.specs.BookTrip.{BookBack}
use Rattle.records.specs.BookWritten.{reply_bytes, leaf_bytes, leaves_bytes, book_bytes, leaf_long, leaves_long, book_long, book_answer}
use Rattle.records.specs.Lines.{own_replies}
use Rattle.records.specs.TableWritten.{numbered}
use Rattle.records.proofs.Answered.{after_ok}
use Rattle.records.proofs.BookPuts.{own_long, leaves_bytes_long, book_fits}
use Rattle.records.proofs.Listed.{BytesDone, bytes_there}
use Rattle.records.proofs.TableTrips.{two_back}
use Rattle.records.proofs.Taking.{several_back}

-- the replies of a leaf that a book has
abbrev kept_own : Leaf → List ℕ → List ℕ
kept_own (Covered a r) own = []
kept_own (Open u w) own = own

abbrev kept_leaves : List Leaf → ℕ → List Leaf
kept_leaves leaves zero = []
kept_leaves leaves (suc k) = kept_leaves leaves k ++ leaf_at leaves k ∷ []

abbrev kept_replies : Arena → List Leaf → List ℕ → ℕ → List (List ℕ)
kept_replies m leaves replies zero = []
kept_replies m leaves replies (suc k) =
    kept_replies m leaves replies k ++ kept_own (leaf_at leaves k) (own_replies m replies k) ∷ []

kept_leaves_long : (leaves : List Leaf) (k : ℕ) → length (kept_leaves leaves k) ≡ k
kept_leaves_long leaves zero = refl
kept_leaves_long leaves (suc k) =
    length_push (kept_leaves leaves k) (leaf_at leaves k) ∙ omega (arith, kept_leaves_long leaves k)

kept_replies_long : (m : Arena) (leaves : List Leaf) (replies : List ℕ) (k : ℕ) → length (kept_replies m leaves replies k) ≡ k
kept_replies_long m leaves replies zero = refl
kept_replies_long m leaves replies (suc k) =
    length_push (kept_replies m leaves replies k) (kept_own (leaf_at leaves k) (own_replies m replies k))
    ∙ omega (arith, kept_replies_long m leaves replies k)

-- a leaf with its replies, after others
leaf_back : (m : Arena) (leaf : Leaf) (own : List ℕ) (leaves : List Leaf) (replies : List (List ℕ)) (at : ℕ) (z : List ℕ) → length own ≡ m.commands (length leaves) → one_leaf m (record { leaves = leaves; replies = replies; at = at; left = leaf_bytes leaf own ++ z }) ≡ Ok (record { leaves = leaves ++ leaf ∷ []; replies = replies ++ kept_own leaf own ∷ []; at = at + leaf_long leaf (m.commands (length leaves)); left = z })
leaf_back m (Covered a r) own leaves replies at z long = rw (two_back r) refl
leaf_back m (Open u w) own leaves replies at z long =
    let c = m.commands (length leaves) in
    let place : at + 5 + 2 * c ≡ at + (5 + 2 * c) = omega arith in
    rw (two_back u, two_back w)
    (after_ok (replies_in c (at + 5) (flat_map reply_bytes own ++ z)) _ _ (several_back reply_in 2 reply_bytes 0 own (λ i lt at' z'. refl) (at + 5) c z long) ∙ rw place refl)

-- the leaves
leaves_back : (m : Arena) → Lawful m → (leaves : List Leaf) (replies : List ℕ) (k : ℕ) (z : List ℕ) → k ≤ m.states → 16 * m.states ≤ length replies → leaves_in m k (leaves_bytes m leaves replies k ++ z) ≡ Ok (record { leaves = kept_leaves leaves k; replies = kept_replies m leaves replies k; at = 3 + leaves_long m leaves k; left = z })
leaves_back m law leaves replies zero z le room = refl
leaves_back m law leaves replies (suc k) z le room =
    let leaf = leaf_at leaves k in
    let own = own_replies m replies k in
    let more = leaf_bytes leaf own in
    let at = 3 + leaves_long m leaves k in
    let long : length (kept_leaves leaves k) ≡ k = kept_leaves_long leaves k in
    let fits : length own ≡ m.commands (length (kept_leaves leaves k)) = own_long m law replies k (omega arith) room ∙ ap (λ j. m.commands j) (sym long) in
    let old = ap (λ bs. leaves_in m k bs) (append_assoc (leaves_bytes m leaves replies k) more z) ∙ leaves_back m law leaves replies k (more ++ z) (omega arith) room in
    let place : at + leaf_long leaf (m.commands (length (kept_leaves leaves k))) ≡ 3 + leaves_long m leaves (suc k) = ap (λ j. at + leaf_long leaf (m.commands j)) long ∙ omega arith in
    after_ok (leaves_in m k (leaves_bytes m leaves replies (suc k) ++ z)) _ (one_leaf m) old
    ∙ (leaf_back m leaf own (kept_leaves leaves k) (kept_replies m leaves replies k) at z fits
    ∙ ap (λ a. Ok (record { leaves = kept_leaves leaves (suc k); replies = kept_replies m leaves replies (suc k); at = a; left = z })) place)

-- the head
book_head_back : (n : ℕ) (z : List ℕ) → book_head_in n (numbered 17 n ++ z) ≡ Ok z
book_head_back n z = rw (two_back n, eq-eqb n n refl) refl

abbrev book_found : Arena → List Leaf → List ℕ → BookRead
book_found m leaves replies = record { leaves = kept_leaves leaves m.states; replies = kept_replies m leaves replies m.states; at = 3 + leaves_long m leaves m.states; left = [] }

-- the book
book_back : (m : Arena) → Lawful m → (leaves : List Leaf) (replies : List ℕ) → 16 * m.states ≤ length replies → book_in m (book_bytes m leaves replies) ≡ Ok (book_found m leaves replies)
book_back m law leaves replies room =
    let n = m.states in
    let bytes = leaves_bytes m leaves replies n in
    let body = ap (λ bs. leaves_in m n bs) (sym (append-nil bytes)) ∙ leaves_back m law leaves replies n [] (omega arith) room in
    after_ok (book_head_in n (book_bytes m leaves replies)) _ _ (book_head_back n bytes)
    ∙ after_ok (leaves_in m n bytes) (book_found m leaves replies) book_ended body

-- the leaf of a state
leaf_there : (leaves : List Leaf) (k s : ℕ) → s < k → leaf_at (kept_leaves leaves k) s ≡ leaf_at leaves s
leaf_there leaves zero s lt = absurd (omega arith)
leaf_there leaves (suc k) s lt =
    elim (cases_eq s k) [
      | inl e ↦ rw e (get_or_push (kept_leaves leaves k) (leaf_at leaves k) (Covered 0 0) k (kept_leaves_long leaves k))
      | inr ne ↦
          get_or_append_left (kept_leaves leaves k) (leaf_at leaves k ∷ []) (Covered 0 0) s (rw (kept_leaves_long leaves k) (omega arith)) ∙ leaf_there leaves k s (omega arith)
    ]

-- and its replies
replies_there : (m : Arena) (leaves : List Leaf) (replies : List ℕ) (k s : ℕ) → s < k → get_or (kept_replies m leaves replies k) s [] ≡ kept_own (leaf_at leaves s) (own_replies m replies s)
replies_there m leaves replies zero s lt = absurd (omega arith)
replies_there m leaves replies (suc k) s lt =
    let old = kept_replies m leaves replies k in
    let last = kept_own (leaf_at leaves k) (own_replies m replies k) in
    let long = kept_replies_long m leaves replies k in
    elim (cases_eq s k) [
      | inl e ↦ rw e (get_or_push old last [] k long)
      | inr ne ↦ get_or_append_left old (last ∷ []) [] s (rw long (omega arith)) ∙ replies_there m leaves replies k s (omega arith)
    ]

-- what is before the places of the states from s on
spread_before : (s : ℕ) (rs : List (List ℕ)) (sheet : List ℕ) (k : ℕ) → k < 16 * s → get_or (spread s rs sheet) k 0 ≡ get_or sheet k 0
spread_before s [] sheet k lt = refl
spread_before s (r ∷ rs) sheet k lt =
    spread_before (suc s) rs (laid (16 * s) r sheet) k (omega arith) ∙ laid_before (16 * s) r sheet k 0 lt

-- a reply of one of them
pub spread_there : (s : ℕ) (rs : List (List ℕ)) (sheet : List ℕ) (j a : ℕ) → j < length rs → 16 * (s + length rs) ≤ length sheet → length (get_or rs j []) ≤ 16 → a < length (get_or rs j []) → get_or (spread s rs sheet) (16 * (s + j) + a) 0 ≡ get_or (get_or rs j []) a 0
spread_there s [] sheet j a lt room few among = absurd (omega arith)
spread_there s (r ∷ rs) sheet zero a lt room few among =
    let place : 16 * (s + 0) + a ≡ 16 * s + a = omega arith in
    ap (λ i. get_or (spread (suc s) rs (laid (16 * s) r sheet)) i 0) place
    ∙ (spread_before (suc s) rs (laid (16 * s) r sheet) (16 * s + a) (omega arith) ∙ laid_within (16 * s) r sheet a 0 among (omega arith))
spread_there s (r ∷ rs) sheet (suc j) a lt room few among =
    let place : 16 * (s + suc j) + a ≡ 16 * (suc s + j) + a = omega arith in
    ap (λ i. get_or (spread (suc s) rs (laid (16 * s) r sheet)) i 0) place
    ∙ spread_there (suc s) rs (laid (16 * s) r sheet) j a (omega arith) (rw (length_laid (16 * s) r sheet) (omega arith)) few among

kept_open : (leaf : Leaf) (own : List ℕ) → is_covered leaf ≡ false → kept_own leaf own ≡ own
kept_open (Covered a r) own h = let z : ◌≡◌ {A = ℕ} 0 1 = cc in absurd (omega arith)
kept_open (Open u w) own h = refl

-- the bytes of a book are read back
pub book_trip : (m : Arena) → Lawful m → (leaves : List Leaf) (replies : List ℕ) → 16 * m.states ≤ length replies → BookBack m leaves replies (book_bytes m leaves replies)
book_trip m law leaves replies room =
    let n = m.states in
    let kept = kept_leaves leaves n in
    let all = kept_replies m leaves replies n in
    record {
      found = book_found m leaves replies;
      read = book_back m law leaves replies room;
      leaf = λ sheet s fits lt.
          let long = kept_leaves_long leaves n in
          ap (λ j. leaf_at (laid 0 kept sheet) j) (sym (zero-add s))
          ∙ (laid_within 0 kept sheet s (Covered 0 0) (rw long lt) (omega (arith, long)) ∙ leaf_there leaves n s lt);
      reply = λ sheet s a fits lt opened among.
          let own = own_replies m replies s in
          let there : get_or all s [] ≡ own = replies_there m leaves replies n s lt ∙ kept_open (leaf_at leaves s) own opened in
          let long : length (get_or all s []) ≡ m.commands s = ap length there ∙ own_long m law replies s lt room in
          let many = kept_replies_long m leaves replies n in
          ap (λ j. get_or (spread 0 all sheet) (16 * j + a) 0) (sym (zero-add s))
          ∙ (spread_there 0 all sheet s a (rw many lt) (rw (many, zero-add) fits) (omega (arith, long, law.few_commands s)) (omega (arith, long))
          ∙ (ap (λ es. get_or es a 0) there ∙ (get_or-take (m.commands s) (drop (16 * s) replies) a 0 among ∙ get_or-drop (16 * s) replies a 0)));
    }

-- also from the buffer that they were written into
pub book_written_back : {r end : ℕ} {last after : List ℕ} (m : Arena) (leaves : List Leaf) (replies before : List ℕ) → Lawful m → m.states ≤ length leaves → 16 * m.states ≤ length replies → book_long m leaves ≤ length before → BytesDone (book_answer m leaves replies (length before)) before end after → r ≡ end → last ≡ after → BookBack m leaves replies (take r last)
book_written_back {r} {end} {last} {after} m leaves replies before law leaf_room reply_room fits d r_is last_is =
    let e = book_fits m leaves replies (length before) leaf_room reply_room fits in
    let same : take end after ≡ book_bytes m leaves replies = bytes_there (book_answer m leaves replies (length before)) (book_bytes m leaves replies) e (omega (arith, leaves_bytes_long m law leaves replies m.states (omega arith) reply_room)) d in
    rw (r_is, last_is, same) (book_trip m law leaves replies reply_room)
