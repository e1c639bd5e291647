-- A book that was read is written again as the same bytes.
use Rattle.std.proofs.Common.{◌≡◌, ℕ, suc, ◌+◌, ◌*◌, ◌/◌, ◌%◌, ◌<◌, ◌≤◌, not, eqb, ltb, List, [], ◌∷◌, ◌++◌, length, get_or, drop, Ok, sym, refl, ap, ◌∙◌, subst, inl, inr, zero-add, arith}
use Rattle.std.specs.List.{flat_map, AllByRecursion as All}
use Rattle.std.proofs.lemmas.List.{append_assoc, append-nil, length_push, get_or_append_left, get_or_push, get_or-take, get_or-drop, nil_from_length, ext_get_or}
use Rattle.std.proofs.lemmas.Bool.{cases_Bool, cases_eq, cond-true, cond-false, eqb-true, not-false, ltb-false}
use Rattle.site.specs.Arena.{Arena, Lawful}
use Rattle.site.specs.Laid.{laid}
use Rattle.site.proofs.Laid.{laid_within}
use Rattle.checker.specs.Leaves.{leaf_at}
use Rattle.checker.specs.declared.leaves.Leaf.{Leaf}
use Rattle.checker.specs.declared.leaves.Leaf.TheVariants.{Covered, Open}
use Rattle.records.specs.TableBytes.{two_bytes}
use Rattle.records.specs.Taken.{Found}
use Rattle.records.specs.TableWritten.{numbered}
use Rattle.records.specs.BookBytes.{book_head_body, book_head_in, covered_body, open_body, leaf_in, leaf_width, replies_due, reply_body, reply_in, replies_in, BookRead, one_leaf, leaves_in, book_ended, book_in}
use Rattle.records.specs.BookRead.{spread}
use Rattle.records.specs.BookWritten.{reply_bytes, leaf_bytes, leaves_bytes, book_bytes}
use Rattle.records.specs.Lines.{own_replies}
use Rattle.records.proofs.Answered.{never, ok_same, unless_ok, and_then_ok, repeated_keeps}
use Rattle.records.proofs.BookPuts.{own_long}
use Rattle.records.proofs.BookScans.{length_spread}
use Rattle.records.proofs.BookTrips.{spread_there}
use Rattle.records.proofs.Scans.{of_kind_ok}
use Rattle.records.proofs.TableSpelled.{kind_is, two_spelled}
use Rattle.records.proofs.Taking.{Byte, all_after, several_sound, several_spelled}

-- a reply
reply_spelled : (at : ℕ) (bs : List ℕ) (f : Found ℕ) → All Byte bs → reply_in at bs ≡ Ok f → bs ≡ reply_bytes f.what ++ f.left
reply_spelled at [] f h e = never e
reply_spelled at (k ∷ []) f h e = never (of_kind_ok 20 at k (reply_body at) [] f e)
reply_spelled at (k ∷ (b ∷ left)) f h e =
    let same = ok_same (of_kind_ok 20 at k (reply_body at) (b ∷ left) f e) in
    rw (← same, kind_is 20 at k (reply_body at) (b ∷ left) f e) refl

-- two bytes of a number
pair_spelled : (hi lo v : ℕ) → Byte lo → two_bytes hi lo ≡ v → (hi ≡ v / 256) × (lo ≡ v % 256)
pair_spelled hi lo v small e = (omega (arith, e), omega (arith, e))

covered_spelled : (at : ℕ) (bs : List ℕ) (f : Found Leaf) → All Byte bs → covered_body at bs ≡ Ok f → 18 ∷ bs ≡ leaf_bytes f.what [] ++ f.left
covered_spelled at [] f h e = never e
covered_spelled at (a ∷ []) f h e = never e
covered_spelled at (a ∷ (b ∷ [])) f h e = never e
covered_spelled at (a ∷ (hi ∷ (lo ∷ left))) f h e =
    let p = pair_spelled hi lo (two_bytes hi lo) h.1.1.0 refl in
    rw (← ok_same e) (rw (← p.0, ← p.1) refl)

open_spelled : (at : ℕ) (bs : List ℕ) (f : Found Leaf) → All Byte bs → open_body at bs ≡ Ok f → 19 ∷ bs ≡ leaf_bytes f.what [] ++ f.left
open_spelled at [] f h e = never e
open_spelled at (a ∷ []) f h e = never e
open_spelled at (a ∷ (b ∷ [])) f h e = never e
open_spelled at (a ∷ (b ∷ (c ∷ []))) f h e = never e
open_spelled at (uh ∷ (ul ∷ (wh ∷ (wl ∷ left)))) f h e =
    let p = pair_spelled uh ul (two_bytes uh ul) h.1.0 refl in
    let q = pair_spelled wh wl (two_bytes wh wl) h.1.1.1.0 refl in
    rw (← ok_same e) (rw (← p.0, ← p.1, ← q.0, ← q.1) refl)

-- a leaf without its replies
leaf_spelled : (at : ℕ) (bs : List ℕ) (f : Found Leaf) → All Byte bs → leaf_in at bs ≡ Ok f → bs ≡ leaf_bytes f.what [] ++ f.left
leaf_spelled at [] f h e = never e
leaf_spelled at (k ∷ bs) f h e =
    elim (cases_Bool (eqb k 18)) [
      | inl t ↦ ap (λ j. j ∷ bs) (eqb-true k 18 t) ∙ covered_spelled at bs f h.1 (sym (cond-true (eqb k 18) _ _ t) ∙ e)
      | inr n ↦
          let rest = sym (cond-false (eqb k 18) _ _ n) ∙ e in
          ap (λ j. j ∷ bs) (kind_is 19 at k (open_body at) bs f rest) ∙ open_spelled at bs f h.1 (of_kind_ok 19 at k (open_body at) bs f rest)
    ]

-- and with them
leaf_joined : (leaf : Leaf) (c : ℕ) (es : List ℕ) → length es ≡ replies_due leaf c → leaf_bytes leaf [] ++ flat_map reply_bytes es ≡ leaf_bytes leaf es
leaf_joined (Covered a r) c es long = rw (nil_from_length es long) refl
leaf_joined (Open u w) c es long = refl

-- leaves and replies that are written as the first k of these
abbrev WrittenAs : Arena → List Leaf → List ℕ → List Leaf → List (List ℕ) → ℕ → Type 0
WrittenAs m new_leaves new_replies leaves replies k =
    (s : ℕ) → s < k → leaf_bytes (leaf_at new_leaves s) (own_replies m new_replies s) ≡ leaf_bytes (leaf_at leaves s) (get_or replies s [])

-- k leaves that were read from the bytes bs, for any slices that are written as them
pub record LeavesSpelled (m : Arena) (new_leaves : List Leaf) (new_replies bs : List ℕ) (k : ℕ) (rd : BookRead) : Type 0 where
  pub many_leaves : length rd.leaves ≡ k
  pub many_replies : length rd.replies ≡ k
  pub due : (s : ℕ) → s < k → length (get_or rd.replies s []) ≡ replies_due (leaf_at rd.leaves s) (m.commands s)
  pub rest : All Byte rd.left
  pub spelled : WrittenAs m new_leaves new_replies rd.leaves rd.replies k → bs ≡ leaves_bytes m new_leaves new_replies k ++ rd.left

module _ (m : Arena) (new_leaves : List Leaf) (new_replies bs : List ℕ) where
  -- one leaf more
  leaf_more : (k : ℕ) (a : BookRead) (leaf : Leaf) (es : List ℕ) (at : ℕ) (left : List ℕ) → LeavesSpelled m new_leaves new_replies bs k a → length es ≡ replies_due leaf (m.commands k) → a.left ≡ leaf_bytes leaf es ++ left → All Byte left → LeavesSpelled m new_leaves new_replies bs (suc k) (record { leaves = a.leaves ++ leaf ∷ []; replies = a.replies ++ es ∷ []; at = at; left = left })
  leaf_more k a leaf es at left s long here rest =
      let leaf_old : (j : ℕ) → j < k → leaf_at (a.leaves ++ leaf ∷ []) j ≡ leaf_at a.leaves j = λ j lt. get_or_append_left a.leaves (leaf ∷ []) (Covered 0 0) j (rw s.many_leaves lt) in
      let replies_old : (j : ℕ) → j < k → get_or (a.replies ++ es ∷ []) j [] ≡ get_or a.replies j [] = λ j lt. get_or_append_left a.replies (es ∷ []) [] j (rw s.many_replies lt) in
      let leaf_new : leaf_at (a.leaves ++ leaf ∷ []) k ≡ leaf = get_or_push a.leaves leaf (Covered 0 0) k s.many_leaves in
      let replies_new : get_or (a.replies ++ es ∷ []) k [] ≡ es = get_or_push a.replies es [] k s.many_replies in
      record {
        many_leaves = length_push a.leaves leaf ∙ omega (arith, s.many_leaves);
        many_replies = length_push a.replies es ∙ omega (arith, s.many_replies);
        due = λ j lt.
            elim (cases_eq j k) [
              | inl e ↦ rw (e, leaf_new, replies_new) long
              | inr ne ↦
                  let before : j < k = omega arith in
                  rw (leaf_old j before, replies_old j before) (s.due j before)
            ];
        rest = rest;
        spelled = λ w.
            let old : WrittenAs m new_leaves new_replies a.leaves a.replies k = λ j lt. w j (omega arith) ∙ rw (leaf_old j lt, replies_old j lt) refl in
            let last : leaf_bytes (leaf_at new_leaves k) (own_replies m new_replies k) ≡ leaf_bytes leaf es = w k (omega arith) ∙ rw (leaf_new, replies_new) refl in
            s.spelled old
            ∙ (ap (λ z. leaves_bytes m new_leaves new_replies k ++ z) (here ∙ ap (λ z. z ++ left) (sym last))
            ∙ sym (append_assoc (leaves_bytes m new_leaves new_replies k) (leaf_bytes (leaf_at new_leaves k) (own_replies m new_replies k)) left));
      }

  leaves_step : (k : ℕ) (a b : BookRead) → LeavesSpelled m new_leaves new_replies bs k a → one_leaf m a ≡ Ok b → LeavesSpelled m new_leaves new_replies bs (suc k) b
  leaves_step k a b s e =
      let p = and_then_ok (leaf_in a.at a.left) _ b e in
      let leaf = p.0.what in
      let count = replies_due leaf (m.commands (length a.leaves)) in
      let q = and_then_ok (replies_in count (a.at + leaf_width leaf) p.0.left) _ b p.2 in
      let es = q.0.items in
      let front : a.left ≡ leaf_bytes leaf [] ++ p.0.left = leaf_spelled a.at a.left p.0 s.rest p.1 in
      let tail : All Byte p.0.left = all_after (leaf_bytes leaf []) p.0.left (subst (All Byte) front s.rest) in
      let events = several_spelled reply_in 2 reply_bytes reply_spelled count (a.at + leaf_width leaf) p.0.left q.0 tail q.1 in
      let long : length es ≡ replies_due leaf (m.commands k) = (several_sound reply_in 2 (λ _. Unit {0}) (λ _ _ _ _. tt) count (a.at + leaf_width leaf) p.0.left q.0 q.1).many ∙ ap (λ j. replies_due leaf (m.commands j)) s.many_leaves in
      let here : a.left ≡ leaf_bytes leaf es ++ q.0.left = front ∙ (ap (λ z. leaf_bytes leaf [] ++ z) events.spelled ∙ (sym (append_assoc (leaf_bytes leaf []) (flat_map reply_bytes es) q.0.left) ∙ ap (λ z. z ++ q.0.left) (leaf_joined leaf (m.commands k) es long))) in
      subst (LeavesSpelled m new_leaves new_replies bs (suc k)) (ok_same q.2) (leaf_more k a leaf es q.0.at q.0.left s long here events.rest)

  leaves_spelled : (k : ℕ) (rd : BookRead) → All Byte bs → leaves_in m k bs ≡ Ok rd → LeavesSpelled m new_leaves new_replies bs k rd
  leaves_spelled k rd h e =
      repeated_keeps (one_leaf m) (LeavesSpelled m new_leaves new_replies bs) leaves_step k _ rd (record {
        many_leaves = refl;
        many_replies = refl;
        due = λ s lt. absurd (omega arith);
        rest = h;
        spelled = λ _. refl;
      }) e

-- a leaf is written alike where its replies agree, and a covered one whatever they are
own_alike : (leaf : Leaf) (c : ℕ) (xs ys : List ℕ) → length ys ≡ replies_due leaf c → (length ys ≡ c → xs ≡ ys) → leaf_bytes leaf xs ≡ leaf_bytes leaf ys
own_alike (Covered a r) c xs ys long same = refl
own_alike (Open u w) c xs ys long same = ap (leaf_bytes (Open u w)) (same long)

-- the slices that a reading was laid over are written as it
laid_wrote : (m : Arena) → Lawful m → (rd : BookRead) (leaves : List Leaf) (replies : List ℕ) → length rd.leaves ≡ m.states → length rd.replies ≡ m.states → ((s : ℕ) → s < m.states → length (get_or rd.replies s []) ≡ replies_due (leaf_at rd.leaves s) (m.commands s)) → m.states ≤ length leaves → 16 * m.states ≤ length replies → WrittenAs m (laid 0 rd.leaves leaves) (spread 0 rd.replies replies) rd.leaves rd.replies m.states
laid_wrote m law rd leaves replies many_leaves many_replies due leaf_room reply_room s lt =
    let new = spread 0 rd.replies replies in
    let new_leaves = laid 0 rd.leaves leaves in
    let c = m.commands s in
    let es = get_or rd.replies s [] in
    let leaf = leaf_at rd.leaves s in
    let leaf_is : leaf_at new_leaves s ≡ leaf = ap (λ j. leaf_at new_leaves j) (sym (zero-add s)) ∙ laid_within 0 rd.leaves leaves s (Covered 0 0) (rw many_leaves lt) (omega (arith, many_leaves)) in
    let own : length (own_replies m new s) ≡ c = own_long m law new s lt (rw (length_spread 0 rd.replies replies) reply_room) in
    let same : length es ≡ c → own_replies m new s ≡ es = λ long. ext_get_or 0 (own_replies m new s) es (own ∙ sym long) (λ a among.
    let a< : a < c = omega (arith, own) in
    get_or-take c (drop (16 * s) new) a 0 a<
    ∙ (get_or-drop (16 * s) new a 0
    ∙ (ap (λ j. get_or new (16 * j + a) 0) (sym (zero-add s)) ∙ spread_there 0 rd.replies replies s a (rw many_replies lt) (rw (many_replies, zero-add) reply_room) (omega (arith, long, law.few_commands s)) (omega (arith, long))))) in
    ap (λ l. leaf_bytes l (own_replies m new s)) leaf_is ∙ own_alike leaf c (own_replies m new s) es (due s lt) same

book_head_body_spelled : (n : ℕ) (bs left : List ℕ) → All Byte bs → book_head_body n bs ≡ Ok left → 17 ∷ bs ≡ numbered 17 n ++ left
book_head_body_spelled n [] left h e = never e
book_head_body_spelled n (hi ∷ []) left h e = never e
book_head_body_spelled n (hi ∷ (lo ∷ rest)) left h e =
    let p = unless_ok (not (eqb (two_bytes hi lo) n)) 3 0 (Ok rest) left e in
    let value : two_bytes hi lo ≡ n = eqb-true (two_bytes hi lo) n (not-false (eqb (two_bytes hi lo) n) p.0) in
    rw (← ok_same p.1) (two_spelled 17 hi lo n rest h.1.0 value)

-- the head
book_head_spelled : (n : ℕ) (bs left : List ℕ) → All Byte bs → book_head_in n bs ≡ Ok left → bs ≡ numbered 17 n ++ left
book_head_spelled n [] left h e = never e
book_head_spelled n (k ∷ bs) left h e =
    ap (λ j. j ∷ bs) (kind_is 17 0 k (book_head_body n) bs left e)
    ∙ book_head_body_spelled n bs left h.1 (of_kind_ok 17 0 k (book_head_body n) bs left e)

-- a book that was read is written as the bytes that it was read from
pub book_spelled : (m : Arena) → Lawful m → (bs : List ℕ) (rd : BookRead) (leaves : List Leaf) (replies : List ℕ) → All Byte bs → book_in m bs ≡ Ok rd → m.states ≤ length leaves → 16 * m.states ≤ length replies → book_bytes m (laid 0 rd.leaves leaves) (spread 0 rd.replies replies) ≡ bs
book_spelled m law bs rd leaves replies h e leaf_room reply_room =
    let n = m.states in
    let p = and_then_ok (book_head_in n bs) _ rd e in
    let q = and_then_ok (leaves_in m n p.0) book_ended rd p.2 in
    let end = unless_ok (ltb 0 (length q.0.left)) 8 q.0.at _ rd q.2 in
    let same : q.0 ≡ rd = ok_same end.1 in
    let none : q.0.left ≡ [] = nil_from_length q.0.left (omega (arith, ltb-false 0 (length q.0.left) end.0)) in
    let none_left : rd.left ≡ [] = ap (λ r. r.left) (sym same) ∙ none in
    let front = book_head_spelled n bs p.0 h p.1 in
    let tail : All Byte p.0 = all_after (numbered 17 n) p.0 (subst (All Byte) front h) in
    let new_leaves = laid 0 rd.leaves leaves in
    let new_replies = spread 0 rd.replies replies in
    let st = leaves_spelled m new_leaves new_replies p.0 n rd tail (q.1 ∙ ap Ok same) in
    let wrote = laid_wrote m law rd leaves replies st.many_leaves st.many_replies st.due leaf_room reply_room in
    let body : p.0 ≡ leaves_bytes m new_leaves new_replies n = st.spelled wrote ∙ (ap (λ z. leaves_bytes m new_leaves new_replies n ++ z) none_left ∙ append-nil (leaves_bytes m new_leaves new_replies n)) in
    sym (front ∙ ap (λ z. numbered 17 n ++ z) body)
