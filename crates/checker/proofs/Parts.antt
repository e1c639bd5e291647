-- What acceptance says of a covered state and of an open one, and of the steps that rounds take there.
use Rattle.std.proofs.Common.{◌≡◌, ℕ, ◌<◌, true, false, leb, List, Some, Ok, sym, refl, ap, ◌∙◌}
use Rattle.std.proofs.lemmas.Bool.{le-ltb, lt-leb, leb-false, false≢true, true≢false}
use Rattle.site.specs.Arena.{Arena}
use Rattle.site.specs.Refusals.{refuse, unless}
use Rattle.checker.specs.declared.leaves.Leaf.{Leaf}
use Rattle.checker.specs.declared.leaves.Leaf.TheVariants.{Covered, Open}
use Rattle.checker.specs.Leaves.{leaf_at, reply_at, is_covered}
use Rattle.checker.specs.Witness.{RankKept, NumbersKept, StaysCovered, StaysOpen, KeepsCovered, KeepsOpen, Keeps, Accepted}
use Rattle.checker.proofs.Refusing.{unless_yes}
use Rattle.checker.specs.Rounds.{book_round, objection_round, by_book, by_reply}

-- the numbers of a leaf, 0 where it has none
abbrev pub rank_of : Leaf → ℕ
rank_of (Covered a r) = r
rank_of (Open u w) = 0

abbrev pub first_of : Leaf → ℕ
first_of (Covered a r) = 0
first_of (Open u w) = u

abbrev pub second_of : Leaf → ℕ
second_of (Covered a r) = 0
second_of (Open u w) = w

-- the leaf of a covered state, and that of an open one
pub record IsCovered (m : Arena) (leaves : List Leaf) (s : ℕ) : Type 0 where
  pub command : ℕ
  pub rank : ℕ
  pub is : leaf_at leaves s ≡ Covered command rank
  pub keeps : KeepsCovered m leaves s command rank

pub record IsOpen (m : Arena) (leaves : List Leaf) (replies : List ℕ) (s : ℕ) : Type 0 where
  pub first : ℕ
  pub second : ℕ
  pub is : leaf_at leaves s ≡ Open first second
  pub keeps : KeepsOpen m leaves replies s first second

stays_covered : (g r : ℕ) (leaf : Leaf) → StaysCovered g r leaf → (is_covered leaf ≡ true) × RankKept g r (rank_of leaf)
stays_covered g r (Covered a r') h = (refl, h)
stays_covered g r (Open u w) h = absurd h

stays_open : (g u w : ℕ) (leaf : Leaf) → StaysOpen g u w leaf → (is_covered leaf ≡ false) × NumbersKept g u w (first_of leaf) (second_of leaf)
stays_open g u w (Covered a r) h = absurd h
stays_open g u w (Open u' w') h = (refl, h)

module _ (m : Arena) (leaves : List Leaf) (replies : List ℕ) (accepted : Accepted m leaves replies) where
  pub covered_at : (s : ℕ) → s < m.states → is_covered (leaf_at leaves s) ≡ true → IsCovered m leaves s
  covered_at s l = go (leaf_at leaves s) refl (accepted.keeps s l)
    where
      go : (leaf : Leaf) → leaf_at leaves s ≡ leaf → Keeps m leaves replies s leaf → is_covered leaf ≡ true → IsCovered m leaves s
      go (Covered a r) is k e = record { command = a; rank = r; is = is; keeps = k }
      go (Open u w) is k e = absurd (false≢true e)

  pub open_at : (s : ℕ) → s < m.states → is_covered (leaf_at leaves s) ≡ false → IsOpen m leaves replies s
  open_at s l = go (leaf_at leaves s) refl (accepted.keeps s l)
    where
      go : (leaf : Leaf) → leaf_at leaves s ≡ leaf → Keeps m leaves replies s leaf → is_covered leaf ≡ false → IsOpen m leaves replies s
      go (Covered a r) is k e = absurd (true≢false e)
      go (Open u w) is k e = record { first = u; second = w; is = is; keeps = k }

  -- a step of a covered state stays covered and keeps the rule of ranks
  pub covered_step : (s b : ℕ) (c : IsCovered m leaves s) → b < m.events s → (is_covered (leaf_at leaves (m.next s c.command b)) ≡ true) × RankKept (m.grade s) (rank_of (leaf_at leaves s)) (rank_of (leaf_at leaves (m.next s c.command b)))
  covered_step s b c l =
      let h = stays_covered (m.grade s) c.rank (leaf_at leaves (m.next s c.command b)) (c.keeps.stays b l) in
      (h.0, rw c.is h.1)

  -- a step of an open state stays open and keeps the rule of the two numbers
  pub open_step : (s a : ℕ) (c : IsOpen m leaves replies s) → a < m.commands s → (is_covered (leaf_at leaves (m.next s a (reply_at replies s a))) ≡ false) × NumbersKept (m.grade s) (first_of (leaf_at leaves s)) (second_of (leaf_at leaves s)) (first_of (leaf_at leaves (m.next s a (reply_at replies s a)))) (second_of (leaf_at leaves (m.next s a (reply_at replies s a))))
  open_step s a c l =
      let h = stays_open (m.grade s) c.first c.second (leaf_at leaves (m.next s a (reply_at replies s a))) (c.keeps.stays a l) in
      (h.0, rw c.is h.1)

  -- the rounds of a state that the site has
  book_here : (v b : ℕ) → v < m.states → book_round m leaves (Some v) b ≡ by_book m v b (leaf_at leaves v)
  book_here v b l = rw (le-ltb _ _ accepted.enough_leaves, lt-leb _ _ l) refl

  objection_here : (v a : ℕ) → v < m.states → objection_round m leaves replies (Some v) a ≡ by_reply m v a (reply_at replies v a) (leaf_at leaves v)
  objection_here v a l = rw (le-ltb _ _ accepted.enough_leaves, le-ltb _ _ accepted.enough_replies, lt-leb _ _ l) refl

  -- a book round in a covered state
  pub book_covered : (v b : ℕ) (c : IsCovered m leaves v) → v < m.states → book_round m leaves (Some v) b ≡ unless (leb (m.events v) b) 16 b (Ok (m.next v c.command b))
  book_covered v b c l =
      book_here v b l ∙ ap (by_book m v b) c.is
      ∙ ap (λ bad. unless (leb (m.events v) b) 16 b (unless bad 10 v (Ok (m.next v c.command b)))) (lt-leb _ _ c.keeps.own)

  -- and in an open one
  pub book_open : (v b : ℕ) → IsOpen m leaves replies v → v < m.states → book_round m leaves (Some v) b ≡ refuse 17 v
  book_open v b c l = book_here v b l ∙ ap (by_book m v b) c.is

  -- an objection round in a covered state
  pub objection_covered : (v a : ℕ) → IsCovered m leaves v → v < m.states → objection_round m leaves replies (Some v) a ≡ refuse 17 v
  objection_covered v a c l = objection_here v a l ∙ ap (by_reply m v a (reply_at replies v a)) c.is

  -- and in an open one
  pub objection_open : (v a : ℕ) → IsOpen m leaves replies v → v < m.states → objection_round m leaves replies (Some v) a ≡ unless (leb (m.commands v) a) 16 a (unless (leb (m.events v) (reply_at replies v a)) 10 v (Ok (m.next v a (reply_at replies v a))))
  objection_open v a c l = objection_here v a l ∙ ap (by_reply m v a (reply_at replies v a)) c.is

  -- a book round for an event of a covered state is accepted
  pub book_goes : (v b : ℕ) (c : IsCovered m leaves v) → v < m.states → b < m.events v → book_round m leaves (Some v) b ≡ Ok (m.next v c.command b)
  book_goes v b c l own = book_covered v b c l ∙ rw (lt-leb _ _ own) refl

  -- an objection round for a command of an open state is accepted
  pub objection_goes : (v a : ℕ) → IsOpen m leaves replies v → v < m.states → a < m.commands v → objection_round m leaves replies (Some v) a ≡ Ok (m.next v a (reply_at replies v a))
  objection_goes v a c l own = objection_open v a c l ∙ rw (lt-leb _ _ own, lt-leb _ _ (c.keeps.own a own)) refl

  -- and no other round is
  pub book_own : (v b t : ℕ) → IsCovered m leaves v → v < m.states → book_round m leaves (Some v) b ≡ Ok t → b < m.events v
  book_own v b t c l e = leb-false _ _ (unless_yes (leb (m.events v) b) 16 b t _ (sym (book_covered v b c l) ∙ e)).0

  pub objection_own : (v a t : ℕ) → IsOpen m leaves replies v → v < m.states → objection_round m leaves replies (Some v) a ≡ Ok t → a < m.commands v
  objection_own v a t c l e = leb-false _ _ (unless_yes (leb (m.commands v) a) 16 a t _ (sym (objection_open v a c l) ∙ e)).0
