-- A run by accepted leaves and replies stays in its part, and its steps keep the rules of that part.
use Rattle.std.proofs.Common.{◌≡◌, ℕ, ◌<◌, true, false, leb, ◌⊎◌, List, [], ◌∷◌, Some, Ok, Err, Result, sym, refl, ◌∙◌, inl, inr, arith}
use Rattle.std.proofs.lemmas.Bool.{cases_Bool, leb-false}
use Rattle.site.specs.Arena.{Arena, Lawful}
use Rattle.site.specs.Refusals.{Refusal, refuse, unless}
use Rattle.checker.specs.declared.leaves.Leaf.{Leaf}
use Rattle.checker.specs.declared.calls.Call.{Call}
use Rattle.checker.specs.declared.calls.Call.TheVariants.{Place, Book, Objection}
use Rattle.checker.specs.Leaves.{leaf_at, reply_at, is_covered}
use Rattle.checker.specs.Witness.{RankKept, NumbersKept, Accepted}
use Rattle.checker.specs.Rounds.{answer, book_round, objection_round}
use Rattle.checker.specs.Runs.{latest, extended, next_run, ran_from, ran}
use Rattle.checker.proofs.Refusing.{unless_yes, no_first_book, no_first_objection}
use Rattle.checker.proofs.Chains.{Chain}
use Rattle.checker.proofs.Parts.{rank_of, first_of, second_of, covered_at, open_at, covered_step, open_step, book_goes, book_own, book_open, objection_goes, objection_own, objection_covered}

-- a state of the covered part, and a step there
abbrev pub Booked : Arena → List Leaf → ℕ → Type 0
Booked m leaves t = (t < m.states) × (is_covered (leaf_at leaves t) ≡ true)

abbrev pub BookStep : Arena → List Leaf → ℕ → ℕ → Type 0
BookStep m leaves v t = RankKept (m.grade v) (rank_of (leaf_at leaves v)) (rank_of (leaf_at leaves t))

-- a state of the open part, and a step there
abbrev pub Replied : Arena → List Leaf → ℕ → Type 0
Replied m leaves t = (t < m.states) × (is_covered (leaf_at leaves t) ≡ false)

abbrev pub ReplyStep : Arena → List Leaf → ℕ → ℕ → Type 0
ReplyStep m leaves v t =
    NumbersKept (m.grade v) (first_of (leaf_at leaves v)) (second_of (leaf_at leaves v)) (first_of (leaf_at leaves t)) (second_of (leaf_at leaves t))

-- a run of one part all along
abbrev pub OnePart : Arena → List Leaf → List ℕ → Type 0
OnePart m leaves run = Chain (Booked m leaves) (BookStep m leaves) run ⊎ Chain (Replied m leaves) (ReplyStep m leaves) run

same_ok : {x y : ℕ} → ◌≡◌ {A = Result ℕ Refusal} (Ok x) (Ok y) → x ≡ y
same_ok e = cc

not_refused : {t n p : ℕ} → ◌≡◌ {A = Result ℕ Refusal} (refuse n p) (Ok t) → ⊥
not_refused e = let z : ◌≡◌ {A = ℕ} 0 1 = cc in omega arith

module _ (m : Arena) (lawful : Lawful m) (leaves : List Leaf) (replies : List ℕ) (accepted : Accepted m leaves replies) where
  -- an accepted book round goes on in the covered part
  book_step : (v b t : ℕ) → Booked m leaves v → book_round m leaves (Some v) b ≡ Ok t → Booked m leaves t × BookStep m leaves v t
  book_step v b t h e =
      let c = covered_at m leaves replies accepted v h.0 h.1 in
      let own = book_own m leaves replies accepted v b t c h.0 e in
      let same : m.next v c.command b ≡ t = same_ok (sym (book_goes m leaves replies accepted v b c h.0 own) ∙ e) in
      let step = covered_step m leaves replies accepted v b c own in
      let to = lawful.closed v c.command b h.0 c.keeps.own own in
      rw (sym same) ((to, step.0), step.1)

  -- an accepted objection round goes on in the open part
  reply_step : (v a t : ℕ) → Replied m leaves v → objection_round m leaves replies (Some v) a ≡ Ok t → Replied m leaves t × ReplyStep m leaves v t
  reply_step v a t h e =
      let c = open_at m leaves replies accepted v h.0 h.1 in
      let own = objection_own m leaves replies accepted v a t c h.0 e in
      let same : m.next v a (reply_at replies v a) ≡ t = same_ok (sym (objection_goes m leaves replies accepted v a c h.0 own) ∙ e) in
      let step = open_step m leaves replies accepted v a c own in
      let to = lawful.closed v a (reply_at replies v a) h.0 own (c.keeps.own a own) in
      rw (sym same) ((to, step.0), step.1)

  -- no round of the other kind is accepted
  no_book : (v b t : ℕ) → Replied m leaves v → book_round m leaves (Some v) b ≡ Ok t → ⊥
  no_book v b t h e =
      not_refused (sym (book_open m leaves replies accepted v b (open_at m leaves replies accepted v h.0 h.1) h.0) ∙ e)

  no_objection : (v a t : ℕ) → Booked m leaves v → objection_round m leaves replies (Some v) a ≡ Ok t → ⊥
  no_objection v a t h e =
      not_refused (sym (objection_covered m leaves replies accepted v a (covered_at m leaves replies accepted v h.0 h.1) h.0) ∙ e)

  -- a run that was just placed
  placed : (s t : ℕ) → unless (leb m.states s) 15 s (Ok s) ≡ Ok t → OnePart m leaves (t ∷ [])
  placed s t e =
      let yes_here = unless_yes (leb m.states s) 15 s t (Ok s) e in
      let same : s ≡ t = same_ok yes_here.1 in
      let l : t < m.states = omega (arith, leb-false _ _ yes_here.0) in
      elim (cases_Bool (is_covered (leaf_at leaves t))) [ inl c ↦ inl ((l, c), tt, tt) | inr o ↦ inr ((l, o), tt, tt) ]

  -- one call keeps the run in one part
  call_keeps : (run : List ℕ) (call : Call) (result : Result ℕ Refusal) → answer m leaves replies (latest run) call ≡ result → OnePart m leaves run → OnePart m leaves (extended result run call)
  call_keeps run call (Err f) e part = part
  call_keeps run (Place s) (Ok t) e part = placed s t e
  call_keeps [] (Book b) (Ok t) e part = absurd (no_first_book m leaves b t e)
  call_keeps [] (Objection a) (Ok t) e part = absurd (no_first_objection m leaves replies a t e)
  call_keeps (v ∷ older) (Book b) (Ok t) e (inl c) =
      let next = book_step v b t c.0 e in inl (next.0, next.1, c)
  call_keeps (v ∷ older) (Book b) (Ok t) e (inr c) = absurd (no_book v b t c.0 e)
  call_keeps (v ∷ older) (Objection a) (Ok t) e (inl c) = absurd (no_objection v a t c.0 e)
  call_keeps (v ∷ older) (Objection a) (Ok t) e (inr c) =
      let next = reply_step v a t c.0 e in inr (next.0, next.1, c)

  calls_keep : (calls : List Call) (run : List ℕ) → OnePart m leaves run → OnePart m leaves (ran_from m leaves replies run calls)
  unfolding ran_from
  calls_keep [] run part = part
  calls_keep (call ∷ calls) run part = calls_keep calls (next_run m leaves replies run call) (call_keeps run call _ refl part)

  pub one_part : (calls : List Call) → OnePart m leaves (ran m leaves replies calls)
  one_part calls = calls_keep calls [] (inl tt)
