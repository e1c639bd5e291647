-- Numbers that agree where they are read give the same leaves and replies.
use Rattle.std.proofs.Common.{◌≡◌, ℕ, zero, suc, ◌*◌, ◌<◌, ◌≤◌, Bool, true, false, not, List, map, set, sym, refl, ap, ◌∙◌, inl, inr, zero-add, arith}
use Rattle.std.specs.List.{range_with_len}
use Rattle.std.proofs.lemmas.List.FromFn.{fill_by_all, length-map-range_with_len, get_or-map-range_with_len}
use Rattle.std.proofs.lemmas.Bool.{cases_Bool, cond-true, cond-false, and_left}
use Rattle.site.specs.Arena.{Arena, Lawful}
use Rattle.site.specs.Counting.{count}
use Rattle.site.specs.Laid.{laid}
use Rattle.checker.specs.declared.leaves.Leaf.{Leaf}
use Rattle.checker.specs.declared.leaves.Leaf.TheVariants.{Covered, Open}
use Rattle.parts.specs.Regions.{lowest}
use Rattle.parts.proofs.Duals.{every_agree, some_agree}
use Rattle.planner.specs.Planned.{parts_counted}
use Rattle.planner.specs.Choices.{Numbers, keeps_rule, answers_rule, chosen_command, chosen_reply, chosen_leaf, chosen_replies, leaves_written, replies_written}

-- two ways to number a site that agree on every state: its part, and the numbers of that part
pub record Agree (m : Arena) (p q : Numbers) : Type 0 where
  pub part : (s : ℕ) → s < m.states → p.covered s ≡ q.covered s
  pub rank : (s : ℕ) → s < m.states → q.covered s ≡ true → p.rank s ≡ q.rank s
  pub first : (s : ℕ) → s < m.states → q.covered s ≡ false → p.first s ≡ q.first s
  pub second : (s : ℕ) → s < m.states → q.covered s ≡ false → p.second s ≡ q.second s

lowest_agree : (p q : ℕ → Bool) (n : ℕ) → ((k : ℕ) → k < n → p k ≡ q k) → lowest p n ≡ lowest q n
lowest_agree p q zero h = refl
lowest_agree p q (suc n) h =
    rw (h n (omega arith), lowest_agree p q n (λ k lt. h k (omega arith)), some_agree p q n (λ k lt. h k (omega arith))) refl

pub count_agree : (p q : ℕ → Bool) (n : ℕ) → ((k : ℕ) → k < n → p k ≡ q k) → count p n ≡ count q n
count_agree p q zero h = refl
count_agree p q (suc n) h = rw (h n (omega arith), count_agree p q n (λ k lt. h k (omega arith))) refl

map_agree : (f g : ℕ → ℕ) (n : ℕ) → ((k : ℕ) → k < n → f k ≡ g k) → map f (range_with_len 0 n) ≡ map g (range_with_len 0 n)
map_agree f g n h =
    fill_by_all g (map f (range_with_len 0 n)) n 0 (length-map-range_with_len f 0 n) (λ k lt. get_or-map-range_with_len f 0 n k k 0 lt (zero-add k) ∙ h k lt)

module _ (m : Arena) (lawful : Lawful m) (p q : Numbers) (agree : Agree m p q) where
  keeps_agree : (s a b : ℕ) → s < m.states → q.covered s ≡ true → a < m.commands s → b < m.events s → keeps_rule m p s a b ≡ keeps_rule m q s a b
  keeps_agree s a b s< cov a< b< =
      let t = m.next s a b in
      let t< = lawful.closed s a b s< a< b< in
      elim (cases_Bool (q.covered t)) [
        | inl yes_t ↦ rw (agree.part t t<, agree.rank t t< yes_t, agree.rank s s< cov) refl
        | inr no_t ↦ and_left (p.covered t) _ (agree.part t t< ∙ no_t) ∙ sym (and_left (q.covered t) _ no_t)
      ]

  answers_agree : (s a b : ℕ) → s < m.states → q.covered s ≡ false → a < m.commands s → b < m.events s → answers_rule m p s a b ≡ answers_rule m q s a b
  answers_agree s a b s< opened a< b< =
      let t = m.next s a b in
      let t< = lawful.closed s a b s< a< b< in
      elim (cases_Bool (q.covered t)) [
        | inl yes_t ↦ and_left (not (p.covered t)) _ (ap not (agree.part t t< ∙ yes_t)) ∙ sym (and_left (not (q.covered t)) _ (ap not yes_t))
        | inr no_t ↦ rw (agree.part t t<, agree.first t t< no_t, agree.second t t< no_t, agree.first s s< opened, agree.second s s< opened) refl
      ]

  pub leaf_agree : (s : ℕ) → s < m.states → chosen_leaf m p s ≡ chosen_leaf m q s
  leaf_agree s s< =
      elim (cases_Bool (q.covered s)) [
        | inl cov ↦
            let command : chosen_command m p s ≡ chosen_command m q s = lowest_agree _ _ (m.commands s) (λ a a<. every_agree _ _ (m.events s) (λ b b<. keeps_agree s a b s< cov a< b<)) in
            cond-true (p.covered s) _ _ (agree.part s s< ∙ cov) ∙ (ap (λ c. Covered c (p.rank s)) command ∙ (ap (Covered (chosen_command m q s)) (agree.rank s s< cov) ∙ sym (cond-true (q.covered s) _ _ cov)))
        | inr opened ↦
            cond-false (p.covered s) _ _ (agree.part s s< ∙ opened) ∙ (ap (λ u. Open u (p.second s)) (agree.first s s< opened) ∙ (ap (Open (q.first s)) (agree.second s s< opened) ∙ sym (cond-false (q.covered s) _ _ opened)))
      ]

  replies_agree : (s : ℕ) → s < m.states → q.covered s ≡ false → chosen_replies m p s ≡ chosen_replies m q s
  replies_agree s s< opened =
      map_agree (chosen_reply m p s) (chosen_reply m q s) (m.commands s) (λ a a<. lowest_agree _ _ (m.events s) (λ b b<. answers_agree s a b s< opened a< b<))

  pub leaves_written_agree : (k : ℕ) (leaves : List Leaf) → k ≤ m.states → leaves_written m p k leaves ≡ leaves_written m q k leaves
  leaves_written_agree zero leaves le = refl
  leaves_written_agree (suc k) leaves le =
      ap (λ ls. set ls k (chosen_leaf m p k)) (leaves_written_agree k leaves (omega arith)) ∙ ap (set (leaves_written m q k leaves) k) (leaf_agree k le)

  pub replies_written_agree : (k : ℕ) (replies : List ℕ) → k ≤ m.states → replies_written m p k replies ≡ replies_written m q k replies
  replies_written_agree zero replies le = refl
  replies_written_agree (suc k) replies le =
      let lower = replies_written_agree k replies (omega arith) in
      elim (cases_Bool (q.covered k)) [
        | inl cov ↦ cond-true (p.covered k) _ _ (agree.part k le ∙ cov) ∙ (lower ∙ sym (cond-true (q.covered k) _ _ cov))
        | inr opened ↦ cond-false (p.covered k) _ _ (agree.part k le ∙ opened) ∙ (ap (laid (16 * k) (chosen_replies m p k)) lower ∙ (ap (λ xs. laid (16 * k) xs (replies_written m q k replies)) (replies_agree k le opened) ∙ sym (cond-false (q.covered k) _ _ opened)))
      ]

  pub covered_agree : count p.covered m.states ≡ count q.covered m.states
  covered_agree = count_agree p.covered q.covered m.states agree.part

  pub open_agree : count (λ s. not (p.covered s)) m.states ≡ count (λ s. not (q.covered s)) m.states
  open_agree = count_agree _ _ m.states (λ s lt. ap not (agree.part s lt))

  pub counted_agree : parts_counted p m.states ≡ parts_counted q m.states
  counted_agree = rw (covered_agree, open_agree) refl
