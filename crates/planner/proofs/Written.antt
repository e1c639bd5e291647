-- Reading back what planning wrote.
use Rattle.std.proofs.Common.{◌≡◌, ℕ, zero, suc, ◌+◌, ◌*◌, ◌<◌, ◌≤◌, false, List, length, get_or, sym, refl, ap, ◌∙◌, inl, inr, zero-add, arith, length-set}
use Rattle.std.proofs.lemmas.List.FromFn.{length-map-range_with_len, get_or-map-range_with_len}
use Rattle.std.proofs.lemmas.List.{get_or-set_same, get_or-set_other}
use Rattle.std.proofs.lemmas.Bool.{cases_Bool, cases_eq, cond-true, cond-false}
use Rattle.site.specs.Arena.{Arena, Lawful}
use Rattle.site.proofs.Laid.{length_laid, laid_before, laid_within}
use Rattle.checker.specs.Leaves.{leaf_at, reply_at}
use Rattle.checker.specs.declared.leaves.Leaf.{Leaf}
use Rattle.checker.specs.declared.leaves.Leaf.TheVariants.{Covered}
use Rattle.planner.specs.Choices.{Numbers, chosen_leaf, chosen_reply, chosen_replies, leaves_written, replies_written}

module _ (m : Arena) (p : Numbers) where
  pub leaves_length : (k : ℕ) (leaves : List Leaf) → length (leaves_written m p k leaves) ≡ length leaves
  leaves_length zero leaves = refl
  leaves_length (suc k) leaves = length-set (leaves_written m p k leaves) k (chosen_leaf m p k) ∙ leaves_length k leaves

  pub replies_length : (k : ℕ) (replies : List ℕ) → length (replies_written m p k replies) ≡ length replies
  replies_length zero replies = refl
  replies_length (suc k) replies =
      elim (cases_Bool (p.covered k)) [
        | inl cov ↦ ap length (cond-true (p.covered k) _ _ cov) ∙ replies_length k replies
        | inr opened ↦ ap length (cond-false (p.covered k) _ _ opened) ∙ (length_laid (16 * k) (chosen_replies m p k) (replies_written m p k replies) ∙ replies_length k replies)
      ]

  -- the leaf of a state that was written
  pub leaf_written : (k : ℕ) (leaves : List Leaf) (s : ℕ) → s < k → k ≤ length leaves → leaf_at (leaves_written m p k leaves) s ≡ chosen_leaf m p s
  leaf_written zero leaves s lt le = absurd (omega arith)
  leaf_written (suc k) leaves s lt le =
      elim (cases_eq s k) [
        | inl e ↦ rw e (get_or-set_same (leaves_written m p k leaves) k (chosen_leaf m p k) (Covered 0 0) (rw (leaves_length k leaves) (omega arith)))
        | inr ne ↦ get_or-set_other (leaves_written m p k leaves) k s (chosen_leaf m p k) (Covered 0 0) ne ∙ leaf_written k leaves s (omega arith) (omega arith)
      ]

  module _ (lawful : Lawful m) where
    replies_few : (k : ℕ) → length (chosen_replies m p k) ≤ 16
    replies_few k = rw (length-map-range_with_len (chosen_reply m p k) 0 (m.commands k)) (lawful.few_commands k)

    -- the reply of an open state to one of its commands
    pub reply_written : (k : ℕ) (replies : List ℕ) (s a : ℕ) → s < k → 16 * k ≤ length replies → p.covered s ≡ false → a < m.commands s → reply_at (replies_written m p k replies) s a ≡ chosen_reply m p s a
    reply_written zero replies s a lt le opened a< = absurd (omega arith)
    reply_written (suc k) replies s a lt le opened a< =
        let few = lawful.few_commands s in
        elim (cases_eq s k) [
          | inl e ↦
              let here : p.covered k ≡ false = ap p.covered (sym e) ∙ opened in
              let own : a < m.commands k = rw e at a< in
              ap (λ i. get_or (replies_written m p (suc k) replies) (16 * i + a) 0) e
              ∙ (ap (λ xs. get_or xs (16 * k + a) 0) (cond-false (p.covered k) _ _ here)
              ∙ (laid_within (16 * k) (chosen_replies m p k) (replies_written m p k replies) a 0 (rw (length-map-range_with_len (chosen_reply m p k) 0 (m.commands k)) own) (rw (replies_length k replies) (omega (arith, replies_few k)))
              ∙ (get_or-map-range_with_len (chosen_reply m p k) 0 (m.commands k) a a 0 own (zero-add a)
              ∙ ap (λ i. chosen_reply m p i a) (sym e))))
          | inr ne ↦
              let lower = reply_written k replies s a (omega arith) (omega arith) opened a< in
              elim (cases_Bool (p.covered k)) [
                | inl cov ↦ ap (λ xs. get_or xs (16 * s + a) 0) (cond-true (p.covered k) _ _ cov) ∙ lower
                | inr here ↦
                    ap (λ xs. get_or xs (16 * s + a) 0) (cond-false (p.covered k) _ _ here)
                    ∙ (laid_before (16 * k) (chosen_replies m p k) (replies_written m p k replies) (16 * s + a) 0 (omega arith) ∙ lower)
              ]
        ]
