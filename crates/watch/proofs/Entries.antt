-- The entries of a watch that count: those of its positions, tested sheet by sheet.
use Rattle.std.proofs.Common.{◌≡◌, ℕ, zero, suc, ◌*◌, ◌≤◌, Bool, true, false, ◌&&◌, List, length, take, nat_le, nat_lt, slice_index, sym, refl, ap, ◌∙◌}
use Rattle.std.proofs.lemmas.Bool.{le-leb}
use Rattle.std.specs.List.{list_all}
use Rattle.site.specs.Counting.{every}
use Rattle.site.specs.CountingLaws.{every_listed}
use Rattle.watch.specs.Watches.{entries, entry_fair, watch_range}

-- two tests together
pub every_both : (p q : ℕ → Bool) (n : ℕ) → every (λ i. p i && q i) n ≡ (every p n && every q n)
every_both p q zero = refl
every_both p q (suc n) = ap (λ b. (p n && q n) && b) (every_both p q n) ∙ apart (p n) (q n) (every p n) (every q n)
  where
    apart : (a b c d : Bool) → ((a && b) && (c && d)) ≡ ((a && c) && (b && d))
    apart false b c d = refl
    apart true true c d = refl
    apart true false true d = refl
    apart true false false d = refl

module _ (m : ℕ) (turns shows : List ℕ) (wide : 3 * m ≤ length turns) (wide' : 3 * m ≤ length shows) where
  pub by_sheets : (list_all (λ t. nat_lt t m) (take (3 * m) turns) && list_all (λ s. nat_le s 2) (take (3 * m) shows)) ≡ every (entry_fair (entries m turns shows)) (3 * m)
  by_sheets =
      rw (every_listed (λ t. nat_lt t m) turns 0 (3 * m) wide, every_listed (λ s. nat_le s 2) shows 0 (3 * m) wide') (sym (every_both (λ i. nat_lt (slice_index turns i) m) (λ i. nat_le (slice_index shows i) 2) (3 * m)))

  pub in_range_is : 1 ≤ m → m ≤ 8 → (list_all (λ t. nat_lt t m) (take (3 * m) turns) && list_all (λ s. nat_le s 2) (take (3 * m) shows)) ≡ watch_range (entries m turns shows)
  in_range_is some few = by_sheets ∙ rw (le-leb 1 m some, le-leb m 8 few) refl
