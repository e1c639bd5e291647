-- Lists of states, the latest first, whose states all have a property and whose steps all keep a rule.
use Rattle.std.proofs.Common.{◌≡◌, ℕ, ◌+◌, ◌≤◌, Bool, false, cond, List, [], ◌∷◌, ◌++◌, Some, arith}
use Rattle.std.specs.List.{AllByRecursion as All}
use Rattle.checker.specs.Runs.{latest, origin, many}
use Rattle.checker.specs.RunLaws.{Stretch}
use Rattle.checker.proofs.Pigeons.{Different}

-- the step from the latest of the older states to t keeps the rule
abbrev pub Linked : (ℕ → ℕ → Type 0) → ℕ → List ℕ → Type 0
Linked Step t [] = Unit {0}
Linked Step t (v ∷ older) = Step v t

abbrev pub Chain : (ℕ → Type 0) → (ℕ → ℕ → Type 0) → List ℕ → Type 0
Chain At Step [] = Unit {0}
Chain At Step (t ∷ older) = At t × Linked Step t older × Chain At Step older

module _ (At : ℕ → Type 0) (Step : ℕ → ℕ → Type 0) where
  -- the older part of a chain, and its newer part
  chain_older : (newer older : List ℕ) → Chain At Step (newer ++ older) → Chain At Step older
  chain_older [] older c = c
  chain_older (t ∷ newer) older c = chain_older newer older c.2

  chain_newer : (newer older : List ℕ) → Chain At Step (newer ++ older) → Chain At Step newer
  chain_newer [] older c = tt
  chain_newer (t ∷ []) older c = (c.0, tt, tt)
  chain_newer (t ∷ (v ∷ newer)) older c = (c.0, c.1, chain_newer (v ∷ newer) older c.2)

  -- a stretch of a chain is a chain
  pub chain_stretch : (run vs : List ℕ) → Stretch run vs → Chain At Step run → Chain At Step vs
  chain_stretch run vs s c =
      chain_newer vs s.older (chain_older s.newer (vs ++ s.older) (rw s.whole at c))

  -- its first state has the property
  pub chain_origin : (run : List ℕ) (s : ℕ) → Chain At Step run → origin run ≡ Some s → At s
  chain_origin [] s c e = let z : ◌≡◌ {A = ℕ} 0 1 = cc in absurd (omega arith)
  chain_origin (v ∷ []) s c e = let same : v ≡ s = cc in rw same at c.0
  chain_origin (v ∷ (w ∷ older)) s c e = chain_origin (w ∷ older) s c.2 e

  -- its latest state has the property
  pub chain_latest : (run : List ℕ) (v : ℕ) → Chain At Step run → latest run ≡ Some v → At v
  chain_latest [] v c e = let z : ◌≡◌ {A = ℕ} 0 1 = cc in absurd (omega arith)
  chain_latest (t ∷ older) v c e = let same : t ≡ v = cc in rw same at c.0

  -- what the property says of each holds of all
  pub chain_all : (Q : ℕ → Type 0) → ((t : ℕ) → At t → Q t) → (vs : List ℕ) → Chain At Step vs → All Q vs
  chain_all Q f [] c = tt
  chain_all Q f (t ∷ older) c = (f t c.0, chain_all Q f older c.2)

  -- a further property of all its states
  pub chain_with : (Q : ℕ → Type 0) (vs : List ℕ) → All Q vs → Chain At Step vs → Chain (λ t. At t × Q t) Step vs
  chain_with Q [] q c = tt
  chain_with Q (t ∷ []) q c = ((c.0, q.0), tt, tt)
  chain_with Q (t ∷ (v ∷ older)) q c = ((c.0, q.0), c.1, chain_with Q (v ∷ older) q.1 c.2)

  -- A number that falls at every state that passes a test, never rises, and is not 0 where the test passes:
  -- no more states pass than its bound.
  module _
      (p : ℕ → Bool)
      (f : ℕ → ℕ)
      (bound : ℕ)
      (falls : (v t : ℕ) → At v → Step v t → cond (p v) 1 0 + f t ≤ f v)
      (bounded : (t : ℕ) → At t → f t ≤ bound)
      (lasts : (t : ℕ) → At t → cond (p t) 1 0 ≤ f t)
    where
      so_far : (t : ℕ) (older : List ℕ) → Chain At Step (t ∷ older) → many p older + f t ≤ bound
      so_far t [] c = omega (arith, bounded t c.0)
      so_far t (v ∷ older) c =
          let before = so_far v older c.2 in omega (arith, falls v t c.2.0 c.1)

      pub descends : (vs : List ℕ) → Chain At Step vs → many p vs ≤ bound
      descends [] c = omega arith
      descends (t ∷ older) c = omega (arith, so_far t older c, lasts t c.0)

  -- Each step leads below the state before it, by an order: no state comes twice.
  module _
      (Below : ℕ → ℕ → Type 0)
      (down : (v t : ℕ) → At v → Step v t → Below t v)
      (through : (x y z : ℕ) → Below x y → Below y z → Below x z)
      (apart : (x y : ℕ) → Below x y → x ≡ y → ⊥)
    where
      all_below : (x y : ℕ) (zs : List ℕ) → Below x y → All (Below y) zs → All (Below x) zs
      all_below x y [] l a = tt
      all_below x y (z ∷ zs) l a = (through x y z l a.0, all_below x y zs l a.1)

      all_apart : (x : ℕ) (zs : List ℕ) → All (Below x) zs → All (λ z. x ≡ z → ⊥) zs
      all_apart x [] a = tt
      all_apart x (z ∷ zs) a = (apart x z a.0, all_apart x zs a.1)

      lowest : (t : ℕ) (older : List ℕ) → Chain At Step (t ∷ older) → All (Below t) older
      lowest t [] c = tt
      lowest t (v ∷ older) c =
          let here = down v t c.2.0 c.1 in (here, all_below t v older here (lowest v older c.2))

      pub never_twice : (vs : List ℕ) → Chain At Step vs → Different vs
      never_twice [] c = tt
      never_twice (t ∷ older) c = (all_apart t older (lowest t older c), never_twice older c.2)

-- where none passes, each fails
pub none_passes : (p : ℕ → Bool) (vs : List ℕ) → many p vs ≡ 0 → All (λ v. p v ≡ false) vs
none_passes p [] e = tt
none_passes p (v ∷ vs) e = (grind arith, none_passes p vs (omega arith))
