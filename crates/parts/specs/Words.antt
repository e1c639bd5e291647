-- The fixed points of planning, told as relations over all regions.
use Rattle.std.specs.Prelude.{◌≡◌, ℕ, suc, ◌<◌, true, false, length, ◌≢◌}
use Rattle.site.specs.Arena.{Arena}
use Rattle.parts.specs.Regions.{Region, has, nothing, F, G, level, covered, stage, round}

-- every state of one region lies in the other
abbrev pub Inside : Region → Region → Type 0
Inside U V = (s : ℕ) → has U s ≡ true → has V s ≡ true

-- U is the greatest region of n states with the property P
pub record Greatest (n : ℕ) (P : Region → Type 0) (U : Region) : Type 0 where
  pub size : length U ≡ n
  pub holds : P U
  pub most : (V : Region) → length V ≡ n → P V → Inside V U

-- U is the least region of n states with the property P
pub record Least (n : ℕ) (P : Region → Type 0) (U : Region) : Type 0 where
  pub size : length U ≡ n
  pub holds : P U
  pub fewest : (V : Region) → length V ≡ n → P V → Inside U V

-- What the covered part, its levels and the stages of the open states are.
pub record Words (m : Arena) : Type 0 where
  -- the covered part is the greatest X that is the least Y that is the greatest Z with Z ≡ F X Y Z
  pub covered_part : Greatest m.states (λ X. Least m.states (λ Y. Greatest m.states (λ Z. Z ≡ F m X Y Z) Y) X) (covered m)
  -- the levels: Y(0) is empty, and Y(k+1) is the greatest Z with Z ≡ F W Y(k) Z
  pub no_level : level m (covered m) 0 ≡ nothing m.states
  pub levels : (k : ℕ) → Greatest m.states (λ Z. Z ≡ F m (covered m) (level m (covered m) k) Z) (level m (covered m) (suc k))
  -- the stages: X(0) is empty, and X(i+1) is the greatest Y that is the least Z with Z ≡ G X(i) Y Z
  pub no_stage : stage m 0 ≡ nothing m.states
  pub stages : (i : ℕ) → Greatest m.states (λ Y. Least m.states (λ Z. Z ≡ G m (stage m i) Y Z) Y) (stage m (suc i))
  -- the rounds of a stage: Z(0) is empty, Z(j+1) ≡ G X(i) X(i+1) Z(j), and after N of them the stage is reached
  pub no_round : (i : ℕ) → round m i 0 ≡ nothing m.states
  pub rounds : (i j : ℕ) → round m i (suc j) ≡ G m (stage m i) (stage m (suc i)) (round m i j)
  pub last_round : (i : ℕ) → round m i m.states ≡ stage m (suc i)
  -- every state is in the covered part or in some stage, and none is in both
  pub some_stage : (s : ℕ) → s < m.states → has (covered m) s ≡ false → (i : ℕ) × (i < m.states) × (has (stage m (suc i)) s ≡ true)
  pub no_both : (s i : ℕ) → has (covered m) s ≡ true → has (stage m i) s ≢ true
