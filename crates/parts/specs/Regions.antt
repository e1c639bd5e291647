-- Regions of states, and their greatest and least fixed points.
use Rattle.std.specs.Prelude.{ℕ, zero, suc, Bool, true, false, cond, List, map, slice_index_or}
use Rattle.std.specs.List.{range_with_len}
use Rattle.site.specs.Arena.{Arena}
use Rattle.site.specs.Counting.{some}
use Rattle.parts.specs.Moves.{holds, blocks, by_grade}

-- a region of n states: for each state whether it lies in it
abbrev pub Region : Type 0
Region = List Bool

-- state s lies in the region
abbrev pub has : Region → ℕ → Bool
has U s = slice_index_or U s false

-- the region of the states below n that pass a test
unfoldable pub region : ℕ → (ℕ → Bool) → Region
region n p = map p (range_with_len 0 n)

-- all of n states, and none of them
abbrev pub all : ℕ → Region
all n = region n (λ _. true)

abbrev pub nothing : ℕ → Region
nothing n = region n (λ _. false)

-- F: confirmed states that can stay in X, doubted ones that can reach Y, ordinary ones that can stay in Z,
-- whatever the event is
abbrev pub F : Arena → Region → Region → Region → Region
F m X Y Z =
    region m.states (λ s. by_grade (m.grade s) (holds m (has X) s) (holds m (has Y) s) (holds m (has Z) s))

-- G: the same for the floor, which answers each command by an event
abbrev pub G : Arena → Region → Region → Region → Region
G m X Y Z =
    region m.states (λ s. by_grade (m.grade s) (blocks m (has X) s) (blocks m (has Y) s) (blocks m (has Z) s))

-- f done k times
abbrev pub iterate : ℕ → (Region → Region) → Region → Region
iterate zero f U = U
iterate (suc k) f U = f (iterate k f U)

-- the greatest and the least fixed point of a growing f over n states: n steps from all, n steps from none
unfoldable pub greatest : ℕ → (Region → Region) → Region
greatest n f = iterate n f (all n)

unfoldable pub least : ℕ → (Region → Region) → Region
least n f = iterate n f (nothing n)

-- the states from which the controller can keep to U for ever, with at most k - 1 doubted states between confirmed ones
abbrev pub level : Arena → Region → ℕ → Region
level m U k = iterate k (λ Y. greatest m.states (F m U Y)) (nothing m.states)

-- W, the covered part: the greatest X that is the least Y that is the greatest Z with Z ≡ F X Y Z
unfoldable pub covered : Arena → Region
covered m = greatest m.states (λ X. least m.states (λ Y. greatest m.states (F m X Y)))

-- X(i): the open states that the floor can hold to fewer than i confirmed states
abbrev pub stage : Arena → ℕ → Region
stage m i =
    iterate i (λ X. greatest m.states (λ Y. least m.states (G m X Y))) (nothing m.states)

-- Z(j) in the stage after X(i)
abbrev pub round : Arena → ℕ → ℕ → Region
round m i j = iterate j (G m (stage m i) (stage m (suc i))) (nothing m.states)

-- the lowest number below a bound that passes a test; the bound itself where none does
abbrev pub lowest : (ℕ → Bool) → ℕ → ℕ
lowest p zero = zero
lowest p (suc n) = cond (some p n) (lowest p n) (cond (p n) n (suc n))

-- the rank of a covered state: the smallest k with the state in Y(k+1), where Y(k) are the levels of W
unfoldable pub rank : Arena → ℕ → ℕ
rank m s = lowest (λ k. has (level m (covered m) (suc k)) s) m.states

-- the first number of an open state: the smallest i with the state in X(i+1)
unfoldable pub first : Arena → ℕ → ℕ
first m s = lowest (λ i. has (stage m (suc i)) s) m.states

-- its second number: for that i the smallest j with the state in Z(j+1)
unfoldable pub second : Arena → ℕ → ℕ
second m s = lowest (λ j. has (round m (first m s) (suc j)) s) m.states
