-- The drift sites: a pair for each, to which the check says yes.
use Rattle.std.proofs.Common.{ℕ, List, [], ◌∷◌, ◌++◌, refl}
use Rattle.drift.specs.DriftLaws.{drift_lawful}
use Rattle.drift.specs.Drifts.{drift}
use Rattle.checker.specs.declared.leaves.Leaf.{Leaf}
use Rattle.checker.specs.declared.leaves.Leaf.TheVariants.{Covered, Open}
use Rattle.floors.specs.Shown.{Pair, Shown}
use Rattle.floors.specs.Shown.Example.{Split}
use Rattle.floors.proofs.Splits.{split_by}

-- four offsets in a row that are alike
abbrev four : {X : Type 0} → List X → List X
four xs = xs ++ (xs ++ (xs ++ xs))

-- waiting and setting, in a covered state of rank 0
abbrev wait : Leaf
wait = Covered 0 0

abbrev set : Leaf
set = Covered 1 0

-- The floor's replies to waiting and to setting. It answers waiting by a drift to one side, and setting by the same
-- drift with a loss, or lets a setting be heard that cannot be lost.
abbrev left_lost : List ℕ
left_lost = 0 ∷ 3 ∷ []

abbrev right_lost : List ℕ
right_lost = 2 ∷ 5 ∷ []

abbrev left : List ℕ
left = 0 ∷ 0 ∷ []

abbrev right : List ℕ
right = 2 ∷ 0 ∷ []

-- With d = 4 and k = 2: far out only the last setting, which is never lost, comes in time; nearer there is time for one
-- more; and at offset 0 there is always time.
abbrev pair_two : Pair
pair_two =
    record {
      leaves =
          four (Open 0 1 ∷ Open 0 1 ∷ set ∷ [])
          ++ (four (Open 0 2 ∷ set ∷ wait ∷ [])
          ++ ((set ∷ wait ∷ wait ∷ [])
          ++ (four (Open 0 2 ∷ set ∷ wait ∷ [])
          ++ (four (Open 0 1 ∷ Open 0 1 ∷ set ∷ []) ++ (Open 0 0 ∷ set ∷ [])))));
      replies =
          four (left_lost ∷ left_lost ∷ [] ∷ [])
          ++ (four (left_lost ∷ [] ∷ [] ∷ [])
          ++ (([] ∷ [] ∷ [] ∷ [])
          ++ (four (right_lost ∷ [] ∷ [] ∷ [])
          ++ (four (right_lost ∷ right_lost ∷ [] ∷ []) ++ (left ∷ [] ∷ [])))));
    }

pub splits_two : Shown (Split (drift 4 2) 53 28)
splits_two = split_by (drift 4 2) (drift_lawful 4 2 refl) pair_two 53 28 refl refl

-- With d = 4 and k = 3 the floor loses three settings while the clock drifts off, and after a setting that is heard
-- (first number 1) it begins again: nothing is covered.
abbrev pair_three : Pair
pair_three =
    record {
      leaves =
          four (Open 0 1 ∷ Open 0 1 ∷ Open 0 1 ∷ Open 1 1 ∷ [])
          ++ (four (Open 0 2 ∷ Open 0 2 ∷ Open 1 2 ∷ Open 1 2 ∷ [])
          ++ ((Open 0 3 ∷ Open 1 3 ∷ Open 1 3 ∷ Open 1 3 ∷ [])
          ++ (four (Open 0 2 ∷ Open 0 2 ∷ Open 1 2 ∷ Open 1 2 ∷ [])
          ++ (four (Open 0 1 ∷ Open 0 1 ∷ Open 0 1 ∷ Open 1 1 ∷ []) ++ (Open 0 0 ∷ Open 1 0 ∷ [])))));
      replies =
          four (left_lost ∷ left_lost ∷ left_lost ∷ left ∷ [])
          ++ (four (left_lost ∷ left_lost ∷ left ∷ left ∷ [])
          ++ ((left_lost ∷ left ∷ left ∷ left ∷ [])
          ++ (four (right_lost ∷ right_lost ∷ right ∷ right ∷ [])
          ++ (four (right_lost ∷ right_lost ∷ right_lost ∷ right ∷ []) ++ (left ∷ left_lost ∷ [])))));
    }

pub splits_three : Shown (Split (drift 4 3) 70 0)
splits_three = split_by (drift 4 3) (drift_lawful 4 3 refl) pair_three 70 0 refl refl
