-- The number and the place of every refusal, and answers told by them.
use Rattle.std.specs.Prelude.{ℕ, Bool, cond, List, ◌++◌, Ok, Err, Result, codes, decimal, nat_lt}
use Rattle.site.specs.declared.faults.Fault.{Fault}
use Rattle.site.specs.declared.faults.Fault.TheVariants.{BytesEnd, OtherKind, StateCount, GradeRange, MoveCount, ArrowCount, ArrowRange, SurplusBytes, TooShort, LeafMove, LeafBound, LeavesPart, NoDescent, Blank, NoState, NoMove, OtherPart, WatchRange, WatchFit, DriftRange, TableSize}

-- the number by which each refusal is known
abbrev pub number_of : Fault → ℕ
number_of (BytesEnd p) = 1
number_of (OtherKind p) = 2
number_of StateCount = 3
number_of (GradeRange p) = 4
number_of (MoveCount p) = 5
number_of (ArrowCount p) = 6
number_of (ArrowRange p) = 7
number_of (SurplusBytes p) = 8
number_of (TooShort p) = 9
number_of (LeafMove p) = 10
number_of (LeafBound p) = 11
number_of (LeavesPart p) = 12
number_of (NoDescent p) = 13
number_of Blank = 14
number_of (NoState p) = 15
number_of (NoMove p) = 16
number_of (OtherPart p) = 17
number_of WatchRange = 18
number_of (WatchFit p) = 19
number_of DriftRange = 20
number_of (TableSize p) = 21

-- where it arose: an offset, a state, a number of entries; 0 where there is no place to name
abbrev pub place_of : Fault → ℕ
place_of (BytesEnd p) = p
place_of (OtherKind p) = p
place_of StateCount = 0
place_of (GradeRange p) = p
place_of (MoveCount p) = p
place_of (ArrowCount p) = p
place_of (ArrowRange p) = p
place_of (SurplusBytes p) = p
place_of (TooShort p) = p
place_of (LeafMove p) = p
place_of (LeafBound p) = p
place_of (LeavesPart p) = p
place_of (NoDescent p) = p
place_of Blank = 0
place_of (NoState p) = p
place_of (NoMove p) = p
place_of (OtherPart p) = p
place_of WatchRange = 0
place_of (WatchFit p) = p
place_of DriftRange = 0
place_of (TableSize p) = p

-- a refusal, told by its number and its place
pub record Refusal : Type 0 where
  pub number : ℕ
  pub place : ℕ

-- the refusal that a fault stands for
abbrev pub told : Fault → Refusal
told f = record { number = number_of f; place = place_of f }

-- what a refusal prints as: its number and its place in decimal digits
abbrev pub refusal_text : Refusal → List ℕ
refusal_text r = codes "refused " ++ (decimal r.number ++ (codes " at " ++ decimal r.place))

-- a slice of `len` entries where `needed` are due: too short a one is refused by 9 with the entries needed
abbrev pub long_enough : ℕ → ℕ → Result (Unit {0}) Fault
long_enough len needed = cond (nat_lt len needed) (Err (TooShort needed)) (Ok tt)

-- an answer, with a fault told as a refusal
abbrev pub answered : {T : Type 0} → Result T Fault → Result T Refusal
answered (Ok x) = Ok x
answered (Err f) = Err (told f)

-- the answer "no", by number and place
abbrev pub refuse : {T : Type 0} → ℕ → ℕ → Result T Refusal
refuse n p = Err (record { number = n; place = p })

-- refused with a number and a place where the test says so, and else the answer that follows
abbrev pub unless : {T : Type 0} → Bool → ℕ → ℕ → Result T Refusal → Result T Refusal
unless bad n p rest = cond bad (refuse n p) rest

-- one step after another: the first refusal is the answer
abbrev pub and_then : {T U : Type 0} → Result T Refusal → (T → Result U Refusal) → Result U Refusal
and_then (Ok x) f = f x
and_then (Err e) f = Err e
