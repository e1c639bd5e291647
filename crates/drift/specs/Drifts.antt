-- What a drift site means: a clock that drifts, and settings of it that may be lost.
use Rattle.std.specs.Prelude.{◌≡◌, ℕ, zero, suc, ◌+◌, ◌*◌, ◌/◌, ◌%◌, ◌<◌, ◌≤◌, Bool, true, cond, ◌&&◌, ℤ, pos, ◌+ℤ◌, ◌-ℤ◌, ◌*ℤ◌, neg_ℤ, ◌==◌, int_le, nat_le, nat_lt, unsigned_abs}
use Rattle.drift.specs.declared.places.Place.{Place}
use Rattle.drift.specs.declared.places.Place.TheVariants.{Offset, Apart, Confirmed}
use Rattle.site.specs.Arena.{Arena}

-- the farthest offset that still agrees, in quarters of a second: two seconds exactly
abbrev pub farthest : ℕ
farthest = 8

-- how many offsets agree: from -8 to 8
abbrev pub offsets : ℕ
offsets = 2 * farthest + 1

-- the settings that a drift site may have: a step d from 1 to 8, and a loss bound k from 0 to 7
abbrev pub drift_range : ℕ → ℕ → Bool
drift_range d k = nat_le 1 d && (nat_le d 8 && nat_le k 7)

-- ordinary at an offset, doubted apart, and confirmed
abbrev pub place_grade : Place → ℕ
place_grade (Offset o l) = 2
place_grade Apart = 1
place_grade Confirmed = 0

-- the number of a place: (o + 8) × (k + 1) + l, then apart, then confirmed
abbrev pub place_number : ℕ → Place → ℕ
place_number k (Offset o l) = unsigned_abs (o +ℤ pos farthest) * (k + 1) + l
place_number k Apart = offsets * (k + 1)
place_number k Confirmed = offsets * (k + 1) + 1

-- the place of a number
abbrev pub numbered : ℕ → ℕ → Place
numbered k s =
    cond (nat_lt s (offsets * (k + 1))) (Offset (pos (s / (k + 1)) -ℤ pos farthest) (s % (k + 1))) (cond (s == offsets * (k + 1)) Apart Confirmed)

-- event b moves the clock by (b mod 3 - 1) × d
abbrev pub drifted : ℕ → ℕ → ℤ → ℤ
drifted d b o = o +ℤ (pos (b % 3) -ℤ pos 1) *ℤ pos d

-- an offset agrees from -8 to 8
abbrev pub agrees : ℤ → Bool
agrees o = int_le (neg_ℤ (pos farthest)) o && int_le o (pos farthest)

-- an offset that does not agree is apart
abbrev pub arrived : ℤ → ℕ → Place
arrived o l = cond (agrees o) (Offset o l) Apart

-- a setting is lost if the event is 3 or more and fewer than k were lost before it
abbrev pub lost : ℕ → ℕ → ℕ → Bool
lost k b l = nat_le 3 b && nat_lt l k

-- from an offset: command 0 waits, and any other sets
abbrev pub commanded : ℕ → ℕ → ℕ → ℕ → ℤ → ℕ → Place
commanded d k zero b o l = arrived (drifted d b o) l
commanded d k (suc a) b o l = cond (lost k b l) (arrived (drifted d b o) (l + 1)) Confirmed

-- one move: apart is never left, and confirmed behaves as offset 0 with none lost
abbrev pub moved : ℕ → ℕ → ℕ → ℕ → Place → Place
moved d k a b (Offset o l) = commanded d k a b o l
moved d k a b Apart = Apart
moved d k a b Confirmed = commanded d k a b (pos 0) 0

-- how many states there are: each offset with each number of losses, apart and confirmed
abbrev pub drift_states : ℕ → ℕ
drift_states k = offsets * (k + 1) + 2

-- the site of step d and loss bound k; a number out of range is answered by 0
abbrev pub drift : ℕ → ℕ → Arena
drift d k =
    record {
      states = drift_states k;
      grade = λ s. cond (nat_lt s (drift_states k)) (place_grade (numbered k s)) 0;
      commands = λ s. cond (nat_lt s (drift_states k)) 2 0;
      events = λ s. cond (nat_lt s (drift_states k)) 6 0;
      next = λ s a b.
          cond (nat_lt s (drift_states k) && (nat_lt a 2 && nat_lt b 6)) (place_number k (moved d k a b (numbered k s))) 0;
    }

-- a place of the site: its offset agrees, and no more are lost than the bound
abbrev pub Kept : ℕ → Place → Type 0
Kept k (Offset o l) = (agrees o ≡ true) × (l ≤ k)
Kept k Apart = Unit {0}
Kept k Confirmed = Unit {0}

-- the site told by places: each state is the number of a place, which has the place's grade and moves as the place does
pub record ByPlaces (d k : ℕ) : Type 0 where
  pub state : (s : ℕ) → s < drift_states k → (p : Place) × (Kept k p × (place_number k p ≡ s))
  pub low : (p : Place) → Kept k p → place_number k p < drift_states k
  pub grade : (p : Place) → Kept k p → (drift d k).grade (place_number k p) ≡ place_grade p
  pub next : (p : Place) (a b : ℕ) → Kept k p → a < 2 → b < 6 → (drift d k).next (place_number k p) a b ≡ place_number k (moved d k a b p)
