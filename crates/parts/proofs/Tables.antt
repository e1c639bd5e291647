-- A number by part.
use Rattle.std.proofs.Common.{◌≡◌, ℕ, Bool, true, false, cond, refl}

pub by_part : {x y z : ℕ} (b : Bool) → (b ≡ true → x ≡ y) → (b ≡ false → x ≡ z) → x ≡ cond b y z
by_part true p q = p refl
by_part false p q = q refl
