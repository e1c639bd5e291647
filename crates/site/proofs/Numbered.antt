-- Which numbers are grades'.
use Rattle.std.proofs.Common.{ℕ, zero, suc, ◌≤◌, refl, arith}
use Rattle.std.specs.Result.{IsOk}
use Rattle.site.specs.Grades.{grade_numbered}

-- a number up to 2 is a grade's
pub is_a_grade : (n : ℕ) → n ≤ 2 → IsOk (grade_numbered n)
is_a_grade zero le = refl
is_a_grade (suc zero) le = refl
is_a_grade (suc (suc zero)) le = refl
is_a_grade (suc (suc (suc n))) le = absurd (omega arith)
