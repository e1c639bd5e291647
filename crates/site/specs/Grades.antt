-- The numbers of the three grades.
use Rattle.std.specs.Prelude.{ℕ, cond, ◌==◌, List, ◌++◌, codes, decimal, Result, Ok, Err}
use Rattle.site.specs.declared.grades.Grade.{Grade}
use Rattle.site.specs.declared.grades.Grade.TheVariants.{Confirmed, Doubted, Ordinary}
use Rattle.site.specs.declared.grades.NoGrade.{NoGrade}

-- confirmed 0, doubted 1, ordinary 2
abbrev pub grade_number : Grade → ℕ
grade_number Confirmed = 0
grade_number Doubted = 1
grade_number Ordinary = 2

-- the grade with a number; a number above 2, which no grade has, is handed back
abbrev pub grade_numbered : ℕ → Result Grade NoGrade
grade_numbered n =
    cond (n == 0) (Ok Confirmed) (cond (n == 1) (Ok Doubted) (cond (n == 2) (Ok Ordinary) (Err (record { number = n }))))

-- what a number that no grade has prints as
abbrev pub no_grade_text : NoGrade → List ℕ
no_grade_text none = codes "no grade has the number " ++ decimal none.number
