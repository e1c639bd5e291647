-- Laws of tables: fair sheets stand for a lawful site.
use Rattle.std.specs.Prelude.{◌≡◌, ℕ, zero, suc, ◌+◌, ◌*◌, ◌<◌, ◌≤◌, true, cond, List, length, nat_lt, slice_index}
use Rattle.std.proofs.Common.{mul-le-mul, mul-le-mul_right, suc-mul, arith, inl, inr}
use Rattle.std.proofs.lemmas.Bool.{and_parts, eqb-true, leb-true, ltb-true, cases_eq, cond-true, cond-false, cond_both, lt-ltb, le-ltb, and_from, and_left, and_right, cases_lt}
use Rattle.site.specs.Arena.{Lawful}
use Rattle.site.specs.Grades.{grade_number}
use Rattle.site.specs.declared.grades.Grade.{Grade}
use Rattle.site.specs.declared.grades.Grade.TheVariants.{Confirmed, Doubted, Ordinary}
use Rattle.site.specs.CountingLaws.{every_at}
use Rattle.site.specs.Tables.{row_at, row_ok, row_fair, arrow_fair, arrows_before, fair, has_move, table}
use Rattle.site.specs.declared.sheets.Row.{Row}

-- what a row in order is
pub record RowOk (row : Row) (at : ℕ) : Type 0 where
  pub begins : row.first ≡ at
  pub some_command : 1 ≤ row.commands
  pub few_commands : row.commands ≤ 16
  pub some_event : 1 ≤ row.events
  pub few_events : row.events ≤ 16

pub row_ok_is : (row : Row) (at : ℕ) → row_ok row at ≡ true → RowOk row at
row_ok_is row at h =
    let p = and_parts _ _ h in
    let q = and_parts _ _ p.1 in
    let r = and_parts _ _ q.1 in
    let s = and_parts _ _ r.1 in
    record {
      begins = eqb-true _ _ p.0;
      some_command = leb-true _ _ q.0;
      few_commands = leb-true _ _ r.0;
      some_event = leb-true _ _ s.0;
      few_events = leb-true _ _ s.1;
    }

-- a row has at most 256 arrows
pub row_area : (row : Row) (at : ℕ) → row_ok row at ≡ true → row.commands * row.events ≤ 256
row_area row at h = let k = row_ok_is row at h in mul-le-mul k.few_commands k.few_events

-- what fair sheets are
pub record Fair (n : ℕ) (rows : List Row) (arrows : List ℕ) : Type 0 where
  pub inhabited : 1 ≤ n
  pub limited : n ≤ 8192
  pub long_rows : n ≤ length rows
  pub row : (s : ℕ) → s < n → RowOk (row_at rows s) (arrows_before rows s)
  pub long_arrows : arrows_before rows n ≤ length arrows
  pub arrow : (i : ℕ) → i < arrows_before rows n → slice_index arrows i < n

pub fair_is : (n : ℕ) (rows : List Row) (arrows : List ℕ) → fair n rows arrows ≡ true → Fair n rows arrows
fair_is n rows arrows h =
    let p = and_parts _ _ h in
    let q = and_parts _ _ p.1 in
    let r = and_parts _ _ q.1 in
    let s = and_parts _ _ r.1 in
    let t = and_parts _ _ s.1 in
    record {
      inhabited = leb-true _ _ p.0;
      limited = leb-true _ _ q.0;
      long_rows = leb-true _ _ r.0;
      row = λ k lt. row_ok_is (row_at rows k) (arrows_before rows k) (every_at (row_fair rows) n k s.0 lt);
      long_arrows = leb-true _ _ t.0;
      arrow = λ i lt. ltb-true _ _ (every_at (arrow_fair n arrows) (arrows_before rows n) i t.1 lt);
    }

-- the arrows of the rows before s are among those of the rows before n
pub arrows_mono : (rows : List Row) (s n : ℕ) → s ≤ n → arrows_before rows s ≤ arrows_before rows n
arrows_mono rows s zero le = let e : s ≡ 0 = omega arith in rw e (omega arith)
arrows_mono rows s (suc n) le =
    elim (cases_eq s (suc n)) [
      | inl e ↦ rw e (omega arith)
      | inr ne ↦ omega (arith, arrows_mono rows s n (omega arith))
    ]

-- an arrow of a state's own command and event is among the arrows
pub arrow_place : (n : ℕ) (rows : List Row) (arrows : List ℕ) → Fair n rows arrows → (s a b : ℕ) → s < n → a < (row_at rows s).commands → b < (row_at rows s).events → (row_at rows s).first + (a * (row_at rows s).events + b) < arrows_before rows n
arrow_place n rows arrows f s a b s< a< b< =
    let ok = f.row s s< in
    let up : a * (row_at rows s).events + (row_at rows s).events ≤ (row_at rows s).commands * (row_at rows s).events = rw (← suc-mul) (mul-le-mul_right (row_at rows s).events a<) in
    let last : arrows_before rows s + (row_at rows s).commands * (row_at rows s).events ≤ arrows_before rows n = arrows_mono rows (suc s) n s< in
    omega (arith, ok.begins)

-- a grade has one of the numbers 0, 1 and 2
pub grade_few : (g : Grade) → grade_number g ≤ 2
grade_few Confirmed = omega arith
grade_few Doubted = omega arith
grade_few Ordinary = omega arith

-- where a test must have failed, its other answer
pub cond_past : (s n x : ℕ) → n ≤ s → cond (nat_lt s n) x 0 ≡ 0
cond_past s n x le = cond-false (nat_lt s n) x 0 (le-ltb s n le)

-- and where it holds
pub cond_within : (s n x : ℕ) → s < n → cond (nat_lt s n) x 0 ≡ x
cond_within s n x lt = cond-true (nat_lt s n) x 0 (lt-ltb s n lt)

module _ (n : ℕ) (rows : List Row) (arrows : List ℕ) where
  -- an arrow of a state's own command and event
  pub own_arrow : (s a b : ℕ) → s < n → a < (row_at rows s).commands → b < (row_at rows s).events → (table n rows arrows).next s a b ≡ slice_index arrows ((row_at rows s).first + (a * (row_at rows s).events + b))
  own_arrow s a b s< a< b< =
      cond-true (has_move n rows s a b) _ 0 (and_from _ _ (lt-ltb _ _ s<) (and_from _ _ (lt-ltb _ _ a<) (lt-ltb _ _ b<)))

  -- no arrow of a command that the state lacks
  pub no_own_command : (s a b : ℕ) → (table n rows arrows).commands s ≤ a → (table n rows arrows).next s a b ≡ 0
  no_own_command s a b le =
      cond-false (has_move n rows s a b) _ 0 (elim (cases_lt s n) [
        | inl lt ↦ and_right _ _ (and_left _ _ (le-ltb _ _ (rw (cond_within s n (row_at rows s).commands lt) at le)))
        | inr past ↦ and_left _ _ (le-ltb _ _ past)
      ])

  -- no arrow of an event that the state lacks
  pub no_own_event : (s a b : ℕ) → (table n rows arrows).events s ≤ b → (table n rows arrows).next s a b ≡ 0
  no_own_event s a b le =
      cond-false (has_move n rows s a b) _ 0 (elim (cases_lt s n) [
        | inl lt ↦ and_right (nat_lt s n) _ (and_right (nat_lt a (row_at rows s).commands) _ (le-ltb _ _ (rw (cond_within s n (row_at rows s).events lt) at le)))
        | inr past ↦ and_left _ _ (le-ltb _ _ past)
      ])

  -- fair sheets stand for a lawful site
  pub table_lawful : fair n rows arrows ≡ true → Lawful (table n rows arrows)
  table_lawful h =
      let f = fair_is n rows arrows h in
      record {
        inhabited = f.inhabited;
        limited = f.limited;
        few_grades = λ s. cond_both (nat_lt s n) (grade_number (row_at rows s).grade) 0 (λ x. x ≤ 2) (λ _. grade_few (row_at rows s).grade) (λ _. omega arith);
        some_command = λ s lt. rw (cond_within s n (row_at rows s).commands lt) (f.row s lt).some_command;
        few_commands = λ s. cond_both (nat_lt s n) (row_at rows s).commands 0 (λ x. x ≤ 16) (λ e. (f.row s (ltb-true s n e)).few_commands) (λ _. omega arith);
        some_event = λ s lt. rw (cond_within s n (row_at rows s).events lt) (f.row s lt).some_event;
        few_events = λ s. cond_both (nat_lt s n) (row_at rows s).events 0 (λ x. x ≤ 16) (λ e. (f.row s (ltb-true s n e)).few_events) (λ _. omega arith);
        closed = λ s a b s< a< b<.
            let a' : a < (row_at rows s).commands = rw (cond_within s n (row_at rows s).commands s<) at a< in
            let b' : b < (row_at rows s).events = rw (cond_within s n (row_at rows s).events s<) at b< in
            rw (own_arrow s a b s< a' b') (f.arrow _ (arrow_place n rows arrows f s a b s< a' b'));
        no_grade = λ s le. cond_past s n (grade_number (row_at rows s).grade) le;
        no_commands = λ s le. cond_past s n (row_at rows s).commands le;
        no_events = λ s le. cond_past s n (row_at rows s).events le;
        no_command = no_own_command;
        no_event = no_own_event;
      }
