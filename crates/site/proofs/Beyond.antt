-- Entries of sheets beyond those of a table's states have no effect.
use Rattle.std.proofs.Common.{◌≡◌, ℕ, zero, suc, ◌+◌, ◌*◌, ◌<◌, ◌≤◌, cond, ◌&&◌, ltb, leb, List, length, get_or, sym, refl, ap, ◌∙◌, inl, inr, arith}
use mathlib.Core.Path.{fun_ext}
use Rattle.std.proofs.lemmas.Bool.{cases_lt, cases_Bool, cond-true, cond-false, and_left, and_parts, le-leb, le-ltb, ltb-true}
use Rattle.site.specs.Arena.{Arena}
use Rattle.site.specs.Counting.{every}
use Rattle.site.specs.CountingLaws.{every_agree}
use Rattle.site.specs.Grades.{grade_number}
use Rattle.site.specs.TableLaws.{Fair, fair_is, arrow_place, cond_past}
use Rattle.site.specs.Tables.{row_at, row_fair, arrow_fair, arrows_before, fair, has_move, table, SameFront, NothingBeyond}
use Rattle.site.specs.declared.sheets.Row.{Row}

module _ (n : ℕ) (rows rows' : List Row) (agree : (s : ℕ) → s < n → row_at rows s ≡ row_at rows' s) where
  -- rows that agree have their arrows at the same places
  pub before_same : (s : ℕ) → s ≤ n → arrows_before rows s ≡ arrows_before rows' s
  before_same zero le = refl
  before_same (suc s) le = rw (before_same s (omega arith), agree s (omega arith)) refl

  -- and are in order alike
  pub rows_same : every (row_fair rows) n ≡ every (row_fair rows') n
  rows_same = every_agree (row_fair rows) (row_fair rows') n (λ s lt. rw (agree s lt, before_same s (omega arith)) refl)

module _ (n : ℕ) (rows rows' : List Row) (arrows arrows' : List ℕ) (same : SameFront n rows rows' arrows arrows') where
  -- arrows that agree lead to states alike
  fair_arrows : every (arrow_fair n arrows) (arrows_before rows n) ≡ every (arrow_fair n arrows') (arrows_before rows' n)
  fair_arrows =
      every_agree (arrow_fair n arrows) (arrow_fair n arrows') (arrows_before rows n) (λ i lt. ap (λ t. ltb t n) (same.arrow i lt))
      ∙ ap (every (arrow_fair n arrows')) (before_same n rows rows' same.row n (omega arith))

  -- both pairs are fair or neither is
  pub fair_same : fair n rows arrows ≡ fair n rows' arrows'
  fair_same =
      let long = le-leb n (length rows) same.long_rows ∙ sym (le-leb n (length rows') same.long_rows') in
      let wide : leb (arrows_before rows n) (length arrows) ≡ leb (arrows_before rows' n) (length arrows') = le-leb (arrows_before rows n) (length arrows) same.long_arrows ∙ sym (le-leb (arrows_before rows' n) (length arrows') (omega (arith, before_same n rows rows' same.row n (omega arith), same.long_arrows'))) in
      rw (long, rows_same n rows rows' same.row, wide, fair_arrows) refl

  module _ (f : Fair n rows arrows) where
    by_row : (read : Row → ℕ) (s : ℕ) → cond (ltb s n) (read (row_at rows s)) 0 ≡ cond (ltb s n) (read (row_at rows' s)) 0
    by_row read s =
        elim (cases_lt s n) [
          | inl lt ↦ ap (λ r. cond (ltb s n) (read r) 0) (same.row s lt)
          | inr ge ↦ cond_past s n (read (row_at rows s)) ge ∙ sym (cond_past s n (read (row_at rows' s)) ge)
        ]

    -- where a row leads by a sheet of arrows
    led : ℕ → ℕ → ℕ → Row → List ℕ → ℕ
    led s a b r xs = cond (ltb s n && (ltb a r.commands && ltb b r.events)) (get_or xs (r.first + (a * r.events + b)) 0) 0

    led_same : (s a b : ℕ) → s < n → led s a b (row_at rows s) arrows ≡ led s a b (row_at rows s) arrows'
    unfolding led
    led_same s a b s< =
        let r = row_at rows s in
        elim (cases_Bool (has_move n rows s a b)) [
          | inl t ↦
              let p = and_parts (ltb a r.commands) (ltb b r.events) (and_parts (ltb s n) _ t).1 in
              let place = arrow_place n rows arrows f s a b s< (ltb-true a r.commands p.0) (ltb-true b r.events p.1) in
              ap (λ x. cond (has_move n rows s a b) x 0) (same.arrow (r.first + (a * r.events + b)) place)
          | inr e ↦ cond-false (has_move n rows s a b) _ 0 e ∙ sym (cond-false (has_move n rows s a b) _ 0 e)
        ]

    moves : (s a b : ℕ) → (table n rows arrows).next s a b ≡ (table n rows' arrows').next s a b
    unfolding led
    moves s a b =
        elim (cases_lt s n) [
          | inl lt ↦ led_same s a b lt ∙ ap (λ r. led s a b r arrows') (same.row s lt)
          | inr ge ↦ cond-false (has_move n rows s a b) _ 0 (and_left (ltb s n) _ (le-ltb s n ge)) ∙ sym (cond-false (has_move n rows' s a b) _ 0 (and_left (ltb s n) _ (le-ltb s n ge)))
        ]

    made_of : (ℕ → ℕ) → (ℕ → ℕ) → (ℕ → ℕ) → (ℕ → ℕ → ℕ → ℕ) → Arena
    made_of g c e x = record { states = n; grade = g; commands = c; events = e; next = x }

    -- and stand for one site
    pub table_same : table n rows arrows ≡ table n rows' arrows'
    unfolding made_of
    table_same =
        let m = table n rows arrows in
        let m' = table n rows' arrows' in
        ap (λ g. made_of g m.commands m.events m.next) (fun_ext (by_row (λ r. grade_number r.grade)))
        ∙ (ap (λ c. made_of m'.grade c m.events m.next) (fun_ext (by_row (λ r. r.commands)))
        ∙ (ap (λ e. made_of m'.grade m'.commands e m.next) (fun_ext (by_row (λ r. r.events)))
        ∙ ap (made_of m'.grade m'.commands m'.events) (fun_ext (λ s. fun_ext (λ a. fun_ext (moves s a))))))

pub nothing_beyond : (n : ℕ) (rows : List Row) (arrows : List ℕ) → NothingBeyond n rows arrows
nothing_beyond n rows arrows rows' arrows' same =
    elim (cases_Bool (fair n rows arrows)) [
      | inl t ↦ cond-true (fair n rows arrows) _ _ t ∙ (table_same n rows rows' arrows arrows' same (fair_is n rows arrows t) ∙ sym (cond-true (fair n rows' arrows') _ _ (sym (fair_same n rows rows' arrows arrows' same) ∙ t)))
      | inr e ↦ cond-false (fair n rows arrows) _ _ e ∙ sym (cond-false (fair n rows' arrows') _ _ (sym (fair_same n rows rows' arrows arrows' same) ∙ e))
    ]
