-- The rows of n states and their arrows, taken off the fronts of two sheets, are fair where the sheets are.
use Rattle.std.proofs.Common.{◌≡◌, ℕ, ◌<◌, ◌≤◌, true, false, Bool, List, length, take, nat_le, nat_lt, if◌then◌else◌, Option, Some, None, sym, refl, ◌∙◌, ap, subst, arith}
use Rattle.std.proofs.lemmas.Bool.{and_from, and_left, and_right, le-leb, lt-leb, cond-true, cond-false}
use Rattle.std.proofs.lemmas.List.{get_or-take, length-take-le}
use Rattle.std.proofs.lemmas.Option.{none-some, cond_some}
use Rattle.std.specs.List.{list_all, slice_range}
use Rattle.std.specs.Option.{MatchOption, unwrap_or}
use Rattle.site.specs.Arena.{Arena}
use Rattle.site.specs.Counting.{every}
use Rattle.site.specs.CountingLaws.{every_listed}
use Rattle.site.specs.Tables.{no_row, row_at, row_fair, arrow_fair, arrows_before, fair, table, resting, made_from, SameFront}
use Rattle.site.specs.TableLaws.{fair_is}
use Rattle.site.specs.Trimmed.{Stands}
use Rattle.site.specs.declared.sheets.Row.{Row}
use Rattle.site.specs.declared.tables.Table.{Table}
use Rattle.site.specs.Fronts.{front_is}
use Rattle.site.proofs.Beyond.{before_same, rows_same, fair_same, table_same}

-- what an answer that was not given says of its test
pub not_given : {X : Type 0} (b : Bool) (x : X) → None ≡ (if b then Some x else None) → b ≡ false
not_given false x e = refl
not_given true x e = absurd (none-some x e)

module _ (n : ℕ) (rows : List Row) (long : n ≤ length rows) where
  -- the front has the rows of the states
  front_agrees : (s : ℕ) → s < n → row_at rows s ≡ row_at (take n rows) s
  front_agrees s lt = sym (get_or-take n rows s no_row lt)

  pub front_arrows : arrows_before rows n ≡ arrows_before (take n rows) n
  front_arrows = before_same n rows (take n rows) front_agrees n (omega arith)

  pub front_fair : every (row_fair rows) n ≡ every (row_fair (take n rows)) n
  front_fair = rows_same n rows (take n rows) front_agrees

  module _ (arrows : List ℕ) (wide : arrows_before rows n ≤ length arrows) where
    -- the arrows of the states lead on where each of the front does
    pub front_leads : list_all (λ to. nat_lt to n) (take (arrows_before rows n) arrows) ≡ every (arrow_fair n arrows) (arrows_before rows n)
    front_leads = every_listed (λ to. nat_lt to n) arrows 0 (arrows_before rows n) wide

    -- the fronts are what the sheets are for the n states
    pub front_same : SameFront n rows (take n rows) arrows (take (arrows_before rows n) arrows)
    front_same =
        record {
          long_rows = long;
          long_rows' = rw (length-take-le n rows long) (omega arith);
          row = front_agrees;
          long_arrows = wide;
          long_arrows' = rw (length-take-le (arrows_before rows n) arrows wide) (omega arith);
          arrow = λ i lt. sym (get_or-take (arrows_before rows n) arrows i 0 lt);
        }

module _ (n : ℕ) (rows : List Row) (arrows : List ℕ) where
  some_state : Bool
  some_state = nat_le 1 n

  few_states : Bool
  few_states = nat_le n 8192

  rows_reach : Bool
  rows_reach = nat_le n (length rows)

  arrows_reach : Bool
  arrows_reach = nat_le (arrows_before rows n) (length arrows)

  -- sheets with a row that is not in order
  pub bad_rows : every (row_fair rows) n ≡ false → fair n rows arrows ≡ false
  unfolding some_state few_states rows_reach arrows_reach
  bad_rows h = and_right some_state _ (and_right few_states _ (and_right rows_reach _ (and_left _ _ h)))

  -- with too few arrows
  pub few_arrows : length arrows < arrows_before rows n → fair n rows arrows ≡ false
  unfolding some_state few_states rows_reach arrows_reach
  few_arrows lt = and_right some_state _ (and_right few_states _ (and_right rows_reach _ (and_right (every (row_fair rows) n) _ (and_left arrows_reach _ (lt-leb _ _ lt)))))

  -- with an arrow to no state
  pub bad_arrows : every (arrow_fair n arrows) (arrows_before rows n) ≡ false → fair n rows arrows ≡ false
  unfolding some_state few_states rows_reach arrows_reach
  bad_arrows h = and_right some_state _ (and_right few_states _ (and_right rows_reach _ (and_right (every (row_fair rows) n) _ (and_right arrows_reach _ h))))

  -- and sheets with nothing of the kind
  pub all_fair : 1 ≤ n → n ≤ 8192 → n ≤ length rows → every (row_fair rows) n ≡ true → arrows_before rows n ≤ length arrows → every (arrow_fair n arrows) (arrows_before rows n) ≡ true → fair n rows arrows ≡ true
  all_fair some few long ordered wide leads =
      and_from _ _ (le-leb _ _ some) (and_from _ _ (le-leb _ _ few) (and_from _ _ (le-leb _ _ long) (and_from _ _ ordered (and_from _ _ (le-leb _ _ wide) leads))))

-- what is found of the front of the rows, and then of the arrows, says whether the sheets are fair
module _ (n : ℕ) (rows front : List Row) (arrows : List ℕ) (long : n ≤ length rows) (is_front : front ≡ slice_range rows 0 n) where
  front_taken : front ≡ take n rows
  front_taken = front_is n rows front is_front

  pub front_size : length front ≡ n
  front_size = rw front_taken (length-take-le n rows long)

  ordered_is : every (row_fair front) (length front) ≡ every (row_fair rows) n
  ordered_is = rw (front_size, front_taken) (sym (front_fair n rows long))

  total_is : arrows_before front (length front) ≡ arrows_before rows n
  total_is = rw (front_size, front_taken) (sym (front_arrows n rows long))

  pub unordered : None ≡ (if every (row_fair front) (length front) then Some (arrows_before front (length front)) else None) → fair n rows arrows ≡ false
  unordered e = bad_rows n rows arrows (sym ordered_is ∙ not_given _ _ e)

  module _ (total : ℕ) (told : Some total ≡ (if every (row_fair front) (length front) then Some (arrows_before front (length front)) else None)) where
    pub ordered : every (row_fair rows) n ≡ true
    ordered = sym ordered_is ∙ (cond_some _ _ _ (sym told)).0

    pub total_before : total ≡ arrows_before rows n
    total_before = sym (cond_some _ _ _ (sym told)).1 ∙ total_is

    pub too_few : length arrows < total → fair n rows arrows ≡ false
    too_few lt = few_arrows n rows arrows (rw (← total_before) lt)

    module _ (due : List ℕ) (wide : total ≤ length arrows) (is_due : due ≡ slice_range arrows 0 total) where
      due_taken : due ≡ take (arrows_before rows n) arrows
      due_taken = rw (← total_before) (front_is total arrows due is_due)

      wide_before : arrows_before rows n ≤ length arrows
      wide_before = rw (← total_before) wide

      leads_is : list_all (λ to. nat_lt to n) due ≡ every (arrow_fair n arrows) (arrows_before rows n)
      leads_is = rw due_taken (front_leads n rows long arrows wide_before)

      pub astray : false ≡ list_all (λ to. nat_lt to n) due → fair n rows arrows ≡ false
      astray e = bad_arrows n rows arrows (sym leads_is ∙ sym e)

      -- the fronts hold what the sheets are for the n states
      pub stands : (t : Table) → t.rows.now ≡ front → t.arrows.now ≡ due → Stands t n rows arrows
      stands t r a = record { long_rows = long; own_rows = r ∙ front_taken; long_arrows = wide_before; own_arrows = a ∙ due_taken }

      pub fair_fronts : 1 ≤ length front → length front ≤ 8192 → true ≡ list_all (λ to. nat_lt to n) due → fair (length front) front due ≡ true
      fair_fronts some few leads =
          let sheets = all_fair n rows arrows (rw (← front_size) some) (rw (← front_size) few) long ordered wide_before (sym leads_is ∙ sym leads) in
          let fronts : fair n front due ≡ true = rw (front_taken, due_taken) (sym (fair_same n rows (take n rows) arrows (take (arrows_before rows n) arrows) (front_same n rows long arrows wide_before)) ∙ sheets) in
          subst (λ k. fair k front due ≡ true) (sym front_size) fronts

-- what a table means
abbrev pub meaning : Table → Arena
meaning t = table (length t.rows.now) t.rows.now t.arrows.now

module _ (n : ℕ) (rows : List Row) (arrows : List ℕ) where
  -- a table that holds the fronts of the sheets means what they do
  stands_made : (t : Table) → Stands t n rows arrows → meaning t ≡ made_from n rows arrows
  stands_made t h =
      let size : length t.rows.now ≡ n = rw h.own_rows (length-take-le n rows h.long_rows) in
      let same = front_same n rows h.long_rows arrows h.long_arrows in
      let own : fair n t.rows.now t.arrows.now ≡ true = subst (λ k. fair k t.rows.now t.arrows.now ≡ true) size t.ok in
      let ok : fair n (take n rows) (take (arrows_before rows n) arrows) ≡ true = rw (h.own_rows, h.own_arrows) at own in
      let sheets : fair n rows arrows ≡ true = fair_same n rows (take n rows) arrows (take (arrows_before rows n) arrows) same ∙ ok in
      let fronts : table n rows arrows ≡ meaning t = table_same n rows (take n rows) arrows (take (arrows_before rows n) arrows) same (fair_is n rows arrows sheets) ∙ rw (size, h.own_rows, h.own_arrows) refl in
      sym (cond-true (fair n rows arrows) _ _ sheets ∙ fronts)

  -- and one that stands in for broken sheets means the resting site
  pub made : (found : Option Table) (t spare : Table) → meaning spare ≡ resting → MatchOption found (fair n rows arrows ≡ false) (λ f. Stands f n rows arrows) → t ≡ unwrap_or found spare → meaning t ≡ made_from n rows arrows
  made None t spare rests broken e = ap meaning e ∙ (rests ∙ sym (cond-false (fair n rows arrows) _ _ broken))
  made (Some f) t spare rests h e = ap meaning e ∙ stands_made f h
