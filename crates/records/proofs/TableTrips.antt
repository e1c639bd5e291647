-- A table that was written is read back: record by record, whatever bytes follow.
use Rattle.std.proofs.Common.{◌≡◌, ℕ, zero, suc, ◌+◌, ◌*◌, ◌/◌, ◌%◌, ◌<◌, ◌≤◌, false, ◌||◌, eqb, ltb, List, [], ◌∷◌, ◌++◌, length, get_or, take, Ok, sym, refl, ap, ◌∙◌, inl, inr, zero-add, arith}
use native.Mathlib.Nat.{div-add-mod}
use Rattle.std.specs.List.{flat_map}
use Rattle.std.proofs.lemmas.List.{append_assoc, append-nil, length-append, length_push, flat_map_more, get_or_append_left, get_or-append-add, get_or_push}
use Rattle.std.proofs.lemmas.Bool.{cases_eq, cases_lt, le-ltb, lt-leb, ne_eqb, or_from}
use Rattle.site.specs.Arena.{Arena, Lawful}
use Rattle.site.specs.Grades.{grade_number}
use Rattle.site.specs.Laid.{laid}
use Rattle.site.proofs.Laid.{laid_within}
use Rattle.site.specs.Tables.{no_row, row_at, table}
use Rattle.site.specs.TableLaws.{cond_within, cond_past, own_arrow, no_own_command, no_own_event}
use Rattle.site.specs.declared.sheets.Row.{Row}
use Rattle.records.specs.TableBytes.{two_bytes, head_in, numbered_grade, bad_count, row_in, arrow_in, arrows_in, Read, one_state, states_in, ended, table_in}
use Rattle.records.specs.TableTrip.{Alike, ReadBack}
use Rattle.records.specs.TableWritten.{numbered, aim, arrows_bytes, row_bytes, moves, states_bytes, table_bytes, arrows_to, table_long, table_answer}
use Rattle.records.proofs.Answered.{after_ok}
use Rattle.records.proofs.Listed.{BytesDone, bytes_there}
use Rattle.records.proofs.Taking.{several_back}
use Rattle.records.proofs.TablePuts.{aim_of, arrow_among, aim_below, arrows_to_grows, table_fits, table_bytes_long}

-- two bytes are their number
pub two_back : (v : ℕ) → two_bytes (v / 256) (v % 256) ≡ v
two_back v = div-add-mod v 256

-- the rows, the arrows of a state, and all arrows
abbrev table_row : Arena → ℕ → Row
table_row m s = record { grade = numbered_grade (m.grade s); commands = m.commands s; events = m.events s; first = arrows_to m s }

abbrev table_rows : Arena → ℕ → List Row
table_rows m zero = []
table_rows m (suc k) = table_rows m k ++ table_row m k ∷ []

abbrev pub state_aims : Arena → ℕ → ℕ → List ℕ
state_aims m s zero = []
state_aims m s (suc i) = state_aims m s i ++ aim m s i ∷ []

abbrev table_aims : Arena → ℕ → List ℕ
table_aims m zero = []
table_aims m (suc k) = table_aims m k ++ state_aims m k (moves m k)

pub state_aims_long : (m : Arena) (s i : ℕ) → length (state_aims m s i) ≡ i
state_aims_long m s zero = refl
state_aims_long m s (suc i) = length_push (state_aims m s i) (aim m s i) ∙ omega (arith, state_aims_long m s i)

table_aims_long : (m : Arena) (k : ℕ) → length (table_aims m k) ≡ arrows_to m k
table_aims_long m zero = refl
table_aims_long m (suc k) =
    length-append (table_aims m k) (state_aims m k (moves m k))
    ∙ omega (arith, table_aims_long m k, state_aims_long m k (moves m k))

table_rows_long : (m : Arena) (k : ℕ) → length (table_rows m k) ≡ k
table_rows_long m zero = refl
table_rows_long m (suc k) = length_push (table_rows m k) (table_row m k) ∙ omega (arith, table_rows_long m k)

-- an arrow of a state
pub aim_there : (m : Arena) (s k i : ℕ) → i < k → get_or (state_aims m s k) i 0 ≡ aim m s i
aim_there m s zero i lt = absurd (omega arith)
aim_there m s (suc k) i lt =
    elim (cases_eq i k) [
      | inl e ↦ rw e (get_or_push (state_aims m s k) (aim m s k) 0 k (state_aims_long m s k))
      | inr ne ↦
          get_or_append_left (state_aims m s k) (aim m s k ∷ []) 0 i (rw (state_aims_long m s k) (omega arith)) ∙ aim_there m s k i (omega arith)
    ]

-- an arrow
arrow_back : (n at v : ℕ) (z : List ℕ) → v < n → arrow_in n at (numbered 3 v ++ z) ≡ Ok (record { what = v; left = z })
arrow_back n at v z lt = rw (two_back v, lt-leb n v lt) refl

-- the arrows of a state, from a list of them
pub aims_bytes : (m : Arena) (s i : ℕ) → arrows_bytes m s i ≡ flat_map (numbered 3) (state_aims m s i)
aims_bytes m s zero = refl
aims_bytes m s (suc i) =
    ap (λ z. z ++ numbered 3 (aim m s i)) (aims_bytes m s i)
    ∙ flat_map_more (numbered 3) [] (state_aims m s i) (aim m s i)

-- the arrows of a state
arrows_back : (m : Arena) (n at s i : ℕ) (z : List ℕ) → ((j : ℕ) → j < i → aim m s j < n) → arrows_in n i at (arrows_bytes m s i ++ z) ≡ Ok (record { items = state_aims m s i; at = at + 3 * i; left = z })
arrows_back m n at s i z below =
    let long = state_aims_long m s i in
    let each : (j : ℕ) → j < length (state_aims m s i) → (at' : ℕ) (z' : List ℕ) → arrow_in n at' (numbered 3 (get_or (state_aims m s i) j 0) ++ z') ≡ Ok (record { what = get_or (state_aims m s i) j 0; left = z' }) = λ j lt at' z'. rw (aim_there m s i j (omega arith)) (arrow_back n at' (aim m s j) z' (below j (omega arith))) in
    rw aims_bytes (several_back (arrow_in n) 3 (numbered 3) 0 (state_aims m s i) each at i z long)

count_back : (c : ℕ) → 1 ≤ c → c ≤ 16 → bad_count c ≡ false
count_back c some few = or_from _ _ (ne_eqb c 0 (λ e. omega arith)) (le-ltb 16 c few)

-- a row
row_back : (m : Arena) → Lawful m → (at first s : ℕ) (z : List ℕ) → s < m.states → first ≡ arrows_to m s → arrows_to m (suc s) ≤ 16384 → row_in at first (row_bytes m s ++ z) ≡ Ok (record { what = table_row m s; left = z })
row_back m law at first s z lt begins few =
    let counts : (bad_count (m.commands s) || bad_count (m.events s)) ≡ false = or_from _ _ (count_back (m.commands s) (law.some_command s lt) (law.few_commands s)) (count_back (m.events s) (law.some_event s lt) (law.few_events s)) in
    rw (begins, le-ltb 2 (m.grade s) (law.few_grades s), counts, le-ltb 16384 (arrows_to m (suc s)) few) refl

module _ (m : Arena) (law : Lawful m) (few : arrows_to m m.states ≤ 16384) where
  -- the states
  states_back : (k : ℕ) (z : List ℕ) → k ≤ m.states → states_in m.states k (states_bytes m k ++ z) ≡ Ok (record { rows = table_rows m k; arrows = table_aims m k; at = 3 + 4 * k + 3 * arrows_to m k; left = z })
  states_back zero z le = refl
  states_back (suc k) z le =
      let n = m.states in
      let more = row_bytes m k ++ arrows_bytes m k (moves m k) in
      let at = 3 + 4 * k + 3 * arrows_to m k in
      let rest = arrows_bytes m k (moves m k) ++ z in
      let old = ap (λ bs. states_in n k bs) (append_assoc (states_bytes m k) more z) ∙ states_back k (more ++ z) (omega arith) in
      let place : at + 4 + 3 * moves m k ≡ 3 + 4 * suc k + 3 * arrows_to m (suc k) = omega arith in
      let row = row_back m law at (length (table_aims m k)) k rest (omega arith) (table_aims_long m k) (omega (arith, arrows_to_grows m (suc k) n le)) in
      let aims = arrows_back m n (at + 4) k (moves m k) z (λ j lt. aim_below m law k j (omega arith) lt) in
      after_ok (states_in n k (states_bytes m (suc k) ++ z)) _ (one_state n) old
      ∙ (after_ok (row_in at (length (table_aims m k)) (more ++ z)) _ _ row
      ∙ (after_ok (arrows_in n (moves m k) (at + 4) rest) _ _ aims
      ∙ ap (λ a. Ok (record { rows = table_rows m (suc k); arrows = table_aims m (suc k); at = a; left = z })) place))

  -- the head
  head_back : (z : List ℕ) → m.states ≤ 1024 → head_in (numbered 1 m.states ++ z) ≡ Ok (record { what = m.states; left = z })
  head_back z le =
      let fine : (eqb m.states 0 || ltb 1024 m.states) ≡ false = or_from _ _ (ne_eqb m.states 0 (λ e. omega (arith, law.inhabited))) (le-ltb 1024 m.states le) in
      rw (two_back m.states, fine) refl

  abbrev table_found : Read
  table_found = record { rows = table_rows m m.states; arrows = table_aims m m.states; at = 3 + 4 * m.states + 3 * arrows_to m m.states; left = [] }

  -- the table
  table_back : m.states ≤ 1024 → table_in (table_bytes m) ≡ Ok table_found
  table_back le =
      let n = m.states in
      let body = ap (λ bs. states_in n n bs) (sym (append-nil (states_bytes m n))) ∙ states_back n [] (omega arith) in
      after_ok (head_in (table_bytes m)) _ _ (head_back (states_bytes m n) le)
      ∙ after_ok (states_in n n (states_bytes m n)) table_found ended body

-- the row of a state
row_there : (m : Arena) (k s : ℕ) → s < k → row_at (table_rows m k) s ≡ table_row m s
row_there m zero s lt = absurd (omega arith)
row_there m (suc k) s lt =
    elim (cases_eq s k) [
      | inl e ↦ rw e (get_or_push (table_rows m k) (table_row m k) no_row k (table_rows_long m k))
      | inr ne ↦
          get_or_append_left (table_rows m k) (table_row m k ∷ []) no_row s (rw (table_rows_long m k) (omega arith)) ∙ row_there m k s (omega arith)
    ]

-- its place among all arrows
arrow_there : (m : Arena) (k s i : ℕ) → s < k → i < moves m s → get_or (table_aims m k) (arrows_to m s + i) 0 ≡ aim m s i
arrow_there m zero s i lt among = absurd (omega arith)
arrow_there m (suc k) s i lt among =
    elim (cases_eq s k) [
      | inl e ↦
          let here : i < moves m k = rw (← e) among in
          rw (e, ← table_aims_long m k) (get_or-append-add (table_aims m k) (state_aims m k (moves m k)) i 0 ∙ aim_there m k (moves m k) i here)
      | inr ne ↦
          let before : arrows_to m s + i < length (table_aims m k) = rw (table_aims_long m k) (omega (arith, arrows_to_grows m (suc s) k (omega arith))) in
          get_or_append_left (table_aims m k) (state_aims m k (moves m k)) 0 (arrows_to m s + i) before ∙ arrow_there m k s i (omega arith) among
    ]

pub grade_back : (g : ℕ) → g ≤ 2 → grade_number (numbered_grade g) ≡ g
grade_back zero le = refl
grade_back (suc zero) le = refl
grade_back (suc (suc zero)) le = refl
grade_back (suc (suc (suc g))) le = absurd (omega arith)

-- sheets that have the rows and the arrows of m stand for a site like m
module _ (m : Arena) (law : Lawful m) (rows : List Row) (arrows : List ℕ) (rows_are : (s : ℕ) → s < m.states → row_at rows s ≡ table_row m s) (arrows_are : (s i : ℕ) → s < m.states → i < moves m s → get_or arrows (arrows_to m s + i) 0 ≡ aim m s i) where
  abbrev again : Arena
  again = table m.states rows arrows

  grade_alike : (s : ℕ) → again.grade s ≡ m.grade s
  grade_alike s =
      elim (cases_lt s m.states) [
        | inl lt ↦ cond_within s m.states _ lt ∙ (ap (λ r. grade_number r.grade) (rows_are s lt) ∙ grade_back (m.grade s) (law.few_grades s))
        | inr past ↦ cond_past s m.states _ past ∙ sym (law.no_grade s past)
      ]

  commands_alike : (s : ℕ) → again.commands s ≡ m.commands s
  commands_alike s =
      elim (cases_lt s m.states) [
        | inl lt ↦ cond_within s m.states _ lt ∙ ap (λ r. r.commands) (rows_are s lt)
        | inr past ↦ cond_past s m.states _ past ∙ sym (law.no_commands s past)
      ]

  events_alike : (s : ℕ) → again.events s ≡ m.events s
  events_alike s =
      elim (cases_lt s m.states) [
        | inl lt ↦ cond_within s m.states _ lt ∙ ap (λ r. r.events) (rows_are s lt)
        | inr past ↦ cond_past s m.states _ past ∙ sym (law.no_events s past)
      ]

  arrow_alike : (s a b : ℕ) → s < m.states → a < m.commands s → b < m.events s → again.next s a b ≡ m.next s a b
  arrow_alike s a b s< a< b< =
      let n = m.states in
      let there = rows_are s s< in
      own_arrow n rows arrows s a b s< (rw there a<) (rw there b<)
      ∙ (ap (λ r. get_or arrows (r.first + (a * r.events + b)) 0) there
      ∙ (arrows_are s (a * m.events s + b) s< (arrow_among m s a b a< b<) ∙ aim_of m s a b b<))

  next_alike : (s a b : ℕ) → again.next s a b ≡ m.next s a b
  next_alike s a b =
      let n = m.states in
      elim (cases_lt a (m.commands s)) [
        | inl a< ↦
            elim (cases_lt b (m.events s)) [
              | inl b< ↦
                  elim (cases_lt s n) [
                    | inl s< ↦ arrow_alike s a b s< a< b<
                    | inr past ↦ absurd (omega (arith, law.no_commands s past))
                  ]
              | inr le ↦ no_own_event n rows arrows s a b (rw (events_alike s) le) ∙ sym (law.no_event s a b le)
            ]
        | inr le ↦ no_own_command n rows arrows s a b (rw (commands_alike s) le) ∙ sym (law.no_command s a b le)
      ]

  table_alike : Alike again m
  table_alike =
      record { states = refl; grade = grade_alike; commands = commands_alike; events = events_alike; next = next_alike }

-- the rows and the arrows, laid over sheets that are long enough
laid_alike : (m : Arena) → Lawful m → (rows : List Row) (arrows : List ℕ) → m.states ≤ length rows → arrows_to m m.states ≤ length arrows → Alike (table m.states (laid 0 (table_rows m m.states) rows) (laid 0 (table_aims m m.states) arrows)) m
laid_alike m law rows arrows row_room arrow_room =
    let n = m.states in
    let new_rows = table_rows m n in
    let new_arrows = table_aims m n in
    let rows_long : length new_rows ≡ n = table_rows_long m n in
    let arrows_long : length new_arrows ≡ arrows_to m n = table_aims_long m n in
    table_alike m law (laid 0 new_rows rows) (laid 0 new_arrows arrows) (λ s lt.
    ap (λ j. row_at (laid 0 new_rows rows) j) (sym (zero-add s))
    ∙ (laid_within 0 new_rows rows s no_row (omega arith) (omega arith) ∙ row_there m n s lt)) (λ s i lt among.
    let within : arrows_to m s + i < length new_arrows = omega (arith, arrows_to_grows m (suc s) n lt) in
    ap (λ j. get_or (laid 0 new_arrows arrows) j 0) (sym (zero-add (arrows_to m s + i)))
    ∙ (laid_within 0 new_arrows arrows (arrows_to m s + i) 0 within (omega arith) ∙ arrow_there m n s i lt among))

-- the bytes of a site's table are read back
pub table_trip : (m : Arena) → Lawful m → m.states ≤ 1024 → arrows_to m m.states ≤ 16384 → ReadBack m (table_bytes m)
table_trip m law states arrows =
    record {
      found = table_found m law arrows;
      read = table_back m law arrows states;
      alike = λ rows' arrows' row_room arrow_room.
          rw (table_rows_long m m.states) (laid_alike m law rows' arrows' (omega (arith, table_rows_long m m.states)) (omega (arith, table_aims_long m m.states)));
    }

-- also from the buffer that they were written into
pub written_back : {r end : ℕ} {last after : List ℕ} (m : Arena) (before : List ℕ) → Lawful m → table_long m ≤ length before → m.states ≤ 1024 → arrows_to m m.states ≤ 16384 → BytesDone (table_answer m (length before)) before end after → r ≡ end → last ≡ after → ReadBack m (take r last)
written_back {r} {end} {last} {after} m before law fits states arrows d r_is last_is =
    let e = table_fits m (length before) fits states arrows in
    let same : take end after ≡ table_bytes m = bytes_there (table_answer m (length before)) (table_bytes m) e (omega (arith, table_bytes_long m)) d in
    rw (r_is, last_is, same) (table_trip m law states arrows)
