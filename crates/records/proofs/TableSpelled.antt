-- A table that was read is written again as the same bytes.
use Rattle.std.proofs.Common.{◌≡◌, ℕ, suc, ◌+◌, ◌*◌, ◌/◌, ◌%◌, ◌<◌, ◌≤◌, not, ◌||◌, eqb, ltb, leb, List, [], ◌∷◌, ◌++◌, length, get_or, Ok, Result, sym, refl, ap, ◌∙◌, subst, mod-lt, div-add-mod', zero-add, arith}
use Rattle.std.specs.List.{flat_map, AllByRecursion as All}
use Rattle.std.proofs.lemmas.Nat.{div_below}
use Rattle.std.proofs.lemmas.List.{append_assoc, append-nil, get_or_append_left, get_or-append-add, get_or_push, nil_from_length, ext_get_or}
use Rattle.std.proofs.lemmas.Bool.{not-false, eqb-true, ltb-false}
use Rattle.site.specs.Arena.{Arena}
use Rattle.site.specs.Grades.{grade_number}
use Rattle.site.specs.Laid.{laid}
use Rattle.site.specs.Refusals.{Refusal}
use Rattle.site.specs.Tables.{no_row, row_at, row_fair, arrows_before, table}
use Rattle.site.specs.TableLaws.{cond_within, own_arrow, arrows_mono, row_ok_is}
use Rattle.site.specs.CountingLaws.{every_at}
use Rattle.site.specs.declared.sheets.Row.{Row}
use Rattle.site.proofs.Laid.{laid_within}
use Rattle.records.specs.TableBytes.{two_bytes, of_kind, head_body, head_in, numbered_grade, bad_count, row_of, row_body, row_in, arrow_body, arrow_in, arrows_in, Read, one_state, states_in, ended, table_in}
use Rattle.records.specs.TableWritten.{numbered, aim, arrows_bytes, row_bytes, moves, states_bytes, table_bytes}
use Rattle.records.proofs.Answered.{never, ok_same, unless_ok, and_then_ok, repeated_keeps}
use Rattle.records.proofs.Sound.{Sound, state_step, arrows_sound, arrows_same}
use Rattle.records.proofs.TableTrips.{state_aims, state_aims_long, aim_there, aims_bytes, grade_back}
use Rattle.records.specs.Taken.{Found}
use Rattle.records.proofs.Taking.{Byte, all_after, several_spelled}

-- the kind of a record that was read
pub kind_is : {T : Type 0} (kind at k : ℕ) (body : List ℕ → Result T Refusal) (bs : List ℕ) (x : T) → of_kind kind at body (k ∷ bs) ≡ Ok x → k ≡ kind
kind_is kind at k body bs x e =
    eqb-true k kind (not-false (eqb k kind) (unless_ok (not (eqb k kind)) 2 at (body bs) x e).0)

-- two bytes are those of their number
pub two_spelled : (kind hi lo v : ℕ) (z : List ℕ) → Byte lo → two_bytes hi lo ≡ v → kind ∷ (hi ∷ (lo ∷ z)) ≡ numbered kind v ++ z
two_spelled kind hi lo v z small e =
    let high : hi ≡ v / 256 = omega (arith, e) in
    let low : lo ≡ v % 256 = omega (arith, e) in
    rw (← high, ← low) refl

arrow_body_spelled : (n at : ℕ) (bs : List ℕ) (f : Found ℕ) → All Byte bs → arrow_body n at bs ≡ Ok f → 3 ∷ bs ≡ numbered 3 f.what ++ f.left
arrow_body_spelled n at [] f h e = never e
arrow_body_spelled n at (hi ∷ []) f h e = never e
arrow_body_spelled n at (hi ∷ (lo ∷ left)) f h e =
    let p = unless_ok (leb n (two_bytes hi lo)) 7 at _ f e in
    let value : two_bytes hi lo ≡ f.what = cc in
    let rest : left ≡ f.left = cc in
    rw (← rest) (two_spelled 3 hi lo f.what left h.1.0 value)

-- an arrow
arrow_spelled : (n at : ℕ) (bs : List ℕ) (f : Found ℕ) → All Byte bs → arrow_in n at bs ≡ Ok f → bs ≡ numbered 3 f.what ++ f.left
arrow_spelled n at [] f h e = never e
arrow_spelled n at (k ∷ bs) f h e =
    ap (λ j. j ∷ bs) (kind_is 3 at k (arrow_body n at) bs f e)
    ∙ arrow_body_spelled n at bs f h.1 (unless_ok (not (eqb k 3)) 2 at (arrow_body n at bs) f e).1

row_body_spelled : (at first : ℕ) (bs : List ℕ) (f : Found Row) → row_body at first bs ≡ Ok f → bs ≡ grade_number f.what.grade ∷ (f.what.commands ∷ (f.what.events ∷ f.left))
row_body_spelled at first [] f e = never e
row_body_spelled at first (g ∷ []) f e = never e
row_body_spelled at first (g ∷ (c ∷ [])) f e = never e
row_body_spelled at first (g ∷ (c ∷ (v ∷ left))) f e =
    let p = and_then_ok (row_of at first g c v) _ f e in
    let same : p.0 ≡ f.what = cc in
    let rest : left ≡ f.left = cc in
    let q = unless_ok (ltb 2 g) 4 at _ f.what (p.1 ∙ ap Ok same) in
    let r = unless_ok (bad_count c || bad_count v) 5 at _ f.what q.1 in
    let w = unless_ok (ltb 16384 (first + c * v)) 6 at _ f.what r.1 in
    let grade : numbered_grade g ≡ f.what.grade = cc in
    let commands : c ≡ f.what.commands = cc in
    let events : v ≡ f.what.events = cc in
    rw (← grade, ← commands, ← events, ← rest, grade_back g (ltb-false 2 g q.0)) refl

-- a row
row_spelled : (at first : ℕ) (bs : List ℕ) (f : Found Row) → row_in at first bs ≡ Ok f → bs ≡ 2 ∷ (grade_number f.what.grade ∷ (f.what.commands ∷ (f.what.events ∷ f.left)))
row_spelled at first [] f e = never e
row_spelled at first (k ∷ bs) f e =
    ap (λ j. j ∷ bs) (kind_is 2 at k (row_body at first) bs f e)
    ∙ ap (λ z. 2 ∷ z) (row_body_spelled at first bs f (unless_ok (not (eqb k 2)) 2 at (row_body at first bs) f e).1)

head_body_spelled : (bs : List ℕ) (f : Found ℕ) → All Byte bs → head_body bs ≡ Ok f → 1 ∷ bs ≡ numbered 1 f.what ++ f.left
head_body_spelled [] f h e = never e
head_body_spelled (hi ∷ []) f h e = never e
head_body_spelled (hi ∷ (lo ∷ left)) f h e =
    let p = unless_ok (eqb (two_bytes hi lo) 0 || ltb 1024 (two_bytes hi lo)) 3 0 _ f e in
    let value : two_bytes hi lo ≡ f.what = cc in
    let rest : left ≡ f.left = cc in
    rw (← rest) (two_spelled 1 hi lo f.what left h.1.0 value)

-- the head
head_spelled : (bs : List ℕ) (f : Found ℕ) → All Byte bs → head_in bs ≡ Ok f → bs ≡ numbered 1 f.what ++ f.left
head_spelled [] f h e = never e
head_spelled (k ∷ bs) f h e =
    ap (λ j. j ∷ bs) (kind_is 1 0 k head_body bs f e)
    ∙ head_body_spelled bs f h.1 (unless_ok (not (eqb k 1)) 2 0 (head_body bs) f e).1

-- the site m has the first k of these rows, with their arrows
pub record Holds (m : Arena) (rows : List Row) (arrows : List ℕ) (k : ℕ) : Type 0 where
  pub grade : (s : ℕ) → s < k → m.grade s ≡ grade_number (row_at rows s).grade
  pub commands : (s : ℕ) → s < k → m.commands s ≡ (row_at rows s).commands
  pub events : (s : ℕ) → s < k → m.events s ≡ (row_at rows s).events
  pub aims : (s i : ℕ) → s < k → i < moves m s → aim m s i ≡ get_or arrows (arrows_before rows s + i) 0

-- the arrows of a state, from a list of them
arrows_spelled : (m : Arena) (s k : ℕ) (aims : List ℕ) → length aims ≡ k → ((j : ℕ) → j < length aims → aim m s j ≡ get_or aims j 0) → arrows_bytes m s k ≡ flat_map (numbered 3) aims
arrows_spelled m s k aims long same =
    let many = state_aims_long m s k in
    aims_bytes m s k
    ∙ ap (flat_map (numbered 3)) (ext_get_or 0 (state_aims m s k) aims (many ∙ sym long) (λ j lt. aim_there m s k j (omega arith) ∙ same j (omega arith)))

-- what holds of all rows holds of those before the last
holds_before : (m : Arena) (rows : List Row) (row : Row) (arrows aims : List ℕ) (k : ℕ) → length rows ≡ k → arrows_before rows k ≡ length arrows → Holds m (rows ++ row ∷ []) (arrows ++ aims) (suc k) → Holds m rows arrows k
holds_before m rows row arrows aims k many total h =
    let old : (s : ℕ) → s < k → row_at (rows ++ row ∷ []) s ≡ row_at rows s = λ s lt. get_or_append_left rows (row ∷ []) no_row s (rw many lt) in
    record {
      grade = λ s lt. h.grade s (omega arith) ∙ ap (λ r. grade_number r.grade) (old s lt);
      commands = λ s lt. h.commands s (omega arith) ∙ ap (λ r. r.commands) (old s lt);
      events = λ s lt. h.events s (omega arith) ∙ ap (λ r. r.events) (old s lt);
      aims = λ s i lt among.
          let own : moves m s ≡ (row_at rows s).commands * (row_at rows s).events = rw (h.commands s (omega arith), h.events s (omega arith), old s lt) refl in
          let before : arrows_before (rows ++ row ∷ []) s ≡ arrows_before rows s = arrows_same (rows ++ row ∷ []) rows s (λ t le. old t (omega arith)) in
          let within : arrows_before rows s + i < length arrows = omega (arith, arrows_mono rows (suc s) k lt, own, total, among) in
          h.aims s i (omega arith) among ∙ (ap (λ j. get_or (arrows ++ aims) (j + i) 0) before ∙ get_or_append_left arrows aims 0 (arrows_before rows s + i) within);
    }

-- the last state's bytes
last_spelled : (m : Arena) (rows : List Row) (row : Row) (arrows aims : List ℕ) (k : ℕ) → length rows ≡ k → arrows_before rows k ≡ length arrows → length aims ≡ row.commands * row.events → Holds m (rows ++ row ∷ []) (arrows ++ aims) (suc k) → row_bytes m k ++ arrows_bytes m k (moves m k) ≡ 2 ∷ (grade_number row.grade ∷ (row.commands ∷ (row.events ∷ flat_map (numbered 3) aims)))
last_spelled m rows row arrows aims k many total long h =
    let old : (s : ℕ) → s < k → row_at (rows ++ row ∷ []) s ≡ row_at rows s = λ s lt. get_or_append_left rows (row ∷ []) no_row s (rw many lt) in
    let here : row_at (rows ++ row ∷ []) k ≡ row = get_or_push rows row no_row k many in
    let grade : m.grade k ≡ grade_number row.grade = h.grade k (omega arith) ∙ ap (λ r. grade_number r.grade) here in
    let commands : m.commands k ≡ row.commands = h.commands k (omega arith) ∙ ap (λ r. r.commands) here in
    let events : m.events k ≡ row.events = h.events k (omega arith) ∙ ap (λ r. r.events) here in
    let own : moves m k ≡ row.commands * row.events = rw (commands, events) refl in
    let before : arrows_before (rows ++ row ∷ []) k ≡ length arrows = arrows_same (rows ++ row ∷ []) rows k old ∙ total in
    let aim_is : (j : ℕ) → j < length aims → aim m k j ≡ get_or aims j 0 = λ j lt. h.aims k j (omega arith) (omega (arith, own, long)) ∙ (ap (λ i. get_or (arrows ++ aims) (i + j) 0) before ∙ get_or-append-add arrows aims j 0) in
    let spelled = arrows_spelled m k (moves m k) aims (long ∙ sym own) aim_is in
    rw spelled (rw (grade, commands, events) refl)

-- k states that were read from the bytes bs, for any site that has their rows and arrows
pub record StatesSpelled (m : Arena) (n : ℕ) (bs : List ℕ) (k : ℕ) (rd : Read) : Type 0 where
  pub sound : Sound n k rd
  pub rest : All Byte rd.left
  pub spelled : Holds m rd.rows rd.arrows k → bs ≡ states_bytes m k ++ rd.left

states_spelled_step : (m : Arena) (n : ℕ) (bs : List ℕ) (k : ℕ) (a b : Read) → StatesSpelled m n bs k a → one_state n a ≡ Ok b → StatesSpelled m n bs (suc k) b
states_spelled_step m n bs k a b s e =
    let p = and_then_ok (row_in a.at (length a.arrows) a.left) _ b e in
    let row = p.0.what in
    let q = and_then_ok (arrows_in n (row.commands * row.events) (a.at + 4) p.0.left) _ b p.2 in
    let aims = q.0.items in
    let front : a.left ≡ 2 ∷ (grade_number row.grade ∷ (row.commands ∷ (row.events ∷ p.0.left))) = row_spelled a.at (length a.arrows) a.left p.0 p.1 in
    let tail : All Byte p.0.left = all_after (2 ∷ (grade_number row.grade ∷ (row.commands ∷ (row.events ∷ [])))) p.0.left (subst (All Byte) front s.rest) in
    let more = several_spelled (arrow_in n) 3 (numbered 3) (arrow_spelled n) (row.commands * row.events) (a.at + 4) p.0.left q.0 tail q.1 in
    let many = (arrows_sound n (row.commands * row.events) (a.at + 4) p.0.left q.0 q.1).many in
    let here : Holds m (a.rows ++ row ∷ []) (a.arrows ++ aims) (suc k) → a.left ≡ (row_bytes m k ++ arrows_bytes m k (moves m k)) ++ q.0.left = λ h. front ∙ (ap (λ z. 2 ∷ (grade_number row.grade ∷ (row.commands ∷ (row.events ∷ z)))) more.spelled ∙ ap (λ z. z ++ q.0.left) (sym (last_spelled m a.rows row a.arrows aims k s.sound.many s.sound.total many h))) in
    record {
      sound = state_step n k a b s.sound e;
      rest = subst (λ r. All Byte r.left) (ok_same q.2) more.rest;
      spelled = subst (λ r. Holds m r.rows r.arrows (suc k) → bs ≡ states_bytes m (suc k) ++ r.left) (ok_same q.2) (λ h. s.spelled (holds_before m a.rows row a.arrows aims k s.sound.many s.sound.total h) ∙ (ap (λ z. states_bytes m k ++ z) (here h) ∙ sym (append_assoc (states_bytes m k) (row_bytes m k ++ arrows_bytes m k (moves m k)) q.0.left)));
    }

states_spelled : (m : Arena) (n k : ℕ) (bs : List ℕ) (rd : Read) → All Byte bs → states_in n k bs ≡ Ok rd → StatesSpelled m n bs k rd
states_spelled m n k bs rd h e =
    repeated_keeps (one_state n) (StatesSpelled m n bs) (states_spelled_step m n bs) k _ rd (record {
      sound = record { many = refl; fine = refl; total = refl; aims = tt };
      rest = h;
      spelled = λ _. refl;
    }) e

-- the table on sheets that a sound reading was laid over has its rows and arrows
laid_holds : (n : ℕ) (rd : Read) (rows : List Row) (arrows : List ℕ) → Sound n n rd → length rd.rows ≤ length rows → length rd.arrows ≤ length arrows → Holds (table n (laid 0 rd.rows rows) (laid 0 rd.arrows arrows)) rd.rows rd.arrows n
laid_holds n rd rows arrows s row_room arrow_room =
    let new_rows = laid 0 rd.rows rows in
    let new_arrows = laid 0 rd.arrows arrows in
    let m = table n new_rows new_arrows in
    let same : (k : ℕ) → k < n → row_at new_rows k ≡ row_at rd.rows k = λ k lt. ap (λ j. row_at new_rows j) (sym (zero-add k)) ∙ laid_within 0 rd.rows rows k no_row (omega (arith, s.many)) (omega arith) in
    let commands : (k : ℕ) → k < n → m.commands k ≡ (row_at rd.rows k).commands = λ k lt. cond_within k n _ lt ∙ ap (λ r. r.commands) (same k lt) in
    let events : (k : ℕ) → k < n → m.events k ≡ (row_at rd.rows k).events = λ k lt. cond_within k n _ lt ∙ ap (λ r. r.events) (same k lt) in
    record {
      grade = λ k lt. cond_within k n _ lt ∙ ap (λ r. grade_number r.grade) (same k lt);
      commands = commands;
      events = events;
      aims = λ k i lt among.
          let row = row_at rd.rows k in
          let e = row.events in
          let ok = row_ok_is row (arrows_before rd.rows k) (every_at (row_fair rd.rows) n k s.fine lt) in
          let own : i < row.commands * e = rw (← commands k lt, ← events k lt) among in
          let a< : i / e < (row_at new_rows k).commands = rw (same k lt) (div_below i e row.commands ok.some_event own) in
          let b< : i % e < (row_at new_rows k).events = rw (same k lt) (mod-lt i ok.some_event) in
          let place : row.first + (i / e * e + i % e) ≡ arrows_before rd.rows k + i = rw (div-add-mod' i e, ok.begins) refl in
          let within : arrows_before rd.rows k + i < length rd.arrows = omega (arith, arrows_mono rd.rows (suc k) n lt, own, s.total) in
          ap (λ x. m.next k (i / x) (i % x)) (events k lt)
          ∙ (own_arrow n new_rows new_arrows k (i / e) (i % e) lt a< b<
          ∙ (ap (λ r. get_or new_arrows (r.first + (i / e * r.events + i % e)) 0) (same k lt)
          ∙ (ap (λ j. get_or new_arrows j 0) (place ∙ sym (zero-add (arrows_before rd.rows k + i)))
          ∙ laid_within 0 rd.arrows arrows (arrows_before rd.rows k + i) 0 within (omega arith))));
    }

-- a table that was read is written as the bytes that it was read from
pub table_spelled : (bs : List ℕ) (rd : Read) (rows : List Row) (arrows : List ℕ) → All Byte bs → table_in bs ≡ Ok rd → length rd.rows ≤ length rows → length rd.arrows ≤ length arrows → table_bytes (table (length rd.rows) (laid 0 rd.rows rows) (laid 0 rd.arrows arrows)) ≡ bs
table_spelled bs rd rows arrows h e row_room arrow_room =
    let p = and_then_ok (head_in bs) _ rd e in
    let n = p.0.what in
    let q = and_then_ok (states_in n n p.0.left) ended rd p.2 in
    let end = unless_ok (ltb 0 (length q.0.left)) 8 q.0.at _ rd q.2 in
    let same : q.0 ≡ rd = cc end.1 in
    let none : q.0.left ≡ [] = nil_from_length q.0.left (omega (arith, ltb-false 0 (length q.0.left) end.0)) in
    let none_left : rd.left ≡ [] = ap (λ r. r.left) (sym same) ∙ none in
    let front = head_spelled bs p.0 h p.1 in
    let tail : All Byte p.0.left = all_after (numbered 1 n) p.0.left (subst (All Byte) front h) in
    let m = table n (laid 0 rd.rows rows) (laid 0 rd.arrows arrows) in
    let st = states_spelled m n n p.0.left rd tail (q.1 ∙ ap Ok same) in
    let body : p.0.left ≡ states_bytes m n = st.spelled (laid_holds n rd rows arrows st.sound row_room arrow_room) ∙ (ap (λ z. states_bytes m n ++ z) none_left ∙ append-nil (states_bytes m n)) in
    rw st.sound.many (sym (front ∙ ap (λ z. numbered 1 n ++ z) body))
