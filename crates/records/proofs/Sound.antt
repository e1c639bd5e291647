-- A table that was read is fair: its rows and arrows are in order on any sheets that they were laid over.
use Rattle.std.proofs.Common.{◌≡◌, ℕ, zero, suc, ◌+◌, ◌*◌, ◌<◌, ◌≤◌, Bool, true, ◌||◌, eqb, ltb, leb, List, [], ◌∷◌, ◌++◌, length, get_or, Ok, sym, refl, ap, ◌∙◌, subst, zero-add, arith}
use Rattle.std.specs.List.{AllByRecursion as All}
use Rattle.std.proofs.ByRecursion.{All-append, All-get_or}
use Rattle.std.proofs.lemmas.List.{length_push, length-append, get_or_push, get_or_append_left}
use Rattle.std.proofs.lemmas.Bool.{ltb-false, leb-false, eqb-false, or_parts, and_from, le-leb, lt-ltb}
use Rattle.site.specs.Counting.{every}
use Rattle.site.specs.Laid.{laid}
use Rattle.site.specs.Tables.{no_row, row_at, row_ok, row_fair, arrow_fair, arrows_before, fair}
use Rattle.site.specs.declared.sheets.Row.{Row}
use Rattle.site.proofs.Laid.{laid_within, length_laid}
use Rattle.records.specs.TableBytes.{two_bytes, head_body, head_in, row_in, arrow_body, arrow_in, arrows_in, Read, one_state, states_in, ended, table_in}
use Rattle.records.proofs.Answered.{never, ok_same, unless_ok, and_then_ok, repeated_keeps}
use Rattle.records.specs.Taken.{Found, Several}
use Rattle.records.proofs.Taking.{SeveralSound, several_sound}
use Rattle.records.proofs.Scans.{of_kind_ok, row_read_is}

-- what holds of each number below n
pub every_from : (p : ℕ → Bool) (n : ℕ) → ((k : ℕ) → k < n → p k ≡ true) → every p n ≡ true
every_from p zero h = refl
every_from p (suc n) h = and_from (p n) (every p n) (h n (omega arith)) (every_from p n (λ k lt. h k (omega arith)))

-- tests that agree below n
pub every_same : (p q : ℕ → Bool) (n : ℕ) → ((k : ℕ) → k < n → p k ≡ q k) → every p n ≡ every q n
every_same p q zero h = refl
every_same p q (suc n) h = rw (h n (omega arith), every_same p q n (λ k lt. h k (omega arith))) refl

-- rows that agree below k have as many arrows
pub arrows_same : (xs ys : List Row) (k : ℕ) → ((s : ℕ) → s < k → row_at xs s ≡ row_at ys s) → arrows_before xs k ≡ arrows_before ys k
arrows_same xs ys zero h = refl
arrows_same xs ys (suc k) h = rw (h k (omega arith), arrows_same xs ys k (λ s lt. h s (omega arith))) refl

-- and are in order together
pub rows_same : (xs ys : List Row) (k : ℕ) → ((s : ℕ) → s < k → row_at xs s ≡ row_at ys s) → every (row_fair xs) k ≡ every (row_fair ys) k
rows_same xs ys k h =
    every_same (row_fair xs) (row_fair ys) k (λ s lt. rw (h s lt, arrows_same xs ys s (λ t le. h t (omega arith))) refl)

arrow_body_below : (n at : ℕ) (bs : List ℕ) (f : Found ℕ) → arrow_body n at bs ≡ Ok f → f.what < n
arrow_body_below n at [] f e = never e
arrow_body_below n at (hi ∷ []) f e = never e
arrow_body_below n at (hi ∷ (lo ∷ left)) f e =
    let p = unless_ok (leb n (two_bytes hi lo)) 7 at _ f e in
    let same : two_bytes hi lo ≡ f.what = cc in
    omega (arith, leb-false n (two_bytes hi lo) p.0, same)

-- an arrow leads to one of the states
arrow_below : (n at : ℕ) (bs : List ℕ) (f : Found ℕ) → arrow_in n at bs ≡ Ok f → f.what < n
arrow_below n at [] f e = never e
arrow_below n at (k ∷ bs) f e = arrow_body_below n at bs f (of_kind_ok 3 at k (arrow_body n at) bs f e)

-- arrows that were read are k, and lead to the states
pub arrows_sound : (n k at : ℕ) (bs : List ℕ) (a : Several ℕ) → arrows_in n k at bs ≡ Ok a → SeveralSound (λ t. t < n) k a
arrows_sound n = several_sound (arrow_in n) 3 (λ t. t < n) (arrow_below n)

-- k states that were read: their rows are in order, and their arrows are all there and lead to the states
pub record Sound (n k : ℕ) (rd : Read) : Type 0 where
  pub many : length rd.rows ≡ k
  pub fine : every (row_fair rd.rows) k ≡ true
  pub total : arrows_before rd.rows k ≡ length rd.arrows
  pub aims : All (λ t. t < n) rd.arrows

-- one row more
row_pushed : (rows : List Row) (row : Row) (k total : ℕ) → length rows ≡ k → every (row_fair rows) k ≡ true → arrows_before rows k ≡ total → row_ok row total ≡ true → (every (row_fair (rows ++ row ∷ [])) (suc k) ≡ true) × (arrows_before (rows ++ row ∷ []) (suc k) ≡ total + row.commands * row.events)
row_pushed rows row k total many fine sum ok =
    let old : (s : ℕ) → s < k → row_at (rows ++ row ∷ []) s ≡ row_at rows s = λ s lt. get_or_append_left rows (row ∷ []) no_row s (rw many lt) in
    let here : row_at (rows ++ row ∷ []) k ≡ row = get_or_push rows row no_row k many in
    let before : arrows_before (rows ++ row ∷ []) k ≡ total = arrows_same (rows ++ row ∷ []) rows k old ∙ sum in
    (and_from _ _ (rw (here, before) ok) (rows_same (rows ++ row ∷ []) rows k old ∙ fine), rw (here, before) refl)

-- one state more
sound_more : (n k : ℕ) (a : Read) (row : Row) (aims : List ℕ) (at : ℕ) (left : List ℕ) → Sound n k a → row_ok row (length a.arrows) ≡ true → length aims ≡ row.commands * row.events → All (λ t. t < n) aims → Sound n (suc k) (record { rows = a.rows ++ row ∷ []; arrows = a.arrows ++ aims; at = at; left = left })
sound_more n k a row aims at left s ok many all =
    let pushed = row_pushed a.rows row k (length a.arrows) s.many s.fine s.total ok in
    record {
      many = length_push a.rows row ∙ omega (arith, s.many);
      fine = pushed.0;
      total = pushed.1 ∙ sym (length-append a.arrows aims ∙ ap (λ j. length a.arrows + j) many);
      aims = All-append (λ t. t < n) a.arrows aims s.aims all;
    }

pub state_step : (n k : ℕ) (a b : Read) → Sound n k a → one_state n a ≡ Ok b → Sound n (suc k) b
state_step n k a b s e =
    let p = and_then_ok (row_in a.at (length a.arrows) a.left) _ b e in
    let row = p.0.what in
    let q = and_then_ok (arrows_in n (row.commands * row.events) (a.at + 4) p.0.left) _ b p.2 in
    let more = arrows_sound n (row.commands * row.events) (a.at + 4) p.0.left q.0 q.1 in
    let r = row_read_is a.at (length a.arrows) a.left p.0 p.1 in
    subst (Sound n (suc k)) (ok_same q.2) (sound_more n k a row q.0.items q.0.at q.0.left s r.ok more.many more.all)

pub states_sound : (n k : ℕ) (bs : List ℕ) (rd : Read) → states_in n k bs ≡ Ok rd → Sound n k rd
states_sound n k bs rd e =
    repeated_keeps (one_state n) (Sound n) (state_step n) k _ rd (record { many = refl; fine = refl; total = refl; aims = tt }) e

head_body_range : (bs : List ℕ) (f : Found ℕ) → head_body bs ≡ Ok f → (1 ≤ f.what) × (f.what ≤ 1024)
head_body_range [] f e = never e
head_body_range (hi ∷ []) f e = never e
head_body_range (hi ∷ (lo ∷ left)) f e =
    let p = unless_ok (eqb (two_bytes hi lo) 0 || ltb 1024 (two_bytes hi lo)) 3 0 _ f e in
    let q = or_parts (eqb (two_bytes hi lo) 0) (ltb 1024 (two_bytes hi lo)) p.0 in
    let same : two_bytes hi lo ≡ f.what = cc in
    let some = eqb-false (two_bytes hi lo) 0 q.0 in
    let few = ltb-false 1024 (two_bytes hi lo) q.1 in
    (omega (arith, same), omega (arith, same))

-- a head says 1 to 1,024 states
pub head_range : (bs : List ℕ) (f : Found ℕ) → head_in bs ≡ Ok f → (1 ≤ f.what) × (f.what ≤ 1024)
head_range [] f e = never e
head_range (k ∷ bs) f e = head_body_range bs f (of_kind_ok 1 0 k head_body bs f e)

-- sound rows and arrows are fair on the sheets that they are laid over
fair_laid : (n : ℕ) (rd : Read) (rows : List Row) (arrows : List ℕ) → 1 ≤ n → n ≤ 1024 → Sound n n rd → length rd.rows ≤ length rows → length rd.arrows ≤ length arrows → fair n (laid 0 rd.rows rows) (laid 0 rd.arrows arrows) ≡ true
fair_laid n rd rows arrows some few s row_room arrow_room =
    let new_rows = laid 0 rd.rows rows in
    let new_arrows = laid 0 rd.arrows arrows in
    let same : (k : ℕ) → k < n → row_at new_rows k ≡ row_at rd.rows k = λ k lt. ap (λ j. row_at new_rows j) (sym (zero-add k)) ∙ laid_within 0 rd.rows rows k no_row (omega (arith, s.many)) (omega arith) in
    let sum : arrows_before new_rows n ≡ length rd.arrows = arrows_same new_rows rd.rows n same ∙ s.total in
    let aim : (k : ℕ) → k < length rd.arrows → get_or new_arrows k 0 < n = λ k lt. rw (ap (λ j. get_or new_arrows j 0) (sym (zero-add k)) ∙ laid_within 0 rd.arrows arrows k 0 lt (omega arith)) (All-get_or (λ t. t < n) rd.arrows k 0 lt s.aims) in
    and_from _ _ (le-leb 1 n some)
    (and_from _ _ (le-leb n 8192 (omega arith))
    (and_from _ _ (le-leb n (length new_rows) (rw (length_laid 0 rd.rows rows) (omega (arith, s.many))))
    (and_from _ _ (rows_same new_rows rd.rows n same ∙ s.fine)
    (and_from _ _ (le-leb _ (length new_arrows) (rw (sum, length_laid 0 rd.arrows arrows) arrow_room))
    (rw sum (every_from (arrow_fair n new_arrows) (length rd.arrows) (λ k lt. lt-ltb (get_or new_arrows k 0) n (aim k lt))))))))

-- a table that was read is fair on sheets with room for it
pub table_sound : (bs : List ℕ) (rd : Read) (rows : List Row) (arrows : List ℕ) → table_in bs ≡ Ok rd → length rd.rows ≤ length rows → length rd.arrows ≤ length arrows → fair (length rd.rows) (laid 0 rd.rows rows) (laid 0 rd.arrows arrows) ≡ true
table_sound bs rd rows arrows e row_room arrow_room =
    let p = and_then_ok (head_in bs) _ rd e in
    let n = p.0.what in
    let q = and_then_ok (states_in n n p.0.left) ended rd p.2 in
    let same : q.0 ≡ rd = cc (unless_ok (ltb 0 (length q.0.left)) 8 q.0.at _ rd q.2).1 in
    let s : Sound n n rd = states_sound n n p.0.left rd (q.1 ∙ ap Ok same) in
    let range = head_range bs p.0 p.1 in
    rw s.many (fair_laid n rd rows arrows range.0 range.1 s row_room arrow_room)
