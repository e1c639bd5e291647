-- A floor that was read from bytes: the table in them, on sheets of its own with room for every table.
use Rattle.std.specs.Prelude.{◌≡◌, ℕ, true, List, length, take, replicate, Ok, Err, vec_items, Result}
use Rattle.site.specs.Arena.{Arena}
use Rattle.site.specs.Refusals.{Refusal, told, and_then}
use Rattle.site.specs.Tables.{fair, made_from}
use Rattle.site.specs.declared.grades.Grade.TheVariants.{Ordinary}
use Rattle.site.specs.declared.sheets.Row.{Row}
use Rattle.records.specs.TableBytes.{Read}
use Rattle.records.specs.TableRead.{table_read, sized, rows_after, arrows_after}
use Rattle.desk.specs.declared.failures.Failure.{Failure}
use Rattle.desk.specs.declared.failures.Failure.TheVariants.{Refused, NoMemory}
use Rattle.desk.specs.declared.floors.Floor.{Floor}

-- the table in the bytes, for sheets with room for the largest
abbrev pub held : List ℕ → Result Read Refusal
held bs = table_read bs 1024 16384

-- the site that a table stands for
abbrev pub site_of : Read → Arena
site_of rd = made_from (length rd.rows) rd.rows rd.arrows

-- what is made of the floor that the bytes hold, or the refusal of the bytes
abbrev pub of_floor : {T : Type 0} → List ℕ → (Arena → T) → Result T Refusal
of_floor bs make = and_then (held bs) (λ rd. Ok (make (site_of rd)))

-- the rows and the arrows that were read
abbrev pub sheets_in : Result Read Refusal → Result (List Row × List ℕ) Refusal
sheets_in r = and_then r (λ rd. Ok (rd.rows, rd.arrows))

-- the site that a floor's sheets stand for
abbrev pub floor_site : Floor → Arena
floor_site f = made_from f.states (vec_items f.rows) (vec_items f.arrows)

-- a row of a new sheet
abbrev pub blank : Row
blank = record { grade = Ordinary; commands = 0; events = 0; first = 0 }

-- the floor that the bytes hold: what reading lays over new sheets, whose fronts are just the rows and arrows of the
-- table in the bytes, and sheets that make a table; or reading's refusal; or want of memory
abbrev pub FloorOf : List ℕ → Result Floor Failure → Type 0
FloorOf bs (Ok f) =
    ((arrows : ℕ) × (Ok (record { states = f.states; arrows = arrows }) ≡ sized (held bs)) × (Ok (take f.states (vec_items f.rows), take arrows (vec_items f.arrows)) ≡ sheets_in (held bs)))
    × (vec_items f.rows ≡ rows_after (held bs) (replicate 1024 blank))
    × (vec_items f.arrows ≡ arrows_after (held bs) (replicate 16384 0))
    × (fair f.states (vec_items f.rows) (vec_items f.arrows) ≡ true)
FloorOf bs (Err (Refused fault)) = Err (told fault) ≡ sized (held bs)
FloorOf bs (Err NoMemory) = Unit {0}
