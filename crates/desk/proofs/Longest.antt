-- The longest book: there is room for every one.
use Rattle.std.proofs.Common.{◌≡◌, ℕ, zero, suc, ◌+◌, ◌*◌, ◌≤◌, List, length, Ok, Err, Result, ap, ◌∙◌, arith}
use Rattle.site.specs.Arena.{Arena, Lawful}
use Rattle.site.specs.Refusals.{Refusal}
use Rattle.checker.specs.Leaves.{leaf_at}
use Rattle.checker.specs.declared.leaves.Leaf.{Leaf}
use Rattle.checker.specs.declared.leaves.Leaf.TheVariants.{Covered, Open}
use Rattle.records.specs.BookWritten.{leaf_long, leaves_long, book_bytes, book_answer}
use Rattle.records.specs.Buffers.{counted}
use Rattle.records.proofs.BookPuts.{book_fits, leaves_bytes_long}

leaf_few : (leaf : Leaf) (c : ℕ) → c ≤ 16 → leaf_long leaf c ≤ 37
leaf_few (Covered a r) c few = omega arith
leaf_few (Open u w) c few = omega arith

leaves_few : (m : Arena) → Lawful m → (leaves : List Leaf) (k : ℕ) → leaves_long m leaves k ≤ 37 * k
leaves_few m lawful leaves zero = omega arith
leaves_few m lawful leaves (suc k) =
    omega (arith, leaves_few m lawful leaves k, leaf_few (leaf_at leaves k) (m.commands k) (lawful.few_commands k))

-- a book is written wherever there are 37 bytes for each state
pub book_made : (m : Arena) → Lawful m → (leaves : List Leaf) (replies : List ℕ) (room : ℕ) → m.states ≤ length leaves → 16 * m.states ≤ length replies → 3 + 37 * m.states ≤ room → book_answer m leaves replies room ≡ Ok (book_bytes m leaves replies)
book_made m lawful leaves replies room long wide enough =
    book_fits m leaves replies room long wide (omega (arith, leaves_few m lawful leaves m.states))

-- and is no longer than that
pub book_short : (m : Arena) → Lawful m → (leaves : List Leaf) (replies : List ℕ) → 16 * m.states ≤ length replies → length (book_bytes m leaves replies) ≤ 3 + 37 * m.states
book_short m lawful leaves replies wide =
    omega (arith, leaves_bytes_long m lawful leaves replies m.states (omega arith) wide, leaves_few m lawful leaves m.states)

-- what is made is not refused
pub not_refused : (e : Refusal) (r : Result (List ℕ) Refusal) (bytes : List ℕ) → Err e ≡ counted r → r ≡ Ok bytes → ⊥
not_refused e r bytes no_way is =
    let both : Err e ≡ Ok (length bytes) = no_way ∙ ap counted is in
    let z : ◌≡◌ {A = ℕ} 0 1 = cc in
    absurd (omega arith)
