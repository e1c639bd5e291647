-- The bytes of a book: a head, then for each state its leaf and, where it is open, a reply to each command.
use Rattle.std.specs.Prelude.{ℕ, zero, suc, ◌+◌, ◌*◌, ◌/◌, ◌%◌, List, [], ◌∷◌, ◌++◌, length, Ok, Result, nat_lt}
use Rattle.std.specs.List.{flat_map}
use Rattle.site.specs.Arena.{Arena}
use Rattle.site.specs.Refusals.{Refusal, unless}
use Rattle.checker.specs.Leaves.{leaf_at}
use Rattle.checker.specs.declared.leaves.Leaf.{Leaf}
use Rattle.checker.specs.declared.leaves.Leaf.TheVariants.{Covered, Open}
use Rattle.records.specs.Lines.{own_replies}
use Rattle.records.specs.TableWritten.{numbered}

-- a reply is of kind 20 (hexadecimal 14)
abbrev pub reply_bytes : ℕ → List ℕ
reply_bytes b = 20 ∷ (b ∷ [])

-- a covered leaf is of kind 18 (hexadecimal 12), the command and the rank; an open one is of kind 19
-- (hexadecimal 13), both numbers, and its replies follow. Ranks and numbers take two bytes, the high byte first
abbrev pub leaf_bytes : Leaf → List ℕ → List ℕ
leaf_bytes (Covered a r) own = 18 ∷ (a ∷ (r / 256 ∷ (r % 256 ∷ [])))
leaf_bytes (Open u w) own =
    19 ∷ (u / 256 ∷ (u % 256 ∷ (w / 256 ∷ (w % 256 ∷ [])))) ++ flat_map reply_bytes own

-- the leaves of the first k states
abbrev pub leaves_bytes : Arena → List Leaf → List ℕ → ℕ → List ℕ
leaves_bytes m leaves replies zero = []
leaves_bytes m leaves replies (suc k) =
    leaves_bytes m leaves replies k ++ leaf_bytes (leaf_at leaves k) (own_replies m replies k)

-- the book: the head is of kind 17 (hexadecimal 11), and has the number of states
abbrev pub book_bytes : Arena → List Leaf → List ℕ → List ℕ
book_bytes m leaves replies = numbered 17 m.states ++ leaves_bytes m leaves replies m.states

-- how many bytes a leaf takes, with c replies if it is open
abbrev pub leaf_long : Leaf → ℕ → ℕ
leaf_long (Covered a r) c = 4
leaf_long (Open u w) c = 5 + 2 * c

-- how many the first k take
abbrev pub leaves_long : Arena → List Leaf → ℕ → ℕ
leaves_long m leaves zero = 0
leaves_long m leaves (suc k) = leaves_long m leaves k + leaf_long (leaf_at leaves k) (m.commands k)

-- how many the book takes
abbrev pub book_long : Arena → List Leaf → ℕ
book_long m leaves = 3 + leaves_long m leaves m.states

-- the book of a site, for a buffer with so much room: too few leaves, too few replies and too little room
-- are refused by 9 with the number needed. Nothing is asked of the leaves and the replies
abbrev pub book_answer : Arena → List Leaf → List ℕ → ℕ → Result (List ℕ) Refusal
book_answer m leaves replies room =
    unless (nat_lt (length leaves) m.states) 9 m.states
    (unless (nat_lt (length replies) (16 * m.states)) 9 (16 * m.states)
    (unless (nat_lt room (book_long m leaves)) 9 (book_long m leaves) (Ok (book_bytes m leaves replies))))
