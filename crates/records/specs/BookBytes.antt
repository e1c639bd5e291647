-- How a book is read from bytes: a head, then for each state its leaf and, where it is open, a reply to each
-- command. Commands, events, ranks and numbers are taken as they are.
use Rattle.std.specs.Prelude.{ℕ, ◌+◌, cond, not, List, [], ◌∷◌, ◌++◌, length, Ok, Result, ◌==◌, nat_lt}
use Rattle.site.specs.Arena.{Arena}
use Rattle.site.specs.Refusals.{Refusal, refuse, unless, and_then}
use Rattle.checker.specs.declared.leaves.Leaf.{Leaf}
use Rattle.checker.specs.declared.leaves.Leaf.TheVariants.{Covered, Open}
use Rattle.records.specs.Repeated.{repeated}
use Rattle.records.specs.TableBytes.{two_bytes, of_kind}
use Rattle.records.specs.Taken.{Found, Several, several_in}

-- the head's body, the number of states in two bytes: that of the site (else 3). What is left comes after it
abbrev pub book_head_body : ℕ → List ℕ → Result (List ℕ) Refusal
book_head_body n [] = refuse 1 0
book_head_body n (hi ∷ []) = refuse 1 0
book_head_body n (hi ∷ (lo ∷ left)) =
    unless (not (two_bytes hi lo == n)) 3 0 (Ok left)

-- the head is of kind 17 (hexadecimal 11)
abbrev pub book_head_in : ℕ → List ℕ → Result (List ℕ) Refusal
book_head_in n = of_kind 17 0 (book_head_body n)

-- a covered leaf's body: the command, and the rank in two bytes
abbrev pub covered_body : ℕ → List ℕ → Result (Found Leaf) Refusal
covered_body at [] = refuse 1 at
covered_body at (a ∷ []) = refuse 1 at
covered_body at (a ∷ (hi ∷ [])) = refuse 1 at
covered_body at (a ∷ (hi ∷ (lo ∷ left))) = Ok (record { what = Covered a (two_bytes hi lo); left = left })

-- an open leaf's body: both numbers, in two bytes each
abbrev pub open_body : ℕ → List ℕ → Result (Found Leaf) Refusal
open_body at [] = refuse 1 at
open_body at (uh ∷ []) = refuse 1 at
open_body at (uh ∷ (ul ∷ [])) = refuse 1 at
open_body at (uh ∷ (ul ∷ (wh ∷ []))) = refuse 1 at
open_body at (uh ∷ (ul ∷ (wh ∷ (wl ∷ left)))) =
    Ok (record { what = Open (two_bytes uh ul) (two_bytes wh wl); left = left })

-- a leaf is of kind 18 (hexadecimal 12) where it is covered, and of kind 19 (hexadecimal 13) where it is open
abbrev pub leaf_in : ℕ → List ℕ → Result (Found Leaf) Refusal
leaf_in at [] = refuse 1 at
leaf_in at (k ∷ bs) = cond (k == 18) (covered_body at bs) (of_kind 19 at (open_body at) (k ∷ bs))

-- how many bytes a leaf's record takes, and how many replies follow it at a state with c commands
abbrev pub leaf_width : Leaf → ℕ
leaf_width (Covered a r) = 4
leaf_width (Open u w) = 5

abbrev pub replies_due : Leaf → ℕ → ℕ
replies_due (Covered a r) c = 0
replies_due (Open u w) c = c

-- a reply's body: the event
abbrev pub reply_body : ℕ → List ℕ → Result (Found ℕ) Refusal
reply_body at [] = refuse 1 at
reply_body at (b ∷ left) = Ok (record { what = b; left = left })

-- a reply is of kind 20 (hexadecimal 14)
abbrev pub reply_in : ℕ → List ℕ → Result (Found ℕ) Refusal
reply_in at = of_kind 20 at (reply_body at)

-- k replies, from the offset `at` on, of two bytes each
abbrev pub replies_in : ℕ → ℕ → List ℕ → Result (Several ℕ) Refusal
replies_in k at bs = several_in reply_in 2 k at bs

-- what was read of a book: its leaves and the replies of each state, the offset after them, and the bytes
-- that are left
pub record BookRead : Type 0 where
  pub leaves : List Leaf
  pub replies : List (List ℕ)
  pub at : ℕ
  pub left : List ℕ

-- one state more: its leaf, and then its replies
abbrev pub one_leaf : Arena → BookRead → Result BookRead Refusal
one_leaf m rd =
    and_then (leaf_in rd.at rd.left) (λ leaf.
    and_then (replies_in (replies_due leaf.what (m.commands (length rd.leaves))) (rd.at + leaf_width leaf.what) leaf.left) (λ more.
    Ok (record { leaves = rd.leaves ++ leaf.what ∷ []; replies = rd.replies ++ more.items ∷ []; at = more.at; left = more.left })))

-- the first k states, from the bytes after the head
abbrev pub leaves_in : Arena → ℕ → List ℕ → Result BookRead Refusal
leaves_in m k bs = repeated (one_leaf m) k (record { leaves = []; replies = []; at = 3; left = bs })

-- no byte is left (else 8, at the first that is)
abbrev pub book_ended : BookRead → Result BookRead Refusal
book_ended rd = unless (nat_lt 0 (length rd.left)) 8 rd.at (Ok rd)

-- a whole book of the site: the head, a leaf for each state, and nothing after them
abbrev pub book_in : Arena → List ℕ → Result BookRead Refusal
book_in m bs =
    and_then (book_head_in m.states bs) (λ left. and_then (leaves_in m m.states left) book_ended)
