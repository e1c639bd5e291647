-- The lines of a listing, piece by piece.
use Rattle.std.proofs.Common.{◌≡◌, ℕ, ◌+◌, ◌*◌, ◌<◌, ◌≤◌, List, ◌++◌, length, take, drop, Ok, decimal, Result, refl, ap, ◌∙◌, zero-add}
use Rattle.std.proofs.lemmas.List.{take_at}
use Rattle.std.proofs.lemmas.Bool.{le-ltb, lt-leb, cond-false}
use Rattle.site.specs.Arena.{Arena}
use Rattle.site.specs.Refusals.{Refusal}
use Rattle.site.proofs.Laid.{laid_whole}
use Rattle.checker.specs.Leaves.{leaf_at}
use Rattle.checker.specs.declared.leaves.Leaf.{Leaf}
use Rattle.records.specs.Lines.{head_text, head_answer, leaf_text, line_end, own_replies, state_text, state_answer}
use Rattle.records.specs.Buffers.{counted, buffer_after}
use Rattle.records.specs.Pens.{Wrote}
use Rattle.records.specs.declared.pen.Pen.{Pen}
use Rattle.records.proofs.Answered.{ok_same}
use Rattle.records.proofs.Putting.{put_then}

-- what a call that wrote its bytes has done
pub record BytesDone (a : Result (List ℕ) Refusal) (before : List ℕ) (r : ℕ) (after : List ℕ) : Type 0 where
  pub answer : Ok r ≡ counted a
  pub bytes : after ≡ buffer_after a before

pub bytes_put : {start end : Pen} (a : Result (List ℕ) Refusal) (text before : List ℕ) → a ≡ Ok text → start.at ≡ 0 → start.buffer.now ≡ before → Wrote text start end → BytesDone a before end.at end.buffer.now
bytes_put {start} {end} a text before e front holds p =
    record {
      answer = rw e (ap Ok (p.ends ∙ (ap (λ j. j + length text) front ∙ zero-add (length text))));
      bytes = rw e (p.lies ∙ rw (front, holds) refl);
    }

-- what the pen leaves is what the buffer holds in the end
pub rests : {x y z : List ℕ} → x ≡ y → y ≡ z → x ≡ z
rests p q = p ∙ q

-- the bytes at the buffer's front are those that were written
pub bytes_there : {before after : List ℕ} {r : ℕ} (a : Result (List ℕ) Refusal) (text : List ℕ) → a ≡ Ok text → length text ≤ length before → BytesDone a before r after → take r after ≡ text
bytes_there {before} {after} {r} a text e room d =
    let long : r ≡ length text = ok_same (d.answer ∙ ap counted e) in
    let lies : after ≡ text ++ drop (length text) before = d.bytes ∙ (ap (λ z. buffer_after z before) e ∙ laid_whole text before room) in
    rw (lies, long) (take_at text (drop (length text) before) (length text) refl)

-- the first line fits a buffer of 128 bytes
pub head_fits : (states covered left_open room : ℕ) → 128 ≤ room → head_answer states covered left_open room ≡ Ok (head_text states covered left_open)
head_fits states covered left_open room le = cond-false _ _ _ (le-ltb room 128 le)

-- a state of the site, with slices that are long enough, has its line
pub state_fits : (m : Arena) (leaves : List Leaf) (replies : List ℕ) (s room : ℕ) → m.states ≤ length leaves → 16 * m.states ≤ length replies → 128 ≤ room → s < m.states → state_answer m leaves replies s room ≡ Ok (state_text m leaves replies s)
state_fits m leaves replies s room a b c d =
    cond-false _ _ _ (le-ltb (length leaves) m.states a)
    ∙ (cond-false _ _ _ (le-ltb (length replies) (16 * m.states) b)
    ∙ (cond-false _ _ _ (le-ltb room 128 c) ∙ cond-false _ _ _ (lt-leb m.states s d)))

-- the line of a state, from its three pieces
pub state_put : {start one two end : Pen} (m : Arena) (leaves : List Leaf) (replies : List ℕ) (s : ℕ) (leaf : Leaf) (own : List ℕ) → leaf ≡ leaf_at leaves s → own ≡ own_replies m replies s → Wrote (decimal s) start one → Wrote (leaf_text leaf own) one two → Wrote line_end two end → Wrote (state_text m leaves replies s) start end
state_put m leaves replies s leaf own leaf_is own_is p q r =
    let text : leaf_text leaf own ≡ leaf_text (leaf_at leaves s) (own_replies m replies s) = rw (leaf_is, own_is) refl in
    put_then p (put_then (rw text at q) r)
