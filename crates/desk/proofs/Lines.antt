-- Lines that are put into a buffer and added behind others.
use Rattle.std.proofs.Common.{◌≡◌, ℕ, ◌-◌, ◌*◌, ◌<◌, ◌≤◌, ltb, leb, List, length, take, drop, Ok, Result, ap, ◌∙◌, arith}
use Rattle.std.proofs.lemmas.List.{take_at}
use Rattle.std.proofs.lemmas.Bool.{cond-false, le-ltb, lt-leb}
use Rattle.site.specs.Arena.{Arena}
use Rattle.site.specs.Refusals.{Refusal}
use Rattle.site.proofs.Laid.{laid_whole}
use Rattle.checker.specs.declared.leaves.Leaf.{Leaf}
use Rattle.records.specs.Buffers.{counted, buffer_after}
use Rattle.records.specs.Lines.{state_answer, state_text}

pub same_number : {E : Type 0} {x y : ℕ} → ◌≡◌ {A = Result ℕ E} (Ok x) (Ok y) → x ≡ y
same_number e = cc

-- the front of a buffer onto which a text was put is the text
pub text_is : (r : Result (List ℕ) Refusal) (text buffer after : List ℕ) (n : ℕ) → r ≡ Ok text → Ok n ≡ counted r → after ≡ buffer_after r buffer → n ≤ length buffer → take n after ≡ text
text_is r text buffer after n is count put room =
    let long : n ≡ length text = same_number (count ∙ ap counted is) in
    ap (take n) (put ∙ (ap (λ x. buffer_after x buffer) is ∙ laid_whole text buffer (omega arith)))
    ∙ take_at text (drop (length text) buffer) n (omega arith)

pub front_is : (r : Result (List ℕ) Refusal) (text buffer after : List ℕ) (n : ℕ) → r ≡ Ok text → Ok n ≡ counted r → after ≡ buffer_after r buffer → n ≤ length buffer → take (n - 0) after ≡ text
front_is r text buffer after n is count put room =
    let same : n - 0 ≡ n = omega arith in
    ap (λ k. take k after) same ∙ text_is r text buffer after n is count put room

-- the line of a state of the site, in slices and a buffer that are long enough
pub state_line_is : (m : Arena) (leaves : List Leaf) (replies : List ℕ) (s room : ℕ) → m.states ≤ length leaves → 16 * m.states ≤ length replies → s < m.states → 128 ≤ room → state_answer m leaves replies s room ≡ Ok (state_text m leaves replies s)
state_line_is m leaves replies s room long wide s< room≤ =
    cond-false (ltb (length leaves) m.states) _ _ (le-ltb (length leaves) m.states long)
    ∙ (cond-false (ltb (length replies) (16 * m.states)) _ _ (le-ltb (length replies) (16 * m.states) wide)
    ∙ (cond-false (ltb room 128) _ _ (le-ltb room 128 room≤)
    ∙ cond-false (leb m.states s) _ _ (lt-leb m.states s s<)))
