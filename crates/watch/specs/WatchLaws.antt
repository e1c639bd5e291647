-- Laws of watches: above every lawful site, every watch gives a lawful site.
use Rattle.std.specs.Prelude.{◌≡◌, ℕ, suc, ◌+◌, ◌*◌, ◌<◌, ◌≤◌, true, ◌&&◌, nat_le, nat_lt, slice_index, refl}
use Rattle.std.proofs.Common.{mul-le-mul, mul-le-mul_right, suc-mul, mod-lt, div-lt_iff_lt-mul, le-div_iff_mul-le, arith}
use Rattle.std.proofs.lemmas.Bool.{and_parts, leb-true, ltb-true, cond-true, cond-false, cond_both, lt-ltb, le-ltb, and_from, and_left, and_right}
use Rattle.site.specs.Arena.{Arena, Lawful}
use Rattle.site.specs.Counting.{every}
use Rattle.site.specs.CountingLaws.{every_at}
use Rattle.site.specs.TableLaws.{cond_past}
use Rattle.watch.specs.Watched.{pile_states, worn, state_below, position, wearing, watched}
use Rattle.watch.specs.Watches.{Dial, turn, show, entry_fair, watch_range, clear}

-- what a watch in range is
pub record Fair (w : Dial) : Type 0 where
  pub some : 1 ≤ w.positions
  pub few : w.positions ≤ 8
  pub turns_low : (p g : ℕ) → p < w.positions → g ≤ 2 → turn w p g < w.positions
  pub shows_low : (p g : ℕ) → p < w.positions → g ≤ 2 → show w p g ≤ 2

pub watch_range_is : (w : Dial) → watch_range w ≡ true → Fair w
watch_range_is w h =
    let p = and_parts (nat_le 1 w.positions) (nat_le w.positions 8 && every (entry_fair w) (3 * w.positions)) h in
    let q = and_parts (nat_le w.positions 8) (every (entry_fair w) (3 * w.positions)) p.1 in
    let entry : (i : ℕ) → i < 3 * w.positions → (nat_lt (slice_index w.turns i) w.positions ≡ true) × (nat_le (slice_index w.shows i) 2 ≡ true) = λ i lt. and_parts (nat_lt (slice_index w.turns i) w.positions) (nat_le (slice_index w.shows i) 2) (every_at (entry_fair w) (3 * w.positions) i q.1 lt) in
    record {
      some = leb-true 1 w.positions p.0;
      few = leb-true w.positions 8 q.0;
      turns_low = λ p g p< g≤. ltb-true _ _ (entry (p * 3 + g) (omega arith)).0;
      shows_low = λ p g p< g≤. leb-true _ _ (entry (p * 3 + g) (omega arith)).1;
    }

pub clear_fair : Fair clear
clear_fair = watch_range_is clear refl

-- the watch that is worn is in range and fits
pub worn_fair : (m : Arena) (w : Dial) → Fair w → Fair (worn m w)
worn_fair m w f = cond_both (nat_le (pile_states m w) 8192) w clear Fair (λ _. f) (λ _. clear_fair)

pub worn_fits : (m : Arena) (w : Dial) → m.states ≤ 8192 → pile_states m (worn m w) ≤ 8192
worn_fits m w le =
    cond_both (nat_le (pile_states m w) 8192) w clear (λ x. pile_states m x ≤ 8192) (λ e. leb-true (pile_states m w) 8192 e) (λ _. omega arith)

module _ (m : Arena) (w : Dial) (law : Lawful m) (f : Fair w) where
  -- the state below and the position of a state
  pub below_low : (s : ℕ) → s < pile_states m w → state_below w s < m.states
  below_low s lt = (div-lt_iff_lt-mul f.some).1 lt

  below_past : (s : ℕ) → pile_states m w ≤ s → m.states ≤ state_below w s
  below_past s le = (le-div_iff_mul-le f.some).1 le

  pub position_low : (s : ℕ) → position w s < w.positions
  position_low s = mod-lt s f.some

  -- a state of the site below in a position of the watch
  pub pile_low : (v p : ℕ) → v < m.states → p < w.positions → v * w.positions + p < pile_states m w
  pile_low v p v< p< =
      let up : suc v * w.positions ≤ m.states * w.positions = mul-le-mul_right w.positions v< in
      omega (arith, suc-mul v w.positions)

  -- a move of the state below
  pub own_turn : (s a b : ℕ) → a < m.commands (state_below w s) → b < m.events (state_below w s) → (wearing m w).next s a b ≡ m.next (state_below w s) a b * w.positions + turn w (position w s) (m.grade (state_below w s))
  own_turn s a b a< b< =
      cond-true (nat_lt a (m.commands (state_below w s)) && nat_lt b (m.events (state_below w s))) _ 0 (and_from _ _ (lt-ltb _ _ a<) (lt-ltb _ _ b<))

  pub turn_low : (s : ℕ) → turn w (position w s) (m.grade (state_below w s)) < w.positions
  turn_low s = f.turns_low (position w s) (m.grade (state_below w s)) (position_low s) (law.few_grades (state_below w s))

  pub wearing_lawful : pile_states m w ≤ 8192 → Lawful (wearing m w)
  wearing_lawful fits =
      record {
        inhabited = mul-le-mul law.inhabited f.some;
        limited = fits;
        few_grades = λ s. cond_both (nat_lt s (pile_states m w)) (show w (position w s) (m.grade (state_below w s))) 0 (λ x. x ≤ 2) (λ _. f.shows_low (position w s) (m.grade (state_below w s)) (position_low s) (law.few_grades (state_below w s))) (λ _. omega arith);
        some_command = λ s lt. law.some_command (state_below w s) (below_low s lt);
        few_commands = λ s. law.few_commands (state_below w s);
        some_event = λ s lt. law.some_event (state_below w s) (below_low s lt);
        few_events = λ s. law.few_events (state_below w s);
        closed = λ s a b s< a< b<. rw (own_turn s a b a< b<) (pile_low (m.next (state_below w s) a b) _ (law.closed (state_below w s) a b (below_low s s<) a< b<) (turn_low s));
        no_grade = λ s le. cond_past s (pile_states m w) (show w (position w s) (m.grade (state_below w s))) le;
        no_commands = λ s le. law.no_commands (state_below w s) (below_past s le);
        no_events = λ s le. law.no_events (state_below w s) (below_past s le);
        no_command = λ s a b le. cond-false (nat_lt a (m.commands (state_below w s)) && nat_lt b (m.events (state_below w s))) _ 0 (and_left _ _ (le-ltb _ _ le));
        no_event = λ s a b le. cond-false (nat_lt a (m.commands (state_below w s)) && nat_lt b (m.events (state_below w s))) _ 0 (and_right (nat_lt a (m.commands (state_below w s))) _ (le-ltb _ _ le));
      }

-- every watch above every lawful site gives a lawful site, and so does a pile of any height
pub watched_lawful : (m : Arena) (w : Dial) → Lawful m → watch_range w ≡ true → Lawful (watched m w)
watched_lawful m w law ok =
    wearing_lawful m (worn m w) law (worn_fair m w (watch_range_is w ok)) (worn_fits m w law.limited)
