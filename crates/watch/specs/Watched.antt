-- What a watch above a site means: again a site.
use Rattle.std.specs.Prelude.{ℕ, ◌+◌, ◌*◌, ◌/◌, ◌%◌, cond, ◌&&◌, Ok, Result, nat_le, nat_lt}
use Rattle.site.specs.Arena.{Arena}
use Rattle.site.specs.Refusals.{Refusal, unless}
use Rattle.watch.specs.Watches.{Dial, turn, show, clear}

-- the number of states with a watch above a site
abbrev pub pile_states : Arena → Dial → ℕ
pile_states m w = m.states * w.positions

-- whether a watch fits: the number of states, or refused where they pass 8,192
abbrev pub fitted : Arena → Dial → Result ℕ Refusal
fitted m w = unless (nat_lt 8192 (pile_states m w)) 19 (pile_states m w) (Ok (pile_states m w))

-- the watch that a site wears: the clear one in place of one that does not fit
abbrev pub worn : Arena → Dial → Dial
worn m w = cond (nat_le (pile_states m w) 8192) w clear

-- state v of the site below with the watch in position p has the number v × m + p
abbrev pub state_below : Dial → ℕ → ℕ
state_below w s = s / w.positions

abbrev pub position : Dial → ℕ → ℕ
position w s = s % w.positions

-- the site with a watch that fits: the watch shows a grade in place of the one below and turns by the one below;
-- a number out of range is answered by 0
abbrev pub wearing : Arena → Dial → Arena
wearing m w =
    record {
      states = pile_states m w;
      grade = λ s. cond (nat_lt s (pile_states m w)) (show w (position w s) (m.grade (state_below w s))) 0;
      commands = λ s. m.commands (state_below w s);
      events = λ s. m.events (state_below w s);
      next = λ s a b.
          cond (nat_lt a (m.commands (state_below w s)) && nat_lt b (m.events (state_below w s))) (m.next (state_below w s) a b * w.positions + turn w (position w s) (m.grade (state_below w s))) 0;
    }

-- the site that a watch above a site stands for
abbrev pub watched : Arena → Dial → Arena
watched m w = wearing m (worn m w)
