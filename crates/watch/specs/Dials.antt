-- What a watch has been set to.
use Rattle.watch.specs.Watches.{Dial, entries}
use Rattle.watch.specs.declared.watches.Watch.{Watch}

-- its positions, turns and shows
abbrev pub dial : Watch → Dial
dial w = entries w.positions w.turns w.shows
