use Rattle.std.proofs.Common.{◌-◌}
use Rattle.tables.proofs.Halves.{Between}
use Rattle.tables.proofs.places.locate.Given as goal

abbrev pub invariant-loop-low : goal.invariant-loop-low
invariant-loop-low g l = Between l.key l.entries l.low l.high

abbrev pub decreases-loop-low : goal.decreases-loop-low
decreases-loop-low g l = l.high - l.low
