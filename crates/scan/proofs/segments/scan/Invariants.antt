use Rattle.tables.specs.Views.{contents, Same}
use Rattle.scan.proofs.Gathers.{Scanning}
use Rattle.scan.proofs.segments.scan.Given as goal

abbrev pub invariant-loop-i : goal.invariant-loop-i
invariant-loop-i g l = Scanning l.size (g.D.ReadAt.bytes l.device) l.low l.i l.top (contents l.order) × Same l.initial.order l.order
