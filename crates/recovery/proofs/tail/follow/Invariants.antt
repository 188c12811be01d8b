use Rattle.recovery.proofs.Tails.{Following}
use Rattle.recovery.proofs.tail.follow.Given as goal

abbrev pub invariant-loop-n : goal.invariant-loop-n
invariant-loop-n l = Following l.size l.start l.segments l.n l.absent
