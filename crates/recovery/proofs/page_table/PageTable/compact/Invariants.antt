use Rattle.recovery.proofs.Compacts.{Moving}
use Rattle.recovery.proofs.page_table.PageTable.compact.Given as goal

abbrev pub invariant-loop-i : goal.invariant-loop-i
invariant-loop-i l = Moving l.initial.self l.self l.kept l.i
