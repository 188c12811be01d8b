use Rattle.std.proofs.Common.{◌<◌, length, arith}
use Rattle.recovery.proofs.Compacts.{moving-not, moving_set, moving_end}
use Rattle.recovery.proofs.page_table.PageTable.compact.Goals.{then-is_alive, else-is_alive}
use Rattle.recovery.proofs.page_table.PageTable.compact.Goals as goal

pub loop-i-preserved : goal.loop-i-preserved
loop-i-preserved c =
    let m = c.loop-i.invariant in
    let h : c.loop-i.i < length c.loop-i.self.fragments.now = omega (arith, m.moved.long, c.requires) in
    elim c.if-is_alive.branch [
      | then-is_alive w ↦ rw (w.self-is, w.kept-is) (moving_set c.args.self.now c.loop-i.self c.loop-i.kept c.loop-i.i m _ h c.is_alive.result c.is_alive.ensures w.if-is_alive.true)
      | else-is_alive w ↦ rw (w.self-is, w.kept-is) (moving-not c.args.self.now c.loop-i.self c.loop-i.kept c.loop-i.i m _ h c.is_alive.result c.is_alive.ensures w.if-is_alive.false)
    ]

pub returns : goal.returns
returns c = moving_end c.args.self.now c.loop-i.self c.loop-i.kept c.loop-i.i c.loop-i.invariant (omega arith)
