use Rattle.recovery.proofs.Applies.{compacted-roomy}
use Rattle.recovery.proofs.page_table.PageTable.make_room.Goals as goal

pub returns-then-self : goal.returns-then-self
returns-then-self c = λ top k. compacted-roomy top c.args.self.now c.compact.new.self k c.compact.ensures c.requires.live
