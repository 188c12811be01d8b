use Rattle.recovery.proofs.Settles.{settled}
use Rattle.recovery.proofs.page_table.PageTable.settle.Goals as goal

pub returns-clause-settled : goal.returns-clause-settled
returns-clause-settled c =
    settled c.args.self.now c.compact.new.self c.compact.ensures c.put_in_order.new.fragments c.put_in_order.ensures.front c.put_in_order.ensures.behind
