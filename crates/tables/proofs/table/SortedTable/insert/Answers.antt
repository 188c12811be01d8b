use Rattle.tables.proofs.Layouts.{holds_replaced, holds_inserted}
use Rattle.tables.proofs.table.SortedTable.insert.Goals as goal

pub invariant_of-self : goal.invariant_of-self
invariant_of-self g c =
    let h = holds_replaced c.args.self.now (record { key = c.args.key; value = c.args.value }) c.in-Ok.at c.in-Ok.ensures.located in
    record { within = h.within; ordered = h.ordered; clean = h.shown }

pub returns-in-Ok-clause-contents : goal.returns-in-Ok-clause-contents
returns-in-Ok-clause-contents g c =
    (holds_replaced c.args.self.now (record { key = c.args.key; value = c.args.value }) c.in-Ok.at c.in-Ok.ensures.located).contents

pub invariant_of-self-in-Err : goal.invariant_of-self-in-Err
invariant_of-self-in-Err g c =
    let h = holds_inserted c.args.self.now (record { key = c.args.key; value = c.args.value }) c.in-Err.at c.rotate_right.new.self c.in-Err.ensures.located c.if-n-self.false c.rotate_right.ensures.after in
    record { within = h.within; ordered = h.ordered; clean = h.shown }

pub returns-else-n-self-clause-contents : goal.returns-else-n-self-clause-contents
returns-else-n-self-clause-contents g c =
    (holds_inserted c.args.self.now (record { key = c.args.key; value = c.args.value }) c.in-Err.at c.rotate_right.new.self c.in-Err.ensures.located c.if-n-self.false c.rotate_right.ensures.after).contents
