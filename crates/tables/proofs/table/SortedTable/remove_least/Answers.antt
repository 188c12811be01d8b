use Rattle.tables.proofs.Layouts.{holds_removed}
use Rattle.tables.proofs.table.SortedTable.remove_least.Goals as goal

pub invariant_of-self : goal.invariant_of-self
invariant_of-self g c =
    let t = c.args.self.now in
    let h = holds_removed t c.in_ok-least.least c.rotate_left.new.self c.in_ok-least.ensures c.rotate_left.ensures.after in
    record { within = h.within; ordered = h.ordered; clean = h.shown }
