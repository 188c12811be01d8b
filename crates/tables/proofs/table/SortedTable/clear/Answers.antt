use Rattle.tables.specs.Views.{capacity}
use Rattle.tables.proofs.Layouts.{holds_none}
use Rattle.tables.proofs.table.SortedTable.clear.Goals as goal

pub invariant_of-self : goal.invariant_of-self
invariant_of-self g c =
    let t = c.args.self.now in
    let h = holds_none (capacity t) t.blank _ c.blank_all.ensures in
    record { within = h.within; ordered = h.ordered; clean = h.shown }
