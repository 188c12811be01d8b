use Rattle.std.proofs.Common.{length}
use Rattle.tables.proofs.Layouts.{holds_none}
use Rattle.tables.proofs.table.SortedTable.new.Goals as goal

pub invariant_of-result : goal.invariant_of-result
invariant_of-result g c =
    let h = holds_none (length c.args.entries.now) c.args.blank _ c.blank_all.ensures in
    record { within = h.within; ordered = h.ordered; clean = h.shown }
