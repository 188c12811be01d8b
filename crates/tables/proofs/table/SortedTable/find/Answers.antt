use Rattle.std.proofs.Common.{◌∙◌, sym}
use Rattle.tables.specs.Views.{contents}
use Rattle.tables.proofs.Ranks.{find_located}
use Rattle.tables.proofs.table.SortedTable.find.Goals as goal

pub returns : goal.returns
returns g c =
    rw c.entries.ensures (find_located c.args.key c.in_ok-at.at (contents c.args.self.now) c.place.result c.index-entries-at.result c.args.self.now.ordered c.place.ensures.located (sym c.ok.ensures.value ∙ c.in_ok-at.was))
