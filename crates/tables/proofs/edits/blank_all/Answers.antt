use Rattle.std.proofs.Common.{rules}
use Rattle.tables.proofs.Fills.{fill_more, fill_all}
use Rattle.tables.proofs.edits.blank_all.Goals as goal

pub loop-entry-preserved : goal.loop-entry-preserved
loop-entry-preserved g c = search (rules, fill_more)

pub returns : goal.returns
returns g c = search (rules, fill_all)
