use Rattle.tables.proofs.Keys.{laws}
use Rattle.tables.proofs.laws.laws_stand.Goals as goal

pub returns : goal.returns
returns g c = laws g.row.V.Denot
