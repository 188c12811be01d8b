use Rattle.std.proofs.Common.{rules}
use Rattle.cover.proofs.Shown.{length-shown}
use Rattle.cover.proofs.cover_device.Cover.len_from.Goals as goal

pub returns : goal.returns
returns c = search (rules, length-shown)
