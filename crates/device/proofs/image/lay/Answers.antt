use Rattle.std.proofs.Common.{arith, rules}
use Rattle.std.proofs.lemmas.List.{same_lists, places}
use Rattle.device.specs.Writes.{laid}
use Rattle.device.proofs.image.lay.Goals as goal

pub returns : goal.returns
unfolding laid
returns c = record { items = same_lists _ _ (search (rules, places)) (λ k d h. grind (arith, places)); len = search rules; room = search rules }
