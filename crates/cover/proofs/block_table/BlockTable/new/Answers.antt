use Rattle.std.proofs.Common.{replicate, None, ap, ◌∙◌, arith}
use Rattle.std.proofs.lemmas.List.{take-replicate}
use Rattle.cover.proofs.block_table.BlockTable.new.Goals as goal

pub returns : goal.returns
returns c = take-replicate c.min.result 64 None (omega arith) ∙ ap (λ n. replicate n None) c.min.ensures
