use Rattle.std.proofs.Common.{◌+◌, length, vec_items, sym, ◌∙◌, arith}
use Rattle.device.proofs.Written.{part_by}
use Rattle.cover.proofs.Shown.{length-shown, get_or-shown}
use Rattle.cover.specs.Meaning.{contents}
use Rattle.cover.proofs.cover_device.Cover.copy_out.Goals as goal

pub returns : goal.returns
returns c =
    let s = c.args.self.now in
    let size = s.geometry.block_size in
    let l = length-shown s.len size s.table (vec_items s.buf) s.medium.now in
    part_by (contents s) c.loop-done.dst c.args.at (length c.args.dst.now) (omega arith) (omega arith)
    (λ k h. c.loop-done.invariant.1 k (omega arith) ∙ sym (get_or-shown s.len size s.table (vec_items s.buf) s.medium.now (c.args.at + k) (omega arith)))
