use Rattle.std.proofs.Common.{drop}
use Rattle.walks.specs.Finish.{wholes}
use Rattle.recovery.specs.Finishing.{meaning_of, with_rest}
use Rattle.recovery.proofs.Zeros.{Zeroing}
use Rattle.recovery.proofs.finish.write_zeros.Given as goal

abbrev pub invariant-loop-s : goal.invariant-loop-s
invariant-loop-s g l =
    let m = meaning_of g.D.ReadAt.bytes g.D.Device.capacity g.D.Device.block_size g.D.Device.loose g.D.Device.spare in
    Zeroing (m l.fn.device) (with_rest l.fn.rest (wholes l.size l.left)) (m l.device) (wholes l.size (drop l.s-index l.left))
