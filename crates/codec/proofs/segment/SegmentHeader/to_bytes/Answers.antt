use Rattle.std.proofs.Common.{replicate, refl}
use Rattle.codec.proofs.Headers.{put-segment}
use Rattle.codec.proofs.segment.SegmentHeader.to_bytes.Goals as goal

pub returns-clause-value : goal.returns-clause-value
returns-clause-value c =
    put-segment c.args.self (replicate 20 0) c.put_bytes-end.new.buf c.put_bytes.new.buf c.to_le_bytes.result c.fields.result c.put_bytes-end.result refl
    c.to_le_bytes.ensures c.fields.ensures c.put_bytes-end.ensures.after c.put_bytes-end.ensures.end c.put_bytes.ensures.after
