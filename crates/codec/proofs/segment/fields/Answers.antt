use Rattle.std.proofs.Common.{replicate, refl}
use Rattle.codec.proofs.Headers.{put_fields}
use Rattle.codec.proofs.segment.fields.Goals as goal

pub returns : goal.returns
returns c =
    put_fields (replicate 16 0) c.put_bytes-end.new.buf c.put_bytes.new.buf c.to_le_bytes.result c.to_le_bytes-2.result c.args.lsn.bits c.args.mark.bits
    c.masked.result.bits c.masked-2.result.bits c.put_bytes-end.result refl c.masked.ensures c.masked-2.ensures c.to_le_bytes.ensures c.to_le_bytes-2.ensures
    c.put_bytes-end.ensures.after c.put_bytes-end.ensures.end c.put_bytes.ensures.after
