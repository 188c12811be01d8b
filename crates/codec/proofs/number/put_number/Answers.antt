use Rattle.std.proofs.Common.{length, ap, arith}
use Rattle.codec.specs.Laws.{length-octets}
use Rattle.codec.proofs.Forms.{length_long, put_long}
use Rattle.codec.proofs.Octets.{take-le_octets}
use Rattle.codec.proofs.number.put_number.Goals as goal

pub put_bytes-requires-in_default : goal.put_bytes-requires-in_default
put_bytes-requires-in_default c =
    let k = c.long_len-k.result in
    let bytes = take-le_octets k c.args.n c.to_le_bytes.result c.long_len-k.ensures.bound c.to_le_bytes.ensures in
    omega (arith, ap length bytes, length-octets k c.args.n, length_long c.args.n k (omega arith) c.long_len-k.ensures.value)

pub returns-in_default : goal.returns-in_default
returns-in_default c =
    let k = c.long_len-k.result in
    let bytes = take-le_octets k c.args.n c.to_le_bytes.result c.long_len-k.ensures.bound c.to_le_bytes.ensures in
    record {
      after = put_long c.args.buf.now c.put_bytes-at.new.buf c.put_bytes-in_default.new.buf c.to_le_bytes.result c.args.at c.put_bytes-at.result c.args.n k
          (omega arith) c.long_len-k.ensures.value c.long_len-k.ensures.bound c.to_le_bytes.ensures
          c.put_bytes-at.ensures.after c.put_bytes-at.ensures.end c.put_bytes-in_default.ensures.after;
      end = omega (arith, ap length bytes, length-octets k c.args.n, length_long c.args.n k (omega arith) c.long_len-k.ensures.value);
    }
