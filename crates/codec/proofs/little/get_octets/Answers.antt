use Rattle.codec.proofs.Octets.{from_le, little-lt}
use Rattle.codec.proofs.little.get_octets.Goals as goal
use Rattle.std.proofs.Common.{length, subst, ◌^◌, ◌<◌, ◌*◌, sym}

pub returns : goal.returns
returns c =
    let value = from_le c.args.bytes.now c.copy_from_slice.new.self c.from_le_bytes.result c.requires c.copy_from_slice.ensures.after c.from_le_bytes.ensures in
    record {
      value = value;
      bound = subst (λ n. n < 2 ^ (8 * length c.args.bytes.now)) (sym value) (little-lt c.args.bytes.now (λ i. (c.type_inv.bytes i).fits));
    }
