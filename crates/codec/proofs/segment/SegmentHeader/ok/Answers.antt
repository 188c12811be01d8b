use Rattle.std.proofs.Common.{◌-◌, ◌^◌, ◌<◌, eqb, sym, ap, ◌∙◌, rules}
use Rattle.checksum.specs.Crc.{crc32}
use Rattle.codec.proofs.Headers.{checks_header, checks_read, checks-zeros}
use Rattle.codec.proofs.segment.SegmentHeader.ok.Goals as goal

pub returns : goal.returns
returns c =
    let fits : c.args.self.now.crc32 < 2 ^ 32 = search rules in
    let sum = ap (eqb (0xFFFF_FFFF - c.args.self.now.crc32)) (c.checksum.ensures ∙ ap crc32 c.fields.ensures) in
    record {
      value = sum ∙ sym (checks_header c.args.self.now fits);
      bytes = λ bs rest f e. sum ∙ checks_read c.args.self.now bs rest f e;
      zeros = checks-zeros;
    }
