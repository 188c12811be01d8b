use Rattle.std.proofs.Common.{◌≡◌, ℕ, ◌-◌, ap, ◌∙◌}
use Rattle.checksum.specs.Crc.{crc32}
use Rattle.codec.specs.Segments.{segment_header, segment_of, checks}
use Rattle.codec.specs.declared.segment.SegmentHeader.{SegmentHeader}
use Rattle.codec.proofs.Headers.{checks_written}
use Rattle.codec.proofs.segment.SegmentHeader.new.Goals as goal

pub returns : goal.returns
returns c =
    let F : ℕ → SegmentHeader = λ n. record { crc32 = 0xFFFF_FFFF - n; lsn = c.args.lsn; max_stable_lsn = c.args.max_stable_lsn } in
    let made : F (c.checksum-crc32.result) ≡ segment_of c.args.lsn.bits c.args.max_stable_lsn.bits = ap F (c.checksum-crc32.ensures ∙ ap crc32 c.fields.ensures) in
    record {
      value = made;
      checks = ap (λ h. checks (segment_header h)) made ∙ checks_written c.args.lsn.bits c.args.max_stable_lsn.bits;
    }
