use Rattle.std.proofs.Common.{sym, ap, ◌∙◌, arith}
use Rattle.codec.specs.Fields.{below}
use Rattle.codec.specs.declared.segment.SegmentHeader.{SegmentHeader}
use Rattle.scan.specs.Headers.{weight}
use Rattle.scan.proofs.Fields.{read_now, lsn_none, lsn_some, weighed, read_is, unread, unchecked, below-zero, below_low, in_use}
use Rattle.scan.proofs.header.UsedHeader.read.Goals as goal

pub returns-in_err-header : goal.returns-in_err-header
returns-in_err-header c = c.from_residual.ensures ∙ unread c.args.low c.args.bytes.now c.told-bytes (ap read_now c.in_err-header.ensures.value ∙ c.deserialize.ensures)

pub returns-then-not-ok : goal.returns-then-not-ok
returns-then-not-ok c =
    let read = ap read_now c.in_ok-header.ensures.value ∙ c.deserialize.ensures in
    unchecked c.args.low c.args.bytes.now c.told-bytes (sym (c.if-not-ok.ensures.bytes c.args.bytes.now c.in_ok-header.field-0-1.now c.fits-bytes (sym read)))

pub returns-in_err-lsn : goal.returns-in_err-lsn
returns-in_err-lsn c =
    let read = ap read_now c.in_ok-header.ensures.value ∙ c.deserialize.ensures in
    let h = read_is c.args.low c.args.bytes.now c.told-bytes c.in_ok-header.header c.in_ok-header.field-0-1.now read in
    c.from_residual-in_err-lsn.ensures
    ∙ below-zero c.args.low c.args.bytes.now c.told-bytes (ap (λ (x : SegmentHeader). below x.lsn.bits) (sym h) ∙ lsn_none c.in_ok-header.header.lsn.bits c.lsn.result c.lsn.ensures c.in_err-lsn.was)

pub returns-then-lsn-low : goal.returns-then-lsn-low
returns-then-lsn-low c =
    let read = ap read_now c.in_ok-header.ensures.value ∙ c.deserialize.ensures in
    let h = read_is c.args.low c.args.bytes.now c.told-bytes c.in_ok-header.header c.in_ok-header.field-0-1.now read in
    let s = lsn_some c.in_ok-header.header.lsn.bits c.in_ok-lsn.lsn c.lsn.result c.lsn.ensures c.in_ok-lsn.was in
    below_low c.args.low c.args.bytes.now c.told-bytes c.in_ok-lsn.lsn (s.1 ∙ ap (λ (x : SegmentHeader). x.lsn.bits) h) c.if-lsn-low.true

pub returns : goal.returns
returns c =
    let read = ap read_now c.in_ok-header.ensures.value ∙ c.deserialize.ensures in
    let h = read_is c.args.low c.args.bytes.now c.told-bytes c.in_ok-header.header c.in_ok-header.field-0-1.now read in
    let s = lsn_some c.in_ok-header.header.lsn.bits c.in_ok-lsn.lsn c.lsn.result c.lsn.ensures c.in_ok-lsn.was in
    in_use c.args.low c.args.bytes.now c.told-bytes c.in_ok-lsn.lsn c.unwrap_or-mark.result
    (sym (c.if-not-ok.ensures.bytes c.args.bytes.now c.in_ok-header.field-0-1.now c.fits-bytes (sym read)))
    (ap (λ (x : SegmentHeader). below x.lsn.bits) (sym h) ∙ s.0)
    (s.1 ∙ ap (λ (x : SegmentHeader). x.lsn.bits) h)
    (λ l. omega (arith, c.if-lsn-low.false))
    (weighed c.in_ok-header.header.max_stable_lsn.bits c.unwrap_or-mark.result c.lsn-2.result c.lsn-2.ensures c.unwrap_or-mark.ensures ∙ ap (λ (x : SegmentHeader). weight x.max_stable_lsn.bits) h)
