use Rattle.std.proofs.Common.{◌≡◌, ◌/◌, ◌<◌, min, length, None, vec_items, ap, ◌∙◌, mul-le-mul_right, arith, rules}
use Rattle.std.proofs.lemmas.Nat.{div-add-mod'}
use Rattle.std.proofs.lemmas.List.{length-replicate}
use Rattle.cover.proofs.Shown.{zeros_unmarked, shown_unmarked}
use Rattle.cover.proofs.cover_device.Cover.new.Goals as goal

pub invariant_of-result : goal.invariant_of-result
invariant_of-result c =
    let size = c.in_ok-geometry.geometry.block_size in
    let medium = c.args.medium.buf.now in
    let p : 0 < size = search rules in
    let same : size ≡ c.args.block_size = search rules in
    let n = min (c.len.result / c.args.block_size) 64 in
    let l : length c.new-table.result ≡ n = ap length c.new-table.ensures ∙ length-replicate n None in
    let d = div-add-mod' c.len.result c.args.block_size in
    let m = mul-le-mul_right {m = n} {n = c.len.result / c.args.block_size} c.args.block_size (omega arith) in
    record {
      sized = (search rules, rw (l, same) (omega arith));
      zeros = rw c.new-table.ensures (zeros_unmarked size p n (vec_items c.args.buf) medium);
    }

pub returns-clause-bytes : goal.returns-clause-bytes
returns-clause-bytes c =
    let size = c.in_ok-geometry.geometry.block_size in
    let p : 0 < size = search rules in
    rw c.new-table.ensures (shown_unmarked size p (min (c.len.result / c.args.block_size) 64) (vec_items c.args.buf) c.args.medium.buf.now)
