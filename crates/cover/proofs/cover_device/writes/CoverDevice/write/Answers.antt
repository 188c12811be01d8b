use Rattle.std.proofs.Common.{◌+◌, ◌*◌, ◌%◌, ◌<◌, length, vec_items, vec_len, sym, ap, ◌∙◌, arith, rules}
use Rattle.std.proofs.lemmas.Bool.Decides.{nat_tests}
use Rattle.std.proofs.lemmas.List.{places, with_items_is}
use Rattle.device.proofs.Written.{written_some}
use Rattle.device.specs.Writes.{laid}
use Rattle.cover.proofs.Shown.{spot, zeros_write, shown_write}
use Rattle.cover.specs.Meaning.{contents}
use Rattle.cover.proofs.cover_device.writes.CoverDevice.write.Goals as goal

pub overflow_add-start-2 : goal.overflow_add-start-2
overflow_add-start-2 c =
    let s = c.cover_block.new.self in
    let size = s.geometry.block_size in
    let k = spot size c.bytes-size.result s.geometry.capacity (length c.args.src.now) c.args.at c.in_ok-i.i (vec_len s.buf) s.table (search rules) (search rules) (search rules) (search rules) s.sized.1 in
    search rules

pub slice_bounds-copy_from_slice-end : goal.slice_bounds-copy_from_slice-end
slice_bounds-copy_from_slice-end c =
    let s = c.cover_block.new.self in
    let size = s.geometry.block_size in
    let k = spot size c.bytes-size.result s.geometry.capacity (length c.args.src.now) c.args.at c.in_ok-i.i (vec_len s.buf) s.table (search rules) (search rules) (search rules) (search rules) s.sized.1 in
    search rules

pub invariant_of-self : goal.invariant_of-self
invariant_of-self c =
    let s = c.cover_block.new.self in
    let size = s.geometry.block_size in
    let k = spot size c.bytes-size.result s.geometry.capacity (length c.args.src.now) c.args.at c.in_ok-i.i (vec_len s.buf) s.table (search rules) (search rules) (search rules) (search rules) s.sized.1 in
    record {
      sized = (omega (arith, k.below), s.sized.1);
      zeros = zeros_write size k.some s.len _ (c.in_ok-i.i * c.bytes-size.result + c.args.at % c.bytes-size.result) s.table (vec_items s.buf) _ s.medium.now c.args.src.now c.args.at c.in_ok-i.i (omega arith) s.zeros
          k.short k.named k.begin (λ x. grind (arith, places, nat_tests, with_items_is));
    }

pub returns-clause-bytes : goal.returns-clause-bytes
returns-clause-bytes c =
    let s = c.cover_block.new.self in
    let size = s.geometry.block_size in
    let k = spot size c.bytes-size.result s.geometry.capacity (length c.args.src.now) c.args.at c.in_ok-i.i (vec_len s.buf) s.table (search rules) (search rules) (search rules) (search rules) s.sized.1 in
    let some : 0 < length c.args.src.now = search rules in
    shown_write size k.some s.len _ (c.in_ok-i.i * c.bytes-size.result + c.args.at % c.bytes-size.result) s.table (vec_items s.buf) _ s.medium.now c.args.src.now c.args.at c.in_ok-i.i (omega arith) s.zeros
    k.short k.named k.begin (λ x. grind (arith, places, nat_tests, with_items_is))
    ∙ (ap (λ l. laid l c.args.at c.args.src.now) c.cover_block.ensures.bytes ∙ sym (written_some (contents c.args.self.now) c.args.at c.args.src.now some))
