use Rattle.std.proofs.Common.{length, replicate, arith, rules}
use Rattle.codec.specs.Messages.{MessageFits}
use Rattle.codec.proofs.Bodies.{header_short, header-summed, message_back, unsummed}
use Rattle.codec.proofs.message.Message.header.Goals as goal

pub put-end-requires : goal.put-end-requires
put-end-requires c =
    let m = c.args.self.now in
    let h = unsummed m.kind (length m.body.now) m.segment_number m.pid in
    let v : MessageFits h = search rules in omega (arith, header_short h v)

pub slice_bounds-calculate_message_crc32-end : goal.slice_bounds-calculate_message_crc32-end
slice_bounds-calculate_message_crc32-end c =
    let m = c.args.self.now in
    let h = unsummed m.kind (length m.body.now) m.segment_number m.pid in
    let v : MessageFits h = search rules in omega (arith, header_short h v, c.put-end.ensures.end)

pub returns : goal.returns
returns c =
    let m = c.args.self.now in
    let v : MessageFits (unsummed m.kind (length m.body.now) m.segment_number m.pid) = search rules in
    let crc = c.calculate_message_crc32-crc32 in
    let value = header-summed m.kind m.segment_number m.pid crc.result c.put-end.result m.body.now (replicate 32 0)
    c.put-end.new.buf (header_short _ v) c.put-end.ensures.after c.put-end.ensures.end crc.ensures
    in
    record { value = value; back = λ rest. message_back m _ rest value (crc.type_inv, v.1, v.2, v.3) }
