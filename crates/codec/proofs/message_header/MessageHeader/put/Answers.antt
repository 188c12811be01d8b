use Rattle.std.proofs.Common.{length, ap, arith, rules}
use Rattle.codec.proofs.Bodies.{length_header, put_header}
use Rattle.codec.proofs.message_header.MessageHeader.put.Goals as goal

pub put_bytes-at-requires : goal.put_bytes-at-requires
put_bytes-at-requires c = omega (arith, length_header c.args.self, ap length c.to_le_bytes.ensures)

pub put_bytes-at-requires-2 : goal.put_bytes-at-requires-2
put_bytes-at-requires-2 c = omega (arith, length_header c.args.self, ap length c.to_le_bytes.ensures)

pub put_number-at-requires : goal.put_number-at-requires
put_number-at-requires c = omega (arith, length_header c.args.self, ap length c.to_le_bytes.ensures)

pub put_number-at-requires-2 : goal.put_number-at-requires-2
put_number-at-requires-2 c = omega (arith, length_header c.args.self, ap length c.to_le_bytes.ensures)

pub put_number-requires : goal.put_number-requires
put_number-requires c = omega (arith, length_header c.args.self, ap length c.to_le_bytes.ensures)

pub returns-clause-after : goal.returns-clause-after
returns-clause-after c = search (rules, put_header)

pub returns-clause-end : goal.returns-clause-end
returns-clause-end c = omega (arith, length_header c.args.self, ap length c.to_le_bytes.ensures)
