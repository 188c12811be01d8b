use Rattle.std.proofs.Common.{rules}
use Rattle.codec.proofs.Bodies.{length-written, put_written}
use Rattle.codec.proofs.message.Message.serialize_into.Goals as goal

pub returns-in_err-check_room : goal.returns-in_err-check_room
returns-in_err-check_room c =
    let len = length-written c.args.self.now c.header-header.result c.header-header.ensures.value in search rules

pub returns : goal.returns
returns c =
    let len = length-written c.args.self.now c.header-header.result c.header-header.ensures.value in search (rules, put_written)
