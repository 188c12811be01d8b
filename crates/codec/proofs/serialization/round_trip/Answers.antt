use Rattle.std.proofs.Common.{◌≡◌, ℕ, length, Ok, sym, ap, ◌∙◌, arith}
use Rattle.std.proofs.lemmas.Bool.{cond-true, le-leb}
use Rattle.codec.proofs.Trips.{placed_room, trip_reads, trip-value}
use Rattle.codec.proofs.serialization.round_trip.Goals as goal

pub returns-in_err-y : goal.returns-in_err-y
returns-in_err-y g c =
    let w = c.in_ok-serialize_into.ensures in
    let read = trip_reads (g.T.Serialize.bytes c.args.x) g.T.Serialize.reads c.args.x c.args.buf.now c.serialize_into.new.buf
    c.in_ok-serialize_into.field-0 (λ rest. g.met.T.Serialize.back c.args.x rest w.valid) w.reply w.after
    in
    let none = c.in_err-y.ensures in
    let z : ◌≡◌ {A = ℕ} 0 1 = cc in absurd (omega arith)

pub returns : goal.returns
returns g c =
    let w = c.in_ok-serialize_into.ensures in
    let x = c.args.x in
    let bytes = g.T.Serialize.bytes x in
    let len = length c.args.buf.now in
    let end = c.in_ok-serialize_into.field-0 in
    let same = trip-value bytes g.T.Serialize.reads x c.in_ok-y.y c.args.buf.now c.serialize_into.new.buf c.in_ok-y.field-0-1.now end
    (λ rest. g.met.T.Serialize.back x rest w.valid) w.reply w.after c.in_ok-y.ensures
    in
    record {
      reply = ap Ok same ∙ sym (cond-true _ _ _ (le-leb (length bytes) len (placed_room len (length bytes) end w.reply)));
      after = w.after;
    }
