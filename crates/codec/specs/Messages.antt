-- Messages (docs/FORMAT.md, "Message"). Assumes nothing.
--   behind kind len segment page    a message header from its fifth byte
--   message_header h                its bytes, the stored checksum first
--   message_sum header body         the checksum that is stored: body first, then the header from its fifth byte
--   message kind segment page body  a whole message
use Rattle.std.specs.Prelude.{ℕ, ◌^◌, ◌<◌, List, [], ◌∷◌, ◌++◌, length, drop, Some, Option}
use Rattle.checksum.specs.Crc.{crc32}
use Rattle.layout.specs.Kinds.{kind_number, kind_of}
use Rattle.codec.specs.Numbers.{octets, field, second, number, shortest}
use Rattle.codec.specs.Segments.{complement}
use Rattle.codec.specs.Serial.{next}
use Rattle.layout.specs.declared.kind.MessageKind.{MessageKind}
use Rattle.codec.specs.declared.message.Message.{Message}
use Rattle.codec.specs.declared.message_header.MessageHeader.{MessageHeader}

abbrev pub behind : MessageKind → ℕ → ℕ → ℕ → List ℕ
behind kind len segment page = kind_number kind ∷ [] ++ (shortest len ++ (shortest segment ++ shortest page))

abbrev pub message_header : MessageHeader → List ℕ
message_header h = octets 4 h.crc32 ++ behind h.kind h.len h.segment_number h.pid

-- the numbers that its fields can hold
abbrev pub MessageFits : MessageHeader → Type 0
MessageFits h = (h.crc32 < 2 ^ 32) × (h.len < 2 ^ 64) × (h.segment_number < 2 ^ 64) × (h.pid < 2 ^ 64)

abbrev pub read_message_header : List ℕ → Option (MessageHeader × List ℕ)
read_message_header bs =
    next (field 4 bs) λ crc bs.
    next (second 0 bs) λ kind bs.
    next (number bs) λ len bs.
    next (number bs) λ segment bs.
    next (number bs) λ page rest.
    Some (record { crc32 = crc; kind = kind_of kind; len = len; segment_number = segment; pid = page }, rest)

abbrev pub message_sum : List ℕ → List ℕ → ℕ
message_sum header body = complement (crc32 (body ++ drop 4 header))

-- the header that is written before a body
abbrev pub message_of : MessageKind → ℕ → ℕ → List ℕ → MessageHeader
message_of kind segment page body = record {
  crc32 = complement (crc32 (body ++ behind kind (length body) segment page));
  kind = kind;
  len = length body;
  segment_number = segment;
  pid = page;
}

unfoldable pub message : MessageKind → ℕ → ℕ → List ℕ → List ℕ
message kind segment page body = message_header (message_of kind segment page body) ++ body

-- the bytes of a message
abbrev pub written : Message → List ℕ
written m = message m.kind m.segment_number m.pid m.body.now
