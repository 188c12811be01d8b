-- The bytes of a message, judged before its kind is looked at (docs/RECOVERY.md, "Reading a message"). Assumes nothing.
--   is_entry size p       a message may begin at the progress p
--   starts ..             a message may begin at a place of a view
--   ahead bytes off       what a view has from an offset on, with zeros past its end
--   reached have hl n     the body is in the 128 bytes read ahead, or the view has it
--   decided ..            by checksum and segment number
--   judged ..             by length and kind, then by what there is, then decided
--   raw_at ..             the message at a place of a view
--   body_read ..          how many bytes of body were read besides the 128
use Rattle.std.specs.Prelude.{ℕ, ◌+◌, ◌-◌, ◌%◌, Bool, if◌then◌else◌, ◌&&◌, ◌||◌, List, ◌++◌, length, take, drop, replicate, Some, None, Option, Ok, Err, Result, ◌==◌, nat_le, nat_lt}
use Rattle.layout.specs.Kinds.{kind_number}
use Rattle.layout.specs.declared.kind.MessageKind.{MessageKind}
use Rattle.codec.specs.Messages.{message_sum, read_message_header}
use Rattle.codec.specs.Numbers.{little}
use Rattle.codec.specs.declared.message_header.MessageHeader.{MessageHeader}
use Rattle.codec.specs.declared.word.Word.{Word}
use Rattle.device.specs.Reads.{begins}
use Rattle.messages.specs.declared.log_read.Found.{Found}
use Rattle.messages.specs.declared.log_read.NoMessage.{NoMessage}
use Rattle.messages.specs.declared.log_read.NoMessage.TheVariants.{Corrupted, Short}

-- a message, or why there is none
abbrev pub Raw : Type 0
Raw = Result Found NoMessage

abbrev pub is_entry : ℕ → ℕ → Bool
is_entry size p = nat_le 20 p && nat_le (p + 32) size

abbrev pub starts : ℕ → ℕ → List ℕ → ℕ → Bool
starts size first bytes place = is_entry size (place % size) && begins first bytes place

unfoldable pub ahead : List ℕ → ℕ → List ℕ
ahead bytes off = drop off bytes ++ replicate 128 0

-- kind 0 and those above 11 are no message
abbrev pub known : MessageKind → Bool
known k = nat_lt 0 (kind_number k)

unfoldable pub word_in : List ℕ → Option Word
word_in body = if length body == 8 then Some (record { bits = little body }) else None

abbrev pub reached : ℕ → ℕ → ℕ → Bool
reached have hl n = nat_le (hl + n) 128 || nat_le (hl + n) have

unfoldable pub decided : MessageHeader → ℕ → List ℕ → List ℕ → Raw
decided h number header body =
    if h.crc32 == message_sum header body && h.segment_number == number then Ok (record { kind = h.kind; pid = h.pid; len = length header + h.len; word = word_in body })
    else Err Corrupted

unfoldable pub judged : ℕ → ℕ → ℕ → ℕ → List ℕ → MessageHeader → ℕ → Raw
judged size number p have w h hl =
    if nat_le (p + (hl + h.len)) size && known h.kind then (if reached have hl h.len then decided h number (take hl w) (take h.len (drop hl w)) else Err Short)
    else Err Corrupted

abbrev pub raw_in : ℕ → ℕ → ℕ → ℕ → List ℕ → Option (MessageHeader × List ℕ) → Raw
raw_in size number p have w None = Err Corrupted
raw_in size number p have w (Some q) = judged size number p have w q.0 (128 - length q.1)

unfoldable pub raw_at : ℕ → ℕ → ℕ → List ℕ → ℕ → Raw
raw_at size number first bytes place =
    if starts size first bytes place then raw_in size number (place % size) (first + length bytes - place) (ahead bytes (place - first)) (read_message_header (take 128 (ahead bytes (place - first))))
    else Err Short

unfoldable pub body_needed : ℕ → ℕ → ℕ → MessageHeader → ℕ → ℕ
body_needed size p have h hl =
    if nat_le (p + (hl + h.len)) size && known h.kind then (if nat_le (hl + h.len) 128 then 0 else if nat_le (hl + h.len) have then h.len else 0)
    else 0

abbrev pub body_in : ℕ → ℕ → ℕ → Option (MessageHeader × List ℕ) → ℕ
body_in size p have None = 0
body_in size p have (Some q) = body_needed size p have q.0 (128 - length q.1)

unfoldable pub body_read : ℕ → ℕ → List ℕ → ℕ → ℕ
body_read size first bytes place =
    if starts size first bytes place then body_in size (place % size) (first + length bytes - place) (read_message_header (take 128 (ahead bytes (place - first))))
    else 0

-- a lent buffer whose first n bytes were used and zeroed again
abbrev pub cleared : ℕ → List ℕ → List ℕ
cleared n buf = replicate n 0 ++ drop n buf
