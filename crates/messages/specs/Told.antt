-- What a message is to a reader of the log, by its kind and the blob source (docs/RECOVERY.md, "Reading a message"). Assumes nothing.
--   record_of f kind lsn ptr     the record of a message
--   note_told, blob_told         a record of a blob kind, by what the source has for its pointer
--   manifest_told                a manifest, by its body
--   told                         any message whose checksum and segment number are right
--   understood                   any read
--   Stands                       a written message in a view
--   message_read ..              the reply of a read, the caller's buffer and size checked first
use Rattle.std.specs.Prelude.{◌≡◌, ℕ, ◌+◌, ◌/◌, ◌%◌, ◌^◌, ◌<◌, ◌≤◌, true, if◌then◌else◌, ◌&&◌, List, ◌++◌, length, Some, None, Ok, Err, Option, Result, ◌==◌, nat_le}
use Rattle.blobs.specs.declared.note.Note.{Note}
use Rattle.codec.specs.Messages.{message}
use Rattle.codec.specs.declared.word.Word.{Word}
use Rattle.layout.specs.Kinds.{kind_number, meant}
use Rattle.layout.specs.Sizes.{is_segment_size}
use Rattle.layout.specs.declared.kind.LogKind.{LogKind}
use Rattle.layout.specs.declared.kind.Meaning.{Meaning}
use Rattle.layout.specs.declared.kind.Meaning.TheVariants.{Corrupted as NoMessage, Canceled as Passed, Cap as Padding, BatchManifest as Manifest, Record as Records}
use Rattle.layout.specs.declared.kind.MessageKind.{MessageKind}
use Rattle.layout.specs.declared.kind.Storage.TheVariants.{Inline as InMessage, Blob as InFile}
use Rattle.refusals.specs.declared.refusal.Refusal.{Refusal}
use Rattle.refusals.specs.declared.refusal.Refusal.TheVariants.{Size, Body, Blob as BadBlob, Buffer}
use Rattle.messages.specs.Raw.{Raw, is_entry, known, word_in, raw_at, body_read}
use Rattle.messages.specs.declared.disk_pointer.DiskPtr.{DiskPtr}
use Rattle.messages.specs.declared.disk_pointer.DiskPtr.TheVariants.{Inline, Blob}
use Rattle.messages.specs.declared.log_read.Found.{Found}
use Rattle.messages.specs.declared.log_read.LogRead.{LogRead}
use Rattle.messages.specs.declared.log_read.LogRead.TheVariants.{Record as Yielded, Canceled, Dangling, BatchManifest, Cap, Corrupted, Short}
use Rattle.messages.specs.declared.log_read.NoMessage.TheVariants.{Corrupted as Damaged, Short as Ended}
use Rattle.messages.specs.declared.log_read.Record.{Record}

abbrev pub record_of : Found → LogKind → ℕ → DiskPtr → Record
record_of f kind lsn ptr = record { kind = kind; pid = f.pid; lsn = lsn; ptr = ptr; len = f.len }

abbrev pub note_told : ℕ → ℕ → Found → LogKind → ℕ → Option Note → Result LogRead Refusal
note_told place lsn f kind pointer None = Ok (Dangling f.len)
note_told place lsn f kind pointer (Some note) =
    if note.sound && note.kind == kind_number f.kind then Ok (Yielded (record_of f kind lsn (Blob place pointer)))
    else Err (BadBlob place)

abbrev pub blob_told : (ℕ → Option Note) → ℕ → ℕ → Found → LogKind → Option Word → Result LogRead Refusal
blob_told notes place lsn f kind None = Err (Body place)
blob_told notes place lsn f kind (Some w) = note_told place lsn f kind w.bits (notes w.bits)

abbrev pub manifest_told : ℕ → Found → Option Word → Result LogRead Refusal
manifest_told place f None = Err (Body place)
manifest_told place f (Some w) = Ok (BatchManifest w f.len)

abbrev pub told : (ℕ → Option Note) → ℕ → ℕ → Found → Meaning → Result LogRead Refusal
told notes place lsn f NoMessage = Ok Corrupted
told notes place lsn f Passed = Ok (Canceled f.len)
told notes place lsn f Padding = Ok Cap
told notes place lsn f Manifest = manifest_told place f f.word
told notes place lsn f (Records kind InMessage) = Ok (Yielded (record_of f kind lsn (Inline place)))
told notes place lsn f (Records kind InFile) = blob_told notes place lsn f kind f.word

abbrev pub understood : (ℕ → Option Note) → ℕ → ℕ → Raw → Result LogRead Refusal
understood notes place lsn (Ok f) = told notes place lsn f (meant f.kind)
understood notes place lsn (Err Damaged) = Ok Corrupted
understood notes place lsn (Err Ended) = Ok Short

abbrev pub message_read : (ℕ → Option Note) → ℕ → ℕ → ℕ → ℕ → List ℕ → ℕ → Result LogRead Refusal
message_read notes room size lsn first bytes place =
    if is_segment_size size then (if nat_le size room then understood notes place lsn (raw_at size (lsn / size) first bytes place) else Err Buffer)
    else Err Size

-- a message with its checksum and segment number
abbrev pub found_of : MessageKind → ℕ → ℕ → List ℕ → Found
found_of kind page len body = record { kind = kind; pid = page; len = len; word = word_in body }

-- a written message stands whole at an entry, with any bytes around it
pub record Stands (size number first place : ℕ) (bytes : List ℕ) (kind : MessageKind) (page : ℕ) (body : List ℕ) : Type 0 where
  pub before : List ℕ
  pub after : List ℕ
  pub around : bytes ≡ before ++ (message kind number page body ++ after)
  pub at : place ≡ first + length before
  pub entry : is_entry size (place % size) ≡ true
  pub fits : place % size + length (message kind number page body) ≤ size
  pub kind-known : known kind ≡ true
  pub page-fits : page < 2 ^ 64

-- how much of the body buffer a read uses and zeroes again
abbrev pub body_used : ℕ → ℕ → ℕ → List ℕ → ℕ → ℕ
body_used room size first bytes place =
    if is_segment_size size && nat_le size room then body_read size first bytes place
    else 0
