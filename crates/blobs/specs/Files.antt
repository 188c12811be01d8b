-- Blob files (docs/FORMAT.md, "Blob files"). Assumes nothing.
--   damaged       what is said of a file of fewer than 5 bytes
--   note_of file  the file's kind, and whether its checksum, 4 bytes, is that of kind byte and body behind it
use Rattle.std.specs.Prelude.{ℕ, false, if◌then◌else◌, List, length, Some, None, Option, ◌==◌, slice_index}
use Rattle.checksum.specs.Crc.{crc32}
use Rattle.codec.specs.Numbers.{field}
use Rattle.blobs.specs.declared.note.Note.{Note}

abbrev pub damaged : Note
damaged = record { kind = 0; sound = false }

-- content is kind byte and body
abbrev pub note_in : ℕ → List ℕ → Note
note_in stored content = if length content == 0 then damaged else record { kind = slice_index content 0; sound = (stored == crc32 content) }

abbrev pub note_read : Option (ℕ × List ℕ) → Note
note_read None = damaged
note_read (Some p) = note_in p.0 p.1

unfoldable pub note_of : List ℕ → Note
note_of file = note_read (field 4 file)
