-- Files in a bank (docs/RECOVERY.md, "Blob sources"). Assumes nothing.
--   cut bytes e         the bytes of an extent
--   note_at bytes e     what the file there says; damaged if it is not whole among the bytes
--   banked bytes es p   a bank's reply
--   Files               files with their pointers, the newest first
--   Holds, Knows        a bank has these files; the entries of a register are what they say
use Rattle.std.specs.Prelude.{◌≡◌, ℕ, ◌+◌, ◌≤◌, if◌then◌else◌, List, [], ◌∷◌, length, take, drop, Some, None, Option, ◌==◌, nat_le}
use Rattle.std.specs.Option.{option_map}
use Rattle.tables.specs.Entries.{find}
use Rattle.tables.specs.declared.entry.Entry.{Entry}
use Rattle.blobs.specs.Files.{damaged, note_of}
use Rattle.blobs.specs.declared.note.Extent.{Extent}
use Rattle.blobs.specs.declared.note.Note.{Note}

abbrev pub cut : List ℕ → Extent → List ℕ
cut bytes e = take e.len (drop e.start bytes)

abbrev pub note_at : List ℕ → Extent → Note
note_at bytes e = if nat_le (e.start + e.len) (length bytes) then note_of (cut bytes e) else damaged

abbrev pub banked : List ℕ → List (Entry Extent) → ℕ → Option Note
banked bytes es p = option_map (note_at bytes) (find p es)

abbrev pub Files : Type 0
Files = List (ℕ × List ℕ)

unfoldable pub file_of : ℕ → Files → Option (List ℕ)
file_of p [] = None
file_of p (f ∷ fs) = if f.0 == p then Some f.1 else file_of p fs

-- each pointer's extent holds its newest file, within the bytes in use
pub record Holds (used : ℕ) (bytes : List ℕ) (es : List (Entry Extent)) (fs : Files) : Type 0 where
  pub files : (p : ℕ) → option_map (cut bytes) (find p es) ≡ file_of p fs
  pub inside : (p : ℕ) (e : Extent) → find p es ≡ Some e → e.start + e.len ≤ used
  pub room : used ≤ length bytes

abbrev pub Knows : List (Entry Note) → Files → Type 0
Knows ns fs = (p : ℕ) → find p ns ≡ option_map note_of (file_of p fs)
