-- Kinds of messages (docs/FORMAT.md, "Kinds"). Assumes nothing.
--   kind_number k   the byte of a kind
--   kind_of b       the kind of a byte: no message at 0 and above 11
--   meant k         what a kind means to a reader of the log
use Rattle.std.specs.Prelude.{ℕ, if◌then◌else◌, ◌==◌}
use Rattle.layout.specs.declared.kind.MessageKind.{MessageKind}
use Rattle.layout.specs.declared.kind.MessageKind.TheVariants.{Corrupted, Canceled, Cap, BatchManifest, Free, Counter, InlineMeta, BlobMeta, InlineNode, BlobNode, InlineLink, BlobLink}
use Rattle.layout.specs.declared.kind.LogKind.TheVariants.{Replace, Link, Free as Freed}
use Rattle.layout.specs.declared.kind.Storage.TheVariants.{Inline, Blob}
use Rattle.layout.specs.declared.kind.Meaning.{Meaning}
use Rattle.layout.specs.declared.kind.Meaning.TheVariants.{Corrupted as NoMessage, Canceled as Passed, Cap as Padding, BatchManifest as Manifest, Record}

abbrev pub kind_number : MessageKind → ℕ
kind_number Corrupted = 0
kind_number Canceled = 1
kind_number Cap = 2
kind_number BatchManifest = 3
kind_number Free = 4
kind_number Counter = 5
kind_number InlineMeta = 6
kind_number BlobMeta = 7
kind_number InlineNode = 8
kind_number BlobNode = 9
kind_number InlineLink = 10
kind_number BlobLink = 11

abbrev pub kind_of : ℕ → MessageKind
kind_of b =
    if b == 1 then Canceled
    else if b == 2 then Cap
    else if b == 3 then BatchManifest
    else if b == 4 then Free
    else if b == 5 then Counter
    else if b == 6 then InlineMeta
    else if b == 7 then BlobMeta
    else if b == 8 then InlineNode
    else if b == 9 then BlobNode
    else if b == 10 then InlineLink
    else if b == 11 then BlobLink
    else Corrupted

abbrev pub meant : MessageKind → Meaning
meant Corrupted = NoMessage
meant Canceled = Passed
meant Cap = Padding
meant BatchManifest = Manifest
meant Free = Record Freed Inline
meant Counter = Record Replace Inline
meant InlineMeta = Record Replace Inline
meant BlobMeta = Record Replace Blob
meant InlineNode = Record Replace Inline
meant BlobNode = Record Replace Blob
meant InlineLink = Record Link Inline
meant BlobLink = Record Link Blob
