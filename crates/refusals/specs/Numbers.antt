-- The number of each refusal, and the layer and place that a fault names (docs/REFUSALS.md, "Numbers"). Assumes nothing.
use Rattle.std.specs.Prelude.{ℕ, Some, None, Option}
use Rattle.refusals.specs.declared.refusal.Layer.{Layer}
use Rattle.refusals.specs.declared.refusal.Layer.TheVariants.{Scan, Message as InMessage, Blob as InBlob, Page}
use Rattle.refusals.specs.declared.refusal.Refusal.{Refusal}
use Rattle.refusals.specs.declared.refusal.Refusal.TheVariants.{Size, Snapshot, Header, SameLsn, Body, Blob, PageNumber, Message, Slot, Outside, Buffer, HeldBytes, NoActiveSegment, SegmentFull, SlotUsed, BatchOpen, NoBatch, Segments, Fragments, StableFell, NoSpare, NotRecovered}

abbrev pub number_of : Refusal → ℕ
number_of Size = 1
number_of Snapshot = 2
number_of (Header p) = 3
number_of (SameLsn p) = 4
number_of (Body p) = 5
number_of (Blob p) = 6
number_of (PageNumber o) = 7
number_of Message = 8
number_of Slot = 9
number_of Outside = 10
number_of Buffer = 11
number_of HeldBytes = 20
number_of NoActiveSegment = 21
number_of SegmentFull = 22
number_of SlotUsed = 23
number_of BatchOpen = 24
number_of NoBatch = 25
number_of Segments = 26
number_of (Fragments o) = 27
number_of StableFell = 28
number_of NoSpare = 29
number_of NotRecovered = 30

abbrev pub in_page : Option ℕ → Option (Layer × ℕ)
in_page None = None
in_page (Some p) = Some (Page, p)

abbrev pub fault_of : Refusal → Option (Layer × ℕ)
fault_of Size = None
fault_of Snapshot = None
fault_of (Header p) = Some (Scan, p)
fault_of (SameLsn p) = Some (Scan, p)
fault_of (Body p) = Some (InMessage, p)
fault_of (Blob p) = Some (InBlob, p)
fault_of (PageNumber o) = in_page o
fault_of Message = None
fault_of Slot = None
fault_of Outside = None
fault_of Buffer = None
fault_of HeldBytes = None
fault_of NoActiveSegment = None
fault_of SegmentFull = None
fault_of SlotUsed = None
fault_of BatchOpen = None
fault_of NoBatch = None
fault_of Segments = None
fault_of (Fragments o) = in_page o
fault_of StableFell = None
fault_of NoSpare = None
fault_of NotRecovered = None
