-- Pages, and what records make of them (docs/RECOVERY.md, "Snapshots" and "Pages"). Assumes nothing.
--   Item               LSN, pointer and length of a message
--   Page               uninitialized, free, or present with a base and fragments
--   fragments ps       how many fragments the pages have in all
--   grown ps n         the pages, with uninitialized ones up to n
--   joined p x         what a link leaves of its page
--   apply ps r         what a record leaves of the pages
--   verdict ..         what is answered of a record
--   fold ..            what records leave of the pages, from an LSN on, or the first refusal
use Rattle.std.specs.Prelude.{ℕ, ◌+◌, ◌-◌, true, false, List, [], ◌∷◌, ◌++◌, length, replicate, Some, Ok, Err, Result, nat_le, nat_lt, slice_index_or, slice_set}
use Rattle.layout.specs.declared.kind.LogKind.{LogKind}
use Rattle.layout.specs.declared.kind.LogKind.TheVariants.{Replace, Link, Free}
use Rattle.messages.specs.declared.disk_pointer.DiskPtr.{DiskPtr}
use Rattle.messages.specs.declared.disk_pointer.DiskPtr.TheVariants.{Inline, Blob}
use Rattle.messages.specs.declared.log_read.Record.{Record}
use Rattle.refusals.specs.declared.refusal.Refusal.{Refusal}
use Rattle.refusals.specs.declared.refusal.Refusal.TheVariants.{PageNumber, Fragments}

abbrev pub Item : Type 0
Item = ℕ × DiskPtr × ℕ

pub data Page : Type 0 where
  uninitialized : Page
  free : ℕ → DiskPtr → Page
  present : Item → List Item → Page

unfoldable pub fragments_of : Page → ℕ
fragments_of uninitialized = 0
fragments_of (free lsn ptr) = 0
fragments_of (present base items) = length items

unfoldable pub fragments : List Page → ℕ
fragments [] = 0
fragments (p ∷ ps) = fragments_of p + fragments ps

unfoldable pub item_of : Record → Item
item_of r = (r.lsn, r.ptr, r.len)

unfoldable pub grown : List Page → ℕ → List Page
grown ps n = ps ++ replicate (n - length ps) uninitialized

-- a link joins a present page; any other stays as it is
unfoldable pub joined : Page → Item → Page
joined uninitialized x = uninitialized
joined (free lsn ptr) x = free lsn ptr
joined (present base items) x = present base (items ++ x ∷ [])

unfoldable pub applied : List Page → Record → LogKind → List Page
applied ps r Replace = slice_set (grown ps (r.pid + 1)) r.pid (present (item_of r) [])
applied ps r Free = slice_set (grown ps (r.pid + 1)) r.pid (free r.lsn r.ptr)
applied ps r Link = slice_set ps r.pid (joined (slice_index_or ps r.pid uninitialized) (item_of r))

unfoldable pub apply : List Page → Record → List Page
apply ps r = applied ps r r.kind

-- where the message of a pointer stands
unfoldable pub place_of : DiskPtr → ℕ
place_of (Inline place) = place
place_of (Blob place pointer) = place

-- with tables of `most` pages and `room` fragments
unfoldable pub verdict : ℕ → ℕ → List Page → Record → Result (Unit {0}) Refusal
verdict most room ps r =
    elim (nat_lt r.pid most) [
      | false ↦ Err (PageNumber (Some (place_of r.ptr)))
      | true ↦
          elim (nat_le (fragments (apply ps r)) room) [ false ↦ Err (Fragments (Some (place_of r.ptr))) | true ↦ Ok tt ]
    ]

-- records below `low` are passed over
unfoldable pub fold : ℕ → ℕ → ℕ → List Page → List Record → Result (List Page) Refusal
fold most room low ps [] = Ok ps
fold most room low ps (r ∷ rs) =
    elim (nat_lt r.lsn low) [
      | true ↦ fold most room low ps rs
      | false ↦
          elim (verdict most room ps r) [ Err e ↦ Err e | Ok u ↦ fold most room low (apply ps r) rs ]
    ]
