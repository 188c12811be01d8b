-- The used segments of a device in the order of their LSNs (docs/RECOVERY.md, "Scan" and "Tail"). Assumes nothing.
--   Segment                an entry of the order: key LSN, value place
--   Gathered               the segments entered, and the fault that ended it, if any
--   unless fault x         what a step replies
--   enter ..               what the header at a place adds
--   gather size dev low n  the first n headers, in device order
--   top_mark dev low ss    the largest of `low` and the stable marks of the segments
--   scanned ..             what a scan with room for some entries finds
use Rattle.std.specs.Prelude.{ℕ, zero, suc, ◌*◌, max, if◌then◌else◌, List, [], ◌∷◌, length, is_some, Some, None, Ok, Err, Option, Result, nat_lt}
use Rattle.layout.specs.Sizes.{is_segment_size, counted}
use Rattle.refusals.specs.declared.refusal.Refusal.{Refusal}
use Rattle.refusals.specs.declared.refusal.Refusal.TheVariants.{Size, Buffer, Header, SameLsn}
use Rattle.tables.specs.Entries.{find, put}
use Rattle.tables.specs.declared.entry.Entry.{Entry}
use Rattle.scan.specs.Headers.{head_at, head_lsn, head_mark, used, odd, weight}

abbrev pub Segment : Type 0
Segment = Entry ℕ

pub record Gathered : Type 0 where
  pub segments : List Segment
  pub fault : Option Refusal

abbrev pub faulty : List Segment → Refusal → Gathered
faulty ss e = record { segments = ss; fault = Some e }

abbrev pub sound : List Segment → Gathered
sound ss = record { segments = ss; fault = None }

-- a value, unless there is a fault
unfoldable pub unless : {X : Type 0} → Option Refusal → X → Result X Refusal
unless None x = Ok x
unless (Some e) x = Err e

-- a used header with an LSN and a mark: 3, then 4, else a segment more
unfoldable pub added : ℕ → ℕ → ℕ → ℕ → List Segment → Gathered
added size place lsn mark ss =
    if odd size lsn mark then faulty ss (Header place) else if is_some (find lsn ss) then faulty ss (SameLsn place) else sound (put (record { key = lsn; value = place }) ss)

unfoldable pub entered : ℕ → ℕ → ℕ → List ℕ → List Segment → Gathered
entered size low place h ss = if used low h then added size place (head_lsn h) (weight (head_mark h)) ss else sound ss

unfoldable pub enter : ℕ → ℕ → ℕ → List ℕ → Gathered → Gathered
enter size low place h g = elim g.fault [ Some e ↦ g | None ↦ entered size low place h g.segments ]

unfoldable pub gather : ℕ → List ℕ → ℕ → ℕ → Gathered
gather size dev low zero = sound []
gather size dev low (suc n) = enter size low (n * size) (head_at dev (n * size)) (gather size dev low n)

unfoldable pub top_mark : List ℕ → ℕ → List Segment → ℕ
top_mark dev low [] = low
top_mark dev low (s ∷ ss) = max (weight (head_mark (head_at dev s.value))) (top_mark dev low ss)

-- the segments of a whole device
abbrev pub gathered : ℕ → List ℕ → ℕ → Gathered
gathered size dev low = gather size dev low (counted (length dev) size)

unfoldable pub scanned : ℕ → ℕ → List ℕ → ℕ → Gathered
scanned room size dev low =
    if is_segment_size size then (if nat_lt room (counted (length dev) size) then faulty [] Buffer else gathered size dev low) else faulty [] Size
