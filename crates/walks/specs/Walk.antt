-- A walk over segments in the order of their LSNs (docs/RECOVERY.md, "A walk"). Assumes nothing.
--   past n limit            n is at the limit or above
--   bounds w limit          a manifest's LSN is past the limit
--   turn_of limit last r    what a message that was read does to the walk
--   segment_bytes ..        a segment's bytes
--   read_in ..              the message at a progress of a held segment
--   Exit                    how a segment is left: let go or held at a progress, or by a fault there
--   follow p t on           what a turn at the progress p leads to, where `on` walks on from a progress
--   in_segment ..           the walk in one segment from a progress on; `fuel` bounds its messages
--   Walked                  what a walk came to
--   with_held o ss          the segment held, if any, and others
--   settled s ss on x       what follows a segment that was left by x, where `on` walks the segments behind it
--   walk ..                 the walk over segments, from a current LSN
use Rattle.std.specs.Prelude.{ℕ, zero, suc, ◌+◌, ◌/◌, Bool, true, false, if◌then◌else◌, not, ◌&&◌, List, [], ◌∷◌, ◌++◌, take, drop, Some, None, Ok, Err, Option, Result, nat_le}
use Rattle.blobs.specs.declared.note.Note.{Note}
use Rattle.codec.specs.Fields.{below}
use Rattle.codec.specs.declared.word.Word.{Word}
use Rattle.messages.specs.Raw.{is_entry, raw_at}
use Rattle.messages.specs.Told.{understood}
use Rattle.messages.specs.declared.log_read.LogRead.{LogRead}
use Rattle.messages.specs.declared.log_read.LogRead.TheVariants.{Record as Yielded, Canceled, Dangling, BatchManifest, Cap, Corrupted, Short}
use Rattle.messages.specs.declared.log_read.Record.{Record}
use Rattle.refusals.specs.declared.refusal.Refusal.{Refusal}
use Rattle.scan.specs.Order.{Segment}
use Rattle.walks.specs.declared.turn.Turn.{Turn}
use Rattle.walks.specs.declared.turn.Turn.TheVariants.{Yield, Pass, Release, Stop}

-- with no limit nothing is past it
unfoldable pub past : ℕ → Option ℕ → Bool
past n None = false
past n (Some limit) = nat_le limit n

-- an LSN below zero is past no limit
unfoldable pub bounds : Word → Option ℕ → Bool
bounds w limit = not (below w.bits) && past w.bits limit

-- `last` says that it is the last walk
unfoldable pub turn_of : Option ℕ → Bool → Result LogRead Refusal → Result Turn Refusal
turn_of limit last (Ok (Yielded r)) = Ok (Yield r)
turn_of limit last (Ok (Canceled n)) = Ok (Pass n)
turn_of limit last (Ok (Dangling n)) = Ok (Pass n)
turn_of limit last (Ok (BatchManifest w n)) = Ok (if bounds w limit then Stop else Pass n)
turn_of limit last (Ok Cap) = Ok Release
turn_of limit last (Ok Corrupted) = Ok (if last then Release else Stop)
turn_of limit last (Ok Short) = Ok Stop
turn_of limit last (Err e) = Err e

pub data Exit : Type 0 where
  released : ℕ → Exit
  stopped : ℕ → Exit
  failed : ℕ → Refusal → Exit

unfoldable pub follow : ℕ → Result Turn Refusal → (ℕ → List Record × Exit) → List Record × Exit
follow p (Ok (Yield r)) on = (r ∷ (on (p + r.len)).0, (on (p + r.len)).1)
follow p (Ok (Pass n)) on = on (p + n)
follow p (Ok Release) on = ([], released p)
follow p (Ok Stop) on = ([], stopped p)
follow p (Err e) on = ([], failed p e)

pub record Walked : Type 0 where
  pub records : List Record
  pub current : Option ℕ
  pub held : Option Segment
  pub left : List Segment
  pub fault : Option Refusal

unfoldable pub more : List Record → Walked → Walked
more rs w = record { records = rs ++ w.records; current = w.current; held = w.held; left = w.left; fault = w.fault }

abbrev pub with_held : Option Segment → List Segment → List Segment
with_held None ss = ss
with_held (Some s) ss = s ∷ ss

unfoldable pub settled : Segment → List Segment → (ℕ → Walked) → List Record × Exit → Walked
settled s ss on x =
    elim x.1 [
      | released p ↦ more x.0 (on p)
      | stopped p ↦ record { records = x.0; current = Some (s.key + p); held = Some s; left = ss; fault = None }
      | failed p e ↦ record { records = x.0; current = Some (s.key + p); held = Some s; left = ss; fault = Some e }
    ]

-- the view is the segment's bytes, as many as there are
unfoldable pub segment_bytes : ℕ → List ℕ → ℕ → List ℕ
segment_bytes size dev place = take size (drop place dev)

-- the blobs, the segment size and the device's bytes
module _ (notes : ℕ → Option Note) (size : ℕ) (dev : List ℕ) where
  unfoldable pub read_in : Segment → ℕ → Result LogRead Refusal
  read_in s p = understood notes (s.value + p) (s.key + p) (raw_at size ((s.key + p) / size) s.value (segment_bytes size dev s.value) (s.value + p))

  module _ (limit : Option ℕ) (last : Bool) where
    unfoldable pub in_segment : Segment → ℕ → ℕ → List Record × Exit
    in_segment s zero p = ([], released p)
    in_segment s (suc fuel) p =
        elim (is_entry size p) [
          | false ↦ ([], released p)
          | true ↦
              elim (past (s.key + p) limit) [
                | true ↦ ([], stopped p)
                | false ↦
                    follow p (turn_of limit last (read_in s p)) (in_segment s fuel)
              ]
        ]

    unfoldable pub walk : Option ℕ → List Segment → Walked
    walk current [] = record { records = []; current = current; held = None; left = []; fault = None }
    walk current (s ∷ ss) =
        elim (past s.key limit) [
          | true ↦ record { records = []; current = current; held = None; left = s ∷ ss; fault = None }
          | false ↦
              settled s ss (λ p. walk (Some (s.key + p)) ss) (in_segment s size 20)
        ]
