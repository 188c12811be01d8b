-- The state of a walk in the code: what is still to do, and what holds of it between turns. Assumes nothing.
--   rest ..          what a walk has still to do: outside of a segment, or at a progress of one
--   told_by ..       what a turn says of what there was to do, where `w` is what is still to do
--   rest_of          `rest` of an iterator, by the blobs of its source and the bytes of its device
--   Sane             what holds between turns
--   Turned           what a turn ensures
--   Next             what a call of `next` ensures
use Rattle.std.specs.Prelude.{◌≡◌, ℕ, ◌+◌, ◌-◌, ◌*◌, ◌<◌, ◌≤◌, Bool, List, [], ◌∷◌, length, take, Some, None, Ok, Err, Option, Result}
use Rattle.std.specs.List.{All}
use Rattle.std.specs.Option.{option_map}
use Rattle.std.specs.declared.ops.ControlFlow.{ControlFlow}
use Rattle.std.specs.declared.ops.ControlFlow.TheVariants.{Continue, Break}
use Rattle.blobs.specs.declared.note.Note.{Note}
use Rattle.messages.specs.declared.log_read.Record.{Record}
use Rattle.refusals.specs.declared.refusal.Refusal.{Refusal}
use Rattle.scan.specs.Order.{Segment}
use Rattle.walks.specs.Walk.{Walked, more, segment_bytes, in_segment, settled, walk}
use Rattle.recovery.specs.Small.{Small}
use Rattle.recovery.specs.declared.course.Held.{Held}
use Rattle.recovery.specs.declared.iterator.LogIter.{LogIter}

abbrev pub Step : Type 0
Step = Result (ControlFlow (Option Record) (Unit {0})) Refusal

unfoldable pub told_by : Step → Option ℕ → Option Segment → List Segment → Walked → Walked
told_by (Ok (Continue u)) current held ss w = w
told_by (Ok (Break (Some r))) current held ss w = more (r ∷ []) w
told_by (Ok (Break None)) current held ss w = record { records = []; current = current; held = held; left = ss; fault = None }
told_by (Err e) current held ss w = record { records = []; current = current; held = held; left = ss; fault = Some e }

abbrev pub segment_of : Option Held → Option Segment
segment_of held = option_map (λ (h : Held). h.segment) held

module _ (notes : ℕ → Option Note) (dev : List ℕ) (size : ℕ) (limit : Option ℕ) (last : Bool) where
  unfoldable pub rest : Option Held → Option ℕ → List Segment → Walked
  rest None current ss = walk notes size dev limit last current ss
  rest (Some h) current ss = settled h.segment ss (λ q. walk notes size dev limit last (Some (h.segment.key + q)) ss) (in_segment notes size dev limit last h.segment size h.progress)

-- what is left of the held segment, plus one while one is held; a segment weighs more than all of its bytes
abbrev pub spare : ℕ → Option Held → ℕ
spare size None = 0
spare size (Some h) = 1 + (size - h.progress)

module _ {D B : Type 0} where
  abbrev pub weight : LogIter D B → ℕ
  weight w = length w.rest.now * 2097152 + spare w.course.size w.held

  abbrev pub Less : Step → LogIter D B → LogIter D B → Type 0
  Less (Ok (Continue u)) v w = weight w < weight v
  Less (Ok (Break o)) v w = Unit {0}
  Less (Err e) v w = Unit {0}

  module _ (notes : B → ℕ → Option Note) (stored : D → List ℕ) where
    abbrev pub rest_of : LogIter D B → Walked
    rest_of w = rest (notes w.course.source.now) (stored w.course.device.now) w.course.size w.course.limit w.course.last w.held w.current w.rest.now

    -- the held segment's bytes stand at the front of the buffer
    pub record Holds (buffer : List ℕ) (w : LogIter D B) (h : Held) : Type 0 where
      pub current : w.current ≡ Some (h.segment.key + h.progress)
      pub within : h.progress ≤ w.course.size
      pub small : Small w.course.size h.segment
      pub have : h.have ≤ length buffer
      pub bytes : take h.have buffer ≡ segment_bytes w.course.size (stored w.course.device.now) h.segment.value

    abbrev pub HeldWell : List ℕ → LogIter D B → Option Held → Type 0
    HeldWell buffer w None = Unit {0}
    HeldWell buffer w (Some h) = Holds buffer w h

    -- with a buffer for a segment's bytes, and one of the length `body` for a body
    pub record Sane (buffer : List ℕ) (body : ℕ) (w : LogIter D B) : Type 0 where
      pub long : w.course.size ≤ length buffer
      pub room : w.course.size ≤ body
      pub segments : All (Small w.course.size) w.rest.now
      pub held : HeldWell buffer w w.held

    -- some turns were made, and what there was to do is still to do
    pub record Going (buffer : List ℕ) (body : ℕ) (v w : LogIter D B) : Type 0 where
      pub left : rest_of v ≡ rest_of w
      pub sane : Sane buffer body w
      pub same : w.course ≡ v.course

    pub record Next (buffer : List ℕ) (body : ℕ) (v w : LogIter D B) (r : Step) : Type 0 where
      pub turn : rest_of v ≡ told_by r w.current (segment_of w.held) w.rest.now (rest_of w)
      pub sane : Sane buffer body w
      pub same : w.course ≡ v.course

    pub record Turned (buffer : List ℕ) (body : ℕ) (v w : LogIter D B) (r : Step) : Type 0 where
      pub next : Next buffer body v w r
      pub less : Less r v w

-- behind a message of the held segment
abbrev pub passed : {D B : Type 0} → LogIter D B → Held → ℕ → LogIter D B
passed v h n = record {
  course = v.course;
  rest = v.rest;
  held = Some (record { segment = h.segment; have = h.have; progress = h.progress + n });
  current = Some (h.segment.key + (h.progress + n));
}

-- what `next` replies, as a turn
abbrev pub ended : Result (Option Record) Refusal → Step
ended (Ok o) = Ok (Break o)
ended (Err e) = Err e
