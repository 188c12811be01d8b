-- The finish of a recovery in the code: what it is given, the zeros to write, and what it leaves. Assumes nothing.
--   meaning_of d        what a device means, by the members of its type
--   with_rest r zs      zeros over the rest of the active segment, and then others
--   EndIs ..            an end in memory says what an end comes to, where `zs` are the zeros over the segments left
--   RestOf              the rest of a held segment
--   walked_to r         a walk that came there
--   Room                a segment that lies within the capacity
--   Clean               what a finish is given of a walk
--   Fitting, Takes      zeros that one block takes, and zeros that a device takes
--   snap_reply          what is told of an end
--   Finished            the reply of a finish, and the device left
use Rattle.std.specs.Prelude.{◌≡◌, ◌≢◌, ℕ, ◌+◌, ◌^◌, ◌<◌, ◌≤◌, Bool, true, List, [], ◌∷◌, Some, None, Ok, Err, Option, Result, IfSome}
use Rattle.std.specs.List.{All, AllPairs, AllByRecursion}
use Rattle.blobs.specs.declared.note.Note.{Note}
use Rattle.device.specs.Meaning.{Meaning, Alike, needs}
use Rattle.device.specs.Writes.{fits}
use Rattle.layout.specs.Sizes.{is_segment_size}
use Rattle.pages.specs.Pages.{Page}
use Rattle.pages.specs.Snapshots.{Snap}
use Rattle.refusals.specs.declared.refusal.Refusal.{Refusal}
use Rattle.scan.specs.Order.{Segment}
use Rattle.walks.specs.Finish.{Ended, finish}
use Rattle.walks.specs.Recover.{Budget, places, closed, left}
use Rattle.walks.specs.Walk.{Walked, with_held}
use Rattle.recovery.specs.Small.{Small}
use Rattle.recovery.specs.declared.finish.End.{End}
use Rattle.recovery.specs.declared.finish.Reached.{Reached}
use Rattle.recovery.specs.declared.finish.Rest.{Rest}

module _ {D : Type 0} (bytes : D → List ℕ) (capacity block_size : D → ℕ) (loose : D → ℕ → Bool) (spare : D → ℕ) where
  abbrev pub meaning_of : D → Meaning
  meaning_of d = record { bytes = bytes d; capacity = capacity d; block_size = block_size d; loose = loose d; spare = spare d }

abbrev pub with_rest : Option Rest → List (ℕ × ℕ) → List (ℕ × ℕ)
with_rest None zs = zs
with_rest (Some r) zs = (r.place, r.len) ∷ zs

pub record EndIs (e : End) (zs : List (ℕ × ℕ)) (x : Ended) : Type 0 where
  pub stable : e.stable ≡ x.snap.stable
  pub active : e.active ≡ x.snap.active
  pub zeros : with_rest e.rest zs ≡ x.zeros

-- it ends with its segment
pub record RestOf (size : ℕ) (held : Option Segment) (r : Rest) : Type 0 where
  pub segment : Segment
  pub of_held : held ≡ Some segment
  pub from : segment.value ≤ r.place
  pub some : 0 < r.len
  pub ends : r.place + r.len ≡ segment.value + size

-- its records are not told
abbrev pub walked_to : Reached → Walked
walked_to r = record { records = []; current = r.current; held = r.held; left = r.left.now; fault = None }

pub record Room (size capacity : ℕ) (s : Segment) : Type 0 where
  pub small : Small size s
  pub ends : s.value + size ≤ capacity

-- no two segments stand at one place
pub record Clean (size capacity : ℕ) (r : Reached) : Type 0 where
  pub sized : is_segment_size size ≡ true
  pub current : IfSome r.current (λ c. c ≤ 2 ^ 62)
  pub room : All (Room size capacity) (with_held r.held r.left.now)
  pub apart : AllPairs (λ (s t : Segment). s.value ≢ t.value) (with_held r.held r.left.now)

-- a run of zeros that one block takes
pub record Fitting (capacity size : ℕ) (z : ℕ × ℕ) : Type 0 where
  pub some : 0 < z.1
  pub short : z.1 ≤ size
  pub fits : fits capacity size z.0 z.1 ≡ true

-- no write of the zeros is refused
pub record Takes (d : Meaning) (zs : List (ℕ × ℕ)) : Type 0 where
  pub fitting : AllByRecursion (Fitting d.capacity d.block_size) zs
  pub paid : needs d (places zs) ≤ d.spare

abbrev pub snap_reply : Result Ended Refusal → Result (Option ℕ × Option ℕ) Refusal
snap_reply (Ok e) = Ok (e.snap.stable, e.snap.active)
snap_reply (Err f) = Err f

-- with any pages, since they play no part
pub record Finished (size : ℕ) (given : Snap) (r : Reached) (before after : Meaning) (told : Result (Option ℕ × Option ℕ) Refusal)
    (notes : ℕ → Option Note) (laid : Bool) (budget : Budget) (ps : List Page) : Type 0 where
  pub reply : told ≡ snap_reply (closed notes before size laid given budget (finish size given ps (walked_to r)))
  pub device : Alike after (left before (closed notes before size laid given budget (finish size given ps (walked_to r))))
