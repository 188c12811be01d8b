-- The worked examples, by computation. Assumes nothing.
use Rattle.std.proofs.Common.{refl}
use Rattle.pages.specs.Examples.{bare_snap, link, Examples}
use Rattle.pages.specs.Pages.{fragments, item_of, joined, applied, apply, verdict, fold}
use Rattle.pages.specs.Snapshots.{round_up, coords_at, coords, sound_pages, placed, well_formed}

pub examples : Examples
unfolding bare_snap link fragments item_of joined applied apply verdict fold round_up coords_at coords sound_pages placed well_formed
examples = record {
  room = refl;
  full = refl;
  headed = refl;
  early = refl;
  begun = refl;
  astray = refl;
  zero = refl;
  between = refl;
  next = refl;
  last = refl;
  alone = refl;
  folded = refl;
  active = refl;
  absent = refl;
}
