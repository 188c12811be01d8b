-- Worked examples at size 256 (docs/RECOVERY.md, "Well-formed snapshots", "Coordinates" and "Examples"). Assumes nothing.
--   bare_snap n active  a snapshot without pages
--   link                a link to page 5 at LSN 20
--   Examples            jointly: which snapshots are well formed, a link without its page, coordinates
use Rattle.std.specs.Prelude.{◌≡◌, ℕ, ◌^◌, true, false, [], ◌∷◌, Some, None, Ok, Option}
use Rattle.layout.specs.declared.kind.LogKind.TheVariants.{Link}
use Rattle.messages.specs.declared.disk_pointer.DiskPtr.TheVariants.{Inline}
use Rattle.messages.specs.declared.log_read.Record.{Record}
use Rattle.pages.specs.Pages.{apply, fold}
use Rattle.pages.specs.Snapshots.{Snap, coords, well_formed}

unfoldable pub bare_snap : ℕ → Option ℕ → Snap
bare_snap n active = record { stable = Some n; active = active; pages = [] }

unfoldable pub link : Record
link = record { kind = Link; pid = 5; lsn = 20; ptr = Inline 20; len = 8 }

pub record Examples : Type 0 where
  -- in an active segment the progress is behind the header, with room behind it
  pub room : well_formed 256 (bare_snap 223 (Some 0)) ≡ true
  pub full : well_formed 256 (bare_snap 224 (Some 0)) ≡ false
  pub headed : well_formed 256 (bare_snap 20 (Some 0)) ≡ true
  pub early : well_formed 256 (bare_snap 19 (Some 0)) ≡ false
  pub begun : well_formed 256 (bare_snap 256 (Some 0)) ≡ false
  pub astray : well_formed 256 (bare_snap 40 (Some 100)) ≡ false
  -- without one there is none
  pub zero : well_formed 256 (bare_snap 0 None) ≡ true
  pub between : well_formed 256 (bare_snap 20 None) ≡ false
  pub next : well_formed 256 (bare_snap 256 None) ≡ true
  pub last : well_formed 256 (bare_snap (2 ^ 62) None) ≡ true
  -- a link without its page, with tables of 8 pages and no fragments
  pub alone : apply [] link ≡ []
  pub folded : fold 8 0 0 [] (link ∷ []) ≡ Ok []
  -- coordinates
  pub active : coords 256 (bare_snap 50 (Some 256)) ≡ (Some 306, Some 50)
  pub absent : coords 256 (bare_snap 256 None) ≡ (None, Some 256)
