-- The order in which a walk yields records (docs/RECOVERY.md, "A walk"). Assumes nothing.
--   Rising low top rs   the LSNs of records rise, from `low` on and below `top`
use Rattle.std.specs.Prelude.{ℕ, suc, ◌<◌, ◌≤◌, List, [], ◌∷◌}
use Rattle.messages.specs.declared.log_read.Record.{Record}

abbrev pub Rising : ℕ → ℕ → List Record → Type 0
Rising low top [] = low ≤ top
Rising low top (r ∷ rs) = (low ≤ r.lsn) × (r.lsn < top) × Rising (suc r.lsn) top rs
