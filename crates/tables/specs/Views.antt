-- What a table stands for.
--     contents  the map: its entries in use, in rising order of key
--     lent      what its slice holds
--     capacity  how many entries its slice has
--     Same      it lies over the same slice as before, with the same blank value: a relation of two tables, so no fact of the type
-- Each table keeps `within`, `ordered` and `clean`: its slice holds the contents, in rising order, and past them blank entries.
-- Assumes nothing.
use Rattle.std.specs.Prelude.{◌≡◌, ℕ, List, length, take}
use Rattle.tables.specs.declared.entry.Entry.{Entry}
use Rattle.tables.specs.declared.table.SortedTable.{SortedTable}

module _ {V : Type 0} where
  abbrev pub contents : SortedTable V → List (Entry V)
  contents t = take t.len t.entries.now

  abbrev pub lent : SortedTable V → List (Entry V)
  lent t = t.entries.now

  abbrev pub capacity : SortedTable V → ℕ
  capacity t = length (lent t)

  pub record Same (before after : SortedTable V) : Type 0 where
    pub lender : after.entries.ghost_name ≡ before.entries.ghost_name
    pub size : capacity after ≡ capacity before
    pub blank : after.blank ≡ before.blank
