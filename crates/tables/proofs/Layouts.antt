-- A slice that holds a map: what its first entries are, and what the edits of a table leave. Assumes nothing.
use Rattle.std.proofs.Common.{◌≡◌, ℕ, ◌+◌, ◌-◌, ◌<◌, ◌≤◌, true, List, [], ◌∷◌, ◌++◌, length, take, drop, set, replicate, is_some, Some, Ok, Err, sym, refl, ap, ◌∙◌, ap₂, arith, length-append, length-drop, length-set}
use lib.ListN.{length-replicate}
use borrow.Rule.Slice.PartMut.{put_mid}
use Rattle.std.proofs.lemmas.List.{take_at, drop_at, length-take-le, set-append_left, drop-replicate, replicate-append-replicate, drop-drop}
use Rattle.std.proofs.lemmas.List.Edits.{length-insert}
use Rattle.std.proofs.lemmas.Bool.{false≢true}
use Rattle.std.specs.List.{slice_get}
use Rattle.tables.specs.declared.entry.Entry.{Entry}
use Rattle.tables.specs.declared.table.SortedTable.{SortedTable}
use Rattle.tables.specs.Entries.{rising, put, Located, laid}
use Rattle.tables.specs.Views.{contents, capacity, lent}
use Rattle.tables.proofs.Moves.{LastFirst, inserted_by, removed_by}
use Rattle.tables.proofs.Puts.{put_found, put_none, rising-put}
use Rattle.tables.proofs.Ranks.{rank_most}
use Rattle.tables.proofs.Steps.{rising_parts}

module _ {V : Type 0} where
  -- the first m of ys are the map es, over `size` entries with b for blank: what a table asks, and what its calls say
  pub record Holds (size : ℕ) (b : V) (m : ℕ) (ys es : List (Entry V)) : Type 0 where
    pub within : m ≤ length ys
    pub ordered : rising (take m ys) ≡ true
    pub shown : ys ≡ laid (length ys) b (take m ys)
    pub contents : take m ys ≡ es
    pub long : length ys ≡ size

  holds : (size : ℕ) (b : V) (m : ℕ) (ys es : List (Entry V)) → rising es ≡ true → length es ≡ m → m ≤ size → ys ≡ laid size b es → Holds size b m ys es
  unfolding laid
  holds size b m ys es o len fits is =
      let spare : Entry V = record { key = 0; value = b } in
      let front : take m ys ≡ es = ap (take m) is ∙ take_at es (replicate (size - length es) spare) m len in
      let long : length ys ≡ size = ap length is ∙ length-append es (replicate (size - length es) spare) ∙ omega (arith, length-replicate (size - length es) spare) in
      record {
        within = omega arith;
        ordered = ap rising front ∙ o;
        shown = is ∙ ap₂ (λ n l. laid n b l) (sym long) (sym front);
        contents = front;
        long = long;
      }

  pub holds_none : (size : ℕ) (b : V) (ys : List (Entry V)) → ys ≡ replicate size (record { key = 0; value = b }) → Holds size b 0 ys []
  unfolding laid rising
  holds_none size b ys is = holds size b 0 ys [] refl refl (omega arith) (is ∙ ap (λ n. replicate n (record { key = 0; value = b })) (omega arith))

  rising-rest : (es : List (Entry V)) → rising es ≡ true → rising (drop 1 es) ≡ true
  rising-rest [] o = o
  rising-rest (e ∷ es) o = (rising_parts e es o).1

  first_there : (es : List (Entry V)) (e : Entry V) → Some e ≡ slice_get es 0 → 0 < length es
  first_there [] e f = absurd (false≢true (sym (ap is_some f)))
  first_there (x ∷ es) e f = omega arith

  -- a table t, and what an edit leaves of its slice
  module _ (t : SortedTable V) where
    pub used : length (contents t) ≡ t.len
    used = length-take-le t.len (lent t) t.within

    abbrev spare : Entry V
    spare = record { key = 0; value = t.blank }

    unused : drop t.len (lent t) ≡ replicate (capacity t - t.len) spare
    unfolding laid
    unused =
        ap (drop t.len) t.clean ∙ drop_at (contents t) (replicate (capacity t - length (contents t)) spare) t.len used
        ∙ ap (λ k. replicate (capacity t - k) spare) used

    pub holds_replaced : (x : Entry V) (at : ℕ) → Located x.key (contents t) (Ok at) → Holds (capacity t) t.blank t.len (set (lent t) at x) (put x (contents t))
    unfolding laid
    holds_replaced x at l =
        let es = contents t in
        let new = put_found x at es t.ordered l.1 l.2 in
        let long : length (put x es) ≡ length es = ap length (sym new) ∙ length-set es at x in
        holds (capacity t) t.blank t.len (set (lent t) at x) (put x es) (rising-put x es t.ordered) (long ∙ used) t.within
        (ap (λ l. set l at x) t.clean ∙ set-append_left es (replicate (capacity t - length es) spare) at x l.0 ∙ ap₂ (λ l k. l ++ replicate (capacity t - k) spare) new (sym long))

    -- the entry written past those in use, and then they are turned by one from its place on
    pub holds_inserted : (x : Entry V) (at : ℕ) (turned : List (Entry V)) → Located x.key (contents t) (Err at) → (t.len ≡ capacity t → ⊥) → LastFirst at (t.len + 1 - at) (set (lent t) t.len x) turned
        → Holds (capacity t) t.blank (t.len + 1) (put_mid at (t.len + 1 - at) (set (lent t) t.len x) turned) (put x (contents t))
    unfolding laid
    holds_inserted x at turned l left is =
        let es = contents t in
        let within : at ≤ t.len = omega (arith, l.0, rank_most x.key es, used) in
        let new = put_none x at es l.0 l.1 in
        let long : length (put x es) ≡ t.len + 1 = ap length (sym new) ∙ length-insert es at x (omega (arith, used)) ∙ omega (arith, used) in
        let rest : drop (t.len + 1) (lent t) ≡ replicate (capacity t - length (put x es)) spare =
        sym (drop-drop 1 t.len (lent t)) ∙ ap (drop 1) unused ∙ drop-replicate 1 (capacity t - t.len) spare ∙ ap (λ k. replicate k spare) (omega arith)
        in
        holds (capacity t) t.blank (t.len + 1) _ (put x es) (rising-put x es t.ordered) long (omega (arith, left, t.within))
        (inserted_by (lent t) turned at t.len x within (omega (arith, left, t.within)) is ∙ ap₂ ◌++◌ new rest)

    -- the entries in use turned by one, and then the last of them made blank
    pub holds_removed : (e : Entry V) (turned : List (Entry V)) → Some e ≡ slice_get (contents t) 0 → turned ≡ drop 1 (contents t) ++ take 1 (contents t)
        → Holds (capacity t) t.blank (t.len - 1) (set (turned ++ drop t.len (lent t)) (t.len - 1) spare) (drop 1 (contents t))
    unfolding laid
    holds_removed e turned first is =
        let es = contents t in
        let some : 0 < t.len = omega (arith, first_there es e first, used) in
        let long : length (drop 1 es) ≡ t.len - 1 = length-drop 1 es ∙ omega (arith, used) in
        let rest : spare ∷ drop t.len (lent t) ≡ replicate (capacity t - length (drop 1 es)) spare =
        ap (λ l. spare ∷ l) unused ∙ replicate-append-replicate 1 (capacity t - t.len) spare ∙ ap (λ k. replicate k spare) (omega (arith, t.within))
        in
        holds (capacity t) t.blank (t.len - 1) _ (drop 1 es) (rising-rest es t.ordered) long (omega (arith, t.within))
        (removed_by es turned (drop t.len (lent t)) (t.len - 1) spare (first_there es e first) long is ∙ ap (λ l. drop 1 es ++ l) rest)
