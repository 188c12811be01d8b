-- A search by halves: what its bounds say of the key's rank. Assumes nothing.
use Rattle.std.proofs.Common.{◌≡◌, ℕ, ◌+◌, ◌-◌, ◌/◌, ◌<◌, ◌≤◌, true, List, length, get_or, is_some, None, ap, subst, arith}
use Rattle.std.proofs.lemmas.List.{get_or_default}
use Rattle.tables.specs.declared.entry.Entry.{Entry}
use Rattle.tables.specs.Entries.{rising, find, rank}
use Rattle.tables.proofs.Ranks.{rank_most, rank_above, rank_below, rank_here, find_here, find_none}

module _ {V : Type 0} where
  -- the keys below `low` are less than k, and those from `high` on greater
  pub record Between (k : ℕ) (es : List (Entry V)) (low high : ℕ) : Type 0 where
    pub least : low ≤ rank k es
    pub most : rank k es ≤ high
    pub within : high ≤ length es
    pub past : (d : Entry V) → high < length es → k < (get_or es high d).key

  module _ (k : ℕ) (es : List (Entry V)) where
    pub between_all : Between k es 0 (length es)
    between_all = record { least = omega arith; most = rank_most k es; within = omega arith; past = λ d h. absurd (omega arith) }

    -- at the middle, read with the default d
    module _ (low high : ℕ) (d : Entry V) (b : Between k es low high) (lt : low < high) where
      abbrev mid : ℕ
      mid = low + (high - low) / 2

      in-range : mid < length es
      in-range = omega (arith, b.within)

      pub between_up : rising es ≡ true → (get_or es mid d).key < k → Between k es (mid + 1) high
      between_up o h =
          let less = rank_below k mid es d o in-range h in
          record { least = omega arith; most = b.most; within = b.within; past = b.past }

      pub between_down : ((get_or es mid d).key ≡ k → ⊥) → k ≤ (get_or es mid d).key → Between k es low mid
      between_down other h = record {
        least = b.least;
        most = rank_above k mid es d in-range h;
        within = omega (arith, b.within);
        past = λ e _. omega (arith, other, ap (λ y. y.key) (get_or_default es mid d e in-range));
      }

      pub between_found : rising es ≡ true → (get_or es mid d).key ≡ k → (mid < length es) × (mid ≡ rank k es) × (is_some (find k es) ≡ true)
      between_found o s = (in-range, rank_here k mid es d o in-range s, ap is_some (find_here k mid es d o in-range s))

    pub between_none : (low high : ℕ) → Between k es low high → high ≤ low → rising es ≡ true → (low ≡ rank k es) × (find k es ≡ None)
    between_none low high b h o =
        let at : low ≡ rank k es = omega (arith, b.least, b.most) in
        let top : high ≡ rank k es = omega (arith, b.least, b.most) in
        (at, find_none k es o (λ d l. subst (λ n. k < (get_or es n d).key) top (b.past d (omega arith))))
