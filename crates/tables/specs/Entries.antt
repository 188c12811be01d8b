-- A finite map by key, written as the list of its entries in rising order of key.
--     rising   each key lies below the next, so that no key stands twice
--     find     the value at a key
--     put      the map with an entry in the place of what it had at the entry's key
--     rank     how many keys at the front lie below a key
--     Located  an answer to where a key stands: its place, or the place where it would stand
--     laid     a slice of a given size that holds the map: its entries, then key 0 with a blank value
--     entries_code   how the logic tells lists of entries apart
-- Assumes nothing.
use Rattle.std.specs.Prelude.{◌≡◌, ℕ, suc, ◌-◌, ◌<◌, Bool, true, if◌then◌else◌, ◌&&◌, List, [], ◌∷◌, ◌++◌, length, replicate, is_some, Some, None, Ok, Err, Option, Result, ◌==◌, nat_lt, refl}
use Rattle.std.specs.Coded.{Coded, code_by, coded×, coded_ℕ, coded_list}
use Rattle.tables.specs.declared.entry.Entry.{Entry}

module _ {V : Type 0} where
  -- whether a key lies below the first
  unfoldable pub below : ℕ → List (Entry V) → Bool
  below k [] = true
  below k (e ∷ es) = nat_lt k e.key

  unfoldable pub rising : List (Entry V) → Bool
  rising [] = true
  rising (e ∷ es) = below e.key es && rising es

  unfoldable pub find : ℕ → List (Entry V) → Option V
  find k [] = None
  find k (e ∷ es) = if e.key == k then Some e.value else find k es

  unfoldable pub put : Entry V → List (Entry V) → List (Entry V)
  put x [] = x ∷ []
  put x (e ∷ es) = if nat_lt e.key x.key then e ∷ put x es else if e.key == x.key then x ∷ es else x ∷ e ∷ es

  unfoldable pub rank : ℕ → List (Entry V) → ℕ
  rank k [] = 0
  rank k (e ∷ es) = if nat_lt e.key k then suc (rank k es) else 0

  abbrev pub Located : ℕ → List (Entry V) → Result ℕ ℕ → Type 0
  Located k es (Ok at) = (at < length es) × (at ≡ rank k es) × (is_some (find k es) ≡ true)
  Located k es (Err at) = (at ≡ rank k es) × (find k es ≡ None)

  unfoldable pub laid : ℕ → V → List (Entry V) → List (Entry V)
  laid size blank es = es ++ replicate (size - length es) (record { key = 0; value = blank })

  abbrev pub entries_code : Coded V → Coded (List (Entry V))
  entries_code c = coded_list (code_by (ℕ × V) (coded× coded_ℕ c) (λ e. (e.key, e.value)) (λ p. record { key = p.0; value = p.1 }) (λ _. refl))
