-- What the definitions on a map come to, in the words of a map: what is found, in which order, and how many keys there are. Assumes nothing.
use Rattle.std.specs.Prelude.{◌≡◌, ℕ, ◌+◌, ◌<◌, ◌≤◌, true, if◌then◌else◌, List, ◌∷◌, length, is_some, Some, None, ◌≢◌}
use Rattle.std.specs.List.{slice_get}
use Rattle.tables.specs.declared.entry.Entry.{Entry}
use Rattle.tables.specs.Entries.{rising, find, put}

pub record Laws (V : Type 0) : Type 0 where
  -- what is put at a key is found there, no other key changes, and keys still rise
  pub found : (x : Entry V) (es : List (Entry V)) → find x.key (put x es) ≡ Some x.value
  pub others : (x : Entry V) (es : List (Entry V)) (k : ℕ) → (k ≢ x.key) → find k (put x es) ≡ find k es
  pub rises : (x : Entry V) (es : List (Entry V)) → rising es ≡ true → rising (put x es) ≡ true
  -- the first entry has the least key; without it that key is gone, and no other changes
  pub least : (e : Entry V) (es : List (Entry V)) (k : ℕ) → rising (e ∷ es) ≡ true → is_some (find k (e ∷ es)) ≡ true → e.key ≤ k
  pub gone : (e : Entry V) (es : List (Entry V)) → rising (e ∷ es) ≡ true → find e.key es ≡ None
  pub stays : (e : Entry V) (es : List (Entry V)) (k : ℕ) → (k ≢ e.key) → find k es ≡ find k (e ∷ es)
  -- each key stands in one place, so that the length is the number of keys; a new key adds one
  pub apart : (es : List (Entry V)) (i j : ℕ) (d e : Entry V) → rising es ≡ true → slice_get es i ≡ Some d → slice_get es j ≡ Some e → i < j → d.key < e.key
  pub placed : (es : List (Entry V)) (i : ℕ) (e : Entry V) → rising es ≡ true → slice_get es i ≡ Some e → find e.key es ≡ Some e.value
  pub stands : (es : List (Entry V)) (k : ℕ) (v : V) → find k es ≡ Some v → (i : ℕ) × (i < length es) × (slice_get es i ≡ Some (record { key = k; value = v }))
  pub counted : (x : Entry V) (es : List (Entry V)) → rising es ≡ true → length (put x es) ≡ (if is_some (find x.key es) then length es else length es + 1)
