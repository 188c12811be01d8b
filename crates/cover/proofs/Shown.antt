-- What a cover shows, and what a mark and a write change of it.
use Rattle.std.proofs.Common.{◌≡◌, ℕ, ◌+◌, ◌-◌, ◌*◌, ◌/◌, ◌%◌, ◌<◌, ◌≤◌, max, cond, ◌&&◌, ◌≢◌, ◌⊎◌, nat_le, nat_lt, List, length, get_or, true, take, drop, set, replicate, Some, None, Option, sym, refl, ap, ◌∙◌, inl, inr, mul-le-mul_right, add-mul, one-mul, arith}
use Rattle.std.proofs.lemmas.List.FromFn.{length-map-range_with_len, get_or-map-range_with_len}
use Rattle.std.proofs.lemmas.List.{ext_get_or, get_or_past, places}
use Rattle.std.proofs.lemmas.Bool.{cases_eq, cases_lt}
use Rattle.std.proofs.lemmas.Bool.Decides.{nat_tests}
use Rattle.device.proofs.Blocks.{in_block, block_of, fits_bounds}
use Rattle.device.proofs.Written.{lays, length-laid}
use Rattle.device.specs.Writes.{laid, fits}
use Rattle.layout.proofs.Powers.{sized as segment_sized}
use Rattle.layout.specs.Sizes.{is_segment_size}
use Rattle.cover.proofs.Entries.{entry_none, entry_holds, mark_named, mark_other}
use Rattle.cover.specs.Entries.{entry_of}
use Rattle.cover.specs.Shown.{block_bytes, seen, shown}

pub length-shown : (len size : ℕ) (entries : List (Option ℕ)) (cover medium : List ℕ) → length (shown len size entries cover medium) ≡ len
unfolding shown
length-shown len size entries cover medium = length-map-range_with_len (seen size entries cover medium) 0 len

pub get_or-shown : (len size : ℕ) (entries : List (Option ℕ)) (cover medium : List ℕ) (k : ℕ) → k < len → get_or (shown len size entries cover medium) k 0 ≡ seen size entries cover medium k
unfolding shown
get_or-shown len size entries cover medium k h = get_or-map-range_with_len (seen size entries cover medium) 0 len k k 0 h (omega arith)

-- what shows the same bytes is the same
pub same_shown : (len size : ℕ) (entries entries' : List (Option ℕ)) (cover cover' medium : List ℕ)
    → ((k : ℕ) → seen size entries' cover' medium k ≡ seen size entries cover medium k) → shown len size entries' cover' medium ≡ shown len size entries cover medium
same_shown len size entries entries' cover cover' medium same =
    let l = length-shown len size entries cover medium in
    let l' = length-shown len size entries' cover' medium in
    ext_get_or 0 _ _ (omega arith) (λ k h. get_or-shown len size entries' cover' medium k (omega arith) ∙ (same k ∙ sym (get_or-shown len size entries cover medium k (omega arith))))

-- blocks of the cover buffer do not overlap
apart : (size i j r : ℕ) → j ≢ i → r < size → (j * size + r < i * size) ⊎ (i * size + size ≤ j * size + r)
apart size i j r ne l = elim (cases_lt j i) [
  | inl less ↦ let m = mul-le-mul_right {m = j + 1} {n = i} size (omega arith) in let s = add-mul j 1 size in let o = one-mul size in inl (omega arith)
  | inr more ↦ let m = mul-le-mul_right {m = i + 1} {n = j} size (omega arith) in let s = add-mul i 1 size in let o = one-mul size in inr (omega arith)
]

module _ (size : ℕ) (p : 0 < size) where
  -- the bytes behind a place, as far as its block goes
  pub seen_piece : (entries : List (Option ℕ)) (cover medium : List ℕ) (at k : ℕ) → at % size + k < size → seen size entries cover medium (at + k) ≡ get_or (block_bytes size entries cover medium (at / size)) (at % size + k) 0
  unfolding seen
  seen_piece entries cover medium at k low =
      let a = in_block size at p in
      let b = in_block size (at + k) p in
      let d : (at + k) / size ≡ at / size = block_of size (at / size) (at + k) (omega arith) (omega arith) in
      let e : (at + k) / size * size ≡ at / size * size = ap (λ x. x * size) d in
      let m : (at + k) % size ≡ at % size + k = omega arith in
      ap (λ x. get_or (block_bytes size entries cover medium x) ((at + k) % size) 0) d ∙ ap (λ x. get_or (block_bytes size entries cover medium (at / size)) x 0) m

  pub seen_cover : (entries : List (Option ℕ)) (cover medium : List ℕ) (k i : ℕ) → entry_of entries (Some (k / size)) ≡ Some i → seen size entries cover medium k ≡ get_or cover (i * size + k % size) 0
  unfolding seen
  seen_cover entries cover medium k i e =
      let b = in_block size k p in
      let t : block_bytes size entries cover medium (k / size) ≡ take size (drop (i * size) cover) = ap (λ o. elim o [ Some i ↦ take size (drop (i * size) cover) | None ↦ take size (drop (k / size * size) medium) ]) e in
      ap (λ l. get_or l (k % size) 0) t ∙ grind (arith, places)

  pub seen_medium : (entries : List (Option ℕ)) (cover medium : List ℕ) (k : ℕ) → entry_of entries (Some (k / size)) ≡ None → seen size entries cover medium k ≡ get_or medium k 0
  unfolding seen
  seen_medium entries cover medium k e =
      let b = in_block size k p in
      let t : block_bytes size entries cover medium (k / size) ≡ take size (drop (k / size * size) medium) = ap (λ o. elim o [ Some i ↦ take size (drop (i * size) cover) | None ↦ take size (drop (k / size * size) medium) ]) e in
      ap (λ l. get_or l (k % size) 0) t ∙ grind (arith, places)

  -- with no entry marked, the bytes are those of the medium
  module _ (n : ℕ) (cover medium : List ℕ) where
    seen_unmarked : (k : ℕ) → seen size (replicate n None) cover medium k ≡ get_or medium k 0
    seen_unmarked k = seen_medium (replicate n None) cover medium k (entry_none n (k / size))

    pub zeros_unmarked : (k : ℕ) → length medium ≤ k → seen size (replicate n None) cover medium k ≡ 0
    zeros_unmarked k h = seen_unmarked k ∙ get_or_past medium k 0 h

    pub shown_unmarked : shown (length medium) size (replicate n None) cover medium ≡ medium
    shown_unmarked =
        let l = length-shown (length medium) size (replicate n None) cover medium in
        ext_get_or 0 _ _ l (λ k h. get_or-shown (length medium) size (replicate n None) cover medium k (omega arith) ∙ seen_unmarked k)

  -- the buffer changes in its block i alone
  module _ (entries entries' : List (Option ℕ)) (cover cover' medium : List ℕ) (i : ℕ)
      (kept : (x : ℕ) → (x < i * size) ⊎ (i * size + size ≤ x) → get_or cover' x 0 ≡ get_or cover x 0) where
    -- a byte of another block
    seen_there : (k : ℕ) → entry_of entries' (Some (k / size)) ≡ entry_of entries (Some (k / size)) → ((j : ℕ) → entry_of entries (Some (k / size)) ≡ Some j → j ≢ i)
        → seen size entries' cover' medium k ≡ seen size entries cover medium k
    seen_there k m other = go (entry_of entries (Some (k / size))) refl
      where
        go : (o : Option ℕ) → entry_of entries (Some (k / size)) ≡ o → seen size entries' cover' medium k ≡ seen size entries cover medium k
        go None e = seen_medium entries' cover' medium k (m ∙ e) ∙ sym (seen_medium entries cover medium k e)
        go (Some j) e =
            let r = (in_block size k p).1 in
            seen_cover entries' cover' medium k j (m ∙ e) ∙ (kept (j * size + k % size) (apart size i j (k % size) (other j e) r) ∙ sym (seen_cover entries cover medium k j e))

  -- an unmarked entry gets the block b, and the block's bytes. `z` is the block size as the code asked for it
  module _ (z len : ℕ) (same : z ≡ size) (entries entries' : List (Option ℕ)) (cover cover' medium : List ℕ) (b i : ℕ)
      (free : entry_of entries None ≡ Some i) (none : entry_of entries (Some b) ≡ None) (marked : entries' ≡ set entries i (Some b))
      (kept : (x : ℕ) → (x < i * z) ⊎ (i * z + z ≤ x) → get_or cover' x 0 ≡ get_or cover x 0)
      (copied : (r : ℕ) → r < z → get_or cover' (i * z + r) 0 ≡ get_or medium (b * z + r) 0) where
    seen_set : (k : ℕ) → seen size (set entries i (Some b)) cover' medium k ≡ seen size entries cover medium k
    seen_set k = elim (cases_eq (k / size) b) [
      | inl e ↦
          let m : entry_of (set entries i (Some b)) (Some (k / size)) ≡ Some i = ap (λ x. entry_of (set entries i (Some b)) (Some x)) e ∙ mark_named entries b i free none in
          let o : entry_of entries (Some (k / size)) ≡ None = ap (λ x. entry_of entries (Some x)) e ∙ none in
          let h = in_block size k p in
          let g : b * size ≡ k / size * size = ap (λ x. x * size) (sym e) in
          let q : b * size + k % size ≡ k = omega arith in
          let d = copied (k % size) (omega arith) in
          let d' : get_or cover' (i * size + k % size) 0 ≡ get_or medium (b * size + k % size) 0 = ap (λ y. get_or cover' (i * y + k % size) 0) (sym same) ∙ (d ∙ ap (λ y. get_or medium (b * y + k % size) 0) same) in
          seen_cover (set entries i (Some b)) cover' medium k i m ∙ (d' ∙ (ap (λ x. get_or medium x 0) q ∙ sym (seen_medium entries cover medium k o)))
      | inr ne ↦
          let u = (entry_holds entries None i free).1 in
          seen_there entries (set entries i (Some b)) cover cover' medium i (λ x h. kept x (rw same h)) k (mark_other entries b i free (k / size) ne)
          (λ j e q. let h = (entry_holds entries (Some (k / size)) j e).1 in
          let f : ◌≡◌ {A = Option ℕ} (Some (k / size)) None = sym h ∙ (ap (λ x. get_or entries x None) q ∙ u) in
          let z : ◌≡◌ {A = ℕ} 0 1 = cc in absurd (omega arith))
    ]

    seen_marked : (k : ℕ) → seen size entries' cover' medium k ≡ seen size entries cover medium k
    seen_marked k = ap (λ e. seen size e cover' medium k) marked ∙ seen_set k

    pub shown_marked : shown len size entries' cover' medium ≡ shown len size entries cover medium
    shown_marked = same_shown len size entries entries' cover cover' medium seen_marked

    pub zeros_marked : ((k : ℕ) → len ≤ k → seen size entries cover medium k ≡ 0) → (k : ℕ) → len ≤ k → seen size entries' cover' medium k ≡ 0
    zeros_marked zeros k h = seen_marked k ∙ zeros k h

  -- the block of a live entry lies in the buffer
  pub room : (live i n : ℕ) → i < live → live * size ≤ n → i * size + size ≤ n
  room live i n low fits = let m = mul-le-mul_right {m = i + 1} {n = live} size (omega arith) in let a = add-mul i 1 size in let o = one-mul size in omega arith

  -- `src` is put at `at`, whose block has the entry i
  module _ (len len' start : ℕ) (entries : List (Option ℕ)) (cover cover' medium src : List ℕ) (at i : ℕ) (grown : len' ≡ max len (at + length src))
      (zeros : (k : ℕ) → len ≤ k → seen size entries cover medium k ≡ 0)
      (short : at % size + length src ≤ size) (to : entry_of entries (Some (at / size)) ≡ Some i) (begin : start ≡ i * size + at % size)
      (wrote : (x : ℕ) → get_or cover' x 0 ≡ cond (nat_le start x && nat_lt x (start + length src)) (get_or src (x - start) 0) (get_or cover x 0)) where
    seen_new : (k : ℕ) → seen size entries cover' medium k ≡ cond (nat_le at k && nat_lt k (at + length src)) (get_or src (k - at) 0) (seen size entries cover medium k)
    seen_new k =
        let here = in_block size k p in
        let there = in_block size at p in
        elim (cases_eq (k / size) (at / size)) [
          | inl e ↦
              let f : k / size * size ≡ at / size * size = ap (λ x. x * size) e in
              let t : entry_of entries (Some (k / size)) ≡ Some i = ap (λ x. entry_of entries (Some x)) e ∙ to in
              let n = seen_cover entries cover' medium k i t in
              let o = seen_cover entries cover medium k i t in
              let w = wrote (i * size + k % size) in
              grind (arith, nat_tests)
          | inr ne ↦
              let out : at ≤ k → k < at + length src → ⊥ = λ l h. ne (block_of size (at / size) k (omega arith) (omega arith)) in
              let o = seen_there entries entries cover cover' medium i (λ x h. let w = wrote x in elim h [ inl l ↦ grind (arith, nat_tests) | inr l ↦ grind (arith, nat_tests) ]) k refl
              (λ j e q. let a = (entry_holds entries (Some (k / size)) j e).1 in
              let b = (entry_holds entries (Some (at / size)) i to).1 in
              let s : ◌≡◌ {A = Option ℕ} (Some (k / size)) (Some (at / size)) = sym a ∙ (ap (λ x. get_or entries x None) q ∙ b) in
              let z : k / size ≡ at / size = cc in ne z) in
              elim (cases_lt k at) [
                | inl l ↦ grind (arith, nat_tests)
                | inr l ↦ elim (cases_lt k (at + length src)) [ inl h ↦ absurd (out l h) | inr h ↦ grind (arith, nat_tests) ]
              ]
        ]

    get_or-shown_all : (k : ℕ) → get_or (shown len size entries cover medium) k 0 ≡ seen size entries cover medium k
    get_or-shown_all k = elim (cases_lt k len) [
      | inl h ↦ get_or-shown len size entries cover medium k h
      | inr h ↦ let l = length-shown len size entries cover medium in get_or_past (shown len size entries cover medium) k 0 (omega arith) ∙ sym (zeros k h)
    ]

    pub shown_write : shown len' size entries cover' medium ≡ laid (shown len size entries cover medium) at src
    shown_write =
        let l = length-shown len size entries cover medium in
        let l' = length-shown len' size entries cover' medium in
        let n = length-laid (shown len size entries cover medium) at src in
        ext_get_or 0 _ _ (omega arith) (λ k h.
        let o = get_or-shown len' size entries cover' medium k (omega arith) in
        let s = seen_new k in
        let w = get_or-shown_all k in
        grind (arith, nat_tests, lays))

    pub zeros_write : (k : ℕ) → len' ≤ k → seen size entries cover' medium k ≡ 0
    zeros_write k h =
        let s = seen_new k in
        let z = zeros k (omega arith) in
        grind (arith, nat_tests)

-- where a write of n bytes at `at` goes: entry i has its block. The code knows the size as z
pub record Spot (size z capacity n at i room : ℕ) (entries : List (Option ℕ)) : Type 0 where
  pub some : 0 < size
  pub short : at % size + n ≤ size
  pub below : at + n ≤ capacity
  pub named : entry_of entries (Some (at / size)) ≡ Some i
  pub begin : i * z + at % z ≡ i * size + at % size
  pub within : i * size + size ≤ room

pub spot : (size z capacity n at i room-of : ℕ) (entries : List (Option ℕ)) → z ≡ size → is_segment_size z ≡ true → fits capacity size at n ≡ true → entry_of entries (Some (at / z)) ≡ Some i
    → length entries * size ≤ room-of → Spot size z capacity n at i room-of entries
spot size z capacity n at i room-of entries same sized fit to l =
    let p : 0 < size = let k = (segment_sized z sized).low in omega arith in
    let named : entry_of entries (Some (at / size)) ≡ Some i = ap (λ x. entry_of entries (Some (at / x))) (sym same) ∙ to in
    record {
      some = p;
      short = (fits_bounds capacity size at n p fit).0;
      below = (fits_bounds capacity size at n p fit).1;
      named = named;
      begin = ap (λ x. i * x + at % x) same;
      within = room size p (length entries) i room-of (entry_holds entries (Some (at / size)) i named).0 l;
    }
