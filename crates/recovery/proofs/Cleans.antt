-- What a walk comes to: over the segments of a scan it is clean, and with no current LSN it has no records. Assumes nothing.
use Rattle.std.proofs.Common.{◌≡◌, ◌≢◌, ℕ, zero, suc, ◌+◌, ◌*◌, ◌^◌, ◌<◌, ◌≤◌, Bool, true, List, [], ◌∷◌, length, get_or, drop, Some, None, Option, IfSome, sym, ap, ap₂, ◌∙◌, subst, arith, length-drop}
use Rattle.std.proofs.lemmas.List.{get_or-drop}
use Rattle.std.specs.List.{All, AllPairs, AllByRecursion}
use Rattle.blobs.specs.declared.note.Note.{Note}
use Rattle.layout.proofs.Powers.{sized}
use Rattle.layout.specs.Sizes.{is_segment_size}
use Rattle.scan.proofs.Taken.{Taken, Orderly, gap, place-multiple, place-ends, lsn-multiple, lsn-least, lsn-ends}
use Rattle.scan.specs.Headers.{head_at, head_lsn}
use Rattle.scan.specs.Order.{Segment}
use Rattle.tables.proofs.Ranks.{below_all}
use Rattle.tables.proofs.Steps.{rising_parts}
use Rattle.tables.specs.Entries.{rising}
use Rattle.walks.proofs.Ranges.{Spaced, reach, Ran, ran}
use Rattle.walks.specs.Walk.{Walked, with_held, walk}
use Rattle.recovery.specs.Finishing.{Room, Clean}
use Rattle.recovery.specs.declared.finish.Reached.{Reached}

-- ---- the segments of a scan
pub all_of : (P : Segment → Type 0) (ss : List Segment) → AllByRecursion P ss → (k : ℕ) (d : Segment) → k < length ss → P (get_or ss k d)
all_of P [] a k d h = absurd (omega arith)
all_of P (s ∷ ss) a zero d h = a.0
all_of P (s ∷ ss) a (suc k) d h = all_of P ss a.1 k d (omega arith)

rising_lt : (i j : ℕ) (ss : List Segment) (d : Segment) → rising ss ≡ true → i < j → j < length ss → (get_or ss i d).key < (get_or ss j d).key
rising_lt i j [] d r a b = absurd (omega arith)
rising_lt i zero (s ∷ ss) d r a b = absurd (omega arith)
rising_lt zero (suc j) (s ∷ ss) d r a b = let q = rising_parts s ss r in below_all s.key j ss d q.0 q.1 (omega arith)
rising_lt (suc i) (suc j) (s ∷ ss) d r a b = rising_lt i j ss d (rising_parts s ss r).1 (omega arith) (omega arith)

module _ (size : ℕ) (dev : List ℕ) (low n capacity : ℕ) (ss : List Segment) (o : Orderly size dev low n ss) where
  -- two headers at one place have one LSN
  scanned_apart : AllPairs (λ (a b : Segment). a.value ≢ b.value) ss
  scanned_apart i j d a b e =
      let t = all_of (Taken size dev low n) ss o.all i d (omega arith) in
      let u = all_of (Taken size dev low n) ss o.all j d b in
      let k : (get_or ss i d).key ≡ (get_or ss j d).key = t.lsn ∙ ap (λ p. head_lsn (head_at dev p)) e ∙ sym u.lsn in
      absurd (omega (arith, k, rising_lt i j ss d o.rises a b))

  pub scanned_room : is_segment_size size ≡ true → n * size ≤ capacity → n * size < 2 ^ 64 → All (Room size capacity) ss
  scanned_room z c l k d h =
      let s = get_or ss k d in
      let t = all_of (Taken size dev low n) ss o.all k d h in
      let e = place-ends size dev low n s t in
      record {
        small = record { lsn = lsn-ends size dev low n s t z; place = omega arith; aligned = place-multiple size dev low n s t };
        ends = omega arith;
      }

-- ---- a walk over the segments of a scan
pub drop_all_of : (P : Segment → Type 0) (k : ℕ) (ss : List Segment) → All P ss → All P (drop k ss)
drop_all_of P k ss a i d h = rw get_or-drop (a (k + i) d (omega (arith, length-drop k ss)))

drop_apart : (k : ℕ) (ss : List Segment) → AllPairs (λ (a b : Segment). a.value ≢ b.value) ss → AllPairs (λ (a b : Segment). a.value ≢ b.value) (drop k ss)
drop_apart k ss a i j d h l = rw (get_or-drop k ss i d, get_or-drop k ss j d) (a (k + i) (k + j) d (omega arith) (omega (arith, length-drop k ss)))

-- segments with rising LSNs that are multiples of the size
spaced : (size from n : ℕ) (dev : List ℕ) (low : ℕ) (ss : List Segment) → is_segment_size size ≡ true → from ≤ 2 ^ 62 → AllByRecursion (Taken size dev low n) ss → rising ss ≡ true
    → ((k : ℕ) (d : Segment) → k < length ss → from ≤ (get_or ss k d).key) → Spaced size from (2 ^ 62) ss
spaced size from n dev low [] z l a r f = l
spaced size from n dev low (s ∷ ss) z l a r f =
    let q = rising_parts s ss r in
    let e = lsn-ends size dev low n s a.0 z in (
      f 0 s (omega arith),
      place-multiple size dev low n s a.0,
      spaced size (s.key + size) n dev low ss z e a.1 q.1
          (λ k d h. gap size s.key (get_or ss k d).key (lsn-multiple size dev low n s a.0) (lsn-multiple size dev low n (get_or ss k d) (all_of (Taken size dev low n) ss a.1 k d h)) (below_all s.key k ss d q.0 q.1 h)),
    )

module _ (notes : ℕ → Option Note) (size : ℕ) (dev : List ℕ) (limit : Option ℕ) (last : Bool) (low n : ℕ) (ss : List Segment) (z : is_segment_size size ≡ true) (o : Orderly size dev low n ss) (small : low ≤ 2 ^ 62) where
  abbrev whole : Walked
  whole = walk notes size dev limit last None ss

  -- a walk over the segments of a scan
  pub scan_ran : Ran size low (2 ^ 62) ss whole
  scan_ran =
      ran notes size dev limit last (omega (arith, (sized size z).low)) (2 ^ 62) low None ss tt
      (spaced size low n dev low ss z small o.all o.rises (λ k d h. lsn-least size dev low n (get_or ss k d) (all_of (Taken size dev low n) ss o.all k d h)))

  pub walk_clean : (capacity : ℕ) (r : Reached) → n * size ≤ capacity → n * size < 2 ^ 64 → r.current ≡ whole.current → r.held ≡ whole.held → r.left.now ≡ whole.left → Clean size capacity r
  walk_clean capacity r c l e f g =
      let room = scanned_room size dev low n capacity ss o z c l in
      let t = scan_ran in
      let stands : with_held r.held r.left.now ≡ drop t.taken ss = ap₂ with_held f g ∙ t.others in
      record {
        sized = z;
        current = subst (λ x. IfSome x (λ c. c ≤ 2 ^ 62)) (sym e) (current_below whole.current t.below);
        room = subst (All (Room size capacity)) (sym stands) (drop_all_of (Room size capacity) t.taken ss room);
        apart = subst (AllPairs (λ (a b : Segment). a.value ≢ b.value)) (sym stands) (drop_apart t.taken ss (scanned_apart size dev low n capacity ss o));
      }
    where
      current_below : (o : Option ℕ) → reach low o ≤ 2 ^ 62 → IfSome o (λ c. c ≤ 2 ^ 62)
      current_below None h = tt
      current_below (Some c) h = h
