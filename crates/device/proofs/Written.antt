-- Laws of `laid` and `written`. A gap and what lies past the end both read as 0, so each law on a byte holds at any place.
use Rattle.std.proofs.Common.{◌≡◌, ℕ, ◌+◌, ◌-◌, ◌<◌, ◌≤◌, max, cond, ◌&&◌, ltb, leb, ◌⊎◌, List, [], ◌++◌, length, get_or, sym, refl, inl, inr, append-nil, arith, rules}
use Rattle.std.proofs.lemmas.List.{places, ext_get_or, length-append, nil_from_length}
use Rattle.std.proofs.lemmas.Bool.{cases_lt}
use Rattle.std.proofs.lemmas.Bool.Decides.{nat_tests}
use Rattle.device.specs.Reads.{part}
use Rattle.device.specs.Writes.{laid, written}

pub length-laid : (old : List ℕ) (at : ℕ) (new : List ℕ) → length (laid old at new) ≡ max (length old) (at + length new)
unfolding laid
length-laid old at new = search (rules, places)

pub get_or-laid_below : (old : List ℕ) (at : ℕ) (new : List ℕ) (k : ℕ) → k < at → get_or (laid old at new) k 0 ≡ get_or old k 0
unfolding laid
get_or-laid_below old at new k h = grind (arith, places)

pub get_or-laid_in : (old : List ℕ) (at : ℕ) (new : List ℕ) (k : ℕ) → at ≤ k → k < at + length new → get_or (laid old at new) k 0 ≡ get_or new (k - at) 0
unfolding laid
get_or-laid_in old at new k h l = grind (arith, places)

pub get_or-laid_past : (old : List ℕ) (at : ℕ) (new : List ℕ) (k : ℕ) → at + length new ≤ k → get_or (laid old at new) k 0 ≡ get_or old k 0
unfolding laid
get_or-laid_past old at new k h = grind (arith, places)

pub ruleset lays = (length-laid, get_or-laid_below, get_or-laid_in, get_or-laid_past)

pub written_some : (old : List ℕ) (at : ℕ) (new : List ℕ) → 0 < length new → written old at new ≡ laid old at new
written_some old at new h = grind (arith, nat_tests)

pub written_none : (old : List ℕ) (at : ℕ) (new : List ℕ) → length new ≡ 0 → written old at new ≡ old
written_none old at new h = grind (arith, nat_tests)

pub length-written : (old : List ℕ) (at : ℕ) (new : List ℕ) → 0 < length new → length (written old at new) ≡ max (length old) (at + length new)
length-written old at new h = let e = written_some old at new h in let l = length-laid old at new in cc

-- each byte after a write, an empty one too
pub get_or-written : (old : List ℕ) (at : ℕ) (new : List ℕ) (k : ℕ) → get_or (written old at new) k 0 ≡ cond (leb at k && ltb k (at + length new)) (get_or new (k - at) 0) (get_or old k 0)
get_or-written old at new k = elim (cases_lt 0 (length new)) [
  | inl h ↦ let e = written_some old at new h in grind (arith, lays, nat_tests)
  | inr h ↦ let e = written_none old at new (omega arith) in grind (arith, nat_tests)
]

laid-laid : (old xs ys : List ℕ) (at : ℕ) → laid (laid old at xs) (at + length xs) ys ≡ laid old at (xs ++ ys)
laid-laid old xs ys at = ext_get_or 0 _ _ (grind (arith, lays, length-append xs ys)) (λ k h. grind (arith, lays, places))

-- a write behind another is one write of both
pub written-written : (old xs ys : List ℕ) (at : ℕ) → written (written old at xs) (at + length xs) ys ≡ written old at (xs ++ ys)
written-written old xs ys at = elim (cases_lt 0 (length xs)) [
  | inl h ↦ elim (cases_lt 0 (length ys)) [
    | inl l ↦
        let a = written_some old at xs h in
        let b = written_some (laid old at xs) (at + length xs) ys l in
        let c = written_some old at (xs ++ ys) (omega (arith, length-append xs ys)) in
        let d = laid-laid old xs ys at in
        cc
    | inr l ↦
        let a = written_none (written old at xs) (at + length xs) ys (omega arith) in
        let e : ys ≡ [] = nil_from_length ys (omega arith) in
        let f = append-nil xs in
        cc
  ]
  | inr h ↦
      let e : xs ≡ [] = nil_from_length xs (omega arith) in
      let a = written_none old at xs (omega arith) in
      let z : at + length xs ≡ at = omega arith in
      cc
]

-- a write over another that is no longer stands alone
pub written_over : (old xs ys : List ℕ) (at : ℕ) → 0 < length xs → length xs ≤ length ys → written (written old at xs) at ys ≡ written old at ys
written_over old xs ys at some long =
    let a = written_some old at xs some in
    let b = written_some (laid old at xs) at ys (omega arith) in
    let c = written_some old at ys (omega arith) in
    let d : laid (laid old at xs) at ys ≡ laid old at ys = ext_get_or 0 _ _ (grind (arith, lays)) (λ k h. grind (arith, lays)) in
    cc

-- a list that has the n bytes of another from a place on
pub part_by : (xs ys : List ℕ) (at n : ℕ) → length ys ≡ n → at + n ≤ length xs → ((k : ℕ) → k < n → get_or ys k 0 ≡ get_or xs (at + k) 0) → ys ≡ part 0 xs at n
part_by xs ys at n len low all = ext_get_or 0 _ _ (grind (arith, places)) (λ k h. let e = all k (omega arith) in grind (arith, places))

-- what was written is read back
pub part-written : (old : List ℕ) (at : ℕ) (new : List ℕ) → 0 < length new → part 0 (written old at new) at (length new) ≡ new
part-written old at new some =
    let l = length-written old at new some in
    sym (part_by (written old at new) new at (length new) refl (omega arith) (λ k h. let e = get_or-written old at new (at + k) in grind (arith, nat_tests)))

-- and elsewhere all is read as before
pub part-written_apart : (old : List ℕ) (at : ℕ) (new : List ℕ) (from n : ℕ) → 0 < length new → from + n ≤ length old
    → (from + n ≤ at) ⊎ (at + length new ≤ from) → part 0 (written old at new) from n ≡ part 0 old from n
part-written_apart old at new from n some low apart =
    let l = length-written old at new some in
    sym (part_by (written old at new) (part 0 old from n) from n (grind (arith, places)) (omega arith)
    (λ k h. let e = get_or-written old at new (from + k) in let o : get_or (part 0 old from n) k 0 ≡ get_or old (from + k) 0 = grind (arith, places) in grind (arith, nat_tests)))
