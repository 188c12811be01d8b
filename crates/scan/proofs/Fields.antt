-- The fields of twenty bytes that are read as a header. Assumes nothing.
use Rattle.std.proofs.Common.{◌≡◌, ℕ, ◌<◌, Bool, true, false, cond, not, ◌&&◌, leb, List, length, take, drop, Some, None, Option, sym, refl, ap, ◌∙◌, arith, length-drop, Bor}
use Rattle.std.specs.Option.{option_map, unwrap_or}
use Rattle.std.proofs.lemmas.List.{drop-drop}
use Rattle.std.proofs.lemmas.Bool.{cond-true, cond-false, le-leb}
use Rattle.std.proofs.lemmas.Bool.Decides.{nat_tests}
use Rattle.codec.specs.Fields.{below}
use Rattle.codec.specs.Numbers.{little, field}
use Rattle.codec.specs.Segments.{read_segment_header, checks}
use Rattle.codec.specs.declared.segment.SegmentHeader.{SegmentHeader}
use Rattle.codec.proofs.Octets.{some_is}
use Rattle.scan.specs.declared.header.UsedHeader.{UsedHeader}
use Rattle.scan.specs.Headers.{head_lsn, head_mark, used, weight}
use Rattle.scan.specs.Offers.{offered}

abbrev pub header_in : List ℕ → SegmentHeader
header_in h = record { crc32 = little (take 4 h); lsn = record { bits = head_lsn h }; max_stable_lsn = record { bits = head_mark h } }

field_at : (k : ℕ) (bs : List ℕ) → leb k (length bs) ≡ true → field k bs ≡ Some (little (take k bs), drop k bs)
unfolding field
field_at k bs h = cond-true _ _ _ h

-- twenty bytes are always a header, right or wrong
pub header_read : (bs : List ℕ) → length bs ≡ 20 → read_segment_header bs ≡ Some (header_in bs, drop 8 (drop 8 (drop 4 bs)))
unfolding head_lsn head_mark
header_read bs h =
    let a = field_at 4 bs (le-leb 4 (length bs) (omega arith)) in
    let b = field_at 8 (drop 4 bs) (le-leb 8 (length (drop 4 bs)) (omega (arith, length-drop 4 bs))) in
    let c = field_at 8 (drop 8 (drop 4 bs)) (le-leb 8 (length (drop 8 (drop 4 bs))) (omega (arith, length-drop 4 bs, length-drop 8 (drop 4 bs)))) in
    let d : drop 8 (drop 4 bs) ≡ drop 12 bs = drop-drop 8 4 bs in
    let e = ap (λ l. little (take 8 l)) d in
    rw (a, b, c) (rw e refl)

-- what an LSN field that was asked for says of its bits
pub lsn_none : (n : ℕ) (r : Option ℕ) → r ≡ cond (below n) None (Some n) → r ≡ None → below n ≡ true
lsn_none n r e k = go (below n) (sym e ∙ k)
  where
    go : (b : Bool) → cond b None (Some n) ≡ None → b ≡ true
    go true x = refl
    go false x = absurd (let z : ◌≡◌ {A = ℕ} 0 1 = cc in omega arith)

pub lsn_some : (n l : ℕ) (r : Option ℕ) → r ≡ cond (below n) None (Some n) → r ≡ Some l → (below n ≡ false) × (l ≡ n)
lsn_some n l r e k = go (below n) (sym e ∙ k)
  where
    go : (b : Bool) → cond b None (Some n) ≡ Some l → (b ≡ false) × (l ≡ n)
    go true x = absurd (let z : ◌≡◌ {A = ℕ} 0 1 = cc in omega arith)
    go false x = (refl, cc)

-- what a mark counts, as the header's reader takes it
pub weighed : (n w : ℕ) (o : Option ℕ) → o ≡ cond (below n) None (Some n) → w ≡ unwrap_or o 0 → w ≡ weight n
unfolding weight
weighed n w o e u = u ∙ ap (λ x. unwrap_or x 0) e ∙ go (below n)
  where
    go : (b : Bool) → unwrap_or (cond b None (Some n)) 0 ≡ cond b 0 n
    go true = refl
    go false = refl

-- a value read and the bytes behind it, seen through the reference
abbrev pub read_now : Option (SegmentHeader × Bor (List ℕ)) → Option (SegmentHeader × List ℕ)
read_now = option_map (λ (p : SegmentHeader × Bor (List ℕ)). (p.0, p.1.now))

module _ (low : ℕ) (bs : List ℕ) (long : length bs ≡ 20) where
  pub read_is : (h : SegmentHeader) (rest : List ℕ) → Some (h, rest) ≡ read_segment_header bs → h ≡ header_in bs
  read_is h rest e = ap (λ (p : SegmentHeader × List ℕ). p.0) (some_is (h, rest) (header_in bs, drop 8 (drop 8 (drop 4 bs))) (e ∙ header_read bs long))

  pub unread : None ≡ read_segment_header bs → None ≡ offered low bs
  unread e = let r = header_read bs long in let z : ◌≡◌ {A = ℕ} 0 1 = cc in absurd (omega arith)

  unused : used low bs ≡ false → None ≡ offered low bs
  unused e = sym (cond-false _ _ _ e)

  pub unchecked : checks bs ≡ false → None ≡ offered low bs
  unfolding used
  unchecked e = unused (ap (λ b. b && (not (below (head_lsn bs)) && leb low (head_lsn bs))) e)

  pub below-zero : below (head_lsn bs) ≡ true → None ≡ offered low bs
  unfolding used
  below-zero e = unused (grind (arith, nat_tests))

  pub below_low : (l : ℕ) → l ≡ head_lsn bs → l < low → None ≡ offered low bs
  unfolding used
  below_low l i e = unused (grind (arith, nat_tests))

  pub in_use : (l w : ℕ) → checks bs ≡ true → below (head_lsn bs) ≡ false → l ≡ head_lsn bs → (l < low → ⊥) → w ≡ weight (head_mark bs) → Some (record { lsn = l; mark = w }) ≡ offered low bs
  unfolding used
  in_use l w k b i n v =
      let u : used low bs ≡ true = grind (arith, nat_tests) in
      let q : ◌≡◌ {A = UsedHeader} (record { lsn = l; mark = w }) (record { lsn = head_lsn bs; mark = weight (head_mark bs) }) = cc in
      ap Some q ∙ sym (cond-true _ _ _ u)
