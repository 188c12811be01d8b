-- Segment headers. Assumes nothing.
use Rattle.std.specs.Prelude.{◌≡◌, ℕ, ◌+◌, ◌^◌, ◌<◌, true, false, List, ◌++◌, length, take, drop, replicate, Some, None, Option, ◌==◌, nat_eq, refl}
use Rattle.std.proofs.Common.{sym, ap, ap₂, ◌∙◌, subst, arith, length-append, take-add, get_or-drop}
use Rattle.std.specs.Int.{to_le_bytes, w32, w64}
use Rattle.std.proofs.lemmas.List.Edits.{sets}
use Rattle.std.proofs.lemmas.List.{take_at, drop_at, take_all, length-take-le, length-drop}
use Rattle.std.proofs.lemmas.Bool.{eq-eqb}
use Rattle.checksum.specs.Crc.{crc32}
use Rattle.checksum.proofs.Values.{crc32-lt, crc32_zeros16}
use Rattle.codec.specs.Laws.{length-octets, little-octets, masked_back}
use Rattle.codec.specs.Numbers.{Bytes, octets, little, field}
use Rattle.codec.specs.Serial.{next}
use Rattle.codec.specs.Segments.{masked, complement, fields, segment_header, read_segment_header, segment_of, checks}
use Rattle.codec.specs.declared.segment.SegmentHeader.{SegmentHeader}
use Rattle.codec.proofs.Octets.{le_octets_4, le_octets_8, octets-little, bytes_part, Read, field_read, some_is}
use Rattle.codec.proofs.Writes.{sets_then, sets_whole}

-- ---- the bytes
pub length_fields : (lsn mark : ℕ) → length (fields lsn mark) ≡ 16
length_fields lsn mark = simp length-append (omega (arith, length-octets 8 (masked lsn), length-octets 8 (masked mark)))

pub length-segment : (h : SegmentHeader) → length (segment_header h) ≡ 20
length-segment h =
    length-append (octets 4 h.crc32) (fields h.lsn.bits h.max_stable_lsn.bits)
    ∙ omega (arith, length-octets 4 h.crc32, length_fields h.lsn.bits h.max_stable_lsn.bits)

-- the fields over a whole buffer, in the order of the header
pub put_fields : (l m n xs ys : List ℕ) (lsn mark a b end : ℕ) → length l ≡ 16 → a ≡ masked lsn → b ≡ masked mark
    → xs ≡ to_le_bytes w64 a → ys ≡ to_le_bytes w64 b → m ≡ sets l 0 xs → end ≡ 0 + length xs → n ≡ sets m end ys → n ≡ fields lsn mark
put_fields l m n xs ys lsn mark a b end h p q e f r t u =
    let ex : xs ≡ octets 8 (masked lsn) = le_octets_8 a xs e ∙ ap (octets 8) p in
    let ey : ys ≡ octets 8 (masked mark) = le_octets_8 b ys f ∙ ap (octets 8) q in
    sets_then l m n 0 end xs ys r t u ∙ ap₂ (λ x y. sets l 0 (x ++ y)) ex ey ∙ sets_whole l (fields lsn mark) (length_fields lsn mark ∙ sym h)

pub put-segment : (h : SegmentHeader) (l m1 m2 xs ys : List ℕ) (end : ℕ) → length l ≡ 20 → xs ≡ to_le_bytes w32 h.crc32
    → ys ≡ fields h.lsn.bits h.max_stable_lsn.bits → m1 ≡ sets l 0 xs → end ≡ 0 + length xs → m2 ≡ sets m1 end ys → m2 ≡ segment_header h
put-segment h l m1 m2 xs ys end n e f p q r =
    sets_then l m1 m2 0 end xs ys p q r ∙ ap₂ (λ x y. sets l 0 (x ++ y)) (le_octets_4 h.crc32 xs e) f ∙ sets_whole l (segment_header h) (length-segment h ∙ sym n)

-- ---- which headers check
pub checks_header : (h : SegmentHeader) → h.crc32 < 2 ^ 32
    → checks (segment_header h) ≡ (complement h.crc32 == crc32 (fields h.lsn.bits h.max_stable_lsn.bits))
unfolding checks
checks_header h l =
    let a = octets 4 h.crc32 in
    let b = fields h.lsn.bits h.max_stable_lsn.bits in
    let four = length-octets 4 h.crc32 in
    ap₂ (λ x y. nat_eq (complement x) (crc32 y))
    (ap little (take_at a b 4 four) ∙ little-octets 4 h.crc32 l)
    (ap (take 16) (drop_at a b 4 four) ∙ take_all 16 b (omega (arith, length_fields h.lsn.bits h.max_stable_lsn.bits)))

pub checks_written : (lsn mark : ℕ) → checks (segment_header (segment_of lsn mark)) ≡ true
checks_written lsn mark =
    let l = crc32-lt (fields lsn mark) in
    checks_header (segment_of lsn mark) (omega arith) ∙ eq-eqb _ _ (omega arith)

pub checks-zeros : checks (replicate 20 0) ≡ false
unfolding checks little
checks-zeros = ap (nat_eq 0xFFFF_FFFF) crc32_zeros16

-- what a reader found: the first part, and what the others made of the rest
next_some : {A B : Type 0} (o : Option (A × List ℕ)) (f : A → List ℕ → Option (B × List ℕ)) (y : B × List ℕ)
    → next o f ≡ Some y → (p : A × List ℕ) × (o ≡ Some p) × (f p.0 p.1 ≡ Some y)
next_some None f y e = let z : ◌≡◌ {A = ℕ} 0 1 = cc in absurd (omega arith)
next_some (Some p) f y e = (p, refl, e)

-- the fields that were read are the bytes behind the checksum
read-fields : (bs r1 r2 r3 : List ℕ) (crc l m : ℕ) → Bytes bs → Read 4 bs crc r1 → Read 8 r1 l r2 → Read 8 r2 m r3
    → (complement crc == crc32 (fields (masked l) (masked m))) ≡ checks bs
unfolding checks
read-fields bs r1 r2 r3 crc l m f p q r =
    let d4 = length-drop 4 bs in
    let d8 = length-drop 8 (drop 4 bs) in
    let two : r2 ≡ drop 8 (drop 4 bs) = q.left ∙ ap (drop 8) p.left in
    let e1 = ap length p.left in
    let e2 = ap length two in
    let g : Bytes (drop 4 bs) = λ i. subst (λ x. x < 256) (sym (get_or-drop 4 bs i 0)) (f (4 + i)) in
    let a : octets 8 (masked (masked l)) ≡ take 8 (drop 4 bs) =
    ap (octets 8) (masked_back l ∙ q.value ∙ ap (λ z. little (take 8 z)) p.left)
    ∙ octets-little 8 (take 8 (drop 4 bs)) (length-take-le 8 (drop 4 bs) (omega (arith, q.enough))) (bytes_part 8 4 bs f)
    in
    let b : octets 8 (masked (masked m)) ≡ take 8 (drop 8 (drop 4 bs)) =
    ap (octets 8) (masked_back m ∙ r.value ∙ ap (λ z. little (take 8 z)) two)
    ∙ octets-little 8 (take 8 (drop 8 (drop 4 bs))) (length-take-le 8 (drop 8 (drop 4 bs)) (omega (arith, r.enough))) (bytes_part 8 8 (drop 4 bs) g)
    in
    ap₂ (λ x y. nat_eq (complement x) (crc32 y)) p.value (ap₂ (λ x y. x ++ y) a b ∙ sym (take-add 8 8 (drop 4 bs)))

-- a header that was read from some bytes checks exactly if those bytes do
pub checks_read : (h : SegmentHeader) (bs rest : List ℕ) → Bytes bs → read_segment_header bs ≡ Some (h, rest)
    → (complement h.crc32 == crc32 (fields h.lsn.bits h.max_stable_lsn.bits)) ≡ checks bs
checks_read h bs rest f e =
    let s1 = next_some (field 4 bs) _ (h, rest) e in
    let s2 = next_some (field 8 s1.0.1) _ (h, rest) s1.2 in
    let s3 = next_some (field 8 s2.0.1) _ (h, rest) s2.2 in
    subst (λ (x : SegmentHeader). (complement x.crc32 == crc32 (fields x.lsn.bits x.max_stable_lsn.bits)) ≡ checks bs)
    (ap (λ q. q.0) (some_is _ (h, rest) s3.2))
    (read-fields bs s1.0.1 s2.0.1 s3.0.1 s1.0.0 s2.0.0 s3.0.0 f
    (field_read 4 bs s1.0 s1.1) (field_read 8 s1.0.1 s2.0 s2.1) (field_read 8 s2.0.1 s3.0 s3.1))
