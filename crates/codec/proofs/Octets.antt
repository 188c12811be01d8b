-- Fields of a fixed number of bytes. Assumes nothing.
use Rattle.std.proofs.Common.{⊎_elim, sym, ap, ap₂, ◌∙◌, subst, arith, pow-suc, suc-add, get_or, map, length-append, length-drop, length-take, get_or-drop}
use Rattle.std.specs.Prelude.{◌≡◌, ℕ, zero, suc, ◌+◌, ◌-◌, ◌*◌, ◌/◌, ◌%◌, ◌^◌, ◌<◌, ◌≤◌, List, [], ◌∷◌, ◌++◌, length, take, drop, replicate, Some, nat_le, slice_index, refl}
use Rattle.std.specs.Int.{byte_at, bytes_low_first, from_le_bytes, to_le_bytes, w32, w64}
use Rattle.std.specs.List.{range_with_len}
use Rattle.std.proofs.Math.Nat.{div-one, div-div-eq-div-mul}
use Rattle.std.proofs.Math.Seq.{drop-nil}
use Rattle.std.proofs.lemmas.List.{get_or-take, get_or_past, length-replicate}
use Rattle.std.proofs.lemmas.List.FromFn.{fill_by_all}
use Rattle.std.proofs.lemmas.Bool.{cond_both, cases_lt, leb-true}
use Rattle.codec.specs.Laws.{bits-suc}
use Rattle.codec.specs.Numbers.{Bytes, little, octets, field}

-- ---- eight bytes at once
octets_8 : (s : List ℕ) → length s ≡ 8 → s ≡ map (λ i. get_or s i 0) (range_with_len 0 8)
octets_8 s h = fill_by_all (λ i. get_or s i 0) s 8 0 h (λ k l. refl)

little_8 : (s : List ℕ) → length s ≡ 8 → from_le_bytes w64 s ≡ little s
unfolding little
little_8 s h = omega (arith, ap little (octets_8 s h))

little-append-zeros : (xs : List ℕ) (k n : ℕ) → little (xs ++ drop n (replicate k 0)) ≡ little xs
unfolding little
little-append-zeros [] zero n = ap little (drop-nil n)
little-append-zeros [] (suc k) zero = omega (arith, little-append-zeros [] k zero)
little-append-zeros [] (suc k) (suc n) = little-append-zeros [] k n
little-append-zeros (x ∷ xs) k n = ap (λ m. x + 256 * m) (little-append-zeros xs k n)

-- at most eight, with zeros behind them
pub from_le : (bs cs : List ℕ) (r : ℕ) → length bs ≤ 8 → cs ≡ bs → r ≡ from_le_bytes w64 (cs ++ drop (length bs) (replicate 8 0)) → r ≡ little bs
from_le bs cs r h e p =
    let whole : length (bs ++ drop (length bs) (replicate 8 0)) ≡ 8 = simp (length-append, length-drop) (omega (arith, length-replicate {A = ℕ})) in
    p ∙ ap (λ l. from_le_bytes w64 (l ++ drop (length bs) (replicate 8 0))) e ∙ little_8 _ whole ∙ little-append-zeros bs 8 (length bs)

-- the bytes that `to_le_bytes` gives
low_first : (i k n : ℕ) → bytes_low_first i k n ≡ octets k (n / 256 ^ i)
unfolding octets
low_first i zero n = refl
low_first zero (suc k) n = ap₂ (λ x l. x ∷ l) (ap (λ m. m % 256) (sym (div-one n))) (low_first 1 k n ∙ ap (λ m. octets k (m / 256)) (sym (div-one n)))
low_first (suc i) (suc k) n =
    ap (λ l. n / 256 ^ suc i % 256 ∷ l)
    (low_first (suc (suc i)) k n ∙ ap (octets k) (ap (λ m. n / m) (pow-suc 256 (suc i)) ∙ sym (div-div-eq-div-mul n (256 ^ suc i) 256)))

take-low_first : (k m i n : ℕ) → take k (bytes_low_first i (k + m) n) ≡ bytes_low_first i k n
take-low_first zero m i n = refl
take-low_first (suc k) m i n =
    ap (λ j. take (suc k) (bytes_low_first i j n)) (suc-add k m) ∙ ap (λ l. byte_at i n ∷ l) (take-low_first k m (suc i) n)

pub le_octets_4 : (n : ℕ) (bs : List ℕ) → bs ≡ to_le_bytes w32 n → bs ≡ octets 4 n
le_octets_4 n bs e = e ∙ low_first 0 4 n ∙ ap (octets 4) (div-one n)

pub le_octets_8 : (n : ℕ) (bs : List ℕ) → bs ≡ to_le_bytes w64 n → bs ≡ octets 8 n
le_octets_8 n bs e = e ∙ low_first 0 8 n ∙ ap (octets 8) (div-one n)

pub take-le_octets : (k n : ℕ) (bs : List ℕ) → k ≤ 8 → bs ≡ to_le_bytes w64 n → take k bs ≡ octets k n
take-le_octets k n bs h e =
    let whole : k + (8 - k) ≡ 8 = omega arith in
    ap (take k) (e ∙ ap (λ j. bytes_low_first 0 j n) (sym whole)) ∙ take-low_first k (8 - k) 0 n ∙ low_first 0 k n ∙ ap (octets k) (div-one n)

pub little-lt : (bs : List ℕ) → ((i : ℕ) → slice_index bs i < 256) → little bs < 2 ^ (8 * length bs)
unfolding little
little-lt [] f = omega arith
little-lt (b ∷ bs) f = omega (arith, f 0, little-lt bs (λ i. f (suc i)), bits-suc (length bs))

-- what is read as a field is written as those bytes again
pub octets-little : (k : ℕ) (bs : List ℕ) → length bs ≡ k → Bytes bs → octets k (little bs) ≡ bs
unfolding octets little
octets-little zero [] e f = refl
octets-little zero (b ∷ bs) e f = absurd (omega arith)
octets-little (suc k) [] e f = absurd (omega arith)
octets-little (suc k) (b ∷ bs) e f =
    let l : b < 256 = f 0 in
    let low : (b + 256 * little bs) % 256 ≡ b = omega arith in
    let high : (b + 256 * little bs) / 256 ≡ little bs = omega arith in
    ap₂ (λ x n. x ∷ octets k n) low high ∙ ap (λ r. b ∷ r) (octets-little k bs (omega arith) (λ i. f (suc i)))

pub bytes_part : (n m : ℕ) (bs : List ℕ) → Bytes bs → Bytes (take n (drop m bs))
bytes_part n m bs f i =
    ⊎_elim (λ (h : i < n). subst (λ x. x < 256) (sym (get_or-take n (drop m bs) i 0 h ∙ get_or-drop m bs i 0)) (f (m + i)))
    (λ (h : n ≤ i). subst (λ x. x < 256) (sym (get_or_past (take n (drop m bs)) i 0 (simp length-take (omega arith)))) (omega arith)) (cases_lt i n)

-- what stands in a Some
pub some_is : {A : Type 0} (x y : A) → Some x ≡ Some y → x ≡ y
some_is x y e = cc

-- a field that was read: there were enough bytes, and these are its value and the rest
pub record Read (k : ℕ) (bs : List ℕ) (n : ℕ) (rest : List ℕ) : Type 0 where
  pub enough : k ≤ length bs
  pub value : n ≡ little (take k bs)
  pub left : rest ≡ drop k bs

pub field_read : (k : ℕ) (bs : List ℕ) (p : ℕ × List ℕ) → field k bs ≡ Some p → Read k bs p.0 p.1
unfolding field
field_read k bs p =
    cond_both (nat_le k (length bs)) _ _ (λ o. o ≡ Some p → Read k bs p.0 p.1)
    (λ t e. record {
      enough = leb-true k (length bs) t;
      value = ap (λ q. q.0) (some_is p (little (take k bs), drop k bs) (sym e));
      left = ap (λ q. q.1) (some_is p (little (take k bs), drop k bs) (sym e));
    })
    (λ t e. let z : ◌≡◌ {A = ℕ} 0 1 = cc in absurd (omega arith))
