-- The division by the generator as a register of 32 bits computes it. Assumes nothing.
use Rattle.std.proofs.Common.{◌≡◌, ℕ, zero, suc, ◌+◌, ◌-◌, ◌*◌, ◌/◌, ◌%◌, ◌^◌, ◌<◌, Bool, true, false, not, eqb, List, [], ◌∷◌, ◌++◌, map, length, replicate, sym, refl, ap, ◌∙◌, subst, ap₂, append_assoc, append-nil, mod-lt, add-one, arith}
use lib.ListN.{length-map}
use lib.Bits.{bit_xor, xor_assoc, xor_comm, xor_zero_r, xor_shifted}
use Rattle.std.proofs.lemmas.Nat.{mod-pow-add}
use Rattle.checksum.specs.Register.{poly, pick, turn, turns, absorb}
use Rattle.checksum.specs.Crc.{sum, generator, bring, divide, remainder, fcs, bits, sent, bit, number, crc32, continued}
use Rattle.checksum.proofs.Turns.{turn-xor, turns-xor, turn_even, turns-turn, turns-zero}
use Rattle.checksum.proofs.Coefficients.{
  bit-lt,
  bit-odd,
  number_lt,
  number-snoc,
  number-sum,
  number-not,
  number-complement,
  length-bits,
  length-sum,
  length-bring,
  length-divide,
}

-- ---- the register over a message's bits, each added at the top, and over its octets
unfoldable shifts : ℕ → List Bool → ℕ
shifts c [] = c
shifts c (b ∷ bs) = shifts (turn (bit_xor c (bit b))) bs

shifts-append : (c : ℕ) (xs ys : List Bool) → shifts c (xs ++ ys) ≡ shifts (shifts c xs) ys
unfolding shifts
shifts-append c [] ys = refl
shifts-append c (x ∷ xs) ys = shifts-append (turn (bit_xor c (bit x))) xs ys

shifts-bits : (k c n : ℕ) → shifts c (bits k n) ≡ turns k (bit_xor c (n % 2 ^ k))
unfolding shifts turns
shifts-bits zero c n = let e : n % 1 ≡ 0 = omega arith in sym (ap (bit_xor c) e ∙ xor_zero_r c)
shifts-bits (suc k) c n =
    let h = n / 2 % 2 ^ k in
    let low : n % 2 < 2 = mod-lt n (omega arith) in
    shifts-bits k (turn (bit_xor c (bit (eqb (n % 2) 1)))) (n / 2)
    ∙ ap (λ x. turns k (bit_xor (turn (bit_xor c x)) h)) (bit-odd (n % 2) low)
    ∙ ap (λ x. turns k (bit_xor (turn (bit_xor c (n % 2))) x)) (sym (turn_even h))
    ∙ ap (turns k) (sym (turn-xor (bit_xor c (n % 2)) (h * 2)))
    ∙ ap (λ x. turns k (turn x)) (xor_assoc c (n % 2) (h * 2)
    ∙ ap (bit_xor c) (xor_comm (n % 2) (h * 2) ∙ xor_shifted h 1 (n % 2) low ∙ sym (mod-pow-add n k 1) ∙ ap (λ m. n % 2 ^ m) (add-one k)))

shifts-sent : (c : ℕ) (bs : List ℕ) → shifts c (sent bs) ≡ absorb c bs
unfolding shifts absorb
shifts-sent c [] = refl
shifts-sent c (b ∷ bs) =
    shifts-append c (bits 8 b) (sent bs) ∙ ap (λ x. shifts x (sent bs)) (shifts-bits 8 c b) ∙ shifts-sent (turns 8 (bit_xor c (b % 256))) bs

shifts-xor : (a c : ℕ) (m : List Bool) → shifts (bit_xor a c) m ≡ bit_xor (turns (length m) a) (shifts c m)
unfolding shifts turns
shifts-xor a c [] = refl
shifts-xor a c (b ∷ m) =
    ap (λ n. shifts n m) (ap turn (xor_assoc a c (bit b)) ∙ turn-xor a (bit_xor c (bit b))) ∙ shifts-xor (turn a) (turn (bit_xor c (bit b))) m

-- ---- long division on numbers: each coefficient brought down at the bottom
unfoldable feed : ℕ → Bool → ℕ
feed c b = bit_xor (turn c) (bit b * 2 ^ 31)

unfoldable feeds : ℕ → List Bool → ℕ
feeds c [] = c
feeds c (b ∷ bs) = feeds (feed c b) bs

number-bring : (r : List Bool) (b : Bool) → length r ≡ 32 → number (bring r b) ≡ feed (number r) b
unfolding feed turn
number-bring [] b h = absurd (omega arith)
number-bring (x ∷ r) b h =
    let n31 : length r ≡ 31 = omega arith in
    let lt : number r < 2 ^ 31 = subst (λ k. number r < 2 ^ k) n31 (number_lt r) in
    let half : number (x ∷ r) / 2 ≡ number r = omega (arith, bit-lt x) in
    let odd : number (x ∷ r) % 2 ≡ bit x = omega (arith, bit-lt x) in
    let brought : number (r ++ b ∷ []) ≡ bit_xor (number r) (bit b * 2 ^ 31) =
    number-snoc r b ∙ ap (λ k. number r + bit b * 2 ^ k) n31 ∙ omega arith ∙ sym (xor_shifted (bit b) 31 (number r) lt) ∙ xor_comm (bit b * 2 ^ 31) (number r)
    in
    elim x as (λ x. number (bring (x ∷ r) b) ≡ bit_xor (bit_xor (number r) (pick (eqb (bit x) 1))) (bit b * 2 ^ 31)) [
      | true ↦ number-sum (r ++ b ∷ []) generator ∙ ap (λ n. bit_xor n poly) brought
          ∙ xor_assoc (number r) (bit b * 2 ^ 31) poly ∙ ap (bit_xor (number r)) (xor_comm (bit b * 2 ^ 31) poly) ∙ sym (xor_assoc (number r) poly (bit b * 2 ^ 31))
      | false ↦ brought ∙ ap (λ n. bit_xor n (bit b * 2 ^ 31)) (sym (xor_zero_r (number r)))
    ]
    ∙ ap₂ (λ n m. bit_xor (bit_xor n (pick (eqb m 1))) (bit b * 2 ^ 31)) (sym half) (sym odd)

number-divide : (r p : List Bool) → length r ≡ 32 → number (divide r p) ≡ feeds (number r) p
unfolding feeds
number-divide r [] h = refl
number-divide r (b ∷ p) h = number-divide (bring r b) p (length-bring r b h) ∙ ap (λ n. feeds n p) (number-bring r b h)

divide-append : (r xs ys : List Bool) → divide r (xs ++ ys) ≡ divide (divide r xs) ys
divide-append r [] ys = refl
divide-append r (x ∷ xs) ys = divide-append (bring r x) xs ys

-- a dividend no longer than the remainder fills it
divide_short : (p r : List Bool) → divide (replicate (length p) false ++ r) p ≡ r ++ p
divide_short [] r = sym (append-nil r)
divide_short (b ∷ p) r =
    ap (λ l. divide l p) (append_assoc (replicate (length p) false) r (b ∷ [])) ∙ divide_short p (r ++ b ∷ []) ∙ append_assoc r (b ∷ []) p

remainder_short : (p : List Bool) → length p ≡ 32 → remainder p ≡ p
remainder_short p h = ap (λ k. divide k p) (sym (append-nil (replicate 32 false)) ∙ ap (λ k. replicate k false ++ []) (sym h)) ∙ divide_short p []

feeds-zeros : (k c : ℕ) → feeds c (replicate k false) ≡ turns k c
unfolding feeds feed turns
feeds-zeros zero c = refl
feeds-zeros (suc k) c = ap (λ n. feeds n (replicate k false)) (xor_zero_r (turn c)) ∙ feeds-zeros k (turn c)

number-zeros : (k : ℕ) (r : List Bool) → length r ≡ 32 → number (divide r (replicate k false)) ≡ turns k (number r)
number-zeros k r h = number-divide r (replicate k false) h ∙ feeds-zeros k (number r)

late : (b : Bool) → turns 32 (bit b * 2 ^ 31) ≡ turn (bit b)
unfolding turns turn
late true = refl
late false = refl

-- to bring the message down and then 32 zeros is to add each bit at the top
feeds_late : (c : ℕ) (m : List Bool) → turns 32 (feeds c m) ≡ shifts (turns 32 c) m
unfolding feeds shifts feed
feeds_late c [] = refl
feeds_late c (b ∷ m) =
    feeds_late (feed c b) m
    ∙ ap (λ n. shifts n m) (turns-xor 32 (turn c) (bit b * 2 ^ 31) ∙ ap₂ bit_xor (turns-turn 32 c) (late b) ∙ sym (turn-xor (turns 32 c) (bit b)))

-- ---- the definition, as the register computes it
fcs_register : (preset : List Bool) (bs : List ℕ) → length preset ≡ 32 → number (fcs preset (sent bs)) ≡ 0xFFFF_FFFF - absorb (number preset) bs
fcs_register preset bs h =
    let m = sent bs in
    let z32 = replicate 32 false in
    let a = remainder (preset ++ replicate (length m) false) in
    let b = remainder (m ++ z32) in
    let la : length a ≡ 32 = length-divide z32 (preset ++ replicate (length m) false) refl in
    let lb : length b ≡ 32 = length-divide z32 (m ++ z32) refl in
    let na : number a ≡ turns (length m) (number preset) =
    ap number (divide-append z32 preset (replicate (length m) false) ∙ ap (λ r. divide r (replicate (length m) false)) (remainder_short preset h))
    ∙ number-zeros (length m) preset h
    in
    let nb : number b ≡ shifts 0 m =
    ap number (divide-append z32 m z32) ∙ number-zeros 32 (divide z32 m) (length-divide z32 m refl)
    ∙ ap (turns 32) (number-divide z32 m refl) ∙ feeds_late 0 m ∙ ap (λ n. shifts n m) (turns-zero 32)
    in
    let ns : number (sum a b) ≡ absorb (number preset) bs =
    number-sum a b ∙ ap₂ bit_xor na nb ∙ sym (shifts-xor (number preset) 0 m) ∙ ap (λ n. shifts n m) (xor_zero_r (number preset)) ∙ shifts-sent (number preset) bs
    in
    let ls : length (sum a b) ≡ 32 = length-sum a b (la ∙ sym lb) ∙ la in
    let e : number (map not (sum a b)) + number (sum a b) + 1 ≡ 2 ^ 32 = number-not (sum a b) ∙ ap (λ k. 2 ^ k) ls in
    omega (arith, e, ns)

pub crc32_register : (bs : List ℕ) → crc32 bs ≡ 0xFFFF_FFFF - absorb 0xFFFF_FFFF bs
unfolding crc32
crc32_register bs = fcs_register (replicate 32 true) bs refl

pub continued_register : (crc : ℕ) (bs : List ℕ) → crc < 2 ^ 32 → continued crc bs ≡ 0xFFFF_FFFF - absorb (0xFFFF_FFFF - crc) bs
unfolding continued
continued_register crc bs h =
    fcs_register (map not (bits 32 crc)) bs (length-map (bits 32 crc) not ∙ length-bits 32 crc) ∙ ap (λ n. 0xFFFF_FFFF - absorb n bs) (number-complement 32 crc h)
