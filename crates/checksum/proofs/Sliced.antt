-- Several octets at once: the register takes in their number, and the turns of a sum are the sum of the turns. Assumes nothing.
use Rattle.std.proofs.Common.{◌≡◌, ℕ, zero, suc, ◌+◌, ◌*◌, ◌/◌, ◌%◌, ◌^◌, ◌<◌, List, [], ◌∷◌, map, length, get_or, take, drop, sym, refl, ap, ◌∙◌, ap₂, arith}
use lib.Bits.{bit_xor, xor_assoc, xor_comm, xor_shifted, xor_zero_r}
use Rattle.std.specs.List.{range_with_len}
use Rattle.std.specs.Simd.{first_chunks}
use Rattle.std.proofs.lemmas.List.{take-append-drop, drop-drop}
use Rattle.std.proofs.lemmas.List.FromFn.{fill_by_all}
use Rattle.checksum.specs.Register.{turns, absorb}
use Rattle.checksum.proofs.Turns.{turns-xor, turns-add, turns_shift, absorb-append}
use Rattle.checksum.proofs.Octets.{octet_table}

-- ---- a word by tables
peel : (j k a : ℕ) → k ≡ j + 1 → turns (8 * k) a ≡ bit_xor (turns (8 * k) (a % 256)) (turns (8 * j) (a / 256))
peel j k a e =
    let n : 8 * k ≡ 8 + 8 * j = omega arith in
    ap (λ m. turns m a) n ∙ turns-add 8 (8 * j) a ∙ ap (turns (8 * j)) (octet_table a) ∙ turns-xor (8 * j) (turns 8 (a % 256)) (a / 256)
    ∙ ap (λ m. bit_xor m (turns (8 * j) (a / 256))) (sym (turns-add 8 (8 * j) (a % 256)) ∙ ap (λ m. turns m (a % 256)) (sym n))

octets_word : (k a b0 b1 b2 b3 : ℕ) → a < 2 ^ 32 → b0 ≡ turns (8 * (k + 3 + 1)) (a % 256) → b1 ≡ turns (8 * (k + 2 + 1)) (a / 256 % 256)
    → b2 ≡ turns (8 * (k + 1 + 1)) (a / 65536 % 256) → b3 ≡ turns (8 * (k + 1)) (a / 16777216 % 256)
    → bit_xor (bit_xor (bit_xor b0 b1) b2) b3 ≡ turns (8 * (k + 4)) a
octets_word k a b0 b1 b2 b3 lt e0 e1 e2 e3 =
    let h2 : a / 256 / 256 ≡ a / 65536 = omega arith in
    let h3 : a / 65536 / 256 ≡ a / 16777216 % 256 = omega arith in
    let f2 : turns (8 * (k + 1 + 1)) (a / 65536) ≡ bit_xor b2 b3 = peel (k + 1) (k + 1 + 1) (a / 65536) refl ∙ ap₂ bit_xor (sym e2) (ap (turns (8 * (k + 1))) h3 ∙ sym e3) in
    let f1 : turns (8 * (k + 2 + 1)) (a / 256) ≡ bit_xor b1 (bit_xor b2 b3) =
    peel (k + 1 + 1) (k + 2 + 1) (a / 256) (omega arith) ∙ ap₂ bit_xor (sym e1) (ap (turns (8 * (k + 1 + 1))) h2 ∙ f2)
    in
    let f0 : turns (8 * (k + 3 + 1)) a ≡ bit_xor b0 (bit_xor b1 (bit_xor b2 b3)) = peel (k + 2 + 1) (k + 3 + 1) a (omega arith) ∙ ap₂ bit_xor (sym e0) f1 in
    let n : 8 * (k + 3 + 1) ≡ 8 * (k + 4) = omega arith in
    xor_assoc (bit_xor b0 b1) b2 b3 ∙ xor_assoc b0 b1 (bit_xor b2 b3) ∙ sym f0 ∙ ap (λ m. turns m a) n

pub word_is : (k a b0 b1 b2 b3 : ℕ) (l : List ℕ) → a < 2 ^ 32 → l ≡ (a % 256) ∷ (a / 256 % 256) ∷ (a / 65536 % 256) ∷ (a / 16777216 % 256) ∷ []
    → b0 ≡ turns (8 * (k + 3 + 1)) (get_or l 0 0) → b1 ≡ turns (8 * (k + 2 + 1)) (get_or l 1 0)
    → b2 ≡ turns (8 * (k + 1 + 1)) (get_or l 2 0) → b3 ≡ turns (8 * (k + 1)) (get_or l 3 0)
    → bit_xor (bit_xor (bit_xor b0 b1) b2) b3 ≡ turns (8 * (k + 4)) a
word_is k a b0 b1 b2 b3 l lt e e0 e1 e2 e3 =
    octets_word k a b0 b1 b2 b3 lt (e0 ∙ ap (λ m. turns (8 * (k + 3 + 1)) (get_or m 0 0)) e) (e1 ∙ ap (λ m. turns (8 * (k + 2 + 1)) (get_or m 1 0)) e)
    (e2 ∙ ap (λ m. turns (8 * (k + 1 + 1)) (get_or m 2 0)) e) (e3 ∙ ap (λ m. turns (8 * (k + 1)) (get_or m 3 0)) e)

-- ---- octets as one number, the first lowest
unfoldable little : List ℕ → ℕ
little [] = 0
little (b ∷ bs) = little bs * 256 + b % 256

absorb-little : (c : ℕ) (bs : List ℕ) → absorb c bs ≡ turns (8 * length bs) (bit_xor c (little bs))
unfolding absorb little turns
absorb-little c [] = sym (xor_zero_r c)
absorb-little c (b ∷ bs) =
    let l = little bs in
    let k = 8 * length bs in
    let n : 8 + k ≡ 8 * suc (length bs) = omega arith in
    let low : b % 256 < 256 = omega arith in
    absorb-little (turns 8 (bit_xor c (b % 256))) bs
    ∙ ap (turns k) (ap (bit_xor (turns 8 (bit_xor c (b % 256)))) (sym (turns_shift 8 l)) ∙ sym (turns-xor 8 (bit_xor c (b % 256)) (l * 256)))
    ∙ sym (turns-add 8 k (bit_xor (bit_xor c (b % 256)) (l * 256)))
    ∙ ap₂ turns n (xor_assoc c (b % 256) (l * 256) ∙ ap (bit_xor c) (xor_comm (b % 256) (l * 256) ∙ xor_shifted l 8 (b % 256) low))

-- four octets from i on
abbrev le32 : List ℕ → ℕ → ℕ
le32 s i = get_or s i 0 + get_or s (i + 1) 0 * 256 + get_or s (i + 2) 0 * 65536 + get_or s (i + 3) 0 * 16777216

abbrev first8 : List ℕ → List ℕ
first8 s = map (λ i. get_or s i 0) (range_with_len 0 8)

all-first8 : (s : List ℕ) → length s ≡ 8 → s ≡ first8 s
all-first8 s h = fill_by_all (λ i. get_or s i 0) s 8 0 h (λ k l. refl)

little-first8 : (s : List ℕ) → ((i : ℕ) → get_or s i 0 < 256) → little (first8 s) ≡ le32 s 4 * 2 ^ 32 + le32 s 0
unfolding little
little-first8 s f = omega (arith, f 0, f 1, f 2, f 3, f 4, f 5, f 6, f 7)

pub eight_is : (c : ℕ) (s : List ℕ) (n m v w : ℕ) → length s ≡ 8 → ((i : ℕ) → get_or s i 0 < 256) → n ≡ le32 s 0 → m ≡ le32 s 4 → n < 2 ^ 32
    → v ≡ turns 64 (bit_xor c n) → w ≡ turns 32 m → bit_xor v w ≡ absorb c s
eight_is c s n m v w h f en em lt ev ew =
    let whole : little (first8 s) ≡ m * 2 ^ 32 + n = little-first8 s f ∙ ap₂ (λ a b. a * 2 ^ 32 + b) (sym em) (sym en) in
    ap₂ bit_xor ev (ew ∙ ap (turns 32) (sym (turns_shift 32 m)) ∙ sym (turns-add 32 32 (m * 2 ^ 32))) ∙ sym (turns-xor 64 (bit_xor c n) (m * 2 ^ 32))
    ∙ ap (turns 64) (xor_assoc c n (m * 2 ^ 32) ∙ ap (bit_xor c) (xor_comm n (m * 2 ^ 32) ∙ xor_shifted m 32 n lt ∙ sym whole))
    ∙ sym (absorb-little c (first8 s)) ∙ ap (absorb c) (sym (all-first8 s h))

-- ---- a slice cut into eights
chunk_at : (k i : ℕ) (s : List ℕ) → i < k → get_or (first_chunks 8 k s) i [] ≡ take 8 (drop (i * 8) s)
chunk_at zero i s h = absurd (omega arith)
chunk_at (suc k) zero s h = refl
chunk_at (suc k) (suc i) s h =
    let n : 8 + i * 8 ≡ suc i * 8 = omega arith in
    chunk_at k i (drop 8 s) (omega arith) ∙ ap (take 8) (drop-drop (i * 8) 8 s ∙ ap (λ m. drop m s) n)

-- a loop's step: eight more go in
pub absorb-eight : (c d i k : ℕ) (s : List ℕ) (ws : List (List ℕ)) → ws ≡ first_chunks 8 k s → i < length ws → length ws ≡ k
    → d ≡ absorb c (get_or ws i []) → absorb c (drop (i * 8) s) ≡ absorb d (drop ((i + 1) * 8) s)
absorb-eight c d i k s ws p lt l e =
    let n : i * 8 + 8 ≡ (i + 1) * 8 = omega arith in
    let t = drop (i * 8) s in
    let part : get_or ws i [] ≡ take 8 t = ap (λ x. get_or x i []) p ∙ chunk_at k i s (omega arith) in
    ap (absorb c) (sym (take-append-drop 8 t)) ∙ absorb-append c (take 8 t) (drop 8 t)
    ∙ ap₂ absorb (ap (absorb c) (sym part) ∙ sym e) (drop-drop 8 (i * 8) s ∙ ap (λ m. drop m s) n)
