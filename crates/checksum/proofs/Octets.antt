-- Octets into the register one by one, as the code takes them. Assumes nothing.
use Rattle.std.proofs.Common.{◌≡◌, ℕ, ◌+◌, ◌-◌, ◌/◌, ◌%◌, ◌^◌, ◌<◌, ◌≤◌, List, [], ◌∷◌, ◌++◌, length, get_or, drop, sym, ap, ◌∙◌, mod-eq_of_lt, arith}
use lib.Bits.{bit_xor, xor_comm, xor_shr, xor_mod, xor_zero_r}
use Rattle.std.proofs.lemmas.List.{at_drop_more, at_drop_all}
use Rattle.checksum.specs.Crc.{crc32, continued}
use Rattle.checksum.specs.Register.{turns, absorb}
use Rattle.checksum.proofs.Turns.{turns_split}
use Rattle.checksum.proofs.Registers.{continued_register}
use Rattle.checksum.proofs.Values.{crc32-append}

-- a loop's step: the octet at i goes in
pub absorb_more : (c : ℕ) (s : List ℕ) (i d : ℕ) → i < length s → d ≡ turns 8 (bit_xor c (get_or s i 0 % 256)) → absorb c (drop i s) ≡ absorb d (drop (i + 1) s)
unfolding absorb
absorb_more c s i d h e = at_drop_more (absorb c) s i 0 h ∙ ap (λ n. absorb n (drop (i + 1) s)) (sym e)

-- its end
pub absorb_all : (crc c : ℕ) (bs s : List ℕ) (i : ℕ) → crc < 2 ^ 32 → length s ≤ i → absorb (0xFFFF_FFFF - crc) bs ≡ absorb c (drop i s)
    → 0xFFFF_FFFF - c ≡ continued crc bs
unfolding absorb
absorb_all crc c bs s i lt h e = ap (λ n. 0xFFFF_FFFF - n) (sym (e ∙ at_drop_all (absorb c) s i h)) ∙ sym (continued_register crc bs lt)

pub joined : (crc r : ℕ) (bs : List ℕ) → r ≡ continued crc bs → (xs : List ℕ) → crc ≡ crc32 xs → r ≡ crc32 (xs ++ bs)
joined crc r bs e xs h = e ∙ ap (λ n. continued n bs) h ∙ sym (crc32-append xs bs)

-- eight turns by the table's entry
pub octet_table : (c : ℕ) → turns 8 c ≡ bit_xor (turns 8 (c % 256)) (c / 256)
octet_table c = turns_split 8 c ∙ xor_comm (c / 256) (turns 8 (c % 256))

pub octet_is : (c b e : ℕ) (l : List ℕ) → b < 256 → l ≡ (c % 256) ∷ (c / 256 % 256) ∷ (c / 65536 % 256) ∷ (c / 16777216 % 256) ∷ []
    → e ≡ turns 8 (bit_xor (get_or l 0 0) b) → bit_xor e (c / 256) ≡ turns 8 (bit_xor c (b % 256))
octet_is c b e l lt p q =
    let none : b / 256 ≡ 0 = omega arith in
    ap (λ n. bit_xor n (c / 256))
    (q ∙ ap (λ m. turns 8 (bit_xor (get_or m 0 0) b)) p ∙ ap (λ n. turns 8 (bit_xor (c % 256) n)) (sym (mod-eq_of_lt lt)) ∙ ap (turns 8) (sym (xor_mod c b 8)))
    ∙ ap (bit_xor (turns 8 (bit_xor c b % 256))) (sym (xor_shr c b 8 ∙ ap (bit_xor (c / 256)) none ∙ xor_zero_r (c / 256)))
    ∙ sym (octet_table (bit_xor c b)) ∙ ap (λ n. turns 8 (bit_xor c n)) (sym (mod-eq_of_lt lt))
