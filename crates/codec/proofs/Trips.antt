-- What is written at the front of a buffer is read from there. Assumes nothing.
use Rattle.std.proofs.Common.{◌≡◌, ℕ, ◌+◌, ◌≤◌, leb, List, ◌++◌, length, drop, Some, Ok, Option, ap, ◌∙◌, arith}
use Rattle.std.proofs.lemmas.List.Edits.{sets}
use Rattle.std.proofs.lemmas.Bool.{cond_both, leb-true}
use Rattle.codec.specs.Serial.{placed}
use Rattle.codec.proofs.Octets.{some_is}
use Rattle.codec.proofs.Writes.{sets_front}

-- an accepted write had room
pub placed_room : (len n e : ℕ) → Ok e ≡ placed len 0 n → n ≤ len
placed_room len n e =
    cond_both (leb (0 + n) len) _ _ (λ r. Ok e ≡ r → n ≤ len) (λ t p. omega (arith, leb-true (0 + n) len t))
    (λ t p. let z : ◌≡◌ {A = ℕ} 0 1 = cc in absurd (omega arith))

pub trip_reads : {X : Type 0} (bytes : List ℕ) (reads : List ℕ → Option (X × List ℕ)) (x : X) (l m : List ℕ) (e : ℕ)
    → ((rest : List ℕ) → reads (bytes ++ rest) ≡ Some (x, rest))
    → Ok e ≡ placed (length l) 0 (length bytes) → m ≡ sets l 0 bytes → reads m ≡ Some (x, drop (length bytes) l)
trip_reads bytes reads x l m e back p q = ap reads (q ∙ sets_front l bytes (placed_room (length l) (length bytes) e p)) ∙ back (drop (length bytes) l)

pub trip-value : {X : Type 0} (bytes : List ℕ) (reads : List ℕ → Option (X × List ℕ)) (x y : X) (l m r : List ℕ) (e : ℕ)
    → ((rest : List ℕ) → reads (bytes ++ rest) ≡ Some (x, rest))
    → Ok e ≡ placed (length l) 0 (length bytes) → m ≡ sets l 0 bytes → Some (y, r) ≡ reads m → y ≡ x
trip-value bytes reads x y l m r e back p q s =
    ap (λ z. z.0) (some_is (y, r) (x, drop (length bytes) l) (s ∙ trip_reads bytes reads x l m e back p q))
