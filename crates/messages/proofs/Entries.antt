-- Entering a message: the place is an entry and lies in the view, or the read is short. Assumes nothing.
use Rattle.std.proofs.Common.{◌≡◌, ℕ, ◌+◌, ◌%◌, ◌^◌, ◌<◌, ◌≤◌, true, ◌&&◌, List, length, replicate, arith, Ok, ap₂}
use Rattle.std.proofs.lemmas.Bool.Decides.{nat_tests}
use Rattle.device.specs.Reads.{begins, filled, eof_reply}
use Rattle.device.proofs.Replies.{eof_ok}
use Rattle.layout.specs.Sizes.{is_segment_size}
use Rattle.layout.proofs.Powers.{size-ends}
use Rattle.messages.specs.Raw.{is_entry, starts}
use Rattle.messages.specs.Spots.{Entered}
use Rattle.messages.proofs.Windows.{window_is}

begun : (first place : ℕ) (bytes : List ℕ) → begins first bytes place ≡ true → first ≤ place
begun first place bytes h = grind (arith, nat_tests)

ended : (first place : ℕ) (bytes : List ℕ) → begins first bytes place ≡ true → place ≤ first + length bytes
ended first place bytes h = grind (arith, nat_tests)

roomy : (size p : ℕ) → is_entry size p ≡ true → p + 32 ≤ size
roomy size p h = grind (arith, nat_tests)

-- a read of the bytes ahead was answered at an entry
pub entered : (size place first k : ℕ) (bytes w : List ℕ) → is_segment_size size ≡ true → place < 2 ^ 64 → is_entry size (place % size) ≡ true
    → Ok k ≡ eof_reply first bytes place 128 → length w ≡ 128 → w ≡ filled first bytes place (replicate 128 0)
    → (starts size first bytes place ≡ true) × Entered size place first bytes w
entered size place first k bytes w z l i r wide f =
    let b = (eof_ok first place 128 k bytes r).0 in
    let a = begun first place bytes b in
    let d = ended first place bytes b in (
      ap₂ ◌&&◌ i b,
      record {
        ends = size-ends size place z l;
        entry = roomy size (place % size) i;
        begun = a;
        ended = d;
        window = window_is first place bytes w a d f;
        wide = wide;
      },
    )
