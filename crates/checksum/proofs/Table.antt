-- The tables at each place. Assumes nothing.
use Rattle.std.proofs.Common.{◌≡◌, ℕ, ◌+◌, ◌*◌, ◌<◌, List, [], map, get_or, ap, ◌∙◌, zero-add}
use Rattle.std.specs.List.{range_with_len}
use Rattle.std.proofs.lemmas.List.FromFn.{get_or-map-range_with_len}
use Rattle.checksum.specs.Register.{turns}
use Rattle.checksum.specs.Tables.{turned}

pub turned-at : (k i : ℕ) (ts : List (List ℕ)) → ts ≡ turned → k < 8 → i < 256 → get_or (get_or ts k []) i 0 ≡ turns (8 * (k + 1)) i
unfolding turned
turned-at k i ts e h g =
    ap (λ t. get_or (get_or t k []) i 0) e
    ∙ ap (λ t. get_or t i 0) (get_or-map-range_with_len (λ k. map (turns (8 * (k + 1))) (range_with_len 0 256)) 0 8 k k [] h (zero-add k))
    ∙ get_or-map-range_with_len (turns (8 * (k + 1))) 0 256 i i 0 g (zero-add i)
