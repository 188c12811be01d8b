use Rattle.std.proofs.Common.{◌≡◌, ◌+◌, ◌/◌, ◌%◌, ◌<◌, length, get_or, vec_items, sym, ap, ◌∙◌, mod-lt, arith, rules}
use Rattle.std.proofs.lemmas.List.{places, get_or_append_left}
use Rattle.cover.proofs.Shown.{seen_piece}
use Rattle.cover.specs.Shown.{block_bytes}
use Rattle.cover.proofs.cover_device.Cover.copy_piece.Goals as goal

pub returns-clause-front : goal.returns-clause-front
returns-clause-front c = λ k h.
    let s = c.args.self.now in
    let size = s.geometry.block_size in
    let at = c.args.at in
    let p : 0 < size = search rules in
    let m = mod-lt at p in
    let same : c.bytes-size.result ≡ size = search rules in
    let from : at % c.bytes-size.result ≡ at % size = ap (λ z. at % z) same in
    let l : k < length c.copy_padded.new.dst = grind (arith, places) in
    let q = c.copy_padded.ensures k (grind (arith, places)) in
    let b = c.block_bytes.ensures in
    let w = ap (λ z. get_or (block_bytes size s.table (vec_items s.buf) s.medium.now (at / z)) (at % z + k) 0) same in
    let t = seen_piece size p s.table (vec_items s.buf) s.medium.now at k (omega arith) in
    get_or_append_left c.copy_padded.new.dst _ 0 k l ∙ (q ∙ (ap (λ l. get_or l (at % c.bytes-size.result + k) 0) b ∙ (w ∙ sym t)))
