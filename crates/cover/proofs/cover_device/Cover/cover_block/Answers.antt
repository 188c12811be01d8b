use Rattle.std.proofs.Common.{rules, ◌≡◌, ◌<◌, length, is_some, Some, None, vec_items, inl, inr, ap, ◌∙◌, arith}
use Rattle.std.proofs.lemmas.Bool.Decides.{nat_tests}
use Rattle.std.proofs.lemmas.List.{places, with_items_is, length-set}
use Rattle.cover.proofs.Shown.{zeros_marked, shown_marked}
use Rattle.cover.proofs.Entries.{mark_named, mark_covers, mark_unmarked, unmarked_none}
use Rattle.cover.specs.Entries.{entry_of, unmarked}
use Rattle.cover.proofs.cover_device.Cover.cover_block.Goals as goal

pub returns-in_err-i-clause-variant : goal.returns-in_err-i-clause-variant
returns-in_err-i-clause-variant c =
    let s = c.args.self.now in
    let full : entry_of s.table None ≡ None = search rules in
    let n = unmarked_none s.table full in
    let none : entry_of s.table (Some c.args.block) ≡ None = search rules in
    grind (arith, nat_tests)

pub invariant_of-self : goal.invariant_of-self
invariant_of-self c =
    let s = c.args.self.now in
    let size = s.geometry.block_size in
    let i = c.in_ok-i.i in
    let p : 0 < size = search rules in
    let same : c.bytes-size.result ≡ size = search rules in
    let free : entry_of s.table None ≡ Some i = search rules in
    let none : entry_of s.table (Some c.args.block) ≡ None = search rules in
    let l : length c.mark.new.self ≡ length s.table = ap length c.mark.ensures ∙ length-set s.table i (Some c.args.block) in
    record {
      sized = (s.sized.0, rw l s.sized.1);
      zeros = zeros_marked size p c.bytes-size.result s.len same s.table _ (vec_items s.buf) _ s.medium.now c.args.block i free none c.mark.ensures
          (λ x h. elim h [ inl l ↦ grind (arith, places, with_items_is) | inr l ↦ grind (arith, places, with_items_is) ])
          (λ r h. let e = c.copy_padded.ensures r (grind (arith, places)) in grind (arith, places, with_items_is)) s.zeros;
    }

pub returns-clause-variant : goal.returns-clause-variant
returns-clause-variant c =
    let s = c.args.self.now in
    let free : entry_of s.table None ≡ Some c.in_ok-i.i = search rules in
    let m = mark_unmarked s.table c.args.block c.in_ok-i.i free in
    grind (arith, nat_tests)

pub returns-clause-reply : goal.returns-clause-reply
returns-clause-reply c =
    let s = c.args.self.now in
    ap (λ e. entry_of e (Some c.args.block)) c.mark.ensures ∙ mark_named s.table c.args.block c.in_ok-i.i (search rules) (search rules)

pub returns-clause-covered : goal.returns-clause-covered
returns-clause-covered c = λ b.
    let s = c.args.self.now in
    ap (λ e. is_some (entry_of e (Some b))) c.mark.ensures ∙ mark_covers s.table c.args.block c.in_ok-i.i (search rules) (search rules) b

pub returns-clause-spare : goal.returns-clause-spare
returns-clause-spare c =
    let s = c.args.self.now in
    let free : entry_of s.table None ≡ Some c.in_ok-i.i = search rules in
    let none : entry_of s.table (Some c.args.block) ≡ None = search rules in
    let m = mark_unmarked s.table c.args.block c.in_ok-i.i free in
    let u = ap unmarked c.mark.ensures in
    grind (arith, nat_tests)

pub returns-clause-bytes : goal.returns-clause-bytes
returns-clause-bytes c =
    let s = c.args.self.now in
    let size = s.geometry.block_size in
    let i = c.in_ok-i.i in
    let p : 0 < size = search rules in
    let same : c.bytes-size.result ≡ size = search rules in
    let free : entry_of s.table None ≡ Some i = search rules in
    let none : entry_of s.table (Some c.args.block) ≡ None = search rules in
    shown_marked size p c.bytes-size.result s.len same s.table _ (vec_items s.buf) _ s.medium.now c.args.block i free none c.mark.ensures
    (λ x h. elim h [ inl l ↦ grind (arith, places, with_items_is) | inr l ↦ grind (arith, places, with_items_is) ])
    (λ r h. let e = c.copy_padded.ensures r (grind (arith, places)) in grind (arith, places, with_items_is))

pub returns-clause-others : goal.returns-clause-others
returns-clause-others c = λ k h.
    let same : c.bytes-size.result ≡ c.args.self.now.geometry.block_size = search rules in
    elim h [ inl l ↦ grind (arith, places, with_items_is) | inr l ↦ grind (arith, places, with_items_is) ]
