use Rattle.std.proofs.Common.{◌≡◌, true, ltb, sym, ap, subst, ◌∙◌, rules}
use Rattle.std.proofs.lemmas.List.{take_rest}
use Rattle.std.proofs.lemmas.List.Sorted.{IsPartitionPoint-from_clause}
use Rattle.tables.specs.Entries.{rising}
use Rattle.walks.specs.Walks.{since, tail_from, tail}
use Rattle.recovery.specs.Tails.{TailIs}
use Rattle.recovery.proofs.Tails.{below_parts, since-drop}
use Rattle.recovery.proofs.tail.find_tail.Goals as goal

pub returns : goal.returns
unfolding tail
returns c =
    let ss = c.entries-order.result.now in
    let start = c.args.start in
    let from = c.partition_point-from.result in
    let r : rising ss ≡ true = rw c.entries-order.ensures c.args.order.now.ordered in
    let p = IsPartitionPoint-from_clause (λ s. ltb s.key start) ss from c.partition_point-from.ensures.partitioned (below_parts start ss r) (λ a r f' k. search rules) in
    subst (TailIs c.follow.result)
    (ap (tail_from c.args.size start) (take_rest ss from ∙ sym (since-drop start from ss c.partition_point-from.ensures.bound p))
    ∙ ap (λ l. tail_from c.args.size start (since start l)) c.entries-order.ensures) c.follow.ensures
