use Rattle.std.proofs.Common.{◌≡◌, ◌-◌, length, take, replicate, rules, arith, sym, ap, ◌∙◌, subst}
use Rattle.std.proofs.lemmas.List.{take_at, drop_at}
use Rattle.std.proofs.lemmas.List.Sorted.{answers_always}
use Rattle.std.specs.List.Sorted.{IsPermutation}
use Rattle.recovery.specs.Flat.{blank, InOrder}
use Rattle.recovery.proofs.page_table.put_in_order.Goals as goal

pub returns-clause-front : goal.returns-clause-front
returns-clause-front c =
    let n = c.sort_unstable_by_key.ensures.len ∙ c.split_at_mut-front.ensures.front_len in
    subst (InOrder (take c.args.used c.args.fragments.now)) (sym (take_at c.sort_unstable_by_key.new.self c.fill.new.self c.args.used n))
    (record {
      permutation = subst (λ fs. IsPermutation fs c.sort_unstable_by_key.new.self) c.split_at_mut-front.ensures.front c.sort_unstable_by_key.ensures.permutation;
      sorted = c.sort_unstable_by_key.ensures.sorted (λ f. (f.pid, f.item.0)) (answers_always _ _ _ (λ f a r g h. search rules));
    })

pub returns-clause-behind : goal.returns-clause-behind
unfolding blank
returns-clause-behind c =
    let n = c.sort_unstable_by_key.ensures.len ∙ c.split_at_mut-front.ensures.front_len in
    let m : length c.split_at_mut-front.result.1.now ≡ length c.args.fragments.now - c.args.used = omega arith in
    drop_at c.sort_unstable_by_key.new.self c.fill.new.self c.args.used n ∙ c.fill.ensures.after (λ y q. search rules) ∙ ap (λ k. replicate k blank) m
