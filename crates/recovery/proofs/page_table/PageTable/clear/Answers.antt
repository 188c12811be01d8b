use Rattle.std.proofs.Common.{rules, replicate, refl, ap, sym, ◌∙◌}
use Rattle.pages.specs.declared.page_state.PageState.TheVariants.{Uninitialized}
use Rattle.recovery.specs.Flat.{blank, Cleared}
use Rattle.recovery.proofs.Starts.{flat-cleared, kept-cleared}
use Rattle.recovery.proofs.page_table.PageTable.clear.Goals as goal

pub returns : goal.returns
unfolding blank
returns c =
    let s = c.fill.ensures.after (λ y q. search rules) ∙ ap (λ n. replicate n Uninitialized) (sym c.fill.ensures.len) in
    let f = c.fill-2.ensures.after (λ y q. search rules) ∙ ap (λ n. replicate n blank) (sym c.fill-2.ensures.len) in
    let d : Cleared _ = record { states = s; fragments = f; count = refl; used = refl; live = refl } in
    record {
      cleared = d;
      pages = flat-cleared _ d;
      kept = kept-cleared _ d 0;
      tables = record { states = refl; fragments = refl; states_size = c.fill.ensures.len; fragments_size = c.fill-2.ensures.len };
    }
