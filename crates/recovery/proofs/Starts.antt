-- Tables that are cleared, and tables that hold the pages of a snapshot. Assumes nothing.
use Rattle.std.proofs.Common.{◌≡◌, ℕ, List, [], length, take, sym, refl, ap, ◌∙◌, subst, arith}
use Rattle.std.proofs.lemmas.List.Elements.{All-nil}
use Rattle.std.specs.List.{All}
use Rattle.pages.specs.declared.page_state.Fragment.{Fragment}
use Rattle.pages.specs.declared.page_state.PageState.{PageState}
use Rattle.pages.specs.declared.page_state.PageState.TheVariants.{Uninitialized}
use Rattle.pages.specs.Pages.{fragments}
use Rattle.pages.specs.Snapshots.{sound_pages}
use Rattle.recovery.specs.declared.page_table.PageTable.{PageTable}
use Rattle.recovery.specs.Flat.{in_use, flat, pages, state_at, Right, Kept, Cleared}
use Rattle.recovery.proofs.Flats.{Below, get_or-replicate_same}

pages-none : (fs : List Fragment) (ss : List PageState) → pages fs ss 0 ≡ []
unfolding pages
pages-none fs ss = refl

-- ---- no pages
module _ (t : PageTable) (c : Cleared t) where
  pub flat-cleared : flat t ≡ []
  flat-cleared = ap (pages (in_use t) t.states.now) c.count ∙ pages-none (in_use t) t.states.now

  state_at-cleared : (i : ℕ) → state_at t.states.now i ≡ Uninitialized
  state_at-cleared i = ap (λ ss. state_at ss i) c.states ∙ get_or-replicate_same Uninitialized (length t.states.now) i

  pub kept-cleared : (top : ℕ) → Kept top t
  unfolding fragments sound_pages
  kept-cleared top = record {
    count = omega (arith, c.count);
    used = omega (arith, c.used);
    live = omega (arith, c.live);
    consistent = record {
      blank = λ i h. state_at-cleared i;
      below = subst (λ n. All (Below top) (take n t.fragments.now)) (sym c.used) (All-nil (Below top));
      right = λ i. subst (Right top (in_use t) i) (sym (state_at-cleared i)) tt;
      counted = c.live ∙ sym (ap fragments flat-cleared);
    };
    sound = ap (sound_pages top) flat-cleared;
  }
