-- What a recover leaves in the result tables. Assumes nothing.
use Rattle.std.proofs.Common.{◌≡◌, ℕ, ◌-◌, true, false, is_err, List, [], ◌++◌, length, take, replicate, OnOk, Ok, Err, Result, sym, refl, ap, ap₂, ◌∙◌, subst, arith}
use Rattle.std.proofs.lemmas.List.{take_at}
use Rattle.device.specs.Meaning.{Meaning}
use Rattle.pages.specs.Pages.{fragments}
use Rattle.pages.proofs.Layouts.{length_states, length-laid_out, nested-laid_out_all, tidy-laid_out}
use Rattle.pages.specs.Shown.{states_of, laid_out, nested, tidy}
use Rattle.pages.specs.Snapshots.{well_formed}
use Rattle.pages.specs.declared.page_state.Fragment.{Fragment}
use Rattle.pages.specs.declared.page_state.PageState.{PageState}
use Rattle.pages.specs.declared.page_state.PageState.TheVariants.{Uninitialized}
use Rattle.refusals.specs.declared.refusal.Refusal.{Refusal}
use Rattle.walks.specs.Finish.{Ended}
use Rattle.recovery.specs.Flat.{blank, Cleared, Settled}
use Rattle.recovery.specs.Recovers.{reply_of, pages_of, states_left, fragments_left, Formed, Attempted, Recovers}
use Rattle.recovery.specs.declared.page_table.PageTable.{PageTable}
use Rattle.recovery.specs.declared.recovered.Recovered.{Recovered}

module _ (size : ℕ) (before after : Meaning) (t : PageTable) (x : Result Ended Refusal) (r : Result Recovered Refusal) (a : Attempted size before after t x r) (ps : List PageState) (fs : List Fragment) where
  no_pages_left : is_err r ≡ true → pages_of x ≡ []
  unfolding reply_of pages_of
  no_pages_left e = go x (subst (λ o. is_err o ≡ true) a.reply e)
    where
      go : (o : Result Ended Refusal) → is_err (reply_of o) ≡ true → pages_of o ≡ []
      go (Err f) z = refl
      go (Ok q) z = absurd (let y : ◌≡◌ {A = ℕ} 0 1 = cc in omega arith)

  none_formed : (o : Result Recovered Refusal) → is_err o ≡ true → Formed size o ps fs
  none_formed (Err f) e = tt
  none_formed (Ok q) e = absurd (let y : ◌≡◌ {A = ℕ} 0 1 = cc in omega arith)

  pub done_refused : is_err r ≡ true → (v : PageTable) → Cleared v → ps ≡ v.states.now → fs ≡ v.fragments.now → Recovers size before after x r ps fs
  unfolding states_left fragments_left states_of laid_out fragments
  done_refused e v c p f =
      let n = no_pages_left e in
      let q : replicate (length ps) Uninitialized ≡ states_left (length ps) x =
      let z : length ps ≡ length ps - 0 = omega arith in
      ap (λ k. replicate k Uninitialized) z ∙ ap (λ qs. states_of qs ++ replicate (length ps - length qs) Uninitialized) (sym n) in
      let m : replicate (length fs) blank ≡ fragments_left (length fs) x =
      let z : length fs ≡ length fs - 0 = omega arith in
      ap (λ k. replicate k blank) z ∙ ap (λ qs. laid_out 0 qs ++ replicate (length fs - fragments qs) blank) (sym n) in
      record {
        reply = a.reply;
        device = a.device;
        pages = p ∙ c.states ∙ ap (λ l. replicate (length l) Uninitialized) (sym p) ∙ q;
        formed = none_formed r e;
        fragments = f ∙ c.fragments ∙ ap (λ l. replicate (length l) blank) (sym f) ∙ m;
      }

  -- the front of the tables shows the pages
  shown_formed : (e : Ended) → x ≡ Ok e → ps ≡ states_left (length ps) x → fs ≡ fragments_left (length fs) x → Formed size r ps fs
  unfolding reply_of pages_of states_left fragments_left
  shown_formed e q p f =
      let l = length_states e.snap.pages in
      let m = length-laid_out 0 e.snap.pages in
      let us = replicate (length ps - length e.snap.pages) Uninitialized in
      let bs = replicate (length fs - fragments e.snap.pages) blank in
      let front : take (length e.snap.pages) ps ≡ states_of e.snap.pages =
      ap (take (length e.snap.pages)) (p ∙ ap (λ o. states_left (length ps) o) q) ∙ take_at (states_of e.snap.pages) us (length e.snap.pages) l in
      let behind : take (fragments e.snap.pages) fs ≡ laid_out 0 e.snap.pages =
      ap (take (fragments e.snap.pages)) (f ∙ ap (λ o. fragments_left (length fs) o) q) ∙ take_at (laid_out 0 e.snap.pages) bs (fragments e.snap.pages) m in
      let shows = ap₂ nested front behind ∙ nested-laid_out_all 0 e.snap.pages in
      let k : Formed size (reply_of (Ok e)) ps fs = (
        ap₂ (tidy 0) front behind ∙ tidy-laid_out 0 e.snap.pages,
        ap (λ ns. well_formed size (record { stable = e.snap.stable; active = e.snap.active; pages = ns })) shows ∙ a.formed e q,
      ) in
      subst (λ o. Formed size o ps fs) (sym (a.reply ∙ ap reply_of q)) k

  pub done_accepted : is_err r ≡ false → ps ≡ t.states.now → fs ≡ t.fragments.now → Recovers size before after x r ps fs
  unfolding states_left fragments_left reply_of
  done_accepted e p f =
      let s = settled r a.pages e in
      let p2 = p ∙ s.states ∙ ap (λ l. states_of (pages_of x) ++ replicate (length l - length (pages_of x)) Uninitialized) (sym p) in
      let f2 = f ∙ s.fragments ∙ ap (λ l. laid_out 0 (pages_of x) ++ replicate (length l - fragments (pages_of x)) blank) (sym f) in
      record {
        formed = ended x refl p2 f2;
        reply = a.reply;
        device = a.device;
        pages = p2;
        fragments = f2;
      }
    where
      settled : (o : Result Recovered Refusal) → OnOk o (Settled (pages_of x) t) → is_err o ≡ false → Settled (pages_of x) t
      settled (Ok q) z e = z
      settled (Err f) z e = absurd (let y : ◌≡◌ {A = ℕ} 0 1 = cc in omega arith)

      ended : (o : Result Ended Refusal) → x ≡ o → ps ≡ states_left (length ps) x → fs ≡ fragments_left (length fs) x → Formed size r ps fs
      ended (Ok q) i b c = shown_formed q i b c
      ended (Err h) i b c = absurd (let z : false ≡ true = sym e ∙ ap is_err (a.reply ∙ ap reply_of i) in let y : ◌≡◌ {A = ℕ} 0 1 = cc in omega arith)
