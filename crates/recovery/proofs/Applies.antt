-- What a record does to the tables, and what is answered of it. Assumes nothing.
use Rattle.std.proofs.Common.{◌≡◌, ℕ, ◌+◌, ◌<◌, ◌≤◌, true, List, [], ◌∷◌, ◌++◌, length, get_or, set, MutBor, Ok, Err, Some, Result, sym, refl, ap, ◌∙◌, subst, add-one, arith, length-set}
use Rattle.std.proofs.lemmas.List.{length-take-le, take_more_set}
use Rattle.std.proofs.lemmas.Bool.Decides.{nat_tests}
use Rattle.layout.specs.declared.kind.LogKind.TheVariants.{Replace, Link, Free as LinkFree}
use Rattle.messages.specs.declared.log_read.Record.{Record}
use Rattle.pages.specs.declared.page_state.Fragment.{Fragment}
use Rattle.pages.specs.declared.page_state.PageState.{PageState}
use Rattle.pages.specs.declared.page_state.PageState.TheVariants.{Free, Present}
use Rattle.pages.specs.Pages.{Item, Page, uninitialized, free, present, fragments_of, fragments, item_of, place_of, grown, joined, applied, apply, verdict}
use Rattle.pages.specs.Snapshots.{sound_pages}
use Rattle.pages.proofs.Sound.{sound_up, apply-sound}
use Rattle.refusals.specs.declared.refusal.Refusal.{Refusal}
use Rattle.refusals.specs.declared.refusal.Refusal.TheVariants.{PageNumber, Fragments}
use Rattle.recovery.specs.declared.page_table.PageTable.{PageTable}
use Rattle.recovery.specs.Flat.{in_use, flat, fragments_in, state_at, pages, page_of, renewed, appended, Right, Consistent, Kept, SameTables, Compacted, Roomy}
use Rattle.recovery.proofs.Flats.{consistent_up, fragments_in-live, pages_renewed, renewed-consistent, page_of-replaced, right_replaced, get_or-pages, pages_linked, linked-consistent, fragments-linked, joined-not}
use Rattle.recovery.proofs.Compacts.{pages_compacted, compacted-consistent, length-alive}

abbrev Reply : Type 0
Reply = Result (Unit {0}) Refusal

pub far : (most room : ℕ) (ps : List Page) (r : Record) → most ≤ r.pid → ◌≡◌ {A = Reply} (Err (PageNumber (Some (place_of r.ptr)))) (verdict most room ps r)
unfolding verdict
far most room ps r h = grind (arith, nat_tests)

full : (most room : ℕ) (ps : List Page) (r : Record) → r.pid < most → room < fragments (apply ps r) → ◌≡◌ {A = Reply} (Err (Fragments (Some (place_of r.ptr)))) (verdict most room ps r)
unfolding verdict
full most room ps r h l = grind (arith, nat_tests)

fine : (most room : ℕ) (ps : List Page) (r : Record) → r.pid < most → fragments (apply ps r) ≤ room → ◌≡◌ {A = Reply} (Ok tt) (verdict most room ps r)
unfolding verdict
fine most room ps r h l = grind (arith, nat_tests)

item_lsn : (r : Record) → (item_of r).0 ≡ r.lsn
unfolding item_of
item_lsn r = refl

-- a higher top
pub kept_up : (top over : ℕ) (t : PageTable) → top ≤ over → Kept top t → Kept over t
kept_up top over t h k = record {
  count = k.count;
  used = k.used;
  live = k.live;
  consistent = consistent_up top over (in_use t) t.states.now t.count t.live h k.consistent;
  sound = sound_up top over (flat t) h k.sound;
}

-- ---- room for a fragment
module _ (top : ℕ) (t u : PageTable) (k : Kept top t) (c : Compacted t u) where
  pub same_states : u.states.now ≡ t.states.now
  same_states = ap (λ (y : MutBor (List PageState)). y.now) c.states

  compacted_consistent : Consistent top (in_use u) u.states.now u.count u.live
  compacted_consistent =
      rw (c.in_use, same_states, c.count, c.live) (compacted-consistent top (in_use t) t.states.now t.count t.live k.consistent)

  flat-compacted : flat u ≡ flat t
  flat-compacted = rw (c.in_use, same_states, c.count) (pages_compacted top (in_use t) t.states.now t.count t.live k.consistent)

  -- the fragments in use are those that are alive
  pub used-compacted : u.used ≡ t.live
  used-compacted =
      sym (length-take-le u.used u.fragments.now (omega (arith, c.used, c.size, k.used))) ∙ ap length c.in_use
      ∙ length-alive t.states.now (in_use t) t.count k.consistent.blank ∙ sym k.consistent.counted

  pub kept-compacted : Kept top u
  kept-compacted = record {
    count = omega (arith, c.count, ap length same_states, k.count);
    used = omega (arith, c.used, c.size, k.used);
    live = omega (arith, c.live, c.size, k.live);
    consistent = compacted_consistent;
    sound = subst (λ ps. sound_pages top ps ≡ true) (sym flat-compacted) k.sound;
  }

  pub compacted-roomy : t.live < length t.fragments.now → Roomy top t u
  compacted-roomy l = record {
    kept = kept-compacted;
    pages = flat-compacted;
    room = omega (arith, used-compacted, c.size);
    states = c.states;
    live = c.live;
    size = c.size;
    lender = c.lender;
  }

-- a record that is taken
pub record Taken (t u : PageTable) (r : Record) : Type 0 where
  pub reply : ◌≡◌ {A = Reply} (Ok tt) (verdict (length t.states.now) (length t.fragments.now) (flat t) r)
  pub pages : flat u ≡ apply (flat t) r
  pub kept : Kept (r.lsn + 1) u
  pub tables : SameTables t u

module _ (t : PageTable) (r : Record) (k : Kept r.lsn t) (h : r.pid < length t.states.now) where
  taken : (u : PageTable) → flat u ≡ apply (flat t) r → Kept (r.lsn + 1) u → SameTables t u → Taken t u r
  taken u p v s = record {
    reply = fine (length t.states.now) (length t.fragments.now) (flat t) r h (omega (arith, ap fragments p, v.consistent.counted, v.live, s.fragments_size));
    pages = p;
    kept = v;
    tables = s;
  }

  sound_applied : (u : PageTable) → flat u ≡ apply (flat t) r → sound_pages (r.lsn + 1) (flat u) ≡ true
  sound_applied u p =
      subst (λ ps. sound_pages (r.lsn + 1) ps ≡ true) (sym p) (subst (λ n. sound_pages n (apply (flat t) r) ≡ true) (sym (add-one r.lsn)) (apply-sound r.lsn (flat t) r (omega arith) k.sound))

  apply-kind : {x : _} → r.kind ≡ x → apply (flat t) r ≡ applied (flat t) r x
  unfolding apply
  apply-kind e = ap (applied (flat t) r) e

  -- ---- a replacement or a free
  pub renewed_fits : fragments_in (state_at t.states.now r.pid) ≤ t.live
  renewed_fits = fragments_in-live r.lsn (in_use t) t.states.now t.count t.live r.pid k.consistent h

  module _ (s : PageState) (p : Page) (e : page_of (in_use t) r.pid s ≡ p) (w : Right (r.lsn + 1) (in_use t) r.pid s) (z : fragments_of p ≡ 0) where
    flat-renewed : flat (renewed t r.pid s) ≡ set (grown (flat t) (r.pid + 1)) r.pid p
    flat-renewed = pages_renewed r.lsn (in_use t) t.states.now t.count t.live r.pid k.consistent h s p e w z

    kept-renewed : apply (flat t) r ≡ set (grown (flat t) (r.pid + 1)) r.pid p → Kept (r.lsn + 1) (renewed t r.pid s)
    kept-renewed a = record {
      count = omega (arith, k.count, h, length-set t.states.now r.pid s);
      used = k.used;
      live = omega (arith, k.live);
      consistent = renewed-consistent r.lsn (in_use t) t.states.now t.count t.live r.pid k.consistent h s p e w z;
      sound = sound_applied (renewed t r.pid s) (flat-renewed ∙ sym a);
    }

    renewed-taken : (u : PageTable) → u ≡ renewed t r.pid s → apply (flat t) r ≡ set (grown (flat t) (r.pid + 1)) r.pid p → Taken t u r
    renewed-taken u q a =
        subst (λ v. Taken t v r) (sym q)
        (taken (renewed t r.pid s) (flat-renewed ∙ sym a) (kept-renewed a)
        (record { states = refl; fragments = refl; states_size = length-set t.states.now r.pid s; fragments_size = refl }))

  pub replaced-taken : (u : PageTable) (x : Item) → r.kind ≡ Replace → x ≡ item_of r → u ≡ renewed t r.pid (Present x 0) → Taken t u r
  unfolding applied item_of fragments_of
  replaced-taken u x e q n =
      let low : x.0 ≡ r.lsn = ap (λ (y : Item). y.0) q in
      renewed-taken (Present x 0) (present x []) (page_of-replaced r.lsn (in_use t) r.pid k.consistent.below x low) (right_replaced r.lsn (in_use t) r.pid k.consistent.below x low) refl u n
      (apply-kind e ∙ ap (λ (y : Item). set (grown (flat t) (r.pid + 1)) r.pid (present y [])) (sym q))

  pub freed-taken : (u : PageTable) → r.kind ≡ LinkFree → u ≡ renewed t r.pid (Free r.lsn r.ptr) → Taken t u r
  unfolding applied fragments_of page_of
  freed-taken u e n = renewed-taken (Free r.lsn r.ptr) (free r.lsn r.ptr) refl tt refl u n (apply-kind e)

  -- ---- a link
  module _ (link : r.kind ≡ Link) where
    apply-link : apply (flat t) r ≡ set (flat t) r.pid (joined (get_or (flat t) r.pid uninitialized) (item_of r))
    unfolding applied
    apply-link = apply-kind link

    pub skipped-taken : ((base : Item) (n : ℕ) → state_at t.states.now r.pid ≡ Present base n → ⊥) → Taken t t r
    skipped-taken other =
        let same : flat t ≡ apply (flat t) r =
        sym (apply-link ∙ joined-not (flat t) r.pid (item_of r) (in_use t) (state_at t.states.now r.pid) (get_or-pages (in_use t) t.states.now t.count r.pid k.consistent.blank) other) in
        taken t same (kept_up r.lsn (r.lsn + 1) t (omega arith) k) (record { states = refl; fragments = refl; states_size = refl; fragments_size = refl })

    -- with room for a fragment, or without
    module _ (base : Item) (n : ℕ) (e : state_at t.states.now r.pid ≡ Present base n) where
      more_fragments : fragments (apply (flat t) r) ≡ t.live + 1
      more_fragments =
          ap fragments apply-link
          ∙ fragments-linked r.lsn (in_use t) t.states.now t.count t.live r.pid n base (record { pid = r.pid; item = item_of r }) k.consistent e refl (item_lsn r)

      pub full-refused : t.live ≡ length t.fragments.now → ◌≡◌ {A = Reply} (Err (Fragments (Some (place_of r.ptr)))) (verdict (length t.states.now) (length t.fragments.now) (flat t) r)
      full-refused l = full (length t.states.now) (length t.fragments.now) (flat t) r h (omega (arith, more_fragments))

      module _ (w : PageTable) (m : Roomy r.lsn t w) (x : Item) (q : x ≡ item_of r) where
        abbrev link_fragment : Fragment
        link_fragment = record { pid = r.pid; item = x }

        abbrev link_state : PageState
        link_state = Present base (n + 1)

        link_lsn : x.0 ≡ r.lsn
        link_lsn = ap (λ (y : Item). y.0) q ∙ item_lsn r

        same_state : state_at w.states.now r.pid ≡ Present base n
        same_state = ap (λ (y : MutBor (List PageState)). state_at y.now r.pid) m.states ∙ e

        in_use-appended : in_use (appended w link_fragment link_state) ≡ in_use w ++ link_fragment ∷ []
        in_use-appended = take_more_set w.fragments.now w.used link_fragment m.room

        flat-appended : flat (appended w link_fragment link_state) ≡ apply (flat t) r
        flat-appended =
            ap (λ fs. pages fs (set w.states.now r.pid link_state) w.count) in_use-appended
            ∙ pages_linked r.lsn (in_use w) w.states.now w.count w.live r.pid n base link_fragment m.kept.consistent same_state refl link_lsn
            ∙ ap (λ ps. set ps r.pid (joined (get_or ps r.pid uninitialized) x)) m.pages
            ∙ ap (λ y. set (flat t) r.pid (joined (get_or (flat t) r.pid uninitialized) y)) q ∙ sym apply-link

        pub linked-taken : t.live < length t.fragments.now → (u : PageTable) → u ≡ appended w link_fragment link_state → Taken t u r
        linked-taken l u z =
            subst (λ v. Taken t v r) (sym z)
            (taken (appended w link_fragment link_state) flat-appended
            (record {
              count = omega (arith, m.kept.count, length-set w.states.now r.pid link_state);
              used = omega (arith, m.room, length-set w.fragments.now w.used link_fragment);
              live = omega (arith, m.live, m.size, length-set w.fragments.now w.used link_fragment);
              consistent = subst (λ fs. Consistent (r.lsn + 1) fs (set w.states.now r.pid link_state) w.count (w.live + 1)) (sym in_use-appended)
                  (linked-consistent r.lsn (in_use w) w.states.now w.count w.live r.pid n base link_fragment m.kept.consistent same_state refl link_lsn);
              sound = sound_applied (appended w link_fragment link_state) flat-appended;
            })
            (record {
              states = ap (λ (y : MutBor (List PageState)). y.ghost_name) m.states;
              fragments = m.lender;
              states_size = length-set w.states.now r.pid link_state ∙ ap (λ (y : MutBor (List PageState)). length y.now) m.states;
              fragments_size = length-set w.fragments.now w.used link_fragment ∙ m.size;
            }))

      -- the fragments of a page are not more than those of all
      pub present_fits : n ≤ t.live
      unfolding fragments_in
      present_fits = omega (arith, renewed_fits, ap fragments_in e)
