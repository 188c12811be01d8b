-- The checks before the writes, and what a finish comes to. Assumes nothing.
use Rattle.std.proofs.Common.{◌≡◌, ℕ, ◌<◌, ◌≤◌, Bool, not, ◌/◌, List, [], ◌++◌, map, Some, None, Ok, Err, Option, Result, IfSome, refl, sym, ap, ap₂, ◌∙◌, subst, arith}
use Rattle.std.proofs.lemmas.Bool.Decides.{nat_tests}
use Rattle.std.specs.List.{All, count_by}
use Rattle.std.specs.Option.{option_map, option_to_list, unwrap_or}
use Rattle.blobs.specs.declared.note.Note.{Note}
use Rattle.device.specs.Meaning.{Meaning, Alike, zeroed, needed, needs}
use Rattle.layout.proofs.Powers.{sized}
use Rattle.pages.specs.Pages.{Page}
use Rattle.pages.specs.Snapshots.{Snap}
use Rattle.refusals.specs.declared.refusal.Refusal.{Refusal}
use Rattle.refusals.specs.declared.refusal.Refusal.TheVariants.{StableFell, NoSpare}
use Rattle.scan.specs.Order.{Segment}
use Rattle.walks.specs.Finish.{Ended, wholes, behind, ended, finish}
use Rattle.walks.specs.Walk.{Walked, with_held}
use Rattle.walks.specs.Recover.{Budget, checked, or_zero, places, at_last, closed, left}
use Rattle.recovery.proofs.Ends.{runs_fit, needed_is}
use Rattle.recovery.proofs.Zeros.{alike_refl}
use Rattle.recovery.specs.Finishing.{with_rest, EndIs, RestOf, walked_to, Room, Clean, Takes, snap_reply, Finished}
use Rattle.recovery.specs.Small.{Small}
use Rattle.recovery.specs.declared.finish.End.{End}
use Rattle.recovery.specs.declared.finish.Reached.{Reached}
use Rattle.recovery.specs.declared.finish.Rest.{Rest}

-- ---- what of a walk a finish goes by
no_records : (size : ℕ) (given : Snap) (ps : List Page) (w : Walked) → finish size given ps w ≡ finish size given ps (record { records = []; current = w.current; held = w.held; left = w.left; fault = None })
unfolding finish
no_records size given ps w = refl

pub finish_by : (size : ℕ) (given : Snap) (ps : List Page) (w : Walked) (r : Reached) → r.current ≡ w.current → r.held ≡ w.held → r.left.now ≡ w.left → finish size given ps w ≡ finish size given ps (walked_to r)
finish_by size given ps w r c h l = no_records size given ps w ∙ ap (finish size given ps) (cc)

ended_some-pages : (size c : ℕ) (ps : List Page) (s : Segment) (zs : List (ℕ × ℕ)) → (ended size c ps (Some s) zs).snap.pages ≡ ps
unfolding ended behind
ended_some-pages size c ps s zs = grind arith

ended_none-pages : (size c : ℕ) (ps : List Page) (zs : List (ℕ × ℕ)) → (ended size c ps None zs).snap.pages ≡ ps
unfolding ended behind
ended_none-pages size c ps zs = grind arith

ended-pages : (size c : ℕ) (ps : List Page) (held : Option Segment) (zs : List (ℕ × ℕ)) → (ended size c ps held zs).snap.pages ≡ ps
ended-pages size c ps None zs = ended_none-pages size c ps zs
ended-pages size c ps (Some s) zs = ended_some-pages size c ps s zs

-- the pages are those of the walk, where it had none or the given ones are its own
pub finish-pages : (size : ℕ) (given : Snap) (ps : List Page) (w : Walked) → (w.current ≡ None → ps ≡ given.pages) → (finish size given ps w).snap.pages ≡ ps
unfolding finish
finish-pages size given ps w none = go w.current refl
  where
    go : (c : Option ℕ) → w.current ≡ c → (finish size given ps w).snap.pages ≡ ps
    go None e = let p = none e in grind arith
    go (Some c) e = let p = ended-pages size c ps w.held (wholes size w.left) in grind arith

-- ---- the two checks
module _ (notes : ℕ → Option Note) (d : Meaning) (size : ℕ) (laid : Bool) (given : Snap) (budget : Budget) (x : Ended) where
  closed_fell : or_zero x.snap.stable < or_zero given.stable → closed notes d size laid given budget x ≡ Err StableFell
  unfolding closed checked at_last
  closed_fell h = grind (arith, nat_tests)

  module _ (h : or_zero given.stable ≤ or_zero x.snap.stable) where
    closed_spent : d.spare < needs d (places x.zeros) → closed notes d size laid given budget x ≡ Err NoSpare
    unfolding closed checked at_last
    closed_spent l = grind (arith, nat_tests)

    closed_ok : needs d (places x.zeros) ≤ d.spare → closed notes d size laid given budget x ≡ Ok x
    unfolding closed checked at_last
    closed_ok l = grind (arith, nat_tests)

pub zero_or : (o : Option ℕ) → or_zero o ≡ unwrap_or o 0
unfolding or_zero
zero_or None = refl
zero_or (Some n) = refl

pub held_small : (size capacity : ℕ) (r : Reached) → Clean size capacity r → IfSome r.held (Small size)
held_small size capacity r c = go r.held c.room
  where
    go : (o : Option Segment) → All (Room size capacity) (with_held o r.left.now) → IfSome o (Small size)
    go None a = tt
    go (Some s) a = (a 0 s (omega arith)).small

-- ---- the finish
module _ (size : ℕ) (given : Snap) (r : Reached) (d : Meaning) (e : End) (block : d.block_size ≡ size) (clean : Clean size d.capacity r) (of : IfSome e.rest (RestOf size r.held)) where
  abbrev zeros : List (ℕ × ℕ)
  zeros = with_rest e.rest (wholes size r.left.now)

  abbrev fresh : ℕ
  fresh = count_by (λ p. not (d.loose (p / size))) (option_to_list (option_map (λ (t : Rest). t.place) e.rest) ++ map (λ (s : Segment). s.value) r.left.now)

  needs_are : needs d (places zeros) ≡ fresh
  needs_are = ap (λ s. needed s d.loose (places zeros)) block ∙ needed_is size d.capacity r.held r.left.now (omega (arith, (sized size clean.sized).low)) clean.room clean.apart d.loose e.rest of

  pub finish_takes : (n : ℕ) → n ≡ fresh → n ≤ d.spare → Takes d zeros
  finish_takes n i l = record {
    fitting = rw block (runs_fit size d.capacity r.held r.left.now (omega (arith, (sized size clean.sized).low)) clean.room clean.apart e.rest of);
    paid = omega (arith, needs_are);
  }

  module _ (notes : ℕ → Option Note) (laid : Bool) (budget : Budget) (ps : List Page) (is : EndIs e (wholes size r.left.now) (finish size given ps (walked_to r))) where
    abbrev end : Ended
    end = finish size given ps (walked_to r)

    abbrev reply : Result Ended Refusal
    reply = closed notes d size laid given budget end

    refused : (f : Refusal) → reply ≡ Err f → Finished size given r d d (Err f) notes laid budget ps
    unfolding left
    refused f c = record { reply = sym (ap snap_reply c); device = subst (λ o. Alike d (left d o)) (sym c) (alike_refl d) }

    stable_is : (m : ℕ) → m ≡ unwrap_or e.stable 0 → or_zero end.snap.stable ≡ m
    stable_is m i = ap or_zero (sym is.stable) ∙ zero_or e.stable ∙ sym i

    given_is : (n : ℕ) → n ≡ unwrap_or given.stable 0 → or_zero given.stable ≡ n
    given_is n i = zero_or given.stable ∙ sym i

    end_needs : needs d (places end.zeros) ≡ fresh
    end_needs = ap (λ zs. needs d (places zs)) (sym is.zeros) ∙ needs_are

    module _ (m n : ℕ) (i : m ≡ unwrap_or e.stable 0) (j : n ≡ unwrap_or given.stable 0) where
      pub finished_fell : m < n → Finished size given r d d (Err StableFell) notes laid budget ps
      finished_fell h = refused StableFell (closed_fell notes d size laid given budget end (omega (arith, stable_is m i, given_is n j)))

      module _ (h : n ≤ m) (k : ℕ) (c : k ≡ fresh) where
        kept : or_zero given.stable ≤ or_zero end.snap.stable
        kept = omega (arith, stable_is m i, given_is n j)

        pub finished_spent : d.spare < k → Finished size given r d d (Err NoSpare) notes laid budget ps
        finished_spent l = refused NoSpare (closed_spent notes d size laid given budget end kept (omega (arith, end_needs)))

        pub finished_ok : (x : Meaning) → k ≤ d.spare → Alike x (zeroed d zeros) → Finished size given r d x (Ok (e.stable, e.active)) notes laid budget ps
        unfolding left
        finished_ok x l a =
            let o = closed_ok notes d size laid given budget end kept (omega (arith, end_needs)) in
            record {
              reply = ap₂ (λ s t. Ok (s, t)) is.stable is.active ∙ sym (ap snap_reply o);
              device = subst (λ q. Alike x (left d q)) (sym o) (subst (λ zs. Alike x (zeroed d zs)) is.zeros a);
            }
