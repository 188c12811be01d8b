-- What each part of a recover makes of the whole. Assumes nothing.
use Rattle.std.proofs.Common.{◌≡◌, ℕ, ◌*◌, ◌/◌, ◌%◌, ◌^◌, ◌<◌, ◌≤◌, Bool, true, List, [], ◌∷◌, length, drop, OnOk, Some, None, Ok, Err, Option, Result, sym, refl, ap, ap₂, ◌∙◌, subst, mul-le-mul_right, arith}
use Rattle.std.proofs.lemmas.Bool.Decides.{nat_tests}
use Rattle.std.specs.List.{All, AllByRecursion}
use Rattle.std.specs.Option.{unwrap_or}
use Rattle.blobs.specs.declared.note.Note.{Note}
use Rattle.device.specs.Meaning.{Meaning, Alike}
use native.Mathlib.Nat.{div-mul-le_self}
use Rattle.layout.proofs.Powers.{sized}
use Rattle.layout.specs.Sizes.{counted}
use Rattle.pages.specs.Pages.{Page, fragments, fold}
use Rattle.pages.specs.Shown.{tidy, nested}
use Rattle.pages.specs.Snapshots.{snap_of, well_formed, sound_pages, no_pages, bare}
use Rattle.pages.specs.declared.snapshot.Snapshot.{Snapshot}
use Rattle.refusals.specs.declared.refusal.Refusal.{Refusal}
use Rattle.scan.proofs.Taken.{Taken, Orderly, orderly, lsn-multiple, place-multiple}
use Rattle.scan.specs.Headers.{head_at, head_mark, weight, odd}
use Rattle.scan.specs.Order.{Segment, Gathered, sound, unless, gathered, top_mark}
use Rattle.walks.specs.Finish.{Ended, finish}
use Rattle.walks.specs.Recover.{or_zero, lowest, checked, at_last, closed, folded, walked, ordered, recovered, left}
use Rattle.walks.specs.Walk.{Walked, with_held, walk}
use Rattle.walks.specs.Walks.{tail, start_of, first_walk, last_limit, last_walk, walks}
use Rattle.recovery.specs.Finishing.{Clean, Finished, walked_to, snap_reply}
use Rattle.recovery.specs.declared.finish.Reached.{Reached}
use Rattle.walks.proofs.Ranges.{reach}
use Rattle.recovery.specs.Small.{Small}
use Rattle.recovery.proofs.Cleans.{all_of, drop_all_of, scanned_room, scan_ran, walk_clean}
use Rattle.recovery.proofs.Checked.{Fit, checked_rest, first, first_fit, first_none, first_some}
use Rattle.walks.proofs.Ranges.{Ran, HeldAt, rises_up, none_walked}
use Rattle.recovery.proofs.Formed.{finished_formed}
use Rattle.pages.proofs.Sound.{fold-sound}
use Rattle.pages.specs.Rising.{Rising}
use Rattle.recovery.proofs.Finishes.{zero_or, finish_by, finish-pages}
use Rattle.recovery.proofs.Zeros.{alike_refl}
use Rattle.recovery.specs.Checks.{budget_of, first_reply}
use Rattle.recovery.specs.Flat.{flat, Given, Kept, Settled}
use Rattle.recovery.specs.Folds.{folds, fold_reply, Foldable, Folded}
use Rattle.recovery.specs.Recovers.{recover_of, reply_of, pages_of, Attempted}
use Rattle.recovery.specs.declared.checks.Budget.{Budget as Lent}
use Rattle.recovery.specs.declared.page_table.PageTable.{PageTable}
use Rattle.recovery.specs.declared.recovered.Recovered.{Recovered}

fault_some : {X : Type 0} (o : Option Refusal) (f : Refusal) (x : X) → Err f ≡ unless o x → o ≡ Some f
unfolding unless
fault_some None f x e = absurd (let y : ◌≡◌ {A = ℕ} 0 1 = cc in omega arith)
fault_some (Some h) f x e = cc

pub fault_none : {X : Type 0} (o : Option Refusal) (y x : X) → Ok y ≡ unless o x → (o ≡ None) × (y ≡ x)
unfolding unless
fault_none None y x e = (refl, cc)
fault_none (Some h) y x e = absurd (let z : ◌≡◌ {A = ℕ} 0 1 = cc in omega arith)

bare_pages : (o : Option ℕ) (ps : List Page) → bare o ps ≡ true → ps ≡ []
unfolding bare no_pages
bare_pages None [] e = refl
bare_pages None (p ∷ ps) e = absurd (let z : ◌≡◌ {A = ℕ} 0 1 = cc in omega arith)
bare_pages (Some a) ps e = absurd (let z : ◌≡◌ {A = ℕ} 0 1 = cc in omega arith)

module _ (size : ℕ) (dev : List ℕ) (low n : ℕ) where
  mark-small : (t : Segment) → Taken size dev low n t → weight (head_mark (head_at dev t.value)) < 2 ^ 62
  unfolding odd
  mark-small t k = let f = k.fine in grind (arith, nat_tests)

  top-small : (ss : List Segment) → low ≤ 2 ^ 62 → AllByRecursion (Taken size dev low n) ss → top_mark dev low ss ≤ 2 ^ 62
  unfolding top_mark
  top-small [] l a = l
  top-small (t ∷ ss) l a = let m = mark-small t a.0 in let k = top-small ss l a.1 in omega arith

pub low_is : (o : Option ℕ) (low : ℕ) → low ≡ unwrap_or o 0 → low ≡ or_zero o
low_is o low e = e ∙ sym (zero_or o)

pub least_is : (s : ℕ) (o : Option ℕ) (low least : ℕ) → low ≡ unwrap_or o 0 → least ≡ low / s * s → least ≡ lowest s o
unfolding lowest
least_is s o low least e q = q ∙ ap (λ n. n / s * s) (low_is o low e)

module _ (notes : ℕ → Option Note) (d : Meaning) (s : ℕ) (given : Snapshot) (b : Lent) where
  abbrev x : Result Ended Refusal
  x = recover_of notes d s given (budget_of b)

  abbrev laid : Bool
  laid = tidy 0 given.pages.now given.fragments.now

  pub refused : (f : Refusal) (t : PageTable) (r : Result Recovered Refusal) → x ≡ Err f → r ≡ Err f → Attempted s d d t x r
  unfolding reply_of left
  refused f t r e q = record {
    reply = q ∙ sym (ap reply_of e);
    device = subst (λ o. Alike d (left d o)) (sym e) (alike_refl d);
    pages = subst (λ o. OnOk o (Settled (pages_of x) t)) (sym q) tt;
    formed = λ k i. absurd (let z : ◌≡◌ {A = Result Ended Refusal} (Err f) (Ok k) = sym e ∙ i in let y : ◌≡◌ {A = ℕ} 0 1 = cc in omega arith);
  }

  pub at_checks : (f : Refusal) → Err f ≡ first_reply d s given b → x ≡ Err f
  unfolding recovered
  at_checks f e = let q = first_some notes d s given b f e in grind arith

  -- of a size and of memory as they were asked for
  pub as_asked : (size : ℕ) (m : Lent) → s ≡ size → b ≡ m → (after : Meaning) (t : PageTable) (r : Result Recovered Refusal) → Attempted s d after t x r → Attempted size d after t (recover_of notes d size given (budget_of m)) r
  as_asked size m e q after t r a = subst (λ z. Attempted size d after t (recover_of notes d size given (budget_of z)) r) q (subst (λ z. Attempted z d after t (recover_of notes d z given (budget_of b)) r) e a)

  pub passed_by : (size : ℕ) → Ok s ≡ first_reply d size given b → (first notes d s given b ≡ None) × (s ≡ size)
  passed_by size e =
      let q = first_none notes d size given b s e in
      (subst (λ z. first notes d z given b ≡ None) (sym q.1) q.0, q.1)

  module _ (passed : first notes d s given b ≡ None) where
    fit : Fit d s given b
    fit = first_fit notes d s given b passed

    -- the pages given are sound
    pub given_sound : (low : ℕ) → low ≡ or_zero given.stable_lsn → Given low given
    unfolding well_formed snap_of or_zero bare sound_pages no_pages
    given_sound low l = record { tidy = fit.tidy; sound = subst (λ k. sound_pages k (nested given.pages.now given.fragments.now) ≡ true) (sym l) (go given.stable_lsn refl) }
      where
        go : (o : Option ℕ) → given.stable_lsn ≡ o → sound_pages (or_zero given.stable_lsn) (nested given.pages.now given.fragments.now) ≡ true
        go None e = let q = fit.formed in let k = bare_pages given.active_segment (nested given.pages.now given.fragments.now) (grind (arith, nat_tests)) in grind (arith, nat_tests)
        go (Some n) e = let q = fit.formed in grind (arith, nat_tests)

    module _ (least : ℕ) (le : least ≡ lowest s given.stable_lsn) where
      abbrev found : Gathered
      found = gathered s d.bytes least

      to_order : x ≡ ordered notes d s laid (snap_of given) (budget_of b) found
      unfolding recovered snap_of
      to_order =
          let q : x ≡ ordered notes d s laid (snap_of given) (budget_of b) (gathered s d.bytes (lowest s given.stable_lsn)) = grind arith in
          q ∙ ap (λ k. ordered notes d s laid (snap_of given) (budget_of b) (gathered s d.bytes k)) (sym le)

      pub at_scan : (f : Refusal) (m : ℕ) → Err f ≡ unless found.fault m → x ≡ Err f
      unfolding ordered
      at_scan f m e = let q = fault_some found.fault f m e in to_order ∙ grind arith

      module _ (none : found.fault ≡ None) (ss : List Segment) (is : ss ≡ found.segments) where
        abbrev n : ℕ
        n = counted (length d.bytes) s

        in_order : Orderly s d.bytes least n ss
        in_order =
            let e : found ≡ sound ss = ap₂ (λ (l : List Segment) (o : Option Refusal). record { segments = l; fault = o }) (sym is) none in
            orderly s d.bytes least n ss e

        whole : n * s < 2 ^ 64
        whole = let m = mul-le-mul_right s fit.count in omega (arith, (sized s fit.sized).high)

        pub all_small : All (Small s) ss
        all_small k e h = (scanned_room s d.bytes least n d.capacity ss in_order fit.sized fit.capacity whole k e h).small

        stable-small : or_zero given.stable_lsn ≤ 2 ^ 62
        unfolding well_formed snap_of or_zero
        stable-small = go given.stable_lsn refl
          where
            go : (o : Option ℕ) → given.stable_lsn ≡ o → or_zero given.stable_lsn ≤ 2 ^ 62
            go None e = grind arith
            go (Some n) e = let q = fit.formed in grind (arith, nat_tests)

        least-small : least ≤ 2 ^ 62
        unfolding lowest
        least-small = let r = div-mul-le_self (or_zero given.stable_lsn) s in let q = stable-small in omega (arith, le)

        pub start-small : (start : ℕ) → start ≡ start_of s (top_mark d.bytes least found.segments) → start ≤ 2 ^ 62
        unfolding start_of
        start-small start e =
            let r = div-mul-le_self (top_mark d.bytes least ss) s in
            let k = top-small s d.bytes least n ss least-small in_order.all in
            let z = ap (λ l. start_of s (top_mark d.bytes least l)) (sym is) in
            omega (arith, e, z)

        pub foldable : (low : ℕ) (t : PageTable) → Kept low t → (limit : ℕ) → Foldable low t (walk notes s d.bytes (Some limit) true None ss).records
        foldable low t k limit =
            let r = scan_ran notes s d.bytes (Some limit) true least n ss fit.sized in_order least-small in
            record { top = low; from = least; over = reach least (walk notes s d.bytes (Some limit) true None ss).current; kept = k; below = omega arith; rises = r.rises }

        -- both walks, from a start
        module _ (start : ℕ) (at : start ≡ start_of s (top_mark d.bytes least found.segments)) where
          abbrev opening : Walked
          opening = first_walk notes s d.bytes (tail s start ss)

          abbrev w : Walked
          w = last_walk notes s d.bytes start ss opening

          walks_at : walks notes s d.bytes least found.segments ≡ last_walk notes s d.bytes (start_of s (top_mark d.bytes least found.segments)) found.segments
              (first_walk notes s d.bytes (tail s (start_of s (top_mark d.bytes least found.segments)) found.segments))
          unfolding walks
          walks_at = refl

          to_walks : x ≡ walked notes d s laid (snap_of given) (budget_of b) w
          unfolding ordered snap_of
          to_walks =
              let q : ordered notes d s laid (snap_of given) (budget_of b) found ≡ walked notes d s laid (snap_of given) (budget_of b) (walks notes s d.bytes (lowest s given.stable_lsn) found.segments) = grind arith in
              let k = ap (λ l. walks notes s d.bytes l found.segments) (sym le) in
              let e = ap₂ (λ z l. last_walk notes s d.bytes z l (first_walk notes s d.bytes (tail s z l))) (sym at) (sym is) in
              to_order ∙ q ∙ ap (walked notes d s laid (snap_of given) (budget_of b)) (k ∙ walks_at ∙ e)

          module _ (low : ℕ) (lo : low ≡ or_zero given.stable_lsn) (t u : PageTable) (pages : flat t ≡ nested given.pages.now given.fragments.now) (states : length t.states.now ≡ b.pages) (room : length t.fragments.now ≡ b.fragments) where
            folds_are : fold b.pages b.fragments (or_zero given.stable_lsn) (nested given.pages.now given.fragments.now) w.records ≡ folds low t w.records
            folds_are = sym (ap₂ (λ m k. fold m k low (flat t) w.records) states room ∙ ap₂ (λ l ps. fold b.pages b.fragments l ps w.records) lo pages)

            to_folds : x ≡ folded notes d s laid (snap_of given) (budget_of b) w (folds low t w.records)
            unfolding walked snap_of
            to_folds = to_walks ∙ ap (folded notes d s laid (snap_of given) (budget_of b) w) folds_are

            pub at_walks : (f : Refusal) → Err f ≡ fold_reply (folds low t w.records) w.fault → x ≡ Err f
            unfolding folded fold_reply unless
            at_walks f e = to_folds ∙ go (folds low t w.records) w.fault refl e
              where
                go : (o : Result (List Page) Refusal) (p : Option Refusal) → w.fault ≡ p → Err f ≡ fold_reply o p → folded notes d s laid (snap_of given) (budget_of b) w o ≡ Err f
                go (Err h) p k e = ap Err (cc)
                go (Ok ps) None k e = absurd (let z : ◌≡◌ {A = ℕ} 0 1 = cc in omega arith)
                go (Ok ps) (Some h) k e = let z : ◌≡◌ {A = Result Ended Refusal} (Err h) (Err f) = ap Err (cc) in let q : folded notes d s laid (snap_of given) (budget_of b) w (Ok ps) ≡ Err h = grind arith in q ∙ z

            module _ (r : Reached) (f : Folded low t u w r) where
              none_before : opening.fault ≡ None
              unfolding last_walk
              none_before = go opening.fault refl
                where
                  go : (o : Option Refusal) → opening.fault ≡ o → opening.fault ≡ None
                  go None e = e
                  go (Some h) e = absurd (let z : ◌≡◌ {A = Option Refusal} (Some h) None = (let q : w.fault ≡ Some h = grind arith in sym q ∙ f.sound) in let y : ◌≡◌ {A = ℕ} 0 1 = cc in omega arith)

              abbrev over : Walked
              over = walk notes s d.bytes (Some (last_limit start opening.current)) true None ss

              w-is : w ≡ over
              unfolding last_walk
              w-is = let e = none_before in grind arith

              pub clean : Clean s d.capacity r
              clean =
                  walk_clean notes s d.bytes (Some (last_limit start opening.current)) true least n ss fit.sized in_order least-small d.capacity r fit.capacity whole
                  (f.current ∙ ap (λ (q : Walked). q.current) w-is) (f.held ∙ ap (λ (q : Walked). q.held) w-is) (f.left ∙ ap (λ (q : Walked). q.left) w-is)

              abbrev end : Ended
              end = finish s (snap_of given) (flat u) (walked_to r)

              to_end : x ≡ closed notes d s laid (snap_of given) (budget_of b) end
              unfolding folded
              to_end =
                  let k = f.sound in
                  let q : folded notes d s laid (snap_of given) (budget_of b) w (Ok (flat u)) ≡ closed notes d s laid (snap_of given) (budget_of b) (finish s (snap_of given) (flat u) w) = grind arith in
                  to_folds ∙ ap (folded notes d s laid (snap_of given) (budget_of b) w) f.pages ∙ q
                  ∙ ap (closed notes d s laid (snap_of given) (budget_of b)) (finish_by s (snap_of given) (flat u) w r f.current f.held f.left)

              -- with no current LSN there were no records
              as_given : r.current ≡ None → flat u ≡ (snap_of given).pages
              unfolding fold snap_of
              as_given e =
                  let k : over.current ≡ None = ap (λ (q : Walked). q.current) (sym w-is) ∙ sym f.current ∙ e in
                  let z : w.records ≡ [] = ap (λ (q : Walked). q.records) w-is
                  ∙ none_walked s least (2 ^ 62) ss over (scan_ran notes s d.bytes (Some (last_limit start opening.current)) true least n ss fit.sized in_order least-small) k in
                  let q : ◌≡◌ {A = Result (List Page) Refusal} (Ok (flat t)) (Ok (flat u)) = sym (ap (folds low t) z) ∙ f.pages in
                  let i : flat t ≡ flat u = cc in
                  sym i ∙ pages

              pages_are : end.snap.pages ≡ flat u
              pages_are = finish-pages s (snap_of given) (flat u) (walked_to r) as_given

              run : Ran s least (2 ^ 62) ss over
              run = scan_ran notes s d.bytes (Some (last_limit start opening.current)) true least n ss fit.sized in_order least-small

              current_is : r.current ≡ over.current
              current_is = f.current ∙ ap (λ (q : Walked). q.current) w-is

              held_is : r.held ≡ over.held
              held_is = f.held ∙ ap (λ (q : Walked). q.held) w-is

              sound_at : (c : ℕ) → r.current ≡ Some c → (c ≤ 2 ^ 62) × ((top : ℕ) → c ≤ top → or_zero given.stable_lsn ≤ top → sound_pages top (flat u) ≡ true)
              sound_at c e =
                  let k : over.current ≡ Some c = sym current_is ∙ e in
                  let rises : Rising least c over.records = subst (λ o. Rising least (reach least o) over.records) k run.rises in (
                    subst (λ o. reach least o ≤ 2 ^ 62) k run.below,
                    (λ top h l.
                        fold-sound (length t.states.now) (length t.fragments.now) low least top (flat t) (flat u) w.records (omega (arith, lo))
                        (subst (λ (q : Walked). Rising least top q.records) (sym w-is) (rises_up least c top over.records h rises))
                        (subst (λ ps. sound_pages low ps ≡ true) (sym pages) (given_sound low lo).sound) f.pages),
                  )

              held_at : (g : Segment) → r.held ≡ Some g → (g.key % s ≡ 0) × (g.value % s ≡ 0) × HeldAt s (Some g) r.current
              held_at g e =
                  let k : over.held ≡ Some g = sym held_is ∙ e in
                  let here : drop run.taken ss ≡ g ∷ over.left = sym run.others ∙ ap (λ o. with_held o over.left) k in
                  let t = subst (All (Taken s d.bytes least n)) here (drop_all_of (Taken s d.bytes least n) run.taken ss (all_of (Taken s d.bytes least n) ss in_order.all)) 0 g (omega arith) in (
                    lsn-multiple s d.bytes least n g t,
                    place-multiple s d.bytes least n g t,
                    subst (HeldAt s (Some g)) (sym current_is) (subst (λ o. HeldAt s o over.current) k run.held),
                  )

              end_formed : or_zero given.stable_lsn ≤ or_zero end.snap.stable → well_formed s end.snap ≡ true
              unfolding snap_of
              end_formed l = finished_formed s fit.sized (snap_of given) (flat u) (walked_to r) fit.formed sound_at held_at l

              -- what is told of the end
              module _ (after : Meaning) where
                abbrev Ends : Result (Option ℕ × Option ℕ) Refusal → Type 0
                Ends o = Finished s (snap_of given) r d after o notes laid (budget_of b) (flat u)

                pub at_end : (h : Refusal) → Ends (Err h) → x ≡ Err h
                unfolding closed
                at_end h i = to_end ∙ go (closed notes d s laid (snap_of given) (budget_of b) end) i.reply
                  where
                    go : (o : Result Ended Refusal) → Err h ≡ snap_reply o → o ≡ Err h
                    go (Err k) e = ap Err (cc)
                    go (Ok q) e = absurd (let z : ◌≡◌ {A = ℕ} 0 1 = cc in omega arith)

                stays : closed notes d s laid (snap_of given) (budget_of b) end ≡ Ok end → or_zero given.stable_lsn ≤ or_zero end.snap.stable
                unfolding closed at_last snap_of
                stays e = go (checked (at_last notes d s laid (snap_of given) (budget_of b) end)) refl
                  where
                    go : (o : Option Refusal) → checked (at_last notes d s laid (snap_of given) (budget_of b) end) ≡ o → or_zero given.stable_lsn ≤ or_zero end.snap.stable
                    go None k = let q = (checked_rest _ _ k).0 in grind (arith, nat_tests)
                    go (Some h) k = absurd (let z : ◌≡◌ {A = Result Ended Refusal} (Err h) (Ok end) = (let q : closed notes d s laid (snap_of given) (budget_of b) end ≡ Err h = grind arith in sym q ∙ e) in let y : ◌≡◌ {A = ℕ} 0 1 = cc in omega arith)

                ended_by : (stable active : Option ℕ) → Ends (Ok (stable, active)) → (closed notes d s laid (snap_of given) (budget_of b) end ≡ Ok end) × (stable ≡ end.snap.stable) × (active ≡ end.snap.active)
                unfolding closed
                ended_by stable active i = go (checked (at_last notes d s laid (snap_of given) (budget_of b) end)) refl i.reply
                  where
                    go : (o : Option Refusal) → checked (at_last notes d s laid (snap_of given) (budget_of b) end) ≡ o → Ok (stable, active) ≡ snap_reply (closed notes d s laid (snap_of given) (budget_of b) end)
                        → (closed notes d s laid (snap_of given) (budget_of b) end ≡ Ok end) × (stable ≡ end.snap.stable) × (active ≡ end.snap.active)
                    go None e k =
                        let q : closed notes d s laid (snap_of given) (budget_of b) end ≡ Ok end = grind arith in
                        let z : ◌≡◌ {A = Result (Option ℕ × Option ℕ) Refusal} (Ok (stable, active)) (Ok (end.snap.stable, end.snap.active)) = k ∙ ap snap_reply q in
                        let p : ◌≡◌ {A = Option ℕ × Option ℕ} (stable, active) (end.snap.stable, end.snap.active) = cc in
                        (q, ap (λ (p : Option ℕ × Option ℕ). p.0) p, ap (λ (p : Option ℕ × Option ℕ). p.1) p)
                    go (Some h) e k =
                        let q : closed notes d s laid (snap_of given) (budget_of b) end ≡ Err h = grind arith in
                        let z : ◌≡◌ {A = Result (Option ℕ × Option ℕ) Refusal} (Ok (stable, active)) (Err h) = k ∙ ap snap_reply q in
                        absurd (let y : ◌≡◌ {A = ℕ} 0 1 = cc in omega arith)

                pub attempted : (stable active : Option ℕ) → Ends (Ok (stable, active)) → (v : PageTable) → Settled (flat u) v → (count used : ℕ) → count ≡ v.count → used ≡ v.used
                    → Attempted s d after v x (Ok (record { stable_lsn = stable; active_segment = active; pages = count; fragments = used }))
                unfolding reply_of pages_of
                attempted stable active i v settled count used c k =
                    let e = ended_by stable active i in
                    let q : x ≡ Ok end = to_end ∙ e.0 in
                    let n : count ≡ length end.snap.pages = c ∙ settled.count ∙ ap length (sym pages_are) in
                    let m : used ≡ fragments end.snap.pages = k ∙ settled.used ∙ ap fragments (sym pages_are) in
                    record {
                      reply = cc (e.1, e.2, n, m) ∙ sym (ap reply_of q);
                      device = subst (λ o. Alike after (left d o)) (sym to_end) i.device;
                      pages = subst (λ o. Settled (pages_of o) v) (sym q) (subst (λ ps. Settled ps v) (sym pages_are) settled);
                      formed = λ z h. let same : ◌≡◌ {A = Result Ended Refusal} (Ok end) (Ok z) = sym q ∙ h in let i : end ≡ z = cc in subst (λ y. well_formed s y.snap ≡ true) i (end_formed (stays e.0));
                    }
