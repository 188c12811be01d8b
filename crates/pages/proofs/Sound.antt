-- What records with rising LSNs leave of sound pages is sound. Assumes nothing.
use Rattle.std.proofs.Common.{◌≡◌, ℕ, zero, suc, ◌+◌, ◌-◌, ◌<◌, ◌≤◌, max, true, List, [], ◌∷◌, ◌++◌, length, get_or, set, replicate, Ok, refl, subst, inl, inr, arith}
use Rattle.std.proofs.lemmas.Bool.Decides.{nat_tests}
use Rattle.std.proofs.lemmas.Bool.{and_parts, and_from, cases_lt}
use Rattle.layout.specs.declared.kind.LogKind.{LogKind}
use Rattle.layout.specs.declared.kind.LogKind.TheVariants.{Replace, Link, Free}
use Rattle.messages.specs.declared.log_read.Record.{Record}
use Rattle.pages.specs.Pages.{Item, Page, uninitialized, free, present, item_of, grown, joined, applied, apply, fold}
use Rattle.pages.specs.Rising.{Rising}
use Rattle.pages.specs.Snapshots.{rises_from, sound_page, sound_pages}

rises_parts : (low top : ℕ) (x : Item) (xs : List Item) → rises_from low top (x ∷ xs) ≡ true
    → (low ≤ x.0) × (x.0 < top) × (rises_from (x.0 + 1) top xs ≡ true)
unfolding rises_from
rises_parts low top x xs e = (grind (arith, nat_tests), grind (arith, nat_tests), grind (arith, nat_tests))

rises_from_lem : (low top : ℕ) (x : Item) (xs : List Item) → low ≤ x.0 → x.0 < top → rises_from (x.0 + 1) top xs ≡ true
    → rises_from low top (x ∷ xs) ≡ true
unfolding rises_from
rises_from_lem low top x xs a b e = grind (arith, nat_tests)

-- a higher top
rises_up : (low top over : ℕ) (xs : List Item) → top ≤ over → rises_from low top xs ≡ true → rises_from low over xs ≡ true
unfolding rises_from
rises_up low top over [] h e = refl
rises_up low top over (x ∷ xs) h e =
    let p = rises_parts low top x xs e in rises_from_lem low over x xs p.0 (omega arith) (rises_up (x.0 + 1) top over xs h p.2)

page_up : (top over : ℕ) (p : Page) → top ≤ over → sound_page top p ≡ true → sound_page over p ≡ true
unfolding sound_page
page_up top over uninitialized h e = refl
page_up top over (free lsn ptr) h e = grind (arith, nat_tests)
page_up top over (present base xs) h e = rises_up 0 top over (base ∷ xs) h e

pub sound_up : (top over : ℕ) (ps : List Page) → top ≤ over → sound_pages top ps ≡ true → sound_pages over ps ≡ true
unfolding sound_pages
sound_up top over [] h e = refl
sound_up top over (p ∷ ps) h e = let q = and_parts _ _ e in and_from _ _ (page_up top over p h q.0) (sound_up top over ps h q.1)

-- one more item at the end
rises_push : (low top : ℕ) (xs : List Item) (x : Item) → low ≤ x.0 → top ≤ x.0 → rises_from low top xs ≡ true
    → rises_from low (suc x.0) (xs ++ x ∷ []) ≡ true
unfolding rises_from
rises_push low top [] x a h e = grind (arith, nat_tests)
rises_push low top (y ∷ xs) x a h e =
    let p = rises_parts low top y xs e in
    rises_from_lem low (suc x.0) y (xs ++ x ∷ []) p.0 (omega arith) (rises_push (y.0 + 1) top xs x (omega arith) h p.2)

joined-sound : (top : ℕ) (p : Page) (x : Item) → top ≤ x.0 → sound_page top p ≡ true → sound_page (suc x.0) (joined p x) ≡ true
unfolding joined sound_page
joined-sound top uninitialized x h e = refl
joined-sound top (free lsn ptr) x h e = grind (arith, nat_tests)
joined-sound top (present base xs) x h e = rises_push 0 top (base ∷ xs) x (omega arith) h e

sound-set : (top : ℕ) (ps : List Page) (i : ℕ) (p : Page) → sound_pages top ps ≡ true → sound_page top p ≡ true → sound_pages top (set ps i p) ≡ true
unfolding sound_pages
sound-set top [] i p e f = refl
sound-set top (q ∷ ps) zero p e f = and_from _ _ f (and_parts _ _ e).1
sound-set top (q ∷ ps) (suc i) p e f = let r = and_parts _ _ e in and_from _ _ r.0 (sound-set top ps i p r.1 f)

sound_get : (top : ℕ) (ps : List Page) (i : ℕ) → sound_pages top ps ≡ true → sound_page top (get_or ps i uninitialized) ≡ true
unfolding sound_pages sound_page
sound_get top [] i e = refl
sound_get top (q ∷ ps) zero e = (and_parts _ _ e).0
sound_get top (q ∷ ps) (suc i) e = sound_get top ps i (and_parts _ _ e).1

sound-append : (top : ℕ) (ps qs : List Page) → sound_pages top ps ≡ true → sound_pages top qs ≡ true → sound_pages top (ps ++ qs) ≡ true
unfolding sound_pages
sound-append top [] qs e f = f
sound-append top (p ∷ ps) qs e f = let r = and_parts _ _ e in and_from _ _ r.0 (sound-append top ps qs r.1 f)

sound-blank : (top n : ℕ) → sound_pages top (replicate n uninitialized) ≡ true
unfolding sound_pages sound_page
sound-blank top zero = refl
sound-blank top (suc n) = sound-blank top n

sound-grown : (top n : ℕ) (ps : List Page) → sound_pages top ps ≡ true → sound_pages top (grown ps n) ≡ true
unfolding grown
sound-grown top n ps e = sound-append top ps (replicate (n - length ps) uninitialized) e (sound-blank top (n - length ps))

applied-sound : (top : ℕ) (ps : List Page) (r : Record) (k : LogKind) → top ≤ r.lsn → sound_pages top ps ≡ true
    → sound_pages (suc r.lsn) (applied ps r k) ≡ true
unfolding applied item_of sound_page rises_from
applied-sound top ps r Replace h e =
    let up = sound_up top (suc r.lsn) ps (omega arith) e in
    sound-set _ (grown ps (r.pid + 1)) r.pid (present (item_of r) []) (sound-grown _ (r.pid + 1) ps up) (grind (arith, nat_tests))
applied-sound top ps r Free h e =
    let up = sound_up top (suc r.lsn) ps (omega arith) e in
    sound-set _ (grown ps (r.pid + 1)) r.pid (free r.lsn r.ptr) (sound-grown _ (r.pid + 1) ps up) (grind (arith, nat_tests))
applied-sound top ps r Link h e =
    let up = sound_up top (suc r.lsn) ps (omega arith) e in
    sound-set _ ps r.pid _ up (joined-sound top (get_or ps r.pid uninitialized) (item_of r) h (sound_get top ps r.pid e))

pub apply-sound : (top : ℕ) (ps : List Page) (r : Record) → top ≤ r.lsn → sound_pages top ps ≡ true → sound_pages (suc r.lsn) (apply ps r) ≡ true
unfolding apply
apply-sound top ps r h e = applied-sound top ps r r.kind h e

-- the pages are sound below `top`, which no record that counts lies below
sound_from : (most room low from top over : ℕ) (ps qs : List Page) (rs : List Record) → top ≤ over → top ≤ max low from → Rising from over rs
    → sound_pages top ps ≡ true → fold most room low ps rs ≡ Ok qs → sound_pages over qs ≡ true
unfolding fold
sound_from most room low from top over ps qs [] l m rise e f =
    let same : ps ≡ qs = cc in subst (λ (xs : List Page). sound_pages over xs ≡ true) same (sound_up top over ps l e)
sound_from most room low from top over ps qs (r ∷ rs) l m rise e f =
    elim (cases_lt r.lsn low) [
      | inl h ↦ (let f₂ : fold most room low ps rs ≡ Ok qs = grind (arith, nat_tests) in
          sound_from most room low (suc r.lsn) top over ps qs rs l (omega arith) rise.2 e f₂)
      | inr h ↦ (let f₂ : fold most room low (apply ps r) rs ≡ Ok qs = grind (arith, nat_tests) in
          sound_from most room low (suc r.lsn) (suc r.lsn) over (apply ps r) qs rs rise.1 (omega arith) rise.2 (apply-sound top ps r (omega arith) e) f₂)
    ]

pub fold-sound : (most room low from over : ℕ) (ps qs : List Page) (rs : List Record) → low ≤ over → Rising from over rs
    → sound_pages low ps ≡ true → fold most room low ps rs ≡ Ok qs → sound_pages over qs ≡ true
fold-sound most room low from over ps qs rs l rise e f = sound_from most room low from low over ps qs rs l (omega arith) rise e f
