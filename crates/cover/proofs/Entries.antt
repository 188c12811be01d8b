-- Which entry is found in a block table, and what a mark changes.
use Rattle.std.proofs.Common.{◌≡◌, ℕ, ◌+◌, ◌<◌, ◌≤◌, true, false, ◌||◌, ◌≢◌, cond, List, length, get_or, set, replicate, not, is_some, Some, None, Option, sym, refl, inl, inr, ap, ◌∙◌, nat_eq, arith}
use Rattle.std.proofs.lemmas.Bool.{both_ways, cases_eq, eqb-true, eq-eqb, ne_eqb}
use Rattle.std.proofs.lemmas.Bool.Decides.{nat_tests}
use Rattle.std.proofs.lemmas.Grind.{common_steps}
use Rattle.std.proofs.lemmas.List.{length-set, places}
use Rattle.std.proofs.lemmas.List.Folds.{position_or_len-set, prefix_len-replicate}
use Rattle.std.proofs.lemmas.List.Quantifiers.{position-Some}
use Rattle.std.proofs.lemmas.List.Sums.{sum_by-set, sum_by-le, position_or_len_is, fails_before_first}
use Rattle.std.specs.Option.{option_eq}
use Rattle.cover.specs.Entries.{entry_of, unmarked}

same_option : (a b : Option ℕ) → option_eq nat_eq a b ≡ true → a ≡ b
same_option None None e = refl
same_option None (Some b) e = absurd (both_ways false refl e)
same_option (Some a) None e = absurd (both_ways false refl e)
same_option (Some a) (Some b) e = ap Some (eqb-true a b e)

-- where all are unmarked, no block is named
pub entry_none : (n b : ℕ) → entry_of (replicate n None) (Some b) ≡ None
entry_none n b =
    let f = prefix_len-replicate (λ e. not (option_eq nat_eq e (Some b))) n None refl in
    grind (arith, common_steps, nat_tests)

-- an entry that is found holds what was wanted
pub entry_holds : (xs : List (Option ℕ)) (w : Option ℕ) (i : ℕ) → entry_of xs w ≡ Some i → (i < length xs) × (get_or xs i None ≡ w)
entry_holds xs w i e = let s = position-Some (λ e. option_eq nat_eq e w) xs i None e in (s.0, same_option (get_or xs i None) w s.1)

-- and where none is found, no entry does
entry_fails : (xs : List (Option ℕ)) (w : Option ℕ) → entry_of xs w ≡ None → (k : ℕ) (d : Option ℕ) → k < length xs → option_eq nat_eq (get_or xs k d) w ≡ false
entry_fails xs w e k d h = fails_before_first (λ e. option_eq nat_eq e w) xs k d (grind (arith, nat_tests))

-- a mark of an unmarked entry
module _ (xs : List (Option ℕ)) (b i : ℕ) (free : entry_of xs None ≡ Some i) where
  -- of a block that no entry names
  pub mark_named : entry_of xs (Some b) ≡ None → entry_of (set xs i (Some b)) (Some b) ≡ Some i
  mark_named none =
      let u = entry_holds xs None i free in
      let n = length-set xs i (Some b) in
      let same : nat_eq b b ≡ true = eq-eqb b b refl in
      let f = position_or_len_is (λ e. option_eq nat_eq e (Some b)) (set xs i (Some b)) i None (omega arith)
      (λ k h. let o = entry_fails xs (Some b) none k None (omega arith) in grind (arith, places))
      (λ h. let g : get_or (set xs i (Some b)) i None ≡ Some b = grind (arith, common_steps) in ap (λ e. option_eq nat_eq e (Some b)) g ∙ same) in
      grind (arith, nat_tests)

  pub mark_other : (c : ℕ) → c ≢ b → entry_of (set xs i (Some b)) (Some c) ≡ entry_of xs (Some c)
  mark_other c ne =
      let u = entry_holds xs None i free in
      let g : nat_eq b c ≡ false = ne_eqb b c (λ e. ne (sym e)) in
      let s = position_or_len-set (λ e. option_eq nat_eq e (Some c)) xs i (Some b) None (grind arith) in
      grind (arith, length-set)

  -- the block is covered then, and all else as before
  pub mark_covers : entry_of xs (Some b) ≡ None → (c : ℕ) → is_some (entry_of (set xs i (Some b)) (Some c)) ≡ (is_some (entry_of xs (Some c)) || nat_eq c b)
  mark_covers none c = elim (cases_eq c b) [
    | inl e ↦
        let m : is_some (entry_of (set xs i (Some b)) (Some c)) ≡ true = ap (λ k. is_some (entry_of (set xs i (Some b)) (Some k))) e ∙ ap is_some (mark_named none) in
        grind (arith, nat_tests)
    | inr ne ↦ let m = ap is_some (mark_other c ne) in grind (arith, nat_tests)
  ]

  pub mark_unmarked : unmarked (set xs i (Some b)) + 1 ≡ unmarked xs
  mark_unmarked =
      let u = entry_holds xs None i free in
      let s = sum_by-set (λ e. cond (not (is_some e)) 1 0) xs i (Some b) None u.0 in
      grind arith

-- no unmarked entry is found exactly where there is none
pub unmarked_none : (xs : List (Option ℕ)) → entry_of xs None ≡ None → unmarked xs ≡ 0
unmarked_none xs e =
    let s = sum_by-le (λ x. cond (not (is_some x)) 1 0) 0 xs (λ k d h. marked (get_or xs k d) (entry_fails xs None e k d h)) in
    omega arith
  where
    marked : (o : Option ℕ) → option_eq nat_eq o None ≡ false → cond (not (is_some o)) 1 0 ≤ 0
    marked (Some b) f = omega arith
    marked None f = absurd (both_ways true f refl)
