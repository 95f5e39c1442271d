-- What was read for a change makes its plan: which cause applies, and that the steps are those of the plan.
use Rattle.ubi_change.proofs.Prelude.{◌≡◌, ℕ, ◌+◌, ◌<◌, ◌≤◌, Bool, true, false, List, [], ◌∷◌, ◌++◌, length, refl, ap, ap₂, sym, ◌∙◌, subst, arith, None, Option, Some, nat_lt, option_map, then_some, option_map_or, nat_tests, Sizes, data_pad, VolumeRecord, carriers, AttachValue, AreSites, IsSitesRefusal, IsTooFew, image_causes, change_needs, steps_on, site_at, first_taken, blank_header, copy_header, leb_header, mapped_plan, mount, needs, plan_of, ready_ec, taken, unmapped_plan, first_of, ec_at, takeable, ChangeRefusal, Site, Target, slice_get}
use Rattle.std.specs.FinMap as finite
use Rattle.ubi_change.specs.declared.errors.ChangeRefusal.TheVariants as refusal
use Rattle.ubi_change.specs.declared.sites.Sites.{Sites as OnSites}
use Rattle.ubi_change.specs.declared.sites.Sites.TheVariants as on
use Rattle.ubi_change.proofs.Sited.{copy-is, few_taken, site_none, site_there, taken_at}

more_test : (a b : ℕ) → a < b → nat_lt a b ≡ true
more_test a b l = grind (arith, nat_tests)

least_test : (a b : ℕ) → b ≤ a → nat_lt a b ≡ false
least_test a b l = grind (arith, nat_tests)

module _ (s : Sizes) (bs : List (List ℕ)) (a : AttachValue) (same : a.scan.carriers ≡ carriers s bs) (id lnum : ℕ)
    (winner : Option Site) (two : List Site)
    (won : winner ≡ option_map (site_at s bs a.states) (finite.get a.scan.winners (id, lnum)))
    (taking : two ≡ first_taken s bs a.states 2) where
  abbrev site : ℕ → Site
  site p = site_at s bs a.states p

  abbrev top : ℕ
  top = a.scan.top_sqnum

  -- how many eraseblocks are needed
  needs_by : (o : Option ℕ) → change_needs (option_map site o) ≡ option_map_or (λ _. 1) o 2
  needs_by None = refl
  needs_by (Some p) = refl

  needs-is : change_needs winner ≡ needs s bs a id lnum
  needs-is = ap change_needs won ∙ needs_by (finite.get a.scan.winners (id, lnum))

  first_taken_is : (t : Site) → slice_get two 0 ≡ Some t → (1 ≤ length (takeable s bs a.states)) × (t ≡ site (taken s bs a 0))
  first_taken_is t e = let h = taken_at site (takeable s bs a.states) 2 0 two t taking e in let l = h.0 in (omega arith, h.1)

  second_taken_is : (t : Site) → slice_get two 1 ≡ Some t → (2 ≤ length (takeable s bs a.states)) × (t ≡ site (taken s bs a 1))
  second_taken_is t e = let h = taken_at site (takeable s bs a.states) 2 1 two t taking e in let l = h.0 in (omega arith, h.1)

  -- the two causes
  abbrev exhausted : Bool → Bool → Option ChangeRefusal
  exhausted x y = first_of (then_some x refusal.Exhausted ∷ then_some y refusal.NoFree ∷ [])

  free : top + needs s bs a id lnum ≤ 0xFFFFFFFFFFFFFFFF → needs s bs a id lnum ≤ length (takeable s bs a.states)
      → first_of (image_causes s bs a id lnum) ≡ None
  free few enough = ap₂ exhausted (least_test _ _ few) (least_test _ _ enough)

  too_few : IsTooFew winner two → length (takeable s bs a.states) < needs s bs a id lnum
  too_few few =
      let most : change_needs winner ≤ 2 = at_most winner in
      let all = few_taken site (takeable s bs a.states) 2 two taking (omega arith) in
      omega (arith, few, all, needs-is)
    where
      at_most : (o : Option Site) → change_needs o ≤ 2
      at_most None = omega arith
      at_most (Some t) = omega arith

  pub sites_stand : (c : ChangeRefusal) → IsSitesRefusal a.scan winner two c → first_of (image_causes s bs a id lnum) ≡ Some c
  sites_stand refusal.Exhausted h =
      ap (λ x. exhausted x (nat_lt (length (takeable s bs a.states)) (needs s bs a id lnum)))
      (more_test _ _ (subst (λ n. 0xFFFFFFFFFFFFFFFF < top + n) needs-is h))
  sites_stand refusal.NoFree h =
      ap₂ exhausted (least_test _ _ (subst (λ n. top + n ≤ 0xFFFFFFFFFFFFFFFF) needs-is h.0)) (more_test _ _ (too_few h.1))
  sites_stand refusal.Memory h = absurd h
  sites_stand (refusal.Attach c) h = absurd h
  sites_stand refusal.NoVolume h = absurd h
  sites_stand refusal.StaticVolume h = absurd h
  sites_stand refusal.Updating h = absurd h
  sites_stand refusal.OutOfRange h = absurd h
  sites_stand refusal.BadLength h = absurd h
  sites_stand (refusal.WeakCheck k) h = absurd h

  pub sites_free : (sites : OnSites) → AreSites a.scan winner two sites → first_of (image_causes s bs a id lnum) ≡ None
  sites_free (on.Mapped copy old) are =
      let n : needs s bs a id lnum ≡ 1 = sym needs-is ∙ ap change_needs are.0 in
      let t = (first_taken_is copy are.1).0 in
      let few = are.2 in
      free (omega arith) (omega arith)
  sites_free (on.Unmapped first copy) are =
      let n : needs s bs a id lnum ≡ 2 = sym needs-is ∙ ap change_needs are.0 in
      let t = (second_taken_is copy are.2).0 in
      let few = are.3 in
      free (omega arith) (omega arith)

  -- the steps are those of the plan
  module _ (r : VolumeRecord) (new : List ℕ) where
    abbrev asked : Target
    asked = record { id = id; lnum = lnum; compat = 0; data_pad = data_pad s r }

    pub steps_are : (sites : OnSites) → AreSites a.scan winner two sites → (t : Target) → t ≡ asked
        → steps_on s a.scan t new sites ≡ plan_of s bs a r id lnum new
    steps_are (on.Mapped copy old) are t e =
        let b = taken s bs a 0 in
        let won_by = site_there site (finite.get a.scan.winners (id, lnum)) old (sym are.0 ∙ won) in
        let p = won_by.0 in
        ap (λ (t : Target). steps_on s a.scan t new (on.Mapped copy old)) e
        ∙ ap₂ (λ (x y : Site). steps_on s a.scan asked new (on.Mapped x y)) (first_taken_is copy are.1).1 won_by.2
        ∙ copy-is s bs a same b (copy_header (leb_header s r id lnum) (top + 1) new) new p (ec_at s bs p)
        ∙ sym
        (ap (λ (o : Option ℕ). option_map_or (mapped_plan s bs a r id lnum new b) o
        (unmapped_plan s bs a r id lnum new b (taken s bs a 1))) won_by.1)
    steps_are (on.Unmapped first copy) are t e =
        let x = taken s bs a 0 in
        let b = taken s bs a 1 in
        ap (λ (t : Target). steps_on s a.scan t new (on.Unmapped first copy)) e
        ∙ ap₂ (λ (x y : Site). steps_on s a.scan asked new (on.Unmapped x y)) (first_taken_is first are.1).1 (second_taken_is copy are.2).1
        ∙ ap (λ steps. mount s bs a x (blank_header (leb_header s r id lnum) (top + 1)) ++ steps)
        (copy-is s bs a same b (copy_header (leb_header s r id lnum) (top + 2) new) new x (ready_ec s bs a x))
        ∙ sym
        (ap (λ (o : Option ℕ). option_map_or (mapped_plan s bs a r id lnum new x) o
        (unmapped_plan s bs a r id lnum new x b)) (site_none site (finite.get a.scan.winners (id, lnum)) (sym are.0 ∙ won)))
