-- Lists that are gone through from the front: which edit ends past a size, and how many eraseblocks may be touched.
use Rattle.ubi_change.proofs.Prelude.{◌≡◌, ℕ, ◌+◌, ◌<◌, ◌≤◌, Bool, true, false, cond, not, List, [], ◌∷◌, length, take, get_or, refl, ap, sym, ◌∙◌, arith, nat_tests, None, Option, Some, AllByRecursion, cons_option, count_by, enumerate_from, take_all, NewVolume, new_of, news_of, option_map_or, BlockState, Avoided, is_avoided, touchable, first_beyond, is_beyond, Edit, position_from, position_from-zero, get_or-enumerate_from, length-enumerate_from, count_by_more_no, count_by_more_yes}
use Rattle.std.proofs.Common.{nat_lt}

-- if there is none from the i-th on, all bytes lie in the source
none_from : (size : ℕ) (i : ℕ) (es : List Edit) → position_from (is_beyond size) i es ≡ None
    → AllByRecursion (λ v. v.start + v.len ≤ size) (news_of es)
none_from size i [] none = tt
none_from size i (e ∷ es) none = by (new_of e) refl (λ h. none_from size (i + 1) es h)
  where
    both : (b : Bool) → cond b (Some i) (position_from (is_beyond size) (i + 1) es) ≡ None
        → (b ≡ false) × (position_from (is_beyond size) (i + 1) es ≡ None)
    both true k = absurd (cc)
    both false k = (refl, k)

    two : (is_beyond size e ≡ false) × (position_from (is_beyond size) (i + 1) es ≡ None)
    two = both (is_beyond size e) none

    by : (o : Option NewVolume) → new_of e ≡ o
        → (position_from (is_beyond size) (i + 1) es ≡ None → AllByRecursion (λ v. v.start + v.len ≤ size) (news_of es))
        → AllByRecursion (λ v. v.start + v.len ≤ size) (cons_option o (news_of es))
    by None k rest = rest two.1
    by (Some v) k rest =
        let t : nat_lt size (v.start + v.len) ≡ false =
        sym (ap (λ (o : Option NewVolume). option_map_or (λ v. nat_lt size (v.start + v.len)) o false) k) ∙ two.0 in
        (grind (arith, nat_tests, t), rest two.1)

pub none_beyond : (size : ℕ) (es : List Edit) → first_beyond size es ≡ None → AllByRecursion (λ v. v.start + v.len ≤ size) (news_of es)
none_beyond size es none = none_from size 0 es (sym (position_from-zero (is_beyond size) es) ∙ none)

module _ (av : Avoided) (sts : List BlockState) where
  -- how many of the first n eraseblocks may be touched
  abbrev pub touchable_first : ℕ → ℕ
  touchable_first n = count_by (λ e. not (is_avoided av e.0 e.1)) (take n (enumerate_from 0 sts))

  -- one eraseblock more
  pub touchable_more : (p : ℕ) (st : BlockState) → p < length sts → st ≡ get_or sts p st → (b : Bool) → is_avoided av p st ≡ b
      → touchable_first (p + 1) ≡ touchable_first p + cond b 0 1
  touchable_more p st inside here b is = by b (ap (λ e. not (is_avoided av e.0 e.1)) at ∙ ap not is)
    where
      l : p < length (enumerate_from 0 sts)
      l = let n = length-enumerate_from 0 sts in omega arith

      at : get_or (enumerate_from 0 sts) p (p, st) ≡ (p, st)
      at =
          let zero : 0 + p ≡ p = omega arith in
          get_or-enumerate_from 0 sts p (p, st) inside
          ∙ ap {B = ℕ × BlockState} (λ (k : ℕ). (k, get_or sts p st)) zero
          ∙ ap {B = ℕ × BlockState} (λ (x : BlockState). (p, x)) (sym here)

      by : (b : Bool) → not (is_avoided av (get_or (enumerate_from 0 sts) p (p, st)).0 (get_or (enumerate_from 0 sts) p (p, st)).1) ≡ not b
          → touchable_first (p + 1) ≡ touchable_first p + cond b 0 1
      by true e =
          count_by_more_no (λ e. not (is_avoided av e.0 e.1)) (enumerate_from 0 sts) p (p, st) l e
          ∙ (let z : touchable_first p ≡ touchable_first p + 0 = omega arith in z)
      by false e = count_by_more_yes (λ e. not (is_avoided av e.0 e.1)) (enumerate_from 0 sts) p (p, st) l e

  -- and all of them
  pub touchable_all : (n : ℕ) → n ≡ length sts → touchable_first n ≡ touchable av sts
  touchable_all n all =
      ap (λ es. count_by (λ e. not (is_avoided av e.0 e.1)) es)
      (take_all n (enumerate_from 0 sts) (let l = length-enumerate_from 0 sts in omega arith))
