-- Which eraseblocks the steps of a plan touch.
use Rattle.ubi_change.proofs.Prelude.{◌≡◌, ℕ, zero, suc, ◌+◌, ◌/◌, ◌<◌, ◌≤◌, List, [], ◌∷◌, ◌++◌, length, map, take, get_or, refl, ap, subst, arith, Contains, None, Option, Some, enumerate_from, option_map_or, first_chunks, same_Some, Sizes, EcHeader, VolumeRecord, VidHeader, AttachValue, TouchesOnly, given_up, touched, blank_header, copy_header, leb_header, next_ec, atomic_copy, mapped_plan, mount, needs, plan_of, prepare, program_header, program_text, ready_bytes, ready_ec, release, renew, taken, unmapped_plan, target, ec_at, is_clean, stays, takeable, pages_of, Step}
use Rattle.std.specs.FinMap as finite
use Rattle.ubi_change.specs.declared.step.Step.TheVariants as step
use Rattle.ubi_change.proofs.Runs.{if_renewed}

abbrev pub TouchAll : List ℕ → List Step → Type 0
TouchAll ps [] = Unit {0}
TouchAll ps (x ∷ xs) = Contains ps (target x) × TouchAll ps xs

pub touch-append : (ps : List ℕ) (xs ys : List Step) → TouchAll ps xs → TouchAll ps ys → TouchAll ps (xs ++ ys)
touch-append ps [] ys a b = b
touch-append ps (x ∷ xs) ys a b = (a.0, touch-append ps xs ys a.1 b)

pub touch_all : (ps : List ℕ) (steps : List Step) → TouchAll ps steps → TouchesOnly ps steps
touch_all ps [] a k next e = absurd (cc)
touch_all ps (x ∷ xs) a zero next e = subst (λ (y : Step). Contains ps (target y)) (same_Some x next e) a.0
touch_all ps (x ∷ xs) a (suc k) next e = touch_all ps xs a.1 k next e

-- the first of a list are in its front
at_front : (n k : ℕ) (xs : List ℕ) (d : ℕ) → k < n → k < length xs → get_or (take n xs) k d ≡ get_or xs k 0
at_front n k [] d l m = absurd (omega arith)
at_front zero k (x ∷ xs) d l m = absurd (omega arith)
at_front (suc n) zero (x ∷ xs) d l m = refl
at_front (suc n) (suc k) (x ∷ xs) d l m = at_front n k xs d (omega arith) (omega arith)

front_length : (n k : ℕ) (xs : List ℕ) → k < n → k < length xs → k < length (take n xs)
front_length n k [] l m = absurd (omega arith)
front_length zero k (x ∷ xs) l m = absurd (omega arith)
front_length (suc n) zero (x ∷ xs) l m = omega arith
front_length (suc n) (suc k) (x ∷ xs) l m = let h = front_length n k xs (omega arith) (omega arith) in omega arith

pub in_front : (n k : ℕ) (xs : List ℕ) (y : ℕ) → k < n → k < length xs → Contains (y ∷ take n xs) (get_or xs k 0)
in_front n k xs y l m = (suc k, (let h = front_length n k xs l m in omega arith), at_front n k xs (get_or xs k 0) l m)

module _ (s : Sizes) (bs : List (List ℕ)) (a : AttachValue) (ps : List ℕ) where
  renew_touches : (p : ℕ) (e : EcHeader) → Contains ps p → TouchAll ps (renew s p e)
  renew_touches p e c = (c, (c, tt))

  prepare_touches : (p : ℕ) → Contains ps p → TouchAll ps (prepare s bs a p)
  prepare_touches p c = if_renewed (TouchAll ps) (is_clean s bs a.states p) tt
      (renew_touches p (next_ec a.scan (ec_at s bs p)) c)

  release_touches : (p : ℕ) (now : Option EcHeader) → Contains ps p → TouchAll ps (release s bs a p now)
  release_touches p now c = if_renewed (TouchAll ps) (stays s bs p now) tt (renew_touches p (next_ec a.scan now) c)

  pages_touch : (p n : ℕ) (es : List (List ℕ)) → Contains ps p
      → TouchAll ps (map (λ e. step.Program p e.0 e.1) (enumerate_from n es))
  pages_touch p n [] c = tt
  pages_touch p n (e ∷ es) c = (c, pages_touch p (n + 1) es c)

  mount_touches : (p : ℕ) (h : VidHeader) → Contains ps p → TouchAll ps (mount s bs a p h)
  mount_touches p h c = touch-append ps (prepare s bs a p) (program_header s p (ready_bytes s bs a p) h ∷ [])
      (prepare_touches p c) (c, tt)

  pub written_touches : (b : ℕ) (h : VidHeader) (new : List ℕ) → Contains ps b
      → TouchAll ps (mount s bs a b h ++ program_text s b new)
  written_touches b h new c =
      touch-append ps (mount s bs a b h) (program_text s b new) (mount_touches b h c)
      (pages_touch b (s.data_offset / s.page) (first_chunks s.page (pages_of s new) new) c)

  pub copy_touches : (b : ℕ) (h : VidHeader) (new : List ℕ) (old : ℕ) (now : Option EcHeader) → Contains ps b
      → Contains ps old → TouchAll ps (atomic_copy s bs a b h new old now)
  copy_touches b h new old now c d =
      touch-append ps (mount s bs a b h ++ program_text s b new) (release s bs a old now) (written_touches b h new c)
      (release_touches old now d)

module _ (s : Sizes) (bs : List (List ℕ)) (a : AttachValue) (r : VolumeRecord) (id lnum : ℕ) (new : List ℕ)
    (enough : needs s bs a id lnum ≤ length (takeable s bs a.states)) where
  -- the eraseblock that is given up is the first of those that a plan may touch
  given : (p : ℕ) → (given_up s bs a id lnum).0 ≡ p → Contains (touched s bs a id lnum) p
  given p e = (0, omega arith, e)

  taken_touched : (n : ℕ) → n < needs s bs a id lnum → Contains (touched s bs a id lnum) (taken s bs a n)
  taken_touched n l = in_front (needs s bs a id lnum) n (takeable s bs a.states) (given_up s bs a id lnum).0 l
      (omega arith)

  pub plan_touches : TouchesOnly (touched s bs a id lnum) (plan_of s bs a r id lnum new)
  plan_touches = touch_all (touched s bs a id lnum) (plan_of s bs a r id lnum new)
      (by_winner (finite.get a.scan.winners (id, lnum)) refl)
    where
      by_winner : (o : Option ℕ) → finite.get a.scan.winners (id, lnum) ≡ o
          → TouchAll (touched s bs a id lnum)
          (option_map_or (mapped_plan s bs a r id lnum new (taken s bs a 0)) o
          (unmapped_plan s bs a r id lnum new (taken s bs a 0) (taken s bs a 1)))
      by_winner (Some old) e =
          let n : needs s bs a id lnum ≡ 1 = ap (λ (o : Option ℕ). option_map_or (λ _. 1) o 2) e in
          copy_touches s bs a (touched s bs a id lnum) (taken s bs a 0)
          (copy_header (leb_header s r id lnum) (a.scan.top_sqnum + 1) new) new old (ec_at s bs old)
          (taken_touched 0 (omega arith))
          (given old (ap (λ (o : Option ℕ). (option_map_or {U = ℕ × Option EcHeader} (λ p. (p, ec_at s bs p)) o (taken s bs a 0, ready_ec s bs a (taken s bs a 0))).0) e))
      by_winner None e =
          let n : needs s bs a id lnum ≡ 2 = ap (λ (o : Option ℕ). option_map_or (λ _. 1) o 2) e in
          let first = taken s bs a 0 in
          let blank_one = blank_header (leb_header s r id lnum) (a.scan.top_sqnum + 1) in
          let copy = copy_header (leb_header s r id lnum) (a.scan.top_sqnum + 2) new in
          touch-append (touched s bs a id lnum) (mount s bs a first blank_one)
          (atomic_copy s bs a (taken s bs a 1) copy new first (ready_ec s bs a first))
          (mount_touches s bs a (touched s bs a id lnum) first blank_one (taken_touched 0 (omega arith)))
          (copy_touches s bs a (touched s bs a id lnum) (taken s bs a 1) copy new first (ready_ec s bs a first)
          (taken_touched 1 (omega arith)) (taken_touched 0 (omega arith)))
