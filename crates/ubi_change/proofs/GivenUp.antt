-- Once the copy is whole, a plan erases the eraseblock that is given up, unless that is then worn or the sole carrier.
use Rattle.ubi_change.proofs.Prelude.{◌≡◌, ℕ, zero, suc, ◌+◌, ◌%◌, ◌≤◌, false, cond, List, [], ◌∷◌, ◌++◌, length, refl, ap, ◌∙◌, arith, length-append, None, Option, Some, slice_get, option_map_or, Sizes, EcHeader, VidHeader, AttachValue, turn, given_up, Erases, blank_header, copy_header, leb_header, next_ec, atomic_copy, mapped_plan, mount, plan_of, prepare, program_header, program_text, ready_bytes, ready_ec, release, renew, taken, unmapped_plan, ec_at, stays, pages_needed, Step}
use Rattle.std.specs.FinMap as finite
use Rattle.ubi_change.proofs.Attached as attached
use Rattle.ubi_change.proofs.TextWritten.{length-program_text}
use Rattle.ubi_change.proofs.Torn.{whole_place-is}
use Rattle.ubi_change.proofs.Attached.{Changing}

-- the steps of a list that stands behind another
pub step_behind : (xs ys : List Step) (j k : ℕ) → j ≡ length xs + k → slice_get (xs ++ ys) j ≡ slice_get ys k
step_behind [] ys j k e = (let same : j ≡ k = omega arith in ap (slice_get ys) same)
step_behind (x ∷ xs) ys zero k e = absurd (omega arith)
step_behind (x ∷ xs) ys (suc j) k e = step_behind xs ys j k (omega arith)

-- a step of a front is that of the whole
pub step_before : (xs ys : List Step) (k : ℕ) (x : Step) → slice_get xs k ≡ Some x → slice_get (xs ++ ys) k ≡ Some x
step_before [] ys k x e = absurd (cc)
step_before (y ∷ xs) ys zero x e = e
step_before (y ∷ xs) ys (suc k) x e = step_before xs ys k x e

module _ (s : Sizes) (bs : List (List ℕ)) (a : AttachValue) where
  -- what doesn't stay is erased by the first step of its release
  pub erased_behind : (front : List Step) (p : ℕ) (now : Option EcHeader) → stays s bs p now ≡ false
      → Erases (front ++ release s bs a p now) (length front) p
  erased_behind front p now fresh =
      step_behind front (release s bs a p now) (length front) 0 (omega arith)
      ∙ ap (λ b. slice_get (cond b [] (renew s p (next_ec a.scan now))) 0) fresh

  module _ (b : ℕ) (h : VidHeader) (new : List ℕ) where
    abbrev written : List Step
    written = mount s bs a b h ++ program_text s b new

    -- by the end of its text a copy is whole
    pub whole_by : length new % s.page ≡ 0 → length (prepare s bs a b) + suc (pages_needed s new) ≤ length written
    whole_by paged =
        let n = length-append (mount s bs a b h) (program_text s b new) in
        let m = length-append (prepare s bs a b) (program_header s b (ready_bytes s bs a b) h ∷ []) in
        let t = length-program_text s b new in
        let w = (whole_place-is s new paged).most in
        omega arith

module _ (change : Changing) where
  open change use {image, g, a, att, id, lnum, new, v}

  abbrev s : Sizes
  s = attached.s change

  abbrev bs : List (List ℕ)
  bs = attached.bs change

  abbrev Gives : List Step → ℕ → Type 0
  Gives steps p = (k : ℕ) × (turn s steps new ≤ k) × Erases steps k p

  mapped_gives : (old : ℕ) → finite.get a.scan.winners (id, lnum) ≡ Some old → stays s bs old (ec_at s bs old) ≡ false
      → Gives (mapped_plan s bs a v.entry id lnum new (taken s bs a 0) old) old
  mapped_gives old found fresh =
      let b = taken s bs a 0 in
      let h = copy_header (leb_header s v.entry id lnum) (a.scan.top_sqnum + 1) new in
      let at = attached.mapped_turn change old found in
      let by = whole_by s bs a b h new (attached.paged change) in (
        length (written s bs a b h new),
        omega arith,
        erased_behind s bs a (written s bs a b h new) old (ec_at s bs old) fresh,
      )

  unmapped_gives : finite.get a.scan.winners (id, lnum) ≡ None
      → stays s bs (taken s bs a 0) (ready_ec s bs a (taken s bs a 0)) ≡ false
      → Gives (unmapped_plan s bs a v.entry id lnum new (taken s bs a 0) (taken s bs a 1)) (taken s bs a 0)
  unmapped_gives found fresh =
      let e = taken s bs a 0 in
      let b = taken s bs a 1 in
      let h = copy_header (leb_header s v.entry id lnum) (a.scan.top_sqnum + 2) new in
      let first = mount s bs a e (blank_header (leb_header s v.entry id lnum) (a.scan.top_sqnum + 1)) in
      let at = attached.unmapped_turn change found in
      let by = whole_by s bs a b h new (attached.paged change) in
      let place : ℕ = length (written s bs a b h new) in (
        length first + place,
        omega arith,
        step_behind first (atomic_copy s bs a b h new e (ready_ec s bs a e)) (length first + place) place refl
            ∙ erased_behind s bs a (written s bs a b h new) e (ready_ec s bs a e) fresh,
      )

  pub plan_gives_up : stays s bs (given_up s bs a id lnum).0 (given_up s bs a id lnum).1 ≡ false
      → Gives (plan_of s bs a v.entry id lnum new) (given_up s bs a id lnum).0
  plan_gives_up = by_winner (finite.get a.scan.winners (id, lnum)) refl
    where
      by_winner : (o : Option ℕ) → finite.get a.scan.winners (id, lnum) ≡ o
          → stays s bs (option_map_or {U = ℕ × Option EcHeader} (λ p. (p, ec_at s bs p)) o (taken s bs a 0, ready_ec s bs a (taken s bs a 0))).0
          (option_map_or {U = ℕ × Option EcHeader} (λ p. (p, ec_at s bs p)) o (taken s bs a 0, ready_ec s bs a (taken s bs a 0))).1 ≡ false
          → Gives (option_map_or (mapped_plan s bs a v.entry id lnum new (taken s bs a 0)) o
          (unmapped_plan s bs a v.entry id lnum new (taken s bs a 0) (taken s bs a 1)))
          (option_map_or {U = ℕ × Option EcHeader} (λ p. (p, ec_at s bs p)) o (taken s bs a 0, ready_ec s bs a (taken s bs a 0))).0
      by_winner (Some old) e = mapped_gives old e
      by_winner None e = unmapped_gives e
