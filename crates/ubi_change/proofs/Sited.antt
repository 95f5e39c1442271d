-- What is read of an eraseblock, and the parts of a plan, given that.
use Rattle.ubi_change.proofs.Prelude.{◌≡◌, ℕ, zero, suc, ◌∙◌, ◌<◌, ◌≤◌, cond, List, [], ◌∷◌, ◌++◌, length, map, take, refl, ap, sym, subst, arith, ◌&&◌, ◌||◌, ◌==◌, IfSome, None, Option, Some, option_map, slice_get, slice_index, option_map_or, same_Some, ec_reading, Sizes, EcHeader, carriers, valid_ec, Source, blocks_in, AttachValue, atomic_copy, mount, next_ec, program_text, renew, ec_at, is_sole_carrier, is_worn, stays, FitsIn, copy_on, is_sole_on, site_at, stays_on, VidHeader, Site, length-take, length-map}
use Rattle.std.specs.Prelude.{not}
use Rattle.ubi_change.proofs.Premises.{by_reading}

module _ (s : Sizes) (bs : List (List ℕ)) (a : AttachValue) (same : a.scan.carriers ≡ carriers s bs) where
  sole-is : (p : ℕ) → is_sole_on a.scan (site_at s bs a.states p) ≡ is_sole_carrier s bs p
  sole-is p = ap (λ (n : ℕ). not (option_map_or (λ h. h.image_seq) (ec_at s bs p) 0 == 0) && (n == 1)) same

  stays-is : (p : ℕ) (now : Option EcHeader) → stays_on a.scan (site_at s bs a.states p) now ≡ stays s bs p now
  stays-is p now = ap (λ b. is_worn now || b) (sole-is p)

  -- a copy and the erase of an old winner, by what was read of both
  pub copy-is : (b : ℕ) (h : VidHeader) (new : List ℕ) (p : ℕ) (now : Option EcHeader)
      → copy_on s a.scan (site_at s bs a.states b) h new (site_at s bs a.states p) now ≡ atomic_copy s bs a b h new p now
  copy-is b h new p now = ap (λ t. mount s bs a b h ++ program_text s b new ++ cond t [] (renew s p (next_ec a.scan now))) (stays-is p now)

-- a counter that was read has 31 bits
pub counter_fits : (s : Sizes) (area : List ℕ) (o : Option EcHeader) → o ≡ valid_ec (ec_reading s area)
    → IfSome o (λ h. h.counter ≤ 0x7FFFFFFF)
counter_fits s area None e = tt
counter_fits s area (Some h) e = by_reading s area (ec_reading s area) h refl (sym e)

-- an eraseblock that was read, if there is one
pub site_there : (f : ℕ → Site) (o : Option ℕ) (t : Site) → Some t ≡ option_map f o → (p : ℕ) × (o ≡ Some p) × (t ≡ f p)
site_there f None t e = absurd (cc)
site_there f (Some p) t e = (p, refl, same_Some t (f p) e)

pub site_none : (f : ℕ → Site) (o : Option ℕ) → None ≡ option_map f o → o ≡ None
site_none f None e = refl
site_none f (Some p) e = absurd (cc)

-- what was read fits the source, of which the reads before changed nothing
pub fits_some : (s : Sizes) (k j : Source) (o : Option Site) (t : Site) → o ≡ Some t → j ≡ k → IfSome o (FitsIn (blocks_in s j))
    → FitsIn (blocks_in s k) t
fits_some s k j o t e f h = subst (λ (k : Source). FitsIn (blocks_in s k) t) f (subst (λ (o : Option Site). IfSome o (FitsIn (blocks_in s j))) e h)

-- some eraseblocks, of which the first are taken
module _ (f : ℕ → Site) where
  some_at : (xs : List ℕ) (most n : ℕ) (t : Site) → slice_get (take most (map f xs)) n ≡ Some t → (n < length xs) × (t ≡ f (slice_index xs n))
  some_at [] zero n t e = absurd (cc)
  some_at [] (suc most) n t e = absurd (cc)
  some_at (x ∷ xs) zero n t e = absurd (cc)
  some_at (x ∷ xs) (suc most) zero t e = (omega arith, sym (same_Some (f x) t e))
  some_at (x ∷ xs) (suc most) (suc n) t e = let h = some_at xs most n t e in let l = h.0 in (omega arith, h.1)

  -- the one at a place
  pub taken_at : (xs : List ℕ) (most n : ℕ) (ts : List Site) (t : Site) → ts ≡ take most (map f xs) → slice_get ts n ≡ Some t
      → (n < length xs) × (t ≡ f (slice_index xs n))
  taken_at xs most n ts t are e = some_at xs most n t (ap (λ (ys : List Site). slice_get ys n) (sym are) ∙ e)

  -- and there are no more if they are fewer
  pub few_taken : (xs : List ℕ) (most : ℕ) (ts : List Site) → ts ≡ take most (map f xs) → length ts < most → length xs ≡ length ts
  few_taken xs most ts are few =
      let size = length-take most (map f xs) in
      let all = length-map xs f in
      let e = ap length are in
      omega (arith, size, all, e, few)
