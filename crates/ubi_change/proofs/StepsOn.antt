-- What holds of the eraseblocks that steps were made for holds of those that they work on.
use Rattle.ubi_change.proofs.Prelude.{◌≡◌, ℕ, zero, suc, ◌+◌, ◌/◌, Bool, true, false, cond, List, [], ◌∷◌, ◌++◌, map, subst, Some, Option, slice_get, same_Some, enumerate_from, first_chunks, ec_bytes, Sizes, EcHeader, VidHeader, Found, next_ec, program_header, program_text, renew, target, pages_of, copy_on, lay_on, mount_on, release_on, stays_on, Site, Step}
use Rattle.ubi_change.specs.declared.step.Step.TheVariants as step
use Rattle.ubi_change.proofs.Runs.{if_renewed}

module _ (P : ℕ → Type 0) where
  -- each of these steps works on such an eraseblock
  abbrev pub EachOn : List Step → Type 0
  EachOn [] = Unit {0}
  EachOn (x ∷ xs) = P (target x) × EachOn xs

  on_append : (xs ys : List Step) → EachOn xs → EachOn ys → EachOn (xs ++ ys)
  on_append [] ys a b = b
  on_append (x ∷ xs) ys a b = (a.0, on_append xs ys a.1 b)

  pub each_on : (steps : List Step) → EachOn steps → (k : ℕ) (next : Step) → slice_get steps k ≡ Some next → P (target next)
  each_on [] a k next e = absurd (cc)
  each_on (x ∷ xs) a zero next e = subst (λ (y : Step). P (target y)) (same_Some x next e) a.0
  each_on (x ∷ xs) a (suc k) next e = each_on xs a.1 k next e

  pages_on : (p n : ℕ) (es : List (List ℕ)) → P p → EachOn (map (λ e. step.Program p e.0 e.1) (enumerate_from n es))
  pages_on p n [] is = tt
  pages_on p n (e ∷ es) is = (is, pages_on p (n + 1) es is)

  module _ (s : Sizes) (scan : Found) where
    mount_each : (t : Site) (h : VidHeader) → P t.pnum → EachOn (mount_on s scan t h)
    mount_each t h is = by_kind t.is_clean
      where
        by_kind : (b : Bool)
            → EachOn (cond b [] (renew s t.pnum (next_ec scan t.ec))
            ++ program_header s t.pnum (cond b t.ec_area (ec_bytes s (next_ec scan t.ec))) h ∷ [])
        by_kind true = (is, tt)
        by_kind false = (is, (is, (is, tt)))

    pub lay_each : (t : Site) (h : VidHeader) (new : List ℕ) → P t.pnum → EachOn (lay_on s scan t h new)
    lay_each t h new is =
        on_append (mount_on s scan t h) (program_text s t.pnum new) (mount_each t h is)
        (pages_on t.pnum (s.data_offset / s.page) (first_chunks s.page (pages_of s new) new) is)

    pub copy_each : (t : Site) (h : VidHeader) (new : List ℕ) (old : Site) (now : Option EcHeader) → P t.pnum → P old.pnum
        → EachOn (copy_on s scan t h new old now)
    copy_each t h new old now is gone =
        on_append (lay_on s scan t h new) (release_on s scan old now) (lay_each t h new is)
        (if_renewed EachOn (stays_on scan old now) tt (gone, (gone, tt)))
