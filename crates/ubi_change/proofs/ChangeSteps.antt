-- What holds for the new bytes and the eraseblocks of a change with no cause against it, whatever the source holds.
use Rattle.ubi_change.proofs.Prelude.{Found, ◌≡◌, ℕ, zero, suc, [], ◌∷◌, Some, same_Some, slice_get, AllByRecursion, ◌%◌, ◌^◌, ◌<◌, ◌≤◌, List, length, sym, subst, arith, IfSome, Option, IsGeometry, Sizes, leb_size, Records, AreSites, FitsPrepared, IsTarget, FitsIn, Prepared, Site, Target}
use Rattle.ubi_change.specs.declared.sites.Sites.{Sites as OnSites}
use Rattle.ubi_change.specs.declared.sites.Sites.TheVariants as on
use Rattle.ubi_change.proofs.Attached.{own_allowed}
use Rattle.ubi_change.proofs.StepPages.{SitesFit}

module _ (s : Sizes) (t : Records) (id lnum : ℕ) (new : List ℕ) (target : Target) (is : IsTarget s t id lnum new target) where
  pub bytes_paged : length new % s.page ≡ 0
  bytes_paged = (own_allowed s is.entry lnum new is.free).2.paged

  pub bytes_fit : length new ≤ leb_size s
  bytes_fit = let k = (own_allowed s is.entry lnum new is.free).2.short in omega arith

  pub bytes_short : IsGeometry s → length new < 2 ^ 31
  bytes_short g = let k = bytes_fit in omega (arith, g.peb_to)

  pub compat_small : target.compat < 256
  compat_small = subst (λ (t : Target). t.compat < 256) (sym is.is) (omega arith)

-- one of some eraseblocks that fit does
pub taken_fits : (n i : ℕ) (ts : List Site) (t : Site) → slice_get ts i ≡ Some t → AllByRecursion (FitsIn n) ts → FitsIn n t
taken_fits n zero [] t e all = absurd (cc)
taken_fits n (suc i) [] t e all = absurd (cc)
taken_fits n zero (x ∷ ts) t e all = subst (FitsIn n) (same_Some x t e) all.0
taken_fits n (suc i) (x ∷ ts) t e all = taken_fits n i ts t e all.1

-- an eraseblock that is there fits
pub some_fits : (n : ℕ) (o : Option Site) (t : Site) → o ≡ Some t → IfSome o (FitsIn n) → FitsIn n t
some_fits n o t e h = subst (λ (o : Option Site). IfSome o (FitsIn n)) e h

module _ (s : Sizes) (p : Prepared) (fits : FitsPrepared s p) (scan : Found) where
  pub sites_fit : (g : IsGeometry s) (sites : OnSites) → AreSites scan p.winner p.ground.taken.items sites
      → SitesFit s (length p.ground.surveyed.states) g scan sites
  sites_fit g (on.Mapped copy old) are = (taken_fits _ 0 _ copy are.1 fits.taken, some_fits _ _ old are.0 fits.winner)
  sites_fit g (on.Unmapped first copy) are = (taken_fits _ 0 _ first are.1 fits.taken, taken_fits _ 1 _ copy are.2 fits.taken)
