-- Lines and pages stand for the steps that they were taken from.
use Rattle.ubi_change.proofs.Prelude.{◌≡◌, ◌∙◌, ℕ, zero, suc, arith, List, [], ◌∷◌, ◌++◌, ap, ap₂, drop, map, refl, sym, take, drop-append_seam, take-append_seam, take-take, Sizes, AllWithin, FitsBlock, PagesCarry, line_of, programmed, with_pages, blocks_after, step_done, Step}
use Rattle.std.proofs.Common.{fold}
use Rattle.ubi_change.specs.declared.step.Step.TheVariants as step

-- the bytes of each program are one page
data ArePaged (s : Sizes) : List Step → Type 0 where
  none : ArePaged s []
  also : {x : Step} {xs : List Step} → FitsBlock s x → ArePaged s xs → ArePaged s (x ∷ xs)

paged : (s : Sizes) (n : ℕ) (steps : List Step) → AllWithin s n steps → ArePaged s steps
paged s n [] within = none
paged s n (x ∷ xs) within = also (within 0 x refl).1 (paged s n xs (λ k next e. within (suc k) next e))

paged_take : (s : Sizes) (k : ℕ) (steps : List Step) → ArePaged s steps → ArePaged s (take k steps)
paged_take s zero steps all = none
paged_take s (suc k) [] all = none
paged_take s (suc k) (x ∷ xs) (also here rest) = also here (paged_take s k xs rest)

rebuilt : (s : Sizes) (steps : List Step) → ArePaged s steps → with_pages s.page (map line_of steps) (programmed steps) ≡ steps
rebuilt s [] all = refl
rebuilt s (step.Erase p ∷ xs) (also here rest) = ap (λ ys. step.Erase p ∷ ys) (rebuilt s xs rest)
rebuilt s (step.Program p page bytes ∷ xs) (also here rest) =
    ap₂ (λ (b : List ℕ) (ys : List Step). step.Program p page b ∷ ys)
    (ap (λ n. take n (bytes ++ programmed xs)) (sym here.1) ∙ take-append_seam bytes (programmed xs))
    (ap (λ n. with_pages s.page (map line_of xs) (drop n (bytes ++ programmed xs))) (sym here.1)
    ∙ ap (with_pages s.page (map line_of xs)) (drop-append_seam bytes (programmed xs))
    ∙ rebuilt s xs rest)

pub rebuilt_within : (s : Sizes) (n : ℕ) (steps : List Step) → AllWithin s n steps → with_pages s.page (map line_of steps) (programmed steps) ≡ steps
rebuilt_within s n steps within = rebuilt s steps (paged s n steps within)

pub pages_carry : PagesCarry
pages_carry s bs n steps k within =
    ap (λ xs. blocks_after s bs xs k) (rebuilt s (take k steps) (paged_take s k steps (paged s n steps within)))
    ∙ ap (fold (step_done s) bs) (take-take k k steps (omega arith))
