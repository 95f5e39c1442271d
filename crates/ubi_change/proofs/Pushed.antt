-- Steps that are added to those before them.
use Rattle.ubi_change.proofs.Prelude.{◌≡◌, ℕ, zero, suc, ◌+◌, ◌*◌, false, cond, List, [], ◌∷◌, ◌++◌, append_assoc, map, take, drop, ap, ap₂, sym, ◌∙◌, arith, Option, enumerate_from, first_chunks, drop-drop, ec_bytes, Sizes, EcHeader, VidHeader, Found, next_ec, program_header, renew, mount_on, release_on, stays_on, Site, Step}
use Rattle.ubi_change.specs.declared.step.Step.TheVariants as step

-- the programs of the first pages of a text, from a page on
abbrev pub pages_from : ℕ → ℕ → ℕ → ℕ → List ℕ → List Step
pages_from p first size n new = map (λ e. step.Program p e.0 e.1) (enumerate_from first (first_chunks size n new))

-- and of one page more
pub pages-more : (p first size n : ℕ) (new : List ℕ)
    → pages_from p first size (n + 1) new ≡ pages_from p first size n new
    ++ step.Program p (first + n) (take size (drop (n * size) new)) ∷ []
pages-more p first size zero new =
    let e : first ≡ first + 0 = omega arith in
    let f : 0 ≡ 0 * size = omega arith in
    ap₂ (λ k n. step.Program p k (take size (drop n new)) ∷ []) e f
pages-more p first size (suc n) new =
    let e : first + 1 + n ≡ first + suc n = omega arith in
    let f : size + n * size ≡ suc n * size = omega arith in
    let g : suc n + 1 ≡ suc (n + 1) = omega arith in
    ap (λ k. pages_from p first size k new) g ∙ ap (λ xs. step.Program p first (take size new) ∷ xs)
    (pages-more p (first + 1) size n (drop size new)
    ∙ ap₂ (λ k ys. pages_from p (first + 1) size n (drop size new) ++ step.Program p k (take size ys) ∷ []) e
    (drop-drop (n * size) size new ∙ ap (λ k. drop k new) f))

-- a page is added
pub page_pushed : (old front now : List Step) (p first size i page : ℕ) (new text : List ℕ)
    → front ≡ old ++ pages_from p first size i new → now ≡ front ++ step.Program p page text ∷ []
    → page ≡ first + i → text ≡ take size (drop (i * size) new) → now ≡ old ++ pages_from p first size (i + 1) new
page_pushed old front now p first size i page new text e f number is =
    f ∙ ap (λ x. x ++ step.Program p page text ∷ []) e
    ∙ append_assoc old (pages_from p first size i new) (step.Program p page text ∷ [])
    ∙ ap₂ (λ k ys. old ++ (pages_from p first size i new ++ step.Program p k ys ∷ [])) number is
    ∙ ap (λ x. old ++ x) (sym (pages-more p first size i new))

module _ (s : Sizes) (scan : Found) (t : Site) where
  -- an eraseblock that isn't clean is made ready, and gets a header
  pub mount_pushed : (old mid now : List Step) (e : EcHeader) (bytes : List ℕ) (h : VidHeader) → t.is_clean ≡ false
      → e ≡ next_ec scan t.ec → mid ≡ old ++ renew s t.pnum e → bytes ≡ ec_bytes s e
      → now ≡ mid ++ program_header s t.pnum bytes h ∷ [] → now ≡ old ++ mount_on s scan t h
  mount_pushed old mid now e bytes h unclean header renewed is put =
      put ∙ ap₂ (λ x y. x ++ program_header s t.pnum y h ∷ []) renewed is
      ∙ append_assoc old (renew s t.pnum e) (program_header s t.pnum (ec_bytes s e) h ∷ [])
      ∙ ap (λ x. old ++ (renew s t.pnum x ++ program_header s t.pnum (ec_bytes s x) h ∷ [])) header
      ∙ ap (λ b. old ++ (cond b [] (renew s t.pnum (next_ec scan t.ec))
      ++ program_header s t.pnum (cond b t.ec_area (ec_bytes s (next_ec scan t.ec))) h ∷ []))
      (sym unclean)

  pub release_pushed : (old now : List Step) (e : EcHeader) (ec : Option EcHeader) → stays_on scan t ec ≡ false
      → e ≡ next_ec scan ec → now ≡ old ++ renew s t.pnum e → now ≡ old ++ release_on s scan t ec
  release_pushed old now e ec fresh header put =
      put ∙ ap (λ x. old ++ renew s t.pnum x) header
      ∙ ap (λ b. old ++ cond b [] (renew s t.pnum (next_ec scan ec))) (sym fresh)
