-- What holds if the power fails during any step of a list.
use Rattle.ubi_change.proofs.Prelude.{◌≡◌, ℕ, zero, suc, ◌+◌, ◌-◌, ◌<◌, inl, inr, List, [], ◌∷◌, ◌++◌, length, set, refl, ap, sym, ◌∙◌, subst, arith, Some, slice_get, same_Some, cases_lt, Sizes, block, blocks_after, block_after, step_done, target, Step, Bool, true, ◌&&◌, only_clears, MayBeHarmed, NoChance}
use Rattle.ubi_change.specs.declared.step.Step.TheVariants as step
use Rattle.ubi_change.proofs.Runs.{after-back, after-front, done}

-- the step of a front
front_step : (xs ys : List Step) (k : ℕ) → k < length xs → slice_get (xs ++ ys) k ≡ slice_get xs k
front_step [] ys k l = absurd (omega arith)
front_step (x ∷ xs) ys zero l = refl
front_step (x ∷ xs) ys (suc k) l = front_step xs ys k (omega arith)

-- the step of a list that stands behind another
back_step : (xs ys : List Step) (j k : ℕ) → j ≡ length xs + k → slice_get (xs ++ ys) j ≡ slice_get ys k
back_step [] ys j k e = (let same : j ≡ k = omega arith in ap (slice_get ys) same)
back_step (x ∷ xs) ys zero k e = absurd (omega arith)
back_step (x ∷ xs) ys (suc j) k e = back_step xs ys j k (omega arith)

module _ (s : Sizes) where
  -- the eraseblocks after one more step
  pub after-next : (bs : List (List ℕ)) (steps : List Step) (k : ℕ) (next : Step) → slice_get steps k ≡ Some next
      → blocks_after s bs steps (suc k) ≡ step_done s (blocks_after s bs steps k) next
  after-next bs [] k next e = absurd (cc)
  after-next bs (x ∷ xs) zero next e = ap (step_done s bs) (same_Some x next e)
  after-next bs (x ∷ xs) (suc k) next e = after-next (step_done s bs x) xs k next e

  -- whether a program only cleared bits that it was to clear
  abbrev pub is_exact : List ℕ → Step → List ℕ → Bool
  is_exact b (step.Erase p) t = true
  is_exact b (step.Program p page bytes) t = only_clears b t && only_clears t (block_after s b (step.Program p page bytes))

  -- what holds, by whether the step was exact, of what may be left of it
  abbrev pub TearIs : (Bool → List (List ℕ) → Type 0) → List (List ℕ) → Step → List ℕ → Type 0
  TearIs P bs next t = MayBeHarmed s (block bs (target next)) next t
      → NoChance s (block bs (target next)) (block_after s (block bs (target next)) next) t
      → P (is_exact (block bs (target next)) next t) (set bs (target next) t)

  -- what holds if the power fails during the step k, for each
  abbrev pub AtEachTear : (ℕ → Bool → List (List ℕ) → Type 0) → List (List ℕ) → List Step → Type 0
  AtEachTear R bs steps = (k : ℕ) (next : Step) (t : List ℕ) → slice_get steps k ≡ Some next
      → TearIs (R k) (blocks_after s bs steps k) next t

  pub tears-append : (R : ℕ → Bool → List (List ℕ) → Type 0) (bs : List (List ℕ)) (xs ys : List Step) → AtEachTear R bs xs
      → AtEachTear (λ k. R (length xs + k)) (done s bs xs) ys → AtEachTear R bs (xs ++ ys)
  tears-append R bs xs ys a b k next t e = elim (cases_lt k (length xs)) [
    | inl h ↦ subst (λ z. TearIs (R k) z next t) (sym (after-front s bs xs ys k (omega arith)))
        (a k next t (sym (front_step xs ys k h) ∙ e))
    | inr h ↦
        let j : ℕ = k - length xs in
        let sum : k ≡ length xs + (k - length xs) = omega arith in
        subst (λ i. TearIs (R i) (blocks_after s bs (xs ++ ys) k) next t) (sym sum)
        (subst (λ z. TearIs (R (length xs + (k - length xs))) z next t)
        (sym (ap (blocks_after s bs (xs ++ ys)) sum ∙ after-back s bs xs ys (k - length xs)))
        (b (k - length xs) next t (sym (back_step xs ys k (k - length xs) sum) ∙ e)))
  ]

  pub tears-weaken : (R S : ℕ → Bool → List (List ℕ) → Type 0) (bs : List (List ℕ)) (xs : List Step)
      → ((k : ℕ) (f : Bool) (x : List (List ℕ)) → k < length xs → R k f x → S k f x) → AtEachTear R bs xs → AtEachTear S bs xs
  tears-weaken R S bs xs weaker a k next t e l n = weaker k _ _ (within xs k next e) (a k next t e l n)
    where
      within : (xs : List Step) (k : ℕ) (x : Step) → slice_get xs k ≡ Some x → k < length xs
      within [] k x e = absurd (cc)
      within (y ∷ xs) zero x e = omega arith
      within (y ∷ xs) (suc k) x e = let l = within xs k x e in omega arith

  -- of no step
  pub no_tears : (R : ℕ → Bool → List (List ℕ) → Type 0) (bs : List (List ℕ)) → AtEachTear R bs []
  no_tears R bs k next t e = absurd (cc)

  -- of one step
  pub one_tear : (R : ℕ → Bool → List (List ℕ) → Type 0) (bs : List (List ℕ)) (x : Step) → ((t : List ℕ) → TearIs (R 0) bs x t)
      → AtEachTear R bs (x ∷ [])
  one_tear R bs x a zero next t e = subst (λ (y : Step). TearIs (R 0) bs y t) (same_Some x next e) (a t)
  one_tear R bs x a (suc k) next t e = absurd (cc)
