-- Steps on other eraseblocks: those of a copy and of what is given up don't change the order of an eraseblock's pages.
use Rattle.ubi_change.proofs.Prelude.{◌≡◌, ◌≢◌, ℕ, ◌+◌, ◌/◌, ◌≤◌, ◌⊎◌, inl, inr, List, [], ◌∷◌, ◌++◌, refl, sym, ◌∙◌, Option, first_chunks, IsGeometry, Sizes, EcHeader, VidHeader, AttachValue, mount, prepare, program_header, program_text, ready_bytes, release, target, stays, pages_of, Step, ap, arith, cond, count_by, erases, false, fold, nat_tests, ◌==◌}
use Rattle.ubi_change.specs.declared.step.Step.TheVariants as step
use Rattle.ubi_change.proofs.CountsErases.{pages_on, prepare_on}
use Rattle.ubi_change.proofs.PagesRise.{InOrder}
use Rattle.ubi_change.proofs.Runs.{AllOn, on-append}
use Rattle.ubi_change.proofs.Runs.{if_renewed}

-- no step touches p
abbrev pub AllOff : ℕ → List Step → Type 0
AllOff p [] = Unit {0}
AllOff p (x ∷ xs) = (target x ≢ p) × AllOff p xs

pub off-append : (p : ℕ) (xs ys : List Step) → AllOff p xs → AllOff p ys → AllOff p (xs ++ ys)
off-append p [] ys a b = b
off-append p (x ∷ xs) ys a b = (a.0, off-append p xs ys a.1 b)

pub on_off : (s : Sizes) (q p : ℕ) (xs : List Step) → AllOn s q xs → p ≢ q → AllOff p xs
on_off s q p [] on apart = tt
on_off s q p (x ∷ xs) on apart = ((λ e. apart (sym e ∙ on.0)), on_off s q p xs on.1 apart)

-- the order of pages: before steps that are in order after anything, and behind steps on other eraseblocks
pub order_any : (p n : ℕ) (xs ys : List Step) → InOrder p n xs → ((m : ℕ) → InOrder p m ys) → InOrder p n (xs ++ ys)
order_any p n [] ys o any = any n
order_any p n (step.Erase q ∷ xs) ys o any =
    ((λ same. order_any p 0 xs ys (o.0 same) any), (λ apart. order_any p n xs ys (o.1 apart) any))
order_any p n (step.Program q b zs ∷ xs) ys o any = (
  λ same. by_page (o.0 same) (λ k. order_any p (b + 2) xs ys k any) (λ k. order_any p (n + 1) xs ys k any),
  λ apart. order_any p n xs ys (o.1 apart) any,
)
  where
    by_page : ((1 ≤ b) × (n ≤ b + 1) × InOrder p (b + 2) xs) ⊎ ((b ≡ 0) × (n ≤ 1) × InOrder p (n + 1) xs)
        → (InOrder p (b + 2) xs → InOrder p (b + 2) (xs ++ ys)) → (InOrder p (n + 1) xs → InOrder p (n + 1) (xs ++ ys))
        → ((1 ≤ b) × (n ≤ b + 1) × InOrder p (b + 2) (xs ++ ys)) ⊎ ((b ≡ 0) × (n ≤ 1) × InOrder p (n + 1) (xs ++ ys))
    by_page (inl h) f k = inl (h.0, h.1, f h.2)
    by_page (inr h) f k = inr (h.0, h.1, k h.2)

pub order_skip : (p n : ℕ) (xs ys : List Step) → AllOff p xs → InOrder p n ys → InOrder p n (xs ++ ys)
order_skip p n [] ys off o = o
order_skip p n (step.Erase q ∷ xs) ys off o = ((λ same. absurd (off.0 same)), (λ apart. order_skip p n xs ys off.1 o))
order_skip p n (step.Program q b zs ∷ xs) ys off o =
    ((λ same. absurd (off.0 same)), (λ apart. order_skip p n xs ys off.1 o))

-- steps on other eraseblocks are in order after anything
pub off_order : (p n : ℕ) (xs : List Step) → AllOff p xs → InOrder p n xs
off_order p n [] off = tt
off_order p n (step.Erase q ∷ xs) off = ((λ same. absurd (off.0 same)), (λ apart. off_order p n xs off.1))
off_order p n (step.Program q b zs ∷ xs) off = ((λ same. absurd (off.0 same)), (λ apart. off_order p n xs off.1))

-- and erase it never
erased_off : (q p : ℕ) → (q ≡ p → ⊥) → (q == p) ≡ false
erased_off q p e = grind (arith, nat_tests)

off_from : (p n : ℕ) (xs : List Step) → AllOff p xs → fold (λ (k : ℕ) (x : Step). k + cond (erases p x) 1 0) n xs ≡ n
off_from p n [] off = refl
off_from p n (step.Erase q ∷ xs) off =
    let same : n + cond (q == p) 1 0 ≡ n = ap (λ b. n + cond b 1 0) (erased_off q p off.0) ∙ omega arith in
    ap (λ k. fold (λ (k : ℕ) (x : Step). k + cond (erases p x) 1 0) k xs) same ∙ off_from p n xs off.1
off_from p n (step.Program q b zs ∷ xs) off =
    let same : n + 0 ≡ n = omega arith in
    ap (λ k. fold (λ (k : ℕ) (x : Step). k + cond (erases p x) 1 0) k xs) same ∙ off_from p n xs off.1

pub off_erases : (p : ℕ) (xs : List Step) → AllOff p xs → count_by (erases p) xs ≡ 0
off_erases p xs off = off_from p 0 xs off

module _ (s : Sizes) (g : IsGeometry s) (bs : List (List ℕ)) (a : AttachValue) where
  -- a copy is written by steps on its eraseblock, and another is given up by steps on that
  pub copy_on : (b : ℕ) (h : VidHeader) (new : List ℕ) → AllOn s b (mount s bs a b h ++ program_text s b new)
  copy_on b h new =
      on-append s b (mount s bs a b h) (program_text s b new)
      (on-append s b (prepare s bs a b) (program_header s b (ready_bytes s bs a b) h ∷ []) (prepare_on s g bs a b)
      (refl, tt))
      (pages_on s b (s.data_offset / s.page) (first_chunks s.page (pages_of s new) new))

  pub release_on : (p : ℕ) (now : Option EcHeader) → AllOn s p (release s bs a p now)
  release_on p now = if_renewed (AllOn s p) (stays s bs p now) tt (refl, (refl, tt))
