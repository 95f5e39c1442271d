-- Steps that are carried out on one eraseblock: they keep its size, and those that work on others don't change it.
use Rattle.ubi_change.proofs.Prelude.{◌≡◌, ◌≢◌, ℕ, zero, suc, ◌-◌, ◌<◌, Bool, true, false, cond, List, [], ◌∷◌, ◌++◌, length, take, refl, ap, sym, ◌∙◌, arith, fold-append, Some, slice_get, Sizes, AllWithin, block_after, block_cut, block_step, target, Step}
use Rattle.std.proofs.Common.{◌==◌}
use Rattle.ubi_change.proofs.OnBlock.{step_elsewhere}
use Rattle.ubi_change.proofs.CutSizes.{block_sized}
use Rattle.ubi_change.proofs.StepsOn.{EachOn}

-- an eraseblock keeps its size
pub cut_sized : (s : Sizes) → 0 < s.page → (n p : ℕ) (steps : List Step) → AllWithin s n steps → (b : List ℕ) → length b ≡ s.peb_size
    → length (block_cut s p steps b) ≡ s.peb_size
cut_sized s some n p [] within b long = long
cut_sized s some n p (x ∷ xs) within b long =
    cut_sized s some n p xs (λ k next e. within (suc k) next e) (block_step s p b x) (by (target x == p))
  where
    by : (t : Bool) → length (cond t (block_after s b x) b) ≡ s.peb_size
    by true = block_sized s some b x long (within 0 x refl).1
    by false = long

-- the first of steps on some eraseblocks are on these
pub each_first : (P : ℕ → Type 0) (n : ℕ) (steps : List Step) → EachOn P steps → EachOn P (take n steps)
each_first P zero steps h = tt
each_first P (suc n) [] h = tt
each_first P (suc n) (x ∷ xs) h = (h.0, each_first P n xs h.1)

-- steps on other eraseblocks leave one as it is
pub untouched : (s : Sizes) (p : ℕ) (steps : List Step) → EachOn (λ q. q ≢ p) steps → (b : List ℕ) → block_cut s p steps b ≡ b
untouched s p [] h b = refl
untouched s p (x ∷ xs) h b = ap (block_cut s p xs) (sym (step_elsewhere s p b x h.0)) ∙ untouched s p xs h.1 b

-- the first n of two lists of steps, one after the other, are the first of the one, and as many as are left of the other
pub first_of_both : (n : ℕ) (xs ys : List Step) → take n (xs ++ ys) ≡ take n xs ++ take (n - length xs) ys
first_of_both zero [] ys = refl
first_of_both (suc n) [] ys = let all : suc n ≡ suc n - 0 = omega arith in ap (λ k. take k ys) all
first_of_both zero (x ∷ xs) ys =
    let none : 0 ≡ 0 - suc (length xs) = omega arith in ap (λ k. take k ys) none
first_of_both (suc n) (x ∷ xs) ys =
    let same : n - length xs ≡ suc n - suc (length xs) = omega arith in
    ap (λ (zs : List Step). x ∷ zs) (first_of_both n xs ys ∙ ap (λ k. take n xs ++ take k ys) same)

pub cut_both : (s : Sizes) (p n : ℕ) (xs ys : List Step) (b : List ℕ)
    → block_cut s p (take n (xs ++ ys)) b ≡ block_cut s p (take (n - length xs) ys) (block_cut s p (take n xs) b)
cut_both s p n xs ys b =
    ap (λ (zs : List Step). block_cut s p zs b) (first_of_both n xs ys)
    ∙ fold-append (block_step s p) b (take n xs) (take (n - length xs) ys)

-- the first of some steps that work within their eraseblocks do so
first_get : (xs : List Step) (n k : ℕ) (next : Step) → slice_get (take n xs) k ≡ Some next → slice_get xs k ≡ Some next
first_get [] zero k next e = e
first_get [] (suc n) k next e = e
first_get (x ∷ xs) zero k next e = absurd (cc)
first_get (x ∷ xs) (suc n) zero next e = e
first_get (x ∷ xs) (suc n) (suc k) next e = first_get xs n k next e

pub first_within : (s : Sizes) (n : ℕ) (steps : List Step) (k : ℕ) → AllWithin s n steps → AllWithin s n (take k steps)
first_within s n steps k all i next e = all i next (first_get steps k i next e)
