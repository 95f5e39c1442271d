-- Eraseblocks of different LEBs.
use Rattle.ubi_laid.proofs.Prelude.{◌≡◌, ℕ, zero, suc, List, [], ◌∷◌, ◌++◌, refl, ap, sym, ◌∙◌, same_Some, AllByRecursion, Some, slice_get, leb_of, AreApart, Differ, Laid}
use Rattle.ubi_laid.proofs.Lists.{all_append, all_at}

pub apart_append : (ks ls : List Laid) → AreApart ks → AreApart ls
    → AllByRecursion (λ k. AllByRecursion (Differ k) ls) ks → AreApart (ks ++ ls)
apart_append [] ls a b h = b
apart_append (k ∷ ks) ls a b h = (all_append (Differ k) ks ls a.0 h.0, apart_append ks ls a.1 b h.1)

-- so one LEB has one place
pub one_place : (ls : List Laid) (p q : ℕ) (k l : Laid) → AreApart ls → slice_get ls p ≡ Some k
    → slice_get ls q ≡ Some l → leb_of k.header ≡ leb_of l.header → p ≡ q
one_place [] p q k l a e f same = absurd (cc)
one_place (x ∷ ls) zero zero k l a e f same = refl
one_place (x ∷ ls) zero (suc q) k l a e f same =
    absurd (all_at (Differ x) ls q l a.0 f (sym same ∙ ap (λ (b : Laid). leb_of b.header) (same_Some k x (sym e))))
one_place (x ∷ ls) (suc p) zero k l a e f same =
    absurd (all_at (Differ x) ls p k a.0 e (same ∙ ap (λ (b : Laid). leb_of b.header) (same_Some l x (sym f))))
one_place (x ∷ ls) (suc p) (suc q) k l a e f same = ap suc (one_place ls p q k l a.1 e f same)
