-- The first of what is found in a file accepts what another one does.
use Rattle.ubi_commands.proofs.Prelude.{◌≡◌, ℕ, List, subst, sym, Sizes, with_page, IsLesserTold, least_first, Detected, image_of, Accepts, meaning_with_page, normal_kept, IsNormalised, AreOfFirst, LeastTold, lesser_page}

told_least : (bytes : List ℕ) (first other : Detected) → AreOfFirst bytes first other → IsLesserTold first other
told_least bytes first other told = least_first bytes first other told.0 told.1 told.2

-- what holds of bytes under the sizes of another one with the page of the first holds of them under the sizes of the
-- first
by_first : (P : Sizes → Type 0) (bytes : List ℕ) (first other : Detected) → AreOfFirst bytes first other → other.oob ≡ 0
    → P (with_page other.geometry first.geometry.page) → P first.geometry
by_first P bytes first other told none h = subst P (sym ((told_least bytes first other told).3 none).1) h

pub least_told : LeastTold
least_told = record {
  page = λ bytes first other told. (told_least bytes first other told).0;
  place = λ bytes first other told. (let l = told_least bytes first other told in (l.1, l.2));
  sizes = λ bytes first other told. (told_least bytes first other told).3;
  accepted = λ bytes image first other m told none a.
      by_first (λ s. Accepts (image_of s image) (meaning_with_page m first.geometry.page)) bytes first other told none
      (lesser_page.accepted (image_of other.geometry image) m first.geometry.page
      (told_least bytes first other told).0 a);
  normal = λ bytes image out first other told none h.
      by_first (λ s. IsNormalised (image_of s image) out) bytes first other told none
      (normal_kept (image_of other.geometry image) out first.geometry.page
      (told_least bytes first other told).0 h);
}
