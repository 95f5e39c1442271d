-- A text that is trimmed where it stands.
use Rattle.ubi_change.proofs.Prelude.{◌≡◌, ℕ, ◌*◌, ◌≤◌, List, ap, ap₂, ◌∙◌, arith, length, length-take-le, take, IsGeometry, Sizes, leb_size, trimmed, whole_text, pages_needed}
use Rattle.ubi_change.proofs.Trimmed as trim

module _ (s : Sizes) (g : IsGeometry s) (xs : List ℕ) (len : ℕ) (fits : len ≤ leb_size s) (whole : List ℕ) (is : whole ≡ whole_text s (take len xs))
    (pages page : ℕ) (count : pages ≡ pages_needed s whole) (size : page ≡ s.page) where
  few : len ≤ length xs → length (take len xs) ≤ leb_size s
  few room = let e = length-take-le len xs room in omega (arith, e, fits)

  same : pages * page ≡ pages_needed s (whole_text s (take len xs)) * s.page
  same = ap₂ (λ (a b : ℕ). a * b) (count ∙ ap (pages_needed s) is) size

  module _ (room : len ≤ length xs) where
    -- it is no longer than the whole
    pub within : pages * page ≤ length whole
    within =
        let a = trim.below s g (take len xs) (few room) in
        let b = trim.long s g (take len xs) (few room) in
        let c = ap length is in
        omega (arith, same, a, b, c)

    pub trimmed_is : take (pages * page) whole ≡ trimmed s (take len xs)
    trimmed_is = ap₂ (λ (n : ℕ) (w : List ℕ). take n w) same is

    pub trimmed_short : length (take (pages * page) whole) ≤ leb_size s
    trimmed_short =
        let a = length-take-le (pages * page) whole within in
        let b = trim.long s g (take len xs) (few room) in
        let c = trim.short s g (take len xs) (few room) in
        let d = ap length is in
        let e = within in
        omega (arith, a, b, c, d, e)
