-- How many pages a text needs, found from its end.
use Rattle.ubi_change.proofs.Prelude.{◌≡◌, ℕ, ◌+◌, ◌-◌, ◌*◌, ◌%◌, ◌<◌, ◌≤◌, inl, inr, Bool, true, false, List, [], ◌∷◌, ◌++◌, length, take, drop, refl, ap, ap₂, sym, ◌∙◌, arith, ◌==◌, ◌&&◌, cases_lt, nat_tests, drop-drop, take-append-drop, is_blank, same_bytes, Sizes, is_whole, pages_of, pages_needed, mul-le, blank, filled, filled-is, length-take-le, take-take, pieces, list_all-append, whole_text}
use Rattle.ubi_change.proofs.Torn.{IsWholePlace, pages-all, whole_place-is}
use Rattle.ubi_change.proofs.WeakPlaces as weak

pub same_itself : (xs : List ℕ) → same_bytes xs xs ≡ true
same_itself [] = refl
same_itself (x ∷ xs) = ap (λ b. b && same_bytes xs xs) (itself x) ∙ same_itself xs
  where
    itself : (n : ℕ) → (n == n) ≡ true
    itself n = grind (arith, nat_tests)

both : (a b : Bool) → a ≡ true → b ≡ true → (a && b) ≡ true
both true b e f = f
both false b e f = e

left_true : (a b : Bool) → (a && b) ≡ true → a ≡ true
left_true true b e = refl
left_true false b e = e

right_true : (a b : Bool) → (a && b) ≡ true → b ≡ true
right_true true b e = e
right_true false b e = absurd (cc)

-- what is 0xFF throughout is so in its parts
module _ (n : ℕ) (xs : List ℕ) where
  parted : is_blank xs ≡ (is_blank (take n xs) && is_blank (drop n xs))
  parted = ap is_blank (sym (take-append-drop n xs)) ∙ list_all-append (λ b. b == 255) (take n xs) (drop n xs)

  blank_front : is_blank xs ≡ true → is_blank (take n xs) ≡ true
  blank_front e = left_true (is_blank (take n xs)) (is_blank (drop n xs)) (sym parted ∙ e)

  blank_rest : is_blank xs ≡ true → is_blank (drop n xs) ≡ true
  blank_rest e = right_true (is_blank (take n xs)) (is_blank (drop n xs)) (sym parted ∙ e)

  blank_whole : is_blank (take n xs) ≡ true → is_blank (drop n xs) ≡ true → is_blank xs ≡ true
  blank_whole e f = parted ∙ both (is_blank (take n xs)) (is_blank (drop n xs)) e f

module _ (s : Sizes) (new : List ℕ) (k : ℕ) where
  -- the page before a place
  pub page_before : 0 < k → drop s.page (drop ((k - 1) * s.page) new) ≡ drop (k * s.page) new
  page_before some =
      let sum : (k - 1) * s.page + s.page ≡ k * s.page = (let e : (k - 1) + 1 ≡ k = omega arith in
      let m : ((k - 1) + 1) * s.page ≡ (k - 1) * s.page + s.page = omega arith in sym m ∙ ap (λ n. n * s.page) e) in
      drop-drop s.page ((k - 1) * s.page) new ∙ ap (λ n. drop n new) sum

  -- if it is 0xFF throughout, and all after it, the text is so from there on
  pub blank_before : 0 < k → is_blank (take s.page (drop ((k - 1) * s.page) new)) ≡ true → is_blank (drop (k * s.page) new) ≡ true
      → is_blank (drop ((k - 1) * s.page) new) ≡ true
  blank_before some page rest =
      blank_whole s.page (drop ((k - 1) * s.page) new) page (ap is_blank (page_before some) ∙ rest)

  module _ (paged : length new % s.page ≡ 0) (most : k ≤ pages_of s new) (rest : is_blank (drop (k * s.page) new) ≡ true) where
    fits : (j : ℕ) → j ≤ pages_of s new → j * s.page ≤ length new
    fits j l = (let m = mul-le j s.page (pages_of s new) s.page l (omega arith) in let e = pages-all s new paged in omega (arith, m, e))

    place : IsWholePlace s new paged (pages_needed s new)
    place = whole_place-is s new paged

    not_less : k < pages_needed s new → ⊥
    not_less l =
        let a : is_whole s new k ≡ false = place.before k l in
        let b : is_whole s new k ≡ true = weak.whole-is s new k (fits k most) ∙ rest in
        let c : ◌≡◌ {A = Bool} true false = sym b ∙ a in absurd (cc)

    whole_there : is_blank (drop (pages_needed s new * s.page) new) ≡ true
    whole_there = sym (weak.whole-is s new (pages_needed s new) (fits (pages_needed s new) place.most))
        ∙ ap (λ (xs : List ℕ). same_bytes xs new) place.whole ∙ same_itself new

    blank_page : pages_needed s new < k → is_blank (take s.page (drop ((k - 1) * s.page) new)) ≡ true
    blank_page l =
        let w = pages_needed s new in
        let m = mul-le w s.page (k - 1) s.page (omega (arith, l)) (omega arith) in
        let sum : w * s.page + ((k - 1) * s.page - w * s.page) ≡ (k - 1) * s.page = omega (arith, m) in
        blank_front s.page (drop ((k - 1) * s.page) new)
        (ap is_blank (ap (λ n. drop n new) (sym sum) ∙ sym (drop-drop ((k - 1) * s.page - w * s.page) (w * s.page) new))
        ∙ blank_rest ((k - 1) * s.page - w * s.page) (drop (w * s.page) new) whole_there)

    -- as many pages are needed, if the last of them isn't 0xFF throughout
    pub needed_is : (0 < k → is_blank (take s.page (drop ((k - 1) * s.page) new)) ≡ false) → k ≡ pages_needed s new
    needed_is last = elim (cases_lt k (pages_needed s new)) [
      | inl l ↦ absurd (not_less l)
      | inr g ↦ elim (cases_lt (pages_needed s new) k) [
        | inl more ↦
            let a = blank_page more in
            let b = last (omega (arith, more)) in
            let c : ◌≡◌ {A = Bool} true false = sym a ∙ b in absurd (cc)
        | inr equal ↦ omega (arith, g, equal)
      ]
    ]

-- a page as it is read
pub page_read : (s : Sizes) (new : List ℕ) (k p : ℕ) → p ≡ s.page → 0 < k
    → is_blank (take (k * p - (k - 1) * p) (drop ((k - 1) * p) new)) ≡ is_blank (take s.page (drop ((k - 1) * s.page) new))
page_read s new k p same some =
    ap (λ n. is_blank (take (k * n - (k - 1) * n) (drop ((k - 1) * n) new))) same
    ∙ ap (λ n. is_blank (take n (drop ((k - 1) * s.page) new))) one
  where
    one : k * s.page - (k - 1) * s.page ≡ s.page
    one =
        let e : (k - 1) + 1 ≡ k = omega arith in
        let m : ((k - 1) + 1) * s.page ≡ (k - 1) * s.page + s.page = omega arith in
        let f : k * s.page ≡ (k - 1) * s.page + s.page = ap (λ n. n * s.page) (sym e) ∙ m in
        omega (arith, f)

-- a text that is filled where it stands
pub text_filled : (s : Sizes) (xs : List ℕ) (len all : ℕ) → len ≤ all → all ≤ length xs → all ≡ pieces s.page len * s.page
    → take len (take all xs) ++ blank (length (take all xs) - len) ≡ whole_text s (take len xs)
text_filled s xs len all few room whole =
    let size = length-take-le all xs room in
    let long = length-take-le len xs (omega (arith, few, room)) in
    ap₂ (λ (a : List ℕ) (n : ℕ). a ++ blank n) (take-take len all xs few) (ap (λ n. n - len) size)
    ∙ ap (λ n. take len xs ++ blank (all - n)) (sym long)
    ∙ sym (filled-is all (take len xs))
    ∙ ap (λ n. filled n (take len xs)) (whole ∙ ap (λ n. pieces s.page n * s.page) (sym long))
