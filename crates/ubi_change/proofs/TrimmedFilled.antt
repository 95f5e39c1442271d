-- A text with 0xFF after it is trimmed as the text is.
use Rattle.ubi_change.proofs.Prelude.{◌≡◌, ℕ, zero, suc, ◌+◌, ◌-◌, ◌*◌, ◌%◌, ◌<◌, ◌≤◌, Bool, true, false, List, [], ◌∷◌, ◌++◌, length, take, drop, refl, ap, ap₂, sym, ◌∙◌, arith, ◌==◌, ◌&&◌, inl, inr, cases_lt, append_assoc, length-append, length-drop, length-replicate, ◌/◌, take-append-le, mod-mul-add, is_blank, same_bytes, div-mul-le_self, IsGeometry, Sizes, is_whole, pages_of, pages_needed, trimmed, mul-le, blank, filled, filled-is, length-filled, join_blank, pieces, pieces_few, pieces_suffice, list_all-append, whole_text}
use Rattle.ubi_change.proofs.TablePages as table
use Rattle.ubi_change.proofs.Torn.{IsWholePlace, pages-all, whole_place-is}
use Rattle.ubi_change.proofs.TrimmedPages.{blank_before, needed_is, same_itself}
use Rattle.ubi_change.proofs.WeakPlaces as weak

blank_all : (n : ℕ) → is_blank (blank n) ≡ true
blank_all zero = refl
blank_all (suc n) = blank_all n

blank_more : (xs : List ℕ) (n : ℕ) → is_blank xs ≡ true → is_blank (xs ++ blank n) ≡ true
blank_more xs n e = list_all-append (λ b. b == 255) xs (blank n) ∙ ap₂ (λ (a b : Bool). a && b) e (blank_all n)

drop_front : (n : ℕ) (xs ys : List ℕ) → n ≤ length xs → drop n (xs ++ ys) ≡ drop n xs ++ ys
drop_front zero xs ys l = refl
drop_front (suc n) [] ys l = absurd (omega arith)
drop_front (suc n) (x ∷ xs) ys l = drop_front n xs ys (omega arith)

-- pages of 0xFF more
module _ (s : Sizes) (some_page : 0 < s.page) (new : List ℕ) (paged : length new % s.page ≡ 0) (r : ℕ) (more : length (new ++ blank r) % s.page ≡ 0) where
  k : ℕ
  k = pages_needed s new

  place : IsWholePlace s new paged (pages_needed s new)
  place = whole_place-is s new paged

  inside : pages_needed s new * s.page ≤ length new
  inside = (let m = mul-le (pages_needed s new) s.page (pages_of s new) s.page place.most (omega arith) in
      let e = pages-all s new paged in omega (arith, m, e))

  rest : is_blank (drop (pages_needed s new * s.page) new) ≡ true
  rest =
      sym (weak.whole-is s new (pages_needed s new) inside)
      ∙ ap (λ (xs : List ℕ). same_bytes xs new) place.whole ∙ same_itself new

  -- the last page that is needed isn't 0xFF throughout
  last : 0 < pages_needed s new → is_blank (take s.page (drop ((pages_needed s new - 1) * s.page) new)) ≡ false
  last some = by (is_blank (take s.page (drop ((pages_needed s new - 1) * s.page) new))) refl
    where
      by : (b : Bool) → is_blank (take s.page (drop ((pages_needed s new - 1) * s.page) new)) ≡ b → b ≡ false
      by false e = refl
      by true e =
          let all = blank_before s new (pages_needed s new) some e rest in
          let room : (pages_needed s new - 1) * s.page ≤ length new =
          (let m = mul-le (pages_needed s new - 1) s.page (pages_needed s new) s.page (omega arith) (omega arith) in let i = inside in omega (arith, m, i)) in
          let w : is_whole s new (pages_needed s new - 1) ≡ true = weak.whole-is s new (pages_needed s new - 1) room ∙ all in
          let b : is_whole s new (pages_needed s new - 1) ≡ false = place.before (pages_needed s new - 1) (omega (arith, some)) in
          let c : ◌≡◌ {A = Bool} true false = sym w ∙ b in absurd (cc)

  same_needed : pages_needed s new ≡ pages_needed s (new ++ blank r)
  same_needed = needed_is s (new ++ blank r) (pages_needed s new) more most behind before
    where
      long : length (new ++ blank r) ≡ length new + r
      long = length-append new (blank r) ∙ ap (λ n. length new + n) (length-replicate r 255)

      most : pages_needed s new ≤ pages_of s (new ++ blank r)
      most =
          let l = long in
          let a = place.most in
          let b = div-mul-le_self (length new) s.page in
          let c : length new / s.page * s.page ≤ length (new ++ blank r) = omega (arith, l, b) in
          let d = pages-all s (new ++ blank r) more in
          elim (cases_lt (pages_of s (new ++ blank r)) (length new / s.page)) [
            | inr enough ↦ omega (arith, a, enough)
            | inl few ↦ (let m = mul-le (pages_of s (new ++ blank r) + 1) s.page (length new / s.page) s.page (omega (arith, few)) (omega arith) in absurd (omega (arith, m, c, d, some_page, b, l)))
          ]

      behind : is_blank (drop (pages_needed s new * s.page) (new ++ blank r)) ≡ true
      behind = ap is_blank (drop_front (pages_needed s new * s.page) new (blank r) inside)
          ∙ blank_more (drop (pages_needed s new * s.page) new) r rest

      before : 0 < pages_needed s new → is_blank (take s.page (drop ((pages_needed s new - 1) * s.page) (new ++ blank r))) ≡ false
      before some =
          let k = pages_needed s new in
          let sum : (k - 1) * s.page + s.page ≡ k * s.page = (let e : (k - 1) + 1 ≡ k = omega (arith, some) in
          let m : ((k - 1) + 1) * s.page ≡ (k - 1) * s.page + s.page = omega arith in sym m ∙ ap (λ n. n * s.page) e) in
          let front : (k - 1) * s.page ≤ length new = (let i = inside in omega (arith, i, sum)) in
          let room : s.page ≤ length (drop ((k - 1) * s.page) new) =
          (let d = length-drop ((k - 1) * s.page) new in let i = inside in omega (arith, d, i, sum)) in
          ap (λ xs. is_blank (take s.page xs)) (drop_front ((k - 1) * s.page) new (blank r) front)
          ∙ ap is_blank (take-append-le s.page (drop ((k - 1) * s.page) new) (blank r) room)
          ∙ last some

pub trimmed_filled : (s : Sizes) → IsGeometry s → (n : ℕ) (text : List ℕ) → trimmed s (filled n text) ≡ trimmed s text
trimmed_filled s g n text =
    ap₂ (λ (k : ℕ) (xs : List ℕ). take (k * s.page) xs) (ap (pages_needed s) grown) grown
    ∙ ap (λ k. take (k * s.page) (whole ++ blank r)) (sym (same_needed s some whole paged r paged_more))
    ∙ take-append-le (pages_needed s whole * s.page) whole (blank r) (inside s some whole paged r paged_more)
  where
    len : ℕ
    len = length text

    all : ℕ
    all = pieces s.page (length text) * s.page

    whole : List ℕ
    whole = filled (pieces s.page (length text) * s.page) text

    r : ℕ
    r = pieces s.page (length (filled n text)) * s.page - pieces s.page (length text) * s.page

    some : 0 < s.page
    some = let k = table.some_page s g in omega arith

    times : (k : ℕ) → k * s.page % s.page ≡ 0
    times k = (let sum : k * s.page ≡ k * s.page + 0 = omega arith in ap (λ n. n % s.page) sum ∙ mod-mul-add k s.page 0 some)

    enough : length text ≤ pieces s.page (length text) * s.page
    enough = pieces_suffice s.page (table.some_page s g) (length text)

    paged : length whole % s.page ≡ 0
    paged = ap (λ k. k % s.page) (length-filled (pieces s.page (length text) * s.page) text enough) ∙ times (pieces s.page (length text))

    longer : length (filled n text) ≡ length text + (n - length text)
    longer = ap length (filled-is n text) ∙ length-append text (blank (n - length text))
        ∙ ap (λ k. length text + k) (length-replicate (n - length text) 255)

    enough_more : length (filled n text) ≤ pieces s.page (length (filled n text)) * s.page
    enough_more = pieces_suffice s.page (table.some_page s g) (length (filled n text))

    above : pieces s.page (length text) * s.page ≤ pieces s.page (length (filled n text)) * s.page
    above = mul-le (pieces s.page (length text)) s.page (pieces s.page (length (filled n text))) s.page
        (pieces_few s.page (table.some_page s g) (length text) (pieces s.page (length (filled n text)))
        (let a = longer in let b = enough_more in omega (arith, a, b))) (omega arith)

    grown : whole_text s (filled n text) ≡ whole ++ blank r
    grown =
        let more : ℕ = pieces s.page (length (filled n text)) * s.page in
        let sum : (n - length text) + (more - length (filled n text)) ≡ (pieces s.page (length text) * s.page - length text) + r =
        (let a = longer in let b = enough_more in let c = above in let d = enough in omega (arith, a, b, c, d)) in
        filled-is more (filled n text)
        ∙ ap (λ xs. xs ++ blank (more - length (filled n text))) (filled-is n text)
        ∙ append_assoc text (blank (n - length text)) (blank (more - length (filled n text)))
        ∙ ap (λ xs. text ++ xs) (join_blank (n - length text) (more - length (filled n text)))
        ∙ ap (λ k. text ++ blank k) sum
        ∙ ap (λ xs. text ++ xs) (sym (join_blank (pieces s.page (length text) * s.page - length text) r))
        ∙ sym (append_assoc text (blank (pieces s.page (length text) * s.page - length text)) (blank r))
        ∙ ap (λ xs. xs ++ blank r) (sym (filled-is (pieces s.page (length text) * s.page) text))

    paged_more : length (whole ++ blank r) % s.page ≡ 0
    paged_more = ap (λ k. k % s.page)
        (ap length (sym grown) ∙ length-filled (pieces s.page (length (filled n text)) * s.page) (filled n text) enough_more)
        ∙ times (pieces s.page (length (filled n text)))
