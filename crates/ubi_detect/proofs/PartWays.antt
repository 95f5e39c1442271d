-- Where the headers and the last record stand in an eraseblock, for each page that it may have: within it.
use Rattle.ubi_detect.proofs.Prelude.{◌≡◌, ℕ, ◌+◌, ◌-◌, ◌*◌, ◌/◌, ◌%◌, ◌<◌, ◌≤◌, Bool, true, false, List, [], ◌∷◌, inl, inr, refl, ap, sym, ◌∙◌, subst, arith, then_some, All, cons_option, filter_map, flat_map, ◌==◌, ◌&&◌, None, Option, Some, is_none, nat_le, nat_lt, option_map, div-zero, lt_of_mul-lt-mul_right, mod-add-div', mod-lt, mul-le-mul_right, mul_comm, and_parts, eqb-true, leb-true, ltb-true, true≢false, All-append, All-cons, All-nil, none-some, same_Some, within_or_past, kept_limits, IsGeometry, Sizes, page_sizes, slots, first_broken, record_size, EcOffsets, is_laid_out, layout_sizes, page_counts, plain_way, plain_ways, put, way_of, ways, Way}

-- an eraseblock of q bytes is whole pages of a way, with its out-of-band bytes
pub record Fits (q : ℕ) (w : Way) : Type 0 where
  pub geometry : IsGeometry w.geometry
  pub count : ℕ
  pub pages : w.geometry.peb_size ≡ count * w.geometry.page
  pub all : q ≡ count * (w.geometry.page + w.oob)
  pub end : w.oob + 16 ≤ q

is_nothing : {X : Type 0} (o : Option X) → is_none o ≡ true → o ≡ None
is_nothing None e = refl
is_nothing (Some x) e = absurd (true≢false (sym e))

laid_out : (s : Sizes) → is_laid_out s ≡ true → IsGeometry s
laid_out s e = (kept_limits s).0 (is_nothing (first_broken s) (and_parts _ _ e).1)

if_true : {X : Type 0} (b : Bool) (x y : X) → then_some b x ≡ Some y → (b ≡ true) × (x ≡ y)
if_true true x y e = (refl, same_Some x y e)
if_true false x y e = absurd (none-some y e)

-- what is found passes, where all that can be found does
module _ {X : Type 0} (P : X → Type 0) where
  all_option : (o : Option X) (xs : List X) → ((x : X) → o ≡ Some x → P x) → All P xs → All P (cons_option o xs)
  all_option None xs here all = all
  all_option (Some x) xs here all = All-cons P x xs (here x refl) all

  all_found : (f : ℕ → Option X) → ((n : ℕ) (x : X) → f n ≡ Some x → P x) → (ns : List ℕ) → All P (filter_map f ns)
  all_found f each [] = All-nil P
  all_found f each (n ∷ ns) = all_option (f n) (filter_map f ns) (λ x e. each n x e) (all_found f each ns)

  all_flat : (f : ℕ → List X) → ((n : ℕ) → All P (f n)) → (ns : List ℕ) → All P (flat_map f ns)
  all_flat f each [] = All-nil P
  all_flat f each (n ∷ ns) = All-append P (f n) (flat_map f ns) (each n) (all_flat f each ns)

plain_fits : (q : ℕ) (o : EcOffsets) (page : ℕ) (w : Way) → plain_way q o page ≡ Some w → Fits q w
plain_fits q o page w e =
    let s : Sizes = layout_sizes q o page in
    by_test (is_laid_out s) refl e
  where
    by_test : (b : Bool) → is_laid_out (layout_sizes q o page) ≡ b → option_map (λ s. record { geometry = s; oob = 0 }) (then_some b (layout_sizes q o page)) ≡ Some w
        → Fits q w
    by_test false laid f = absurd (none-some w f)
    by_test true laid f =
        let P : Way → Type 0 = λ v. Fits q v in
        let is = laid_out (layout_sizes q o page) laid in
        let pages = is.peb_pages in
        let leb = is.leb in
        let split = mod-add-div' q page in
        let none : page + 0 ≡ page = omega arith in
        subst P (same_Some _ w f) (record {
          geometry = is;
          count = q / page;
          pages = omega (arith, pages, split);
          all = (let m = ap (λ n. q / page * n) none in omega (arith, pages, split, m));
          end = omega (arith, leb);
        })

pub plain_ways_fit : (q : ℕ) (o : EcOffsets) → All (Fits q) (plain_ways q o)
plain_ways_fit q o = all_found (Fits q) (plain_way q o) (plain_fits q o) page_sizes

all_five : (a b c d e : Bool) → (a && b && c && d && e) ≡ true
    → (a ≡ true) × (b ≡ true) × (c ≡ true) × (d ≡ true) × (e ≡ true)
all_five a b c d e all =
    let four = and_parts (a && b && c && d) e all in
    let three = and_parts (a && b && c) d four.0 in
    let two = and_parts (a && b) c three.0 in
    let one = and_parts a b two.0 in (one.0, one.1, two.1, three.1, four.1)

-- so many pages and their out-of-band bytes are all
module _ (q : ℕ) (o : EcOffsets) (page n : ℕ) (w : Way) (is : way_of q o page n ≡ Some w) where
  abbrev found : Way
  found = record { geometry = layout_sizes (page * n) o page; oob = q / n - page }

  passes : ((q % n == 0) ≡ true) × (nat_lt page (q / n) ≡ true) × (nat_le 256 page ≡ true) × (nat_le (q / n - page) (page / 4) ≡ true)
      × (is_laid_out (layout_sizes (page * n) o page) ≡ true)
  passes =
      all_five (q % n == 0) (nat_lt page (q / n)) (nat_le 256 page) (nat_le (q / n - page) (page / 4)) (is_laid_out (layout_sizes (page * n) o page))
      (if_true _ found w is).0

  some : 1 ≤ n
  some = elim (within_or_past 1 n) [
    | inl more ↦ more
    | inr none ↦ (let e : n ≡ 0 = omega (arith, none) in
        let less = ltb-true page (q / n) passes.1 in
        let zero_parts = ap (λ m. q / m) e ∙ div-zero q in absurd (omega (arith, less, zero_parts)))
  ]

  with_fits : Fits q w
  with_fits =
      let whole = eqb-true (q % n) 0 passes.0 in
      let more = ltb-true page (q / n) passes.1 in
      let large = leb-true 256 page passes.2 in
      let split = mod-add-div' q n in
      let both : page + (q / n - page) ≡ q / n = omega (arith, more) in
      let turned : n * (q / n) ≡ q / n * n = mul_comm n (q / n) in
      let each : n * (page + (q / n - page)) ≡ n * (q / n) = ap (λ k. n * k) both in
      let all : q ≡ n * (page + (q / n - page)) = omega (arith, whole, split, each, turned) in
      let least : 1 * (q / n) ≤ n * (q / n) = mul-le-mul_right (q / n) some in
      let P : Way → Type 0 = λ v. Fits q v in
      subst P (if_true _ found w is).1 (record {
        geometry = laid_out (layout_sizes (page * n) o page) passes.4;
        count = n;
        pages = mul_comm page n;
        all = all;
        end = omega (arith, least, all, each, large, both);
      })

pub ways_fit : (q : ℕ) (o : EcOffsets) → All (Fits q) (ways q o)
ways_fit q o =
    all_flat (Fits q) (λ page. filter_map (way_of q o page) page_counts)
    (λ page. all_found (Fits q) (way_of q o page) (with_fits q o page) page_counts) page_sizes

module _ (q : ℕ) (w : Way) (fits : Fits q w) where
  -- what stands in an eraseblock without its out-of-band bytes stands in it with them
  pub put_inside : (x : ℕ) → x + 64 ≤ w.geometry.peb_size → put w x + 64 ≤ q
  put_inside x few =
      let page = w.geometry.page in
      let both = w.geometry.page + w.oob in
      let a = x / page in
      let n = fits.count in
      let from = fits.geometry.page_from in
      let split = mod-add-div' x page in
      let rest : x % page < page = mod-lt x (omega (arith, from)) in
      let pages = fits.pages in
      let all = fits.all in
      let less : a < n = lt_of_mul-lt-mul_right page (omega (arith, split, few, pages)) in
      elim (within_or_past (a + 2) n) [
        | inl inner ↦ (let m : (a + 2) * both ≤ n * both = mul-le-mul_right both inner in
            let two : (a + 2) * both ≡ a * both + (both + both) = twice a both in omega (arith, m, two, all, rest, from))
        | inr last ↦ (let same : n ≡ a + 1 = omega (arith, less, last) in
            let p : n * page ≡ a * page + page = ap (λ k. k * page) same ∙ once a page in
            let b : n * both ≡ a * both + both = ap (λ k. k * both) same ∙ once a both in
            omega (arith, p, b, all, split, few, pages))
      ]
    where
      once : (a b : ℕ) → (a + 1) * b ≡ a * b + b
      once a b = grind arith

      twice : (a b : ℕ) → (a + 2) * b ≡ a * b + (b + b)
      twice a b = grind arith

  pub vid_inside : put w w.geometry.vid_offset + 64 ≤ q
  vid_inside =
      let from = fits.geometry.data_from in
      let leb = fits.geometry.leb in put_inside w.geometry.vid_offset (omega (arith, from, leb))

  pub record_inside : put w (w.geometry.data_offset + record_size * (slots w.geometry - 1)) + 64 ≤ q
  record_inside =
      let leb = fits.geometry.leb in put_inside (w.geometry.data_offset + record_size * (slots w.geometry - 1)) (omega (arith, leb))
