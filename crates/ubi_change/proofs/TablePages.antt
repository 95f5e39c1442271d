-- The pages of a table: how many bytes they have, and that a copy with them is good.
use Rattle.ubi_change.proofs.Prelude.{◌≡◌, ℕ, ◌+◌, ◌-◌, ◌*◌, ◌/◌, ◌%◌, ◌^◌, ◌<◌, ◌≤◌, inl, inr, List, ◌++◌, append_assoc, length, ap, sym, ◌∙◌, arith, div-add-mod, mod-mul-add, mul-le, cases_lt, blank, IsGeometry, Sizes, leb_size, slots, leb, filled-is, length-filled, AreRecords, Records, table_bytes, copy_of, length-table_bytes, reads_back, pieces, pieces_few, pieces_suffice, table_pages}
use Rattle.std.proofs.Common.{min}
use Rattle.ubi_table.specs.declared.copy.CopyRead.TheVariants as copy

-- what two multiples of a number differ by is one
differ : (n d page a b : ℕ) → n ≡ page * a → d ≡ page * b → d ≤ n → 1 ≤ page → (k : ℕ) × (n - d ≡ k * page)
differ n d page a b e f l some =
    let least : b ≤ a = elim (cases_lt a b) [
      | inl less ↦ (let m = mul-le (a + 1) page b page (omega arith) (omega arith) in absurd (omega arith))
      | inr most ↦ most
    ] in
    let sum : a ≡ b + (a - b) = omega arith in
    let all : page * a ≡ page * (b + (a - b)) = ap (λ k. page * k) sum in
    (a - b, omega arith)

module _ (s : Sizes) (g : IsGeometry s) where
  pub leb_pages : (k : ℕ) × (leb_size s ≡ k * s.page)
  leb_pages =
      let a = div-add-mod s.peb_size s.page in
      let b = div-add-mod s.data_offset s.page in
      differ s.peb_size s.data_offset s.page (s.peb_size / s.page) (s.data_offset / s.page)
      (omega (arith, g.peb_pages)) (omega (arith, g.data_pages)) (omega (arith, g.leb)) (omega (arith, g.page_from))

  pub some_page : 1 ≤ s.page
  some_page = omega (arith, g.page_from)

  module _ (t : Records) (size : length (table_bytes t) ≡ slots s * 172) where
    enough : length (table_bytes t) ≤ pieces s.page (length (table_bytes t)) * s.page
    enough = pieces_suffice s.page some_page (length (table_bytes t))

    length-pages : length (table_pages s t) ≡ pieces s.page (length (table_bytes t)) * s.page
    length-pages = length-filled (pieces s.page (length (table_bytes t)) * s.page) (table_bytes t) enough

    pub pages_some : 1 ≤ length (table_pages s t)
    pages_some =
        let one : 1 ≤ slots s = (let room = g.leb in at_least (leb_size s) (omega arith)) in
        let l = length-pages in let e = enough in omega arith
      where
        at_least : (n : ℕ) → 172 ≤ n → 1 ≤ min 128 (n / 172)
        at_least n l = omega arith

    pub pages_paged : length (table_pages s t) % s.page ≡ 0
    pages_paged =
        let n = pieces s.page (length (table_bytes t)) in
        let sum : n * s.page ≡ n * s.page + 0 = omega arith in
        ap (λ k. k % s.page) (length-pages ∙ sum) ∙ mod-mul-add n s.page 0 (let k = some_page in omega arith)

    pub pages_short : length (table_pages s t) ≤ leb_size s
    pages_short =
        let k = leb_pages in
        let few : length (table_bytes t) ≤ k.0 * s.page = (let e = k.1 in omega arith) in
        let most = pieces_few s.page some_page (length (table_bytes t)) k.0 few in
        let all = mul-le (pieces s.page (length (table_bytes t))) s.page k.0 s.page most (omega arith) in
        let l = length-pages in let e = k.1 in omega arith

    pub pages_room : s.data_offset + length (table_pages s t) ≤ s.peb_size
    pages_room = let k = pages_short in let l = g.leb in omega arith

    pub pages_few : length (table_pages s t) < 2 ^ 31
    pages_few = let k = pages_short in omega (arith, g.peb_to)

  module _ (t : Records) (same : t.sizes ≡ s) (are : AreRecords t) where
    pub bytes_size : length (table_bytes t) ≡ slots s * 172
    bytes_size = length-table_bytes t are ∙ ap (λ (z : Sizes). slots z * 172) same

    -- a LEB that begins with them is a good copy
    pub pages_read : (b : List ℕ) (k : ℕ) → leb s b ≡ table_pages s t ++ blank k → copy_of s (leb s b) ≡ copy.Good t
    pages_read b k held =
        let n = pieces s.page (length (table_bytes t)) * s.page in
        let rest = blank (n - length (table_bytes t)) ++ blank k in
        let is : leb s b ≡ table_bytes t ++ rest =
        held ∙ ap (λ ys. ys ++ blank k) (filled-is n (table_bytes t))
        ∙ append_assoc (table_bytes t) (blank (n - length (table_bytes t))) (blank k) in
        ap (copy_of s) is ∙ ap (λ (z : Sizes). copy_of z (table_bytes t ++ rest)) (sym same) ∙ reads_back t rest are
