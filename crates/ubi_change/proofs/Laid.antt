-- What the programs of its pages do to an eraseblock with two headers and the first bytes of a LEB.
use Rattle.ubi_change.proofs.Prelude.{◌≡◌, ℕ, ◌+◌, ◌-◌, ◌*◌, ◌/◌, ◌%◌, ◌<◌, ◌≤◌, inl, inr, true, false, cond, List, [], ◌++◌, append_assoc, append-nil, length, ap, sym, ◌∙◌, arith, length-append, nat_lt, div-add-mod, div-eq_of_lt, mod-lt, nat_tests, mul-le, cases_lt, blank, filled, overwrite, Sizes, IsGeometry, zero_or_more, filled-by, filled-none, filled_inner, filled_more, join_blank, length-filled, overwrite_filled, overwrite_front, laid}
use Rattle.ubi_change.proofs.PagePlaces.{vid_beside, vid_left, vid_page_within}
use Rattle.ubi_scan.proofs.Parts as parts

less_test : (a b : ℕ) → a < b → nat_lt a b ≡ true
less_test a b l = grind (arith, nat_tests)

not_less_test : (a b : ℕ) → b ≤ a → nat_lt a b ≡ false
not_less_test a b l = grind (arith, nat_tests)

module _ (s : Sizes) (g : IsGeometry s) (ec vid : List ℕ) (ec_size : length ec ≡ 64) (vid_size : length vid ≡ 64) where
  abbrev front : List ℕ
  front = parts.front s g ec vid ec_size vid_size

  abbrev headers : List ℕ
  headers = parts.headers s g ec vid ec_size vid_size

  length-with_vid : length (front ++ vid) ≡ s.vid_offset + 64
  length-with_vid = parts.length-with_vid s g ec vid ec_size vid_size

  length-headers : length headers ≡ s.data_offset
  length-headers = parts.length-headers s g ec vid ec_size vid_size

  -- a page of the text, behind those before it
  pub page_written : (text c : List ℕ) (i : ℕ) → length text ≡ i * s.page
      → overwrite (s.data_offset + i * s.page) c (laid s ec vid text) ≡ laid s ec vid (text ++ c)
  page_written text c i e =
      let at : length (headers ++ text) ≡ s.data_offset + i * s.page = length-append headers text
      ∙ omega (arith, length-headers, e) in
      overwrite_filled s.peb_size (s.data_offset + i * s.page) (headers ++ text) c at
      ∙ ap (filled s.peb_size) (append_assoc headers text c)

  laid-none : laid s ec vid [] ≡ filled s.peb_size (front ++ vid)
  laid-none =
      ap (filled s.peb_size) (append-nil headers)
      ∙ filled_more s.peb_size s.data_offset (front ++ vid) (omega (arith, length-with_vid, g.data_from))
      (omega (arith, g.leb))

  abbrev page_start : ℕ
  page_start = s.vid_offset / s.page * s.page

  rest_place : page_start + s.vid_offset % s.page ≡ s.vid_offset
  rest_place = let e = div-add-mod s.vid_offset s.page in omega arith

  -- the header's page, where it isn't page 0
  header_apart : s.page ≤ s.vid_offset → overwrite page_start (filled s.page (filled (s.vid_offset % s.page) [] ++ vid))
      (filled s.peb_size ec) ≡ laid s ec vid []
  header_apart far =
      let less : s.vid_offset % s.page < s.page = mod-lt s.vid_offset (omega (arith, g.page_from)) in
      let some : 1 ≤ s.vid_offset / s.page = elim (zero_or_more (s.vid_offset / s.page)) [
        | inl z ↦ (let none : page_start ≡ 0 = ap (λ q. q * s.page) z
            ∙ omega arith in let r = rest_place in omega arith)
        | inr m ↦ m
      ] in
      let one : 1 * s.page ≤ page_start = mul-le 1 s.page (s.vid_offset / s.page) s.page some (omega arith) in
      let r = s.vid_offset % s.page in
      let place = rest_place in
      let first : filled s.peb_size ec ≡ filled s.peb_size (filled page_start ec) =
      sym (filled_more s.peb_size page_start ec (omega (arith, ec_size, g.page_from))
      (omega (arith, g.data_from, g.leb))) in
      let start : length (filled page_start ec) ≡ page_start =
      length-filled page_start ec (omega (arith, ec_size, g.page_from)) in
      let inner : length (filled r [] ++ vid) ≡ r + 64 = length-append (filled r []) vid
      ∙ (let k = length-filled r [] (omega arith) in omega (arith, vid_size)) in
      let gap : page_start - 64 + r ≡ s.vid_offset - 64 = omega (arith, g.page_from) in
      let join : filled page_start ec ++ filled r [] ≡ front =
      ap (λ x. x ++ filled r []) (filled-by page_start 64 ec ec_size)
      ∙ ap (λ x. (ec ++ blank (page_start - 64)) ++ x) (filled-none r)
      ∙ append_assoc ec (blank (page_start - 64)) (blank r)
      ∙ ap (λ x. ec ++ x) (join_blank (page_start - 64) r ∙ ap blank gap)
      ∙ sym (filled-by s.vid_offset 64 ec ec_size) in
      ap (overwrite page_start (filled s.page (filled r [] ++ vid))) first
      ∙ overwrite_filled s.peb_size page_start (filled page_start ec) (filled s.page (filled r [] ++ vid)) start
      ∙ filled_inner s.peb_size s.page (filled page_start ec) (filled r [] ++ vid) (page_holds r inner (vid_left s g))
      (page_within start)
      ∙ ap (filled s.peb_size) (sym (append_assoc (filled page_start ec) (filled r []) vid) ∙ ap (λ x. x ++ vid) join)
      ∙ sym laid-none
    where
      page_holds : (r : ℕ) → length (filled r [] ++ vid) ≡ r + 64 → r + 64 ≤ s.page
          → length (filled r [] ++ vid) ≤ s.page
      page_holds r e l = omega arith

      page_within : length (filled page_start ec) ≡ page_start → length (filled page_start ec) + s.page ≤ s.peb_size
      page_within e = let k = vid_page_within s g in let l = g.leb in omega arith

  -- and where it is
  header_beside : s.vid_offset < s.page
      → overwrite page_start (filled s.page (filled (s.vid_offset % s.page) ec ++ vid)) (filled s.peb_size ec)
      ≡ laid s ec vid []
  header_beside near =
      let q : s.vid_offset / s.page ≡ 0 = div-eq_of_lt near in
      let z : page_start ≡ 0 = ap (λ q. q * s.page) q ∙ omega arith in
      let r : s.vid_offset % s.page ≡ s.vid_offset = (let e = rest_place in omega arith) in
      let size : length (filled s.page (front ++ vid)) ≡ s.page = length-filled s.page (front ++ vid) (beside near) in
      ap (λ p. overwrite p (filled s.page (filled (s.vid_offset % s.page) ec ++ vid)) (filled s.peb_size ec)) z
      ∙ ap (λ r. overwrite 0 (filled s.page (filled r ec ++ vid)) (filled s.peb_size ec)) r
      ∙ overwrite_front s.peb_size s.page (filled s.page (front ++ vid)) ec (omega (arith, ec_size, g.page_from)) size
      ∙ filled_more s.peb_size s.page (front ++ vid) (beside near) g.peb_from
      ∙ sym laid-none
    where
      beside : s.vid_offset < s.page → length (front ++ vid) ≤ s.page
      beside l = let k = vid_beside s g l in let n = length-with_vid in omega arith

  pub header_written : overwrite page_start
      (filled s.page (filled (s.vid_offset % s.page) (cond (nat_lt s.vid_offset s.page) ec []) ++ vid))
      (filled s.peb_size ec) ≡ laid s ec vid []
  header_written = elim (cases_lt s.vid_offset s.page) [
    | inl l ↦ ap (λ t. overwrite page_start (filled s.page (filled (s.vid_offset % s.page) (cond t ec []) ++ vid))
        (filled s.peb_size ec)) (less_test _ _ l) ∙ header_beside l
    | inr l ↦ ap (λ t. overwrite page_start (filled s.page (filled (s.vid_offset % s.page) (cond t ec []) ++ vid))
        (filled s.peb_size ec)) (not_less_test _ _ l) ∙ header_apart l
  ]
