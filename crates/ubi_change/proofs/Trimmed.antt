-- A text that is written without the blank pages at its end reads as a whole.
use Rattle.ubi_change.proofs.Prelude.{◌≡◌, ℕ, ◌+◌, ◌-◌, ◌*◌, ◌%◌, ◌≤◌, List, ◌++◌, append_assoc, length, ap, sym, ◌∙◌, arith, length-take-le, mod-mul-add, mul-le, blank, filled, IsGeometry, Sizes, leb_size, filled-by, filled-is, join_blank, length-filled, pieces, pieces_few, pieces_suffice, pages_needed, pages_of, trimmed}
use Rattle.ubi_change.proofs.TablePages.{leb_pages, some_page}
use Rattle.ubi_change.proofs.Torn.{IsWholePlace, pages-all, whole_place-is}

module _ (s : Sizes) (g : IsGeometry s) (text : List ℕ) (few : length text ≤ leb_size s) where
  -- as many bytes as whole pages have
  abbrev all : ℕ
  all = pieces s.page (length text) * s.page

  abbrev whole : List ℕ
  whole = filled all text

  abbrev needed : ℕ
  needed = pages_needed s whole * s.page

  pub enough : length text ≤ all
  enough = pieces_suffice s.page (some_page s g) (length text)

  pub long : length whole ≡ all
  long = length-filled all text enough

  paged : length whole % s.page ≡ 0
  paged =
      let n = pieces s.page (length text) in
      let sum : n * s.page ≡ n * s.page + 0 = omega arith in
      ap (λ k. k % s.page) (long ∙ sum) ∙ mod-mul-add n s.page 0 (let k = some_page s g in omega arith)

  pub short : all ≤ leb_size s
  short =
      let k = leb_pages s g in
      let most = pieces_few s.page (some_page s g) (length text) k.0 (let e = k.1 in omega arith) in
      let l = mul-le (pieces s.page (length text)) s.page k.0 s.page most (omega arith) in
      let e = k.1 in
      omega arith

  place : IsWholePlace s whole paged (pages_needed s whole)
  place = whole_place-is s whole paged

  pub below : needed ≤ all
  below =
      let m = mul-le (pages_needed s whole) s.page (pages_of s whole) s.page place.most (omega arith) in
      let n = pages-all s whole paged in
      let l = long in
      omega arith

  pub length-trimmed : length (trimmed s text) ≡ needed
  length-trimmed = length-take-le needed whole (let l = long in let k = below in omega arith)

  pub trimmed_paged : length (trimmed s text) % s.page ≡ 0
  trimmed_paged =
      let n = pages_needed s whole in
      let sum : n * s.page ≡ n * s.page + 0 = omega arith in
      ap (λ k. k % s.page) (length-trimmed ∙ sum) ∙ mod-mul-add n s.page 0 (let k = some_page s g in omega arith)

  pub trimmed_room : s.data_offset + length (trimmed s text) ≤ s.peb_size
  trimmed_room = let l = length-trimmed in let k = below in let h = short in let room = g.leb in omega arith

  -- with the rest of the pages it is the whole
  rest : trimmed s text ++ blank (all - needed) ≡ whole
  rest =
      let size : length whole - needed ≡ all - needed = (let l = long in omega arith) in
      ap (λ k. trimmed s text ++ blank k) (sym size)
      ∙ sym (filled-by (length whole) needed (trimmed s text) length-trimmed)
      ∙ place.whole

  pub trimmed_reads : trimmed s text ++ blank (s.peb_size - (s.data_offset + length (trimmed s text)))
      ≡ text ++ blank (s.peb_size - (s.data_offset + length text))
  trimmed_reads =
      let room = g.leb in
      let behind : ℕ = s.peb_size - (s.data_offset + all) in
      let first : s.peb_size - (s.data_offset + length (trimmed s text)) ≡ (all - needed) + behind =
      (let l = length-trimmed in let k = below in let h = short in omega arith) in
      let second : (all - length text) + behind ≡ s.peb_size - (s.data_offset + length text) =
      (let k = enough in let h = short in omega arith) in
      ap (λ k. trimmed s text ++ blank k) first
      ∙ ap (λ xs. trimmed s text ++ xs) (sym (join_blank (all - needed) behind))
      ∙ sym (append_assoc (trimmed s text) (blank (all - needed)) (blank behind))
      ∙ ap (λ xs. xs ++ blank behind) (rest ∙ filled-is all text)
      ∙ append_assoc text (blank (all - length text)) (blank behind)
      ∙ ap (λ xs. text ++ xs) (join_blank (all - length text) behind)
      ∙ ap (λ k. text ++ blank k) second
