-- A piece whose last page has a byte that isn't 0xFF: all its pages are programmed, whatever comes before.
use Rattle.ubi_change.proofs.Prelude.{◌≡◌, ℕ, ◌+◌, ◌-◌, ◌*◌, ◌/◌, ◌%◌, ◌<◌, ◌≤◌, Bool, true, false, List, ◌++◌, length, take, drop, slice_range, refl, ap, sym, ◌∙◌, subst, arith, ◌&&◌, ◌==◌, Some, append_assoc, drop-append_seam, div-mul-add, mod-mul-add, drop-drop, length-drop, length-take-le, take-append-drop, take_all, list_all-append, is_blank, blank, filled-is, length-filled, Sizes, pieces, whole_text, pages_needed, is_left_out, piece_text, Piece, VolKind, laying_of, drop_all, drop-take, IsInBuffer, IsLastPage, full_laying}
use Rattle.ubi_media.specs.declared.vid.VolKind.TheVariants as kind
use Rattle.ubi_change.proofs.TrimmedPages.{needed_is}

module _ (xs ys : List ℕ) where
  behind : (a b : Bool) → b ≡ false → (a && b) ≡ false
  behind true b e = e
  behind false b e = refl

  before : (a b : Bool) → a ≡ false → (a && b) ≡ false
  before true b e = absurd (cc)
  before false b e = refl

  parts : is_blank (xs ++ ys) ≡ (is_blank xs && is_blank ys)
  parts = list_all-append (λ b. b == 255) xs ys

  pub not_blank_behind : is_blank ys ≡ false → is_blank (xs ++ ys) ≡ false
  not_blank_behind e = parts ∙ behind (is_blank xs) (is_blank ys) e

  pub not_blank_before : is_blank xs ≡ false → is_blank (xs ++ ys) ≡ false
  not_blank_before e = parts ∙ before (is_blank xs) (is_blank ys) e

module _ (s : Sizes) (k n : ℕ) (text tail : List ℕ) (some : 0 < n) (within : n ≤ s.page) (cut : drop (k * s.page) text ≡ tail) (long : length tail ≡ n) (byte : is_blank tail ≡ false) where
  left : length text - k * s.page ≡ n
  left = sym (length-drop (k * s.page) text) ∙ ap (λ (xs : List ℕ). length xs) cut ∙ long

  pub all : length text ≡ k * s.page + n
  all = (let l = left in omega (arith, l, some))

  more : (k + 1) * s.page ≡ k * s.page + s.page
  more = omega arith

  pub count : pieces s.page (length text) ≡ k + 1
  count =
      let m = more in
      let a = all in
      let e : length text + (s.page - 1) ≡ (k + 1) * s.page + (n - 1) = omega (arith, m, a, some, within) in
      ap (λ m. m / s.page) e ∙ div-mul-add (k + 1) s.page (n - 1) (omega (arith, some, within))

  abbrev pub whole : List ℕ
  whole = whole_text s text

  size : length whole ≡ (k + 1) * s.page
  size =
      let m = more in
      let a = all in
      let c : pieces s.page (length text) * s.page ≡ (k + 1) * s.page = ap (λ m. m * s.page) count in
      length-filled (pieces s.page (length text) * s.page) text (omega (arith, c, m, a, within)) ∙ c

  abbrev pub rest : ℕ
  rest = (k + 1) * s.page - length text

  whole_is : whole ≡ text ++ blank rest
  whole_is =
      filled-is (pieces s.page (length text) * s.page) text ∙ ap (λ m. text ++ blank (m * s.page - length text)) count

  last : drop (k * s.page) whole ≡ tail ++ blank rest
  last =
      let a = all in
      let front : List ℕ = take (k * s.page) text in
      let f : length front ≡ k * s.page = length-take-le (k * s.page) text (omega (arith, a)) in
      let split : whole ≡ front ++ (tail ++ blank rest) =
      whole_is ∙ ap (λ xs. xs ++ blank rest) (sym (take-append-drop (k * s.page) text) ∙ ap (λ xs. front ++ xs) cut)
      ∙ append_assoc front tail (blank rest) in
      ap (λ m. drop m whole) (sym f) ∙ ap (λ xs. drop (length front) xs) split ∙ drop-append_seam front (tail ++ blank rest)

  pub needed : pages_needed s whole ≡ k + 1
  needed =
      let a = all in
      let m = more in
      let z = size in
      let paged : length whole % s.page ≡ 0 = (let e : length whole ≡ (k + 1) * s.page + 0 = omega (arith, z) in
      ap (λ m. m % s.page) e ∙ mod-mul-add (k + 1) s.page 0 (omega (arith, some, within))) in
      let most : k + 1 ≤ length whole / s.page = (let e : length whole ≡ (k + 1) * s.page + 0 = omega (arith, z) in
      let d = ap (λ m. m / s.page) e ∙ div-mul-add (k + 1) s.page 0 (omega (arith, some, within)) in omega (arith, d)) in
      let end : is_blank (drop ((k + 1) * s.page) whole) ≡ true =
      ap is_blank (drop_all ((k + 1) * s.page) whole (omega (arith, z))) in
      let page : is_blank (take s.page (drop (k * s.page) whole)) ≡ false =
      ap (λ xs. is_blank (take s.page xs)) last
      ∙ ap is_blank (take_all s.page (tail ++ blank rest) (let l = ap (λ (xs : List ℕ). length xs) (sym last) ∙ length-drop (k * s.page) whole in omega (arith, l, z, m)))
      ∙ not_blank_before tail (blank rest) byte in
      sym (needed_is s whole (k + 1) paged most end (λ _. ap (λ m. is_blank (take s.page (drop (m * s.page) whole))) (omega arith) ∙ page))

  pub kept : (v : VolKind) → is_left_out v text ≡ false
  kept kind.Static = refl
  kept kind.Dynamic =
      ap is_blank (sym (take-append-drop (k * s.page) text) ∙ ap (λ xs. take (k * s.page) text ++ xs) cut)
      ∙ not_blank_behind (take (k * s.page) text) tail byte

module _ (s : Sizes) (bytes buffer : List ℕ) (q last : Piece) (is : IsLastPage s q last) where
  abbrev pub text : List ℕ
  text = slice_range bytes is.start (is.start + q.len)

  abbrev pub tail : List ℕ
  tail = take last.len (drop s.data_offset buffer)

  module _ (held : IsInBuffer s last.origin last.len buffer bytes) (room : s.data_offset + last.len ≤ length buffer) (byte : is_blank tail ≡ false) where
    abbrev pub from : ℕ
    from = is.start + is.before * s.page

    read : tail ≡ slice_range bytes from (from + last.len)
    read = subst (λ o. IsInBuffer s o last.len buffer bytes) is.at held

    cut : drop (is.before * s.page) text ≡ tail
    cut =
        let f : ℕ = is.before * s.page in
        let a = is.all in
        let one : is.start + q.len - is.start ≡ f + last.len = omega (arith, a) in
        let two : last.len ≡ from + last.len - from = omega arith in
        ap (λ m. drop f (take m (drop is.start bytes))) one
        ∙ drop-take f last.len (drop is.start bytes)
        ∙ ap (take last.len) (drop-drop f is.start bytes)
        ∙ ap (λ m. take m (drop from bytes)) two
        ∙ sym read

    long : length tail ≡ last.len
    long = length-take-le last.len (drop s.data_offset buffer) (let l = length-drop s.data_offset buffer in omega (arith, l, room))

    pub full_is : laying_of s bytes q ≡ Some (full_laying s q)
    full_is =
        let pages : pages_needed s (whole_text s text) ≡ pieces s.page q.len =
        needed s is.before last.len text tail is.some is.within cut long byte
        ∙ sym (count s is.before last.len text tail is.some is.within cut long byte)
        ∙ ap (pieces s.page) (all s is.before last.len text tail is.some is.within cut long byte ∙ is.all) in
        let stays : is_left_out q.header.kind (piece_text s q.origin q.len bytes) ≡ false =
        ap (λ o. is_left_out q.header.kind (piece_text s o q.len bytes)) is.from
        ∙ kept s is.before last.len text tail is.some is.within cut long byte q.header.kind in
        let much : pages_needed s (whole_text s (piece_text s q.origin q.len bytes)) ≡ pieces s.page q.len =
        ap (λ o. pages_needed s (whole_text s (piece_text s o q.len bytes))) is.from ∙ pages in
        rw stays (ap (λ (n : ℕ). Some (record { piece = q; pages = n })) much)
