-- The steps of a copy fit: the header on an eraseblock that was made ready, and then the pages of its contents.
use Rattle.ubi_change.proofs.Prelude.{◌≡◌, ℕ, zero, suc, ◌+◌, ◌-◌, ◌*◌, ◌/◌, ◌%◌, ◌^◌, ◌<◌, ◌≤◌, inl, inr, Bool, true, false, cond, List, [], ◌∷◌, ◌++◌, append_assoc, length, map, take, drop, replicate, refl, ap, ap₂, sym, ◌∙◌, subst, arith, length-append, length-drop, length-set, get_or-set_same, nat_lt, byte_at, bytes_high_first, enumerate_from, first_chunks, div-add-mod, div-eq_of_lt, mod-lt, nat_tests, length-take-le, mul-le, cases_lt, crc_of, ec_bytes, ec_front, AreBytes, blank, filled, overwrite, IsGeometry, Sizes, fields_from, kind_number, vid_bytes, vid_front, EcHeader, VidHeader, VolKind, bytes-append, bytes-blank, bytes-drop, bytes-take, zero_or_more, block, filled-by, filled-is, length-blank, length-filled, laid, only_clears, page_of, vid_page, program_header, program_text, step_done, pages_of}
use Rattle.std.specs.Prelude.{slice_range}
use Rattle.ubi_media.specs.declared.vid.VolKind.TheVariants as kind
use Rattle.ubi_scan.proofs.Parts as parts
use Rattle.ubi_change.specs.declared.step.Step.TheVariants as step
use Rattle.ubi_change.proofs.Fits.{FitAll, blank_page, clears-append, clears_blank, clears_same, program_fits}
use Rattle.ubi_change.proofs.Laid.{header_written, page_written}
use Rattle.ubi_change.proofs.PagePlaces.{data_pages, vid_before, vid_beside, vid_left}
use Rattle.ubi_change.proofs.Written.{take_filled}

-- what headers are made of are bytes
byte_small : (k n : ℕ) → byte_at k n < 256
byte_small zero n = mod-lt n (omega arith)
byte_small (suc k) n = mod-lt (n / 256 ^ suc k) (omega arith)

bytes-number : (k n : ℕ) → AreBytes (bytes_high_first k n)
bytes-number zero n = tt
bytes-number (suc k) n = (byte_small k n, bytes-number k n)

bytes-zeros : (n : ℕ) → AreBytes (replicate n 0)
bytes-zeros zero = tt
bytes-zeros (suc n) = (omega arith, bytes-zeros n)

kind_small : (k : VolKind) → kind_number k < 256
kind_small kind.Dynamic = omega arith
kind_small kind.Static = omega arith

flag_small : (b : Bool) → cond b 1 0 < 256
flag_small true = omega arith
flag_small false = omega arith

-- bytes, with the proof that they are
abbrev Proved : Type 0
Proved = (xs : List ℕ) × AreBytes xs

abbrev then : Proved → Proved → Proved
then p q = (p.0 ++ q.0, bytes-append p.0 q.0 p.1 q.1)

abbrev number : ℕ → ℕ → Proved
number k n = (bytes_high_first k n, bytes-number k n)

abbrev zeros : ℕ → Proved
zeros n = (replicate n 0, bytes-zeros n)

pub bytes-ec : (s : Sizes) (e : EcHeader) → AreBytes (ec_bytes s e)
bytes-ec s e =
    let version : AreBytes (1 ∷ 0 ∷ 0 ∷ 0 ∷ []) = (omega arith, (omega arith, (omega arith, (omega arith, tt)))) in
    let front : Proved =
    then (then
    (then (then (then (then (number 4 0x55424923) (1 ∷ 0 ∷ 0 ∷ 0 ∷ [], version)) (number 8 e.counter))
    (number 4 s.vid_offset)) (number 4 s.data_offset)) (number 4 e.image_seq)) (zeros 32) in
    bytes-append (ec_front s e) (bytes_high_first 4 (crc_of (ec_front s e))) front.1
    (bytes-number 4 (crc_of (ec_front s e)))

pub bytes-vid : (h : VidHeader) → h.compat < 256 → AreBytes (vid_bytes h)
unfolding fields_from
bytes-vid h small =
    let kinds : AreBytes (1 ∷ kind_number h.kind ∷ cond h.copy_flag 1 0 ∷ h.compat ∷ []) =
    (omega arith, (kind_small h.kind, (flag_small h.copy_flag, (small, tt)))) in
    let start : Proved =
    then (then (number 4 0x55424921) (1 ∷ kind_number h.kind ∷ cond h.copy_flag 1 0 ∷ h.compat ∷ [], kinds))
    (number 4 h.vol_id) in
    let sizes : Proved =
    then (then (then (then (then start (number 4 h.lnum)) (zeros 4)) (number 4 h.data_size)) (number 4 h.used_ebs))
    (number 4 h.data_pad) in
    let front : Proved = then (then (then (then sizes (number 4 h.data_crc)) (zeros 4)) (number 8 h.sqnum))
    (zeros 12) in
    bytes-append (vid_front (fields_from h)) (bytes_high_first 4 (crc_of (vid_front (fields_from h)))) front.1
    (bytes-number 4 (crc_of (vid_front (fields_from h))))

pub bytes-filled : (n : ℕ) (xs : List ℕ) → AreBytes xs → AreBytes (filled n xs)
bytes-filled n xs a = subst AreBytes (sym (filled-is n xs))
    (bytes-append xs (blank (n - length xs)) a (bytes-blank (n - length xs)))

zero_front : (n : ℕ) → 0 + n - 0 ≡ n
zero_front n = omega arith

less_test : (a b : ℕ) → a < b → nat_lt a b ≡ true
less_test a b l = grind (arith, nat_tests)

not_less_test : (a b : ℕ) → b ≤ a → nat_lt a b ≡ false
not_less_test a b l = grind (arith, nat_tests)

module _ (s : Sizes) (g : IsGeometry s) where
  -- a page that ends in the eraseblock is one of its pages
  pub page_inside : (page : ℕ) → page * s.page + s.page ≤ s.peb_size → page < s.peb_size / s.page
  page_inside page l = elim (cases_lt page (s.peb_size / s.page)) [
    | inl k ↦ k
    | inr k ↦
        let m = mul-le (s.peb_size / s.page) s.page page s.page k (omega arith) in
        let split = div-add-mod s.peb_size s.page in
        let rest = g.peb_pages in
        let some = g.page_from in
        absurd (omega arith)
  ]

  module _ (ec : List ℕ) (ec_size : length ec ≡ 64) (h : VidHeader) (small : h.compat < 256) where
    abbrev r : ℕ
    r = s.vid_offset % s.page

    vid_size : length (vid_bytes h) ≡ 64
    vid_size = refl

    length-page : (front : List ℕ) → length front ≤ r → length (filled s.page (filled r front ++ vid_bytes h)) ≡ s.page
    length-page front l =
        let n = length-append (filled r front) (vid_bytes h) in
        let k = length-filled r front l in
        let room = vid_left s g in
        let size = vid_size in
        length-filled s.page (filled r front ++ vid_bytes h) (omega arith)

    -- the header's page, where it isn't page 0
    clears_apart : s.page ≤ s.vid_offset → only_clears (page_of s (filled s.peb_size ec) (s.vid_offset / s.page))
        (filled s.page (filled r [] ++ vid_bytes h)) ≡ true
    clears_apart far =
        let split = div-add-mod s.vid_offset s.page in
        let less : r < s.page = mod-lt s.vid_offset (omega (arith, g.page_from)) in
        let some : 1 ≤ s.vid_offset / s.page = elim (zero_or_more (s.vid_offset / s.page)) [
          | inl z ↦ (let none : s.page * (s.vid_offset / s.page) ≡ 0 = ap (λ q. s.page * q) z
              ∙ omega arith in omega arith)
          | inr m ↦ m
        ] in
        let one : 1 * s.page ≤ s.vid_offset / s.page * s.page =
        mul-le 1 s.page (s.vid_offset / s.page) s.page some (omega arith) in
        let turned : s.page * (s.vid_offset / s.page) ≡ s.vid_offset / s.page * s.page = omega arith in
        let room = vid_left s g in
        let from : length ec ≤ s.vid_offset / s.page * s.page = omega (arith, g.page_from) in
        let to : s.vid_offset / s.page * s.page + s.page ≤ length ec + (s.peb_size - 64) = header_ends split in
        let here : page_of s (filled s.peb_size ec) (s.vid_offset / s.page) ≡ blank s.page =
        ap (λ b. page_of s b (s.vid_offset / s.page)) (filled-by s.peb_size 64 ec ec_size)
        ∙ blank_page s ec (s.peb_size - 64) (s.vid_offset / s.page) from to in
        ap (λ b. only_clears b (filled s.page (filled r [] ++ vid_bytes h))) here
        ∙ clears_blank (filled s.page (filled r [] ++ vid_bytes h)) s.page (length-page [] (omega arith))
        (bytes-filled s.page (filled r [] ++ vid_bytes h)
        (bytes-append (filled r []) (vid_bytes h) (bytes-filled r [] tt) (bytes-vid h small)))
      where
        header_ends : s.page * (s.vid_offset / s.page) + r ≡ s.vid_offset
            → s.vid_offset / s.page * s.page + s.page ≤ length ec + (s.peb_size - 64)
        header_ends split =
            let before = vid_before s g in
            let m = mul-le (s.vid_offset / s.page + 1) s.page (s.data_offset / s.page) s.page (omega arith)
            (omega arith) in
            let d = data_pages s g in
            let l = g.leb in
            let size = ec_size in
            let page = g.page_from in
            let peb = g.peb_from in
            omega arith

    -- and where it is
    clears_beside : s.vid_offset < s.page
        → only_clears (page_of s (filled s.peb_size ec) (s.vid_offset / s.page))
        (filled s.page (filled r ec ++ vid_bytes h)) ≡ true
    clears_beside near =
        let q : s.vid_offset / s.page ≡ 0 = div-eq_of_lt near in
        let v : r ≡ s.vid_offset = (let e = div-add-mod s.vid_offset s.page in
        let z : s.page * (s.vid_offset / s.page) ≡ 0 = ap (λ n. s.page * n) q ∙ omega arith in omega arith) in
        let room = vid_beside s g near in
        let from = g.vid_from in
        let front : length (filled r ec ++ vid_bytes h) ≡ s.vid_offset + 64 = length-append (filled r ec) (vid_bytes h)
        ∙ (let k = length-filled r ec (omega arith) in let size = vid_size in omega arith) in
        let tail = blank (r - 64) ++ (vid_bytes h ++ blank (s.page - (s.vid_offset + 64))) in
        let new : filled s.page (filled r ec ++ vid_bytes h) ≡ ec ++ tail =
        filled-by s.page (s.vid_offset + 64) (filled r ec ++ vid_bytes h) front
        ∙ ap (λ x. (x ++ vid_bytes h) ++ blank (s.page - (s.vid_offset + 64))) (filled-by r 64 ec ec_size)
        ∙ append_assoc (ec ++ blank (r - 64)) (vid_bytes h) (blank (s.page - (s.vid_offset + 64)))
        ∙ append_assoc ec (blank (r - 64)) (vid_bytes h ++ blank (s.page - (s.vid_offset + 64))) in
        let size : length tail ≡ s.page - 64 =
        (let a = length-append (blank (r - 64)) (vid_bytes h ++ blank (s.page - (s.vid_offset + 64))) in
        let b = length-append (vid_bytes h) (blank (s.page - (s.vid_offset + 64))) in
        let c = length-blank (r - 64) in
        let d = length-blank (s.page - (s.vid_offset + 64)) in
        let e = vid_size in omega arith) in
        let bytes : AreBytes tail =
        bytes-append (blank (r - 64)) (vid_bytes h ++ blank (s.page - (s.vid_offset + 64))) (bytes-blank (r - 64))
        (bytes-append (vid_bytes h) (blank (s.page - (s.vid_offset + 64))) (bytes-vid h small)
        (bytes-blank (s.page - (s.vid_offset + 64)))) in
        ap₂ only_clears (first_page q) new ∙ clears-append ec ec (blank (s.page - 64)) tail refl (clears_same ec)
        ∙ clears_blank tail (s.page - 64) size bytes
      where
        first_page : s.vid_offset / s.page ≡ 0 → page_of s (filled s.peb_size ec) (s.vid_offset / s.page) ≡ ec
            ++ blank (s.page - 64)
        first_page q =
            let start : s.vid_offset / s.page * s.page ≡ 0 = ap (λ n. n * s.page) q ∙ omega arith in
            let page = g.page_from in
            let peb = g.peb_from in
            ap (λ n. slice_range (filled s.peb_size ec) n (n + s.page)) start
            ∙ ap (λ n. take n (filled s.peb_size ec)) (zero_front s.page)
            ∙ ap (take s.page) (filled-by s.peb_size 64 ec ec_size)
            ∙ take_filled s.page ec (s.peb_size - 64) (omega (arith, ec_size)) (omega (arith, ec_size))
            ∙ filled-by s.page 64 ec ec_size

    header_clears : only_clears (page_of s (filled s.peb_size ec) (s.vid_offset / s.page)) (vid_page s ec h) ≡ true
    header_clears = elim (cases_lt s.vid_offset s.page) [
      | inl l ↦ ap (λ t. only_clears (page_of s (filled s.peb_size ec) (s.vid_offset / s.page))
          (filled s.page (filled r (cond t ec []) ++ vid_bytes h))) (less_test _ _ l) ∙ clears_beside l
      | inr l ↦ ap (λ t. only_clears (page_of s (filled s.peb_size ec) (s.vid_offset / s.page))
          (filled s.page (filled r (cond t ec []) ++ vid_bytes h))) (not_less_test _ _ l) ∙ clears_apart l
    ]

    pub length-vid_page : length (vid_page s ec h) ≡ s.page
    length-vid_page = elim (cases_lt s.vid_offset s.page) [
      | inl l ↦
          ap (λ t. length (filled s.page (filled r (cond t ec []) ++ vid_bytes h))) (less_test _ _ l)
          ∙ length-page ec
          (let q : s.vid_offset / s.page ≡ 0 = div-eq_of_lt l in
          let e = div-add-mod s.vid_offset s.page in
          let z : s.page * (s.vid_offset / s.page) ≡ 0 = ap (λ n. s.page * n) q ∙ omega arith in
          let from = g.vid_from in
          let size = ec_size in omega arith)
      | inr l ↦ ap (λ t. length (filled s.page (filled r (cond t ec []) ++ vid_bytes h))) (not_less_test _ _ l)
          ∙ length-page [] (omega arith)
    ]

    module _ (bs : List (List ℕ)) (b : ℕ) (inside : b < length bs) where
      -- the pages of a text, each behind those before it
      pages_fit : (n i : ℕ) (text rest : List ℕ) (cs : List (List ℕ)) → b < length cs
          → block cs b ≡ laid s ec (vid_bytes h) text → length text ≡ i * s.page → n * s.page ≤ length rest
          → s.data_offset + i * s.page + n * s.page ≤ s.peb_size → AreBytes rest
          → FitAll s cs
          (map (λ e. step.Program b e.0 e.1)
          (enumerate_from (s.data_offset / s.page + i) (first_chunks s.page n rest)))
      pages_fit zero i text rest cs within is size enough room bytes = tt
      pages_fit (suc n) i text rest cs within is size enough room bytes =
          let c = take s.page rest in
          let page = s.data_offset / s.page + i in
          let start : page * s.page ≡ s.data_offset + i * s.page = (let d = data_pages s g in omega arith) in
          let piece : length c ≡ s.page = length-take-le s.page rest (omega arith) in
          let front = parts.headers s g ec (vid_bytes h) ec_size vid_size ++ text in
          let long : length front ≡ s.data_offset + i * s.page =
          length-append (parts.headers s g ec (vid_bytes h) ec_size vid_size) text
          ∙ (let k = parts.length-headers s g ec (vid_bytes h) ec_size vid_size in omega arith) in
          let last : page * s.page + s.page ≤ s.peb_size = omega arith in
          let here : page_of s (block cs b) page ≡ blank s.page =
          ap (λ y. page_of s y page) (is ∙ filled-is s.peb_size front)
          ∙ blank_page s front (s.peb_size - length front) page (omega arith) (omega arith) in
          let written : overwrite (page * s.page) c (block cs b) ≡ laid s ec (vid_bytes h) (text ++ c) =
          ap₂ (λ k y. overwrite k c y) start is ∙ page_written s g ec (vid_bytes h) ec_size vid_size text c i size in
          let next : s.data_offset / s.page + i + 1 ≡ s.data_offset / s.page + (i + 1) = omega arith in
          let ds = step_done s cs (step.Program b page c) in (
            program_fits s cs b page c within (page_inside page last) piece
                (ap (λ y. only_clears y c) here ∙ clears_blank c s.page piece (bytes-take s.page rest bytes)),
            subst
                (λ (k : ℕ). FitAll s ds (map (λ e. step.Program b e.0 e.1)
                (enumerate_from k (first_chunks s.page n (drop s.page rest))))) (sym next)
                (pages_fit n (i + 1) (text ++ c) (drop s.page rest) ds
                (omega (arith, length-set cs b (overwrite (page * s.page) c (block cs b))))
                (get_or-set_same cs b (overwrite (page * s.page) c (block cs b)) [] within ∙ written)
                (longer text c i size piece) (let k = length-drop s.page rest in omega arith) (omega arith)
                (bytes-drop s.page rest bytes)),
          )
        where
          longer : (text c : List ℕ) (i : ℕ) → length text ≡ i * s.page → length c ≡ s.page
              → length (text ++ c) ≡ (i + 1) * s.page
          longer text c i e f = length-append text c ∙ omega arith

      -- the header, and then the text
      pub header_fits : block bs b ≡ filled s.peb_size ec → FitAll s bs (program_header s b ec h ∷ [])
      header_fits is =
          let before = vid_before s g in
          let m = mul-le (s.vid_offset / s.page + 1) s.page (s.data_offset / s.page) s.page (omega arith)
          (omega arith) in
          let d = data_pages s g in
          let l = g.leb in (
            program_fits s bs b (s.vid_offset / s.page) (vid_page s ec h) inside
                (page_inside (s.vid_offset / s.page) (omega arith)) length-vid_page
                (ap (λ y. only_clears (page_of s y (s.vid_offset / s.page)) (vid_page s ec h)) is ∙ header_clears),
            tt,
          )

      pub text_fits : (new : List ℕ) → pages_of s new * s.page ≡ length new → s.data_offset + length new ≤ s.peb_size
          → AreBytes new → block bs b ≡ laid s ec (vid_bytes h) []
          → FitAll s bs (program_text s b new)
      text_fits new paged room bytes is =
          let start : s.data_offset / s.page ≡ s.data_offset / s.page + 0 = omega arith in
          subst
          (λ (k : ℕ). FitAll s bs (map (λ e. step.Program b e.0 e.1)
          (enumerate_from k (first_chunks s.page (pages_of s new) new)))) (sym start)
          (pages_fit (pages_of s new) 0 [] new bs inside is (omega arith) (omega arith) (omega arith) bytes)

      pub header_done : block bs b ≡ filled s.peb_size ec
          → block (step_done s bs (program_header s b ec h)) b ≡ laid s ec (vid_bytes h) []
      header_done is =
          get_or-set_same bs b (overwrite (s.vid_offset / s.page * s.page) (vid_page s ec h) (block bs b)) [] inside
          ∙ ap (overwrite (s.vid_offset / s.page * s.page) (vid_page s ec h)) is
          ∙ header_written s g ec (vid_bytes h) ec_size vid_size
