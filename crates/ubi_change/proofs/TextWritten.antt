-- A text is written to an eraseblock that was made ready, under a header: what the eraseblock holds after each page.
use Rattle.ubi_change.proofs.Prelude.{◌≡◌, ◌≢◌, ℕ, zero, suc, ◌+◌, ◌-◌, ◌*◌, ◌/◌, ◌%◌, ◌<◌, ◌≤◌, true, List, [], ◌∷◌, ◌++◌, append_assoc, append-nil, length, map, set, take, drop, refl, ap, sym, ◌∙◌, arith, length-drop, take-add, None, enumerate_from, first_chunks, length-take-le, set-set, ec_reading, blank, filled, overwrite, Sizes, IsGeometry, vid_bytes, vid_fault, VidFits, EcHeader, VidHeader, IsMislaid, leb, IsMember, Leb, has_members, leb_of, sqnum_at, seq_of, length-first_chunks, program_header, program_text, blocks_after, pages_of, pages_needed, Step, filled-by, join_blank, laid}
use Rattle.std.proofs.Common as lists
use Rattle.std.proofs.lemmas.Nat as nat
use Rattle.std.proofs.lemmas.List.{get_or-set_same}
use Rattle.ubi_media.specs.declared.ec.EcRead.TheVariants as ec_read
use Rattle.ubi_change.specs.declared.step.Step.TheVariants as step
use Rattle.ubi_change.proofs.Laid.{header_written, page_written}
use Rattle.ubi_change.proofs.Mounted.{IsMount}
use Rattle.ubi_change.proofs.PagePlaces.{data_pages}
use Rattle.ubi_change.proofs.Runs.{AllOn, after-on, run}
use Rattle.ubi_change.proofs.Torn.{pages-all, whole-from}
use Rattle.ubi_change.proofs.Written.{leb-part, part-mount, seq-part}

abbrev pub page_step : ℕ → ℕ × List ℕ → Step
page_step p e = step.Program p e.0 e.1

-- steps on pages are steps on their eraseblock, one for each
on_pages : (s : Sizes) (p n : ℕ) (es : List (List ℕ)) → AllOn s p (map (page_step p) (enumerate_from n es))
on_pages s p n [] = tt
on_pages s p n (e ∷ es) = (refl, on_pages s p (n + 1) es)

length_pages : (p n : ℕ) (es : List (List ℕ)) → length (map (page_step p) (enumerate_from n es)) ≡ length es
length_pages p n [] = refl
length_pages p n (e ∷ es) = ap suc (length_pages p (n + 1) es)

pub length-program_text : (s : Sizes) (p : ℕ) (new : List ℕ) → length (program_text s p new) ≡ pages_of s new
length-program_text s p new = length_pages p (s.data_offset / s.page) (first_chunks s.page (pages_of s new) new)
    ∙ length-first_chunks s.page (pages_of s new) new

module _ (s : Sizes) (g : IsGeometry s) (ec vid : List ℕ) (ec_size : length ec ≡ 64) (vid_size : length vid ≡ 64)
    (p : ℕ) where
  -- the pages of a text, in order
  run_pages : (n j i : ℕ) (text rest : List ℕ) → length text ≡ i * s.page → n * s.page ≤ length rest → j ≤ n
      → run s (laid s ec vid text)
      (take j (map (page_step p) (enumerate_from (s.data_offset / s.page + i) (first_chunks s.page n rest))))
      ≡ laid s ec vid (text ++ take (j * s.page) rest)
  run_pages n zero i text rest e room l =
      let none : 0 ≡ zero * s.page = omega arith in
      ap (laid s ec vid) (sym (append-nil text) ∙ ap (λ k. text ++ take k rest) none)
  run_pages zero (suc j) i text rest e room l = absurd (omega arith)
  run_pages (suc n) (suc j) i text rest e room l =
      let c = take s.page rest in
      let enough : s.page ≤ length rest = omega arith in
      let piece : length c ≡ s.page = length-take-le s.page rest enough in
      let place : (s.data_offset / s.page + i) * s.page ≡ s.data_offset + i * s.page =
      (let d = data_pages s g in omega arith) in
      let first : overwrite ((s.data_offset / s.page + i) * s.page) c (laid s ec vid text) ≡ laid s ec vid (text ++ c) =
      ap (λ k. overwrite k c (laid s ec vid text)) place ∙ page_written s g ec vid ec_size vid_size text c i e in
      let next : s.data_offset / s.page + i + 1 ≡ s.data_offset / s.page + (i + 1) = omega arith in
      let more : s.page + j * s.page ≡ suc j * s.page = omega arith in
      let rest_length = length-drop s.page rest in
      ap
      (λ b. run s b
      (take j
      (map (page_step p) (enumerate_from (s.data_offset / s.page + i + 1)
      (first_chunks s.page n (drop s.page rest)))))) first
      ∙ ap
      (λ k. run s (laid s ec vid (text ++ c))
      (take j (map (page_step p) (enumerate_from k (first_chunks s.page n (drop s.page rest)))))) next
      ∙ run_pages n j (i + 1) (text ++ c) (drop s.page rest) (longer text c i e piece) (omega arith) (omega arith)
      ∙ ap (laid s ec vid) (append_assoc text c (take (j * s.page) (drop s.page rest))
      ∙ ap (λ ys. text ++ ys) (sym (take-add s.page (j * s.page) rest)) ∙ ap (λ k. text ++ take k rest) more)
    where
      longer : (text c : List ℕ) (i : ℕ) → length text ≡ i * s.page → length c ≡ s.page
          → length (text ++ c) ≡ (i + 1) * s.page
      longer text c i e f = lists.length-append text c ∙ omega arith

  pub run_text : (new : List ℕ) (j : ℕ) → pages_of s new * s.page ≡ length new → j ≤ pages_of s new
      → run s (laid s ec vid []) (take j (program_text s p new)) ≡ laid s ec vid (take (j * s.page) new)
  run_text new j paged l =
      let start : s.data_offset / s.page ≡ s.data_offset / s.page + 0 = omega arith in
      ap
      (λ k. run s (laid s ec vid [])
      (take j (map (page_step p) (enumerate_from k (first_chunks s.page (pages_of s new) new))))) start
      ∙ run_pages (pages_of s new) j 0 [] new (omega arith) (omega arith) l

-- an eraseblock that was made ready, a header for it, and a text of whole pages
pub record IsText (s : Sizes) (bs : List (List ℕ)) (seq : ℕ) (of : Leb) (bytes : List ℕ) (e : EcHeader) (h : VidHeader)
    (new : List ℕ) : Type 0 where
  pub size : length bytes ≡ 64
  pub reads : ec_reading s bytes ≡ ec_read.Valid e
  pub image : e.image_seq ≢ 0 → e.image_seq ≡ seq
  pub fits : VidFits h
  pub sound : vid_fault s h ≡ None
  pub known : has_members h.vol_id ≡ true
  pub placed : IsMislaid h → ⊥
  pub named : leb_of h ≡ of
  pub above : (other : Leb) (q : ℕ) → IsMember s bs other q → sqnum_at s bs q < h.sqnum
  pub paged : length new % s.page ≡ 0
  pub room : s.data_offset + length new ≤ s.peb_size

module _ (s : Sizes) (g : IsGeometry s) (bs : List (List ℕ)) (b : ℕ) (inside : b < length bs) (seq : ℕ) (of : Leb)
    (bytes : List ℕ) (e : EcHeader) (h : VidHeader) (new : List ℕ)
    (c : IsText s bs seq of bytes e h new) where
  -- the eraseblock with j pages of the text
  abbrev pub part_at : ℕ → List ℕ
  part_at j = laid s bytes (vid_bytes h) (take (j * s.page) new)

  vid_size : length (vid_bytes h) ≡ 64
  vid_size = refl

  pub paged : pages_of s new * s.page ≡ length new
  paged = pages-all s new c.paged

  pub short : (j : ℕ) → j ≤ pages_of s new → j * s.page ≤ length new
  short j l = let m = nat.mul-le j s.page (pages_of s new) s.page l (omega arith) in let k = paged in omega arith

  pub front : (j : ℕ) → j ≤ pages_of s new → length (take (j * s.page) new) ≡ j * s.page
  front j l = length-take-le (j * s.page) new (short j l)

  pub within : (j : ℕ) → j ≤ pages_of s new → s.data_offset + length (take (j * s.page) new) ≤ s.peb_size
  within j l = let f = front j l in let k = short j l in let r = c.room in omega arith

  pub mount_at : (j : ℕ) → j ≤ pages_of s new → IsMount s seq bs of h (part_at j)
  mount_at j l = part-mount s g bytes e c.size c.reads h c.fits c.sound c.known c.placed (take (j * s.page) new)
      (within j l) seq bs of c.image c.named c.above

  pub seq_at : (j : ℕ) → j ≤ pages_of s new → seq_of s (part_at j) ≡ e.image_seq
  seq_at j l = seq-part s g bytes e c.size c.reads h c.fits c.sound c.known c.placed (take (j * s.page) new) (within j l)

  pub leb_at : (j : ℕ) → j ≤ pages_of s new → leb s (part_at j) ≡ take (j * s.page) new
      ++ blank (s.peb_size - (s.data_offset + j * s.page))
  leb_at j l =
      leb-part s g bytes e c.size c.reads h c.fits c.sound c.known c.placed (take (j * s.page) new) (within j l)
      ∙ ap (λ n. take (j * s.page) new ++ blank (s.peb_size - (s.data_offset + n))) (front j l)

  -- from the place on where the text is whole, the LEB reads it
  pub whole_at : (j : ℕ) → pages_needed s new ≤ j → j ≤ pages_of s new
      → leb s (part_at j) ≡ new ++ blank (s.peb_size - (s.data_offset + length new))
  whole_at j w l =
      let k = short j l in
      let r = c.room in
      let sum : (length new - j * s.page) + (s.peb_size - (s.data_offset + length new))
      ≡ s.peb_size - (s.data_offset + j * s.page) = omega arith in
      let torn_is : take (j * s.page) new ++ blank (length new - j * s.page) ≡ new =
      sym (filled-by (length new) (j * s.page) (take (j * s.page) new) (front j l)) ∙ whole-from s new c.paged j w l in
      leb_at j l
      ∙ ap (λ ys. take (j * s.page) new ++ ys)
      (sym (join_blank (length new - j * s.page) (s.peb_size - (s.data_offset + length new)) ∙ ap blank sum))
      ∙ sym (append_assoc (take (j * s.page) new) (blank (length new - j * s.page))
      (blank (s.peb_size - (s.data_offset + length new))))
      ∙ ap (λ ys. ys ++ blank (s.peb_size - (s.data_offset + length new))) torn_is

  abbrev pub text_steps : List Step
  text_steps = program_header s b bytes h ∷ program_text s b new

  on_steps : AllOn s b text_steps
  on_steps = (refl, on_pages s b (s.data_offset / s.page) (first_chunks s.page (pages_of s new) new))

  run_steps : (j : ℕ) → j ≤ pages_of s new → run s (filled s.peb_size bytes) (take (suc j) text_steps) ≡ part_at j
  run_steps j l =
      ap (λ y. run s y (take j (program_text s b new))) (header_written s g bytes (vid_bytes h) c.size vid_size)
      ∙ run_text s g bytes (vid_bytes h) c.size vid_size b new j paged l

  start_inside : b < length (set bs b (filled s.peb_size bytes))
  start_inside = omega (arith, lists.length-set bs b (filled s.peb_size bytes))

  pub after_steps : (j : ℕ) → j ≤ pages_of s new → blocks_after s (set bs b (filled s.peb_size bytes)) text_steps (suc j)
      ≡ set bs b (part_at j)
  after_steps j l =
      after-on s (set bs b (filled s.peb_size bytes)) b text_steps (suc j) start_inside on_steps
      ∙ ap (λ y. set (set bs b (filled s.peb_size bytes)) b (run s y (take (suc j) text_steps)))
      (get_or-set_same bs b (filled s.peb_size bytes) [] inside)
      ∙ ap (set (set bs b (filled s.peb_size bytes)) b) (run_steps j l)
      ∙ set-set bs b (filled s.peb_size bytes) (part_at j)

  pub length_steps : length text_steps ≡ suc (pages_of s new)
  length_steps = ap suc (length-program_text s b new)

  -- the eraseblocks once the text is written
  pub text_done : blocks_after s (set bs b (filled s.peb_size bytes)) text_steps (length text_steps)
      ≡ set bs b (part_at (pages_of s new))
  text_done = ap (blocks_after s (set bs b (filled s.peb_size bytes)) text_steps) length_steps
      ∙ after_steps (pages_of s new) (omega arith)
