-- What holds if the power fails while an eraseblock is erased and given a header, or while a copy is written.
use Rattle.ubi_change.proofs.Prelude.{◌≡◌, ◌≢◌, ℕ, zero, suc, ◌+◌, ◌-◌, ◌*◌, ◌<◌, ◌≤◌, ◌⊎◌, inl, inr, Bool, true, false, not, List, [], ◌∷◌, ◌++◌, length, set, take, drop, refl, ap, ap₂, sym, ◌∙◌, subst, arith, get_or-set_same, set-set, cases_lt, ◌==◌, ◌||◌, same_Some, take-append-drop, take_at, drop-drop, drop_at, drop_blank, crc_of, ec_bytes, ec_reading, vid_reading, vid_bytes, blank, filled, filled-by, Sizes, IsGeometry, EcHeader, VidHeader, block, ec, leb, vid, vid_area, Leb, is_good, is_right, seq_if, seq_of, clean_from_none, Agrees, AllBlank, AcceptsBlocks, Meant, renew, program_header, program_text, blocks_after, block_after, target, pages_of, torn, pages_needed, Step, only_clears, ec-laid, vid-laid, is_blank, blank_text, ◌&&◌, blank_holds, MayBeHarmed, MayBeLeft, NoChance, SurvivesHarm, SurvivesTears, and_parts}
use Rattle.ubi_media.specs.declared.ec.EcRead.TheVariants as ec_read
use Rattle.ubi_media.specs.declared.vid.VidRead.TheVariants as vid_read
use Rattle.ubi_change.specs.declared.step.Step.TheVariants as step
use Rattle.ubi_change.proofs.Copied as copy
use Rattle.ubi_change.proofs.Copied.{IsCopy}
use Rattle.ubi_change.proofs.Mounted.{IsMount}
use Rattle.ubi_change.proofs.Renewed.{IsCounter, counter_back, counter_size, programmed}
use Rattle.ubi_change.proofs.Seq.{NamedBeside}
use Rattle.ubi_change.proofs.Tears.{harmless_kept}
use Rattle.ubi_change.proofs.TextWritten as onto
use Rattle.ubi_change.proofs.Torn.{told-before, told-from}
use Rattle.ubi_change.proofs.TornBlocks.{clears_drop, clears_take, erase_harmless, mount_by, no_header_vacant, same_part, torn_ec, torn_image, torn_vid, valid_of, vid_of_blank, clears_length}
use Rattle.ubi_change.proofs.TornText as tears
use Rattle.ubi_change.proofs.TornRuns.{AtEachTear, TearIs, is_exact}
use Rattle.ubi_change.proofs.Vacated.{IsVacant, LosesAll}
use Rattle.ubi_change.proofs.Written.{ec-bare, ec-blank, vid-bare}

-- an erase that wasn't ended, of an eraseblock that wins no LEB that counts
pub erase_torn : (s : Sizes) → IsGeometry s → (bs : List (List ℕ)) (m : Meant) (a : AcceptsBlocks s bs m) (p seq : ℕ)
    → p < length bs → (AllBlank s bs → ⊥) → Agrees s seq bs → NamedBeside s seq bs p → LosesAll s bs a.records p
    → (t : List ℕ) → TearIs s (λ f x. AcceptsBlocks s x m) bs (step.Erase p) t
erase_torn s g bs m a p seq inside used agrees beside loses t left n =
    harmless_kept s bs p t inside seq m a used agrees beside loses
    (erase_harmless s g seq (block bs p) t n (ec-blank s g) left ((clean_from_none s bs a.clean).sound p inside)
    (agrees.all p inside))

-- an erase and a program of an erase-counter header
module _ (s : Sizes) (g : IsGeometry s) (bs : List (List ℕ)) (p : ℕ) (inside : p < length bs) (e : EcHeader)
    (counter : IsCounter e) (seq : ℕ) (image : e.image_seq ≢ 0 → e.image_seq ≡ seq)
    (P : List (List ℕ) → Type 0) (erased : (t : List ℕ) → TearIs s (λ f. P) bs (step.Erase p) t)
    (vacant : (t : List ℕ) → IsVacant s seq t → P (set bs p t)) where
  abbrev bare : List ℕ
  bare = filled s.peb_size (ec_bytes s e)

  abbrev counts : Step
  counts = step.Program p 0 (filled s.page (ec_bytes s e))

  ec_bare : ec s bare ≡ ec_read.Valid e
  ec_bare = ec-bare s g (ec_bytes s e) e (counter_size s g e counter) (counter_back s g e counter)

  vid_bare : vid s bare ≡ vid_read.Blank
  vid_bare = vid-bare s g (ec_bytes s e) e (counter_size s g e counter) (counter_back s g e counter)

  torn_bare : (t : List ℕ) → NoChance s (blank s.peb_size) bare t → IsVacant s seq t
  torn_bare t n = no_header_vacant s seq t (torn_vid s seq (blank s.peb_size) bare t n (vid_of_blank s g) vid_bare)
      (torn_ec s seq (blank s.peb_size) bare t n (λ f k. (let l = ec-blank s g in absurd (cc)))
      (λ f k. (let l = ec_bare in absurd (cc))))
      (torn_image s seq (blank s.peb_size) bare t n
      (λ h. absurd (h (ap seq_if (ec-blank s g))))
      (λ h. (let k : seq_of s bare ≡ e.image_seq = ap seq_if ec_bare in k ∙ image (λ z. h (k ∙ z)))))

  counted : (t : List ℕ) → TearIs s (λ f. P) (set bs p (blank s.peb_size)) counts t
  counted t left n =
      let here : block (set bs p (blank s.peb_size)) p ≡ blank s.peb_size =
      get_or-set_same bs p (blank s.peb_size) [] inside in
      let is : block_after s (blank s.peb_size) counts ≡ bare = programmed s g e counter in
      let m : NoChance s (blank s.peb_size) (block_after s (blank s.peb_size) counts) t =
      subst (λ (y : List ℕ). NoChance s y (block_after s y counts) t) here n in
      subst P (sym (set-set bs p (blank s.peb_size) t))
      (vacant t (torn_bare t (subst (λ (y : List ℕ). NoChance s (blank s.peb_size) y t) is m)))

  pub renew_tears : AtEachTear s (λ k f. P) bs (renew s p e)
  renew_tears zero next t k = subst (λ (y : Step). TearIs s (λ f. P) bs y t) (same_Some (step.Erase p) next k) (erased t)
  renew_tears (suc zero) next t k = subst (λ (y : Step). TearIs s (λ f. P) (set bs p (blank s.peb_size)) y t)
      (same_Some counts next k) (counted t)
  renew_tears (suc (suc k)) next t e = absurd (cc)

-- the contents of an eraseblock with an erase-counter header alone
pub leb-ready : (s : Sizes) → IsGeometry s → (bytes : List ℕ) → length bytes ≡ 64
    → leb s (filled s.peb_size bytes) ≡ blank (s.peb_size - (s.data_offset + 0))
leb-ready s g bytes size =
    let place : s.data_offset ≡ 64 + (s.data_offset - 64) = omega (arith, g.vid_from, g.data_from) in
    let left : s.peb_size - 64 - (s.data_offset - 64) ≡ s.peb_size - (s.data_offset + 0) =
    omega (arith, g.vid_from, g.data_from, g.leb) in
    ap (drop s.data_offset) (filled-by s.peb_size 64 bytes size)
    ∙ ap (λ n. drop n (bytes ++ blank (s.peb_size - 64))) place
    ∙ sym (drop-drop (s.data_offset - 64) 64 (bytes ++ blank (s.peb_size - 64)))
    ∙ ap (drop (s.data_offset - 64)) (drop_at bytes (blank (s.peb_size - 64)) 64 size)
    ∙ drop_blank (s.data_offset - 64) (s.peb_size - 64) ∙ ap blank left

-- before a turn the one holds, from it on the other, and during the step that reaches it one of both; where a step wasn't exact,
-- the one may hold until a last place
abbrev pub EitherAt : (List (List ℕ) → Type 0) → (List (List ℕ) → Type 0) → ℕ → ℕ → ℕ → Bool → List (List ℕ) → Type 0
EitherAt P Q turn last k f x = ((k < turn) × P x) ⊎ ((turn ≤ k + 1) × Q x) ⊎ ((f ≡ false) × (k < last) × P x)

-- later by some steps
pub later : (P Q : List (List ℕ) → Type 0) (turn last n k : ℕ) (f : Bool) (x : List (List ℕ)) → EitherAt P Q turn last k f x
    → EitherAt P Q (n + turn) (n + last) (n + k) f x
later P Q turn last n k f x (inl y) = inl ((let l = y.0 in omega arith), y.1)
later P Q turn last n k f x (inr (inl y)) = inr (inl ((let l = y.0 in omega arith), y.1))
later P Q turn last n k f x (inr (inr y)) = inr (inr (y.0, (let l = y.1 in omega arith), y.2))

-- an exact step is one of those that may do harm
pub harm_of : (s : Sizes) (b t : List ℕ) (next : Step) → MayBeLeft s b next t → MayBeHarmed s b next t
harm_of s b t (step.Erase p) left = left
harm_of s b t (step.Program p page bytes) left = λ n low high.
    let c : List ℕ = block_after s b (step.Program p page bytes) in
    let long : length (drop n c) ≡ length (drop n b) =
    sym (clears_length (drop n b) (drop n t) (clears_drop n b t left.0)
    ∙ clears_length (drop n t) (drop n c) (clears_drop n t c left.1)) in
    same_part (drop n) b c t (clears_drop n) left.0 left.1
    (blank_text (drop n b) (length (drop n b)) low refl ∙ sym (blank_text (drop n c) (length (drop n b)) high long))

pub exact_of : (s : Sizes) (b t : List ℕ) (next : Step) → MayBeLeft s b next t → is_exact s b next t ≡ true
exact_of s b t (step.Erase p) left = refl
exact_of s b t (step.Program p page bytes) left = ap₂ (λ u v. u && v) left.0 left.1

module _ (s : Sizes) (g : IsGeometry s) (bs : List (List ℕ)) (b : ℕ) (inside : b < length bs) (seq : ℕ) (of : Leb)
    (bytes : List ℕ) (e : EcHeader) (h : VidHeader) (new : List ℕ)
    (c : IsCopy s bs seq of bytes e h new) (P Q : List (List ℕ) → Type 0)
    (vacant : (x : List ℕ) → IsVacant s seq x → P (set bs b x))
    (bad : (x : List ℕ) → IsMount s seq bs of h x → is_good s x h ≡ false → P (set bs b x))
    (good : (x : List ℕ) → IsMount s seq bs of h x → is_good s x h ≡ true
    → leb s x ≡ new ++ blank (s.peb_size - (s.data_offset + length new)) → Q (set bs b x)) where
  abbrev part : ℕ → List ℕ
  part j = onto.part_at s g bs b inside seq of bytes e h new c.text j

  abbrev ready : List ℕ
  ready = filled s.peb_size bytes

  abbrev start : List (List ℕ)
  start = set bs b ready

  abbrev R : ℕ → Bool → List (List ℕ) → Type 0
  R = EitherAt P Q (suc (pages_needed s new)) (suc (pages_of s new))

  abbrev steps : List Step
  steps = program_header s b bytes h ∷ program_text s b new

  abbrev tail : ℕ
  tail = s.peb_size - (s.data_offset + length new)

  within : (j : ℕ) → j ≤ pages_of s new → s.data_offset + length (take (j * s.page) new) ≤ s.peb_size
  within j l = onto.within s g bs b inside seq of bytes e h new c.text j l

  area_at : (j : ℕ) → j ≤ pages_of s new → take 64 (part j) ≡ bytes
  area_at j l = ec-laid s g bytes (vid_bytes h) c.text.size refl (take (j * s.page) new) (within j l)

  vid_area_at : (j : ℕ) → j ≤ pages_of s new → vid_area s (part j) ≡ vid_bytes h
  vid_area_at j l = vid-laid s g bytes (vid_bytes h) c.text.size refl (take (j * s.page) new) (within j l)

  vid_at : (j : ℕ) → j ≤ pages_of s new → vid s (part j) ≡ vid_read.Valid h
  vid_at j l = tears.vid_at s g bs b inside seq of bytes e h new c.text j l

  mount_at : (j : ℕ) → j ≤ pages_of s new → IsMount s seq bs of h (part j)
  mount_at j l = onto.mount_at s g bs b inside seq of bytes e h new c.text j l

  leb_at : (j : ℕ) → j ≤ pages_of s new → leb s (part j) ≡ take (j * s.page) new
      ++ blank (s.peb_size - (s.data_offset + j * s.page))
  leb_at j l = onto.leb_at s g bs b inside seq of bytes e h new c.text j l

  good_at : (j : ℕ) → j ≤ pages_of s new → is_good s (part j) h ≡ (crc_of (torn s new j) == crc_of new)
  good_at j l = copy.good_at s g bs b inside seq of bytes e h new c P Q j l

  whole_at : (j : ℕ) → pages_needed s new ≤ j → j ≤ pages_of s new → leb s (part j) ≡ new ++ blank tail
  whole_at j w l = onto.whole_at s g bs b inside seq of bytes e h new c.text j w l

  -- what is good has the needed pages
  good_from : (j : ℕ) → j ≤ pages_of s new → is_good s (part j) h ≡ true → pages_needed s new ≤ j
  good_from j l k = elim (cases_lt j (pages_needed s new)) [
    | inl low ↦
        let no : (crc_of (torn s new j) == crc_of new) ≡ false = told-before s new c.text.paged c.strong j low in
        let yes : (crc_of (torn s new j) == crc_of new) ≡ true = sym (good_at j l) ∙ k in
        absurd (cc)
    | inr high ↦ high
  ]

  same_good : (x y : List ℕ) → take h.data_size (leb s x) ≡ take h.data_size (leb s y) → is_good s x h ≡ is_good s y h
  same_good x y same = ap (λ (z : List ℕ). not h.copy_flag || (crc_of z == h.data_crc)) same

  -- the volume-identifier header
  leb_ready : leb s ready ≡ leb s (part 0)
  leb_ready =
      let none : 0 ≡ 0 * s.page = omega arith in
      leb-ready s g bytes c.text.size ∙ ap (λ n. take n new ++ blank (s.peb_size - (s.data_offset + n))) none
      ∙ sym (leb_at 0 (omega arith))

  header_core : (t : List ℕ) → only_clears ready t ≡ true → only_clears t (part 0) ≡ true
      → NoChance s ready (part 0) t → R 0 true (set bs b t)
  header_core t low high n =
      elim (tears.header_left s g bs b inside seq of bytes e h new c.text t n) [
        | inl v ↦ inl (omega arith, vacant t v)
        | inr mount ↦ by_good mount (is_good s t h) refl
      ]
    where
      same : leb s t ≡ leb s (part 0)
      same = same_part (λ (y : List ℕ). leb s y) ready (part 0) t (clears_drop s.data_offset) low high leb_ready ∙ leb_ready

      by_good : IsMount s seq bs of h t → (k : Bool) → is_good s t h ≡ k → R 0 true (set bs b t)
      by_good mount false k = inl (omega arith, bad t mount k)
      by_good mount true k =
          let there : is_good s (part 0) h ≡ true =
          sym (same_good t (part 0) (ap (take h.data_size) same)) ∙ k in
          let w : pages_needed s new ≤ 0 = good_from 0 (omega arith) there in
          inr (inl (omega arith, good t mount k (same ∙ whole_at 0 w (omega arith))))

  -- what lies behind the contents
  tail_at : (j : ℕ) → j ≤ pages_of s new → drop (length new) (leb s (part j)) ≡ blank tail
  tail_at j l =
      let k = onto.short s g bs b inside seq of bytes e h new c.text j l in
      let r = c.text.room in
      let sum : length new ≡ j * s.page + (length new - j * s.page) = omega arith in
      let rest : s.peb_size - (s.data_offset + j * s.page) - (length new - j * s.page) ≡ tail = omega arith in
      let xs = take (j * s.page) new ++ blank (s.peb_size - (s.data_offset + j * s.page)) in
      ap (drop (length new)) (leb_at j l) ∙ ap (λ n. drop n xs) sum
      ∙ sym (drop-drop (length new - j * s.page) (j * s.page) xs)
      ∙ ap (drop (length new - j * s.page)) (drop_at (take (j * s.page) new)
      (blank (s.peb_size - (s.data_offset + j * s.page))) (j * s.page)
      (onto.front s g bs b inside seq of bytes e h new c.text j l))
      ∙ drop_blank (length new - j * s.page) (s.peb_size - (s.data_offset + j * s.page)) ∙ ap blank rest

  right_of : (t : List ℕ) → is_good s t h ≡ true → is_right s t h ≡ true
  right_of t k = sym (ap (λ f. not f || is_right s t h) c.copied) ∙ k

  -- what is good has as many pages as it takes
  has_text : (t : List ℕ) → is_good s t h ≡ true → (i : ℕ) → i ≤ pages_of s new
      → take h.data_size (leb s t) ≡ take h.data_size (leb s (part i))
      → (pages_needed s new ≤ i) × (take (length new) (leb s t) ≡ new)
  has_text t k i m same =
      let w : pages_needed s new ≤ i = good_from i m (sym (same_good t (part i) same) ∙ k) in (
        w,
        ap (λ z. take z (leb s t)) (sym c.data_size) ∙ same ∙ ap (λ z. take z (leb s (part i))) c.data_size
            ∙ ap (take (length new)) (whole_at i w m) ∙ take_at new (blank tail) (length new) refl,
      )

  whole : (t : List ℕ) → take (length new) (leb s t) ≡ new → drop (length new) (leb s t) ≡ blank tail
      → leb s t ≡ new ++ blank tail
  whole t front behind = sym (take-append-drop (length new) (leb s t)) ∙ ap₂ (λ u v. u ++ v) front behind

  abbrev end : ℕ
  end = s.data_offset + length new

  abbrev KeepsBlank : List ℕ → List ℕ → List ℕ → Type 0
  KeepsBlank x y t = (n : ℕ) → is_blank (drop n x) ≡ true → is_blank (drop n y) ≡ true → drop n t ≡ drop n x

  behind_is : (x : List ℕ) → drop (length new) (leb s x) ≡ drop end x
  behind_is x = drop-drop (length new) s.data_offset x

  blank_behind : (x : List ℕ) → drop (length new) (leb s x) ≡ blank tail → is_blank (drop end x) ≡ true
  blank_behind x k = ap is_blank (sym (behind_is x) ∙ k) ∙ blank_holds tail

  harm_tail : (x y t : List ℕ) → KeepsBlank x y t → drop (length new) (leb s x) ≡ blank tail
      → drop (length new) (leb s y) ≡ blank tail → drop (length new) (leb s t) ≡ blank tail
  harm_tail x y t keeps low high =
      behind_is t ∙ keeps end (blank_behind x low) (blank_behind y high) ∙ sym (behind_is x) ∙ low

  ready_tail : drop (length new) (leb s ready) ≡ blank tail
  ready_tail = ap (drop (length new)) leb_ready ∙ tail_at 0 (omega arith)

  abbrev header_step : Step
  header_step = program_header s b bytes h

  header_next : block_after s ready header_step ≡ part 0
  header_next = tears.header_next s g bs b inside seq of bytes e h new c.text

  -- the header, and then a page, where more goes wrong
  header_harm : (t : List ℕ) → KeepsBlank ready (part 0) t → NoChance s ready (part 0) t → R 0 false (set bs b t)
  header_harm t keeps n =
      elim (tears.header_left s g bs b inside seq of bytes e h new c.text t n) [
        | inl v ↦ inl (omega arith, vacant t v)
        | inr mount ↦ by_good mount (is_good s t h) refl
      ]
    where
      by_good : IsMount s seq bs of h t → (k : Bool) → is_good s t h ≡ k → R 0 false (set bs b t)
      by_good mount false k = inl (omega arith, bad t mount k)
      by_good mount true k = elim (n.copied h (valid_of (ec s t) (vid s t) h mount.is) c.copied (right_of t k)) [
        | inl same ↦ (let none = vid-bare s g bytes e c.text.size c.text.reads in let some = same.0 in absurd (cc))
        | inr same ↦
            (let w = has_text t k 0 (omega arith) same.1 in let m = w.0 in inr (inl (
              omega arith,
              good t mount k
                  (whole t w.1 (harm_tail ready (part 0) t keeps ready_tail (tail_at 0 (omega arith)))),
            )))
      ]

  page_harm : (j : ℕ) → j < pages_of s new → (t : List ℕ) → KeepsBlank (part j) (part (suc j)) t
      → NoChance s (part j) (part (suc j)) t → R (suc j) false (set bs b t)
  page_harm j l t keeps n =
      elim (tears.page_left s g bs b inside seq of bytes e h new c.text j l t n) [
        | inl v ↦ inr (inr (refl, omega arith, vacant t v))
        | inr mount ↦ by_good mount (is_good s t h) refl
      ]
    where
      now : j ≤ pages_of s new
      now = omega arith

      after : suc j ≤ pages_of s new
      after = omega arith

      by_good : IsMount s seq bs of h t → (k : Bool) → is_good s t h ≡ k → R (suc j) false (set bs b t)
      by_good mount false k = inr (inr (refl, omega arith, bad t mount k))
      by_good mount true k =
          let text = whole t in
          let rest = harm_tail (part j) (part (suc j)) t keeps (tail_at j now) (tail_at (suc j) after) in
          elim (n.copied h (valid_of (ec s t) (vid s t) h mount.is) c.copied (right_of t k)) [
            | inl same ↦ (let w = has_text t k j now same.1 in let m = w.0 in
                inr (inl (omega arith, good t mount k (whole t w.1 rest))))
            | inr same ↦ (let w = has_text t k (suc j) after same.1 in let m = w.0 in
                inr (inl (omega arith, good t mount k (whole t w.1 rest))))
          ]

  header_by : (t : List ℕ) → MayBeHarmed s ready header_step t → NoChance s ready (part 0) t → (f : Bool)
      → is_exact s ready header_step t ≡ f → R 0 f (set bs b t)
  header_by t harm n true k =
      header_core t (and_parts (only_clears ready t) (only_clears t (block_after s ready header_step)) k).0
      (subst (λ (y : List ℕ). only_clears t y ≡ true) header_next
      (and_parts (only_clears ready t) (only_clears t (block_after s ready header_step)) k).1) n
  header_by t harm n false k =
      header_harm t (subst (λ (y : List ℕ). KeepsBlank ready y t) header_next harm) n

  page_core : (j : ℕ) → j < pages_of s new → (t : List ℕ) → only_clears (part j) t ≡ true
      → only_clears t (part (suc j)) ≡ true → NoChance s (part j) (part (suc j)) t → R (suc j) true (set bs b t)
  page_core j l t low high n = by_good (is_good s t h) refl
    where
      now : j ≤ pages_of s new
      now = omega arith

      after : suc j ≤ pages_of s new
      after = omega arith

      same_ec : ec s t ≡ ec s (part j)
      same_ec = ap (ec_reading s)
          (same_part (take 64) (part j) (part (suc j)) t (clears_take 64) low high (area_at j now ∙ sym (area_at (suc j) after)))

      same_vid : vid s t ≡ vid s (part j)
      same_vid = ap (vid_reading s)
          (same_part (λ (y : List ℕ). vid_area s y) (part j) (part (suc j)) t
          (λ xs ys k. clears_take (s.vid_offset + 64 - s.vid_offset) (drop s.vid_offset xs) (drop s.vid_offset ys)
          (clears_drop s.vid_offset xs ys k)) low high (vid_area_at j now ∙ sym (vid_area_at (suc j) after)))

      mount : IsMount s seq bs of h t
      mount = mount_by s seq bs of h (part j) t same_ec same_vid (mount_at j now)

      has_tail : drop (length new) (leb s t) ≡ blank tail
      has_tail =
          same_part (λ (y : List ℕ). drop (length new) (leb s y)) (part j) (part (suc j)) t
          (λ xs ys k. clears_drop (length new) (drop s.data_offset xs) (drop s.data_offset ys) (clears_drop s.data_offset xs ys k))
          low high (tail_at j now ∙ sym (tail_at (suc j) after)) ∙ tail_at j now

      by_good : (k : Bool) → is_good s t h ≡ k → R (suc j) true (set bs b t)
      by_good false k = elim (cases_lt j (pages_needed s new)) [
        | inl low' ↦ inl (omega arith, bad t mount k)
        | inr high' ↦
            let same : leb s t ≡ leb s (part j) = same_part (λ (y : List ℕ). leb s y) (part j) (part (suc j)) t
            (clears_drop s.data_offset) low high
            (whole_at j high' now ∙ sym (whole_at (suc j) (omega arith) after)) in
            let there : is_good s (part j) h ≡ true = good_at j now ∙ told-from s new c.text.paged j high' now in
            let here : is_good s t h ≡ true = same_good t (part j) (ap (take h.data_size) same) ∙ there in
            absurd (cc)
      ]
      by_good true k = elim (n.copied h (same_vid ∙ vid_at j now) c.copied (right_of t k)) [
        | inl same ↦ (let w = has_text t k j now same.1 in let m = w.0 in inr (inl (omega arith, good t mount k (whole t w.1 has_tail))))
        | inr same ↦ (let w = has_text t k (suc j) after same.1 in let m = w.0 in inr (inl (omega arith, good t mount k (whole t w.1 has_tail))))
      ]

  page_by : (j : ℕ) → j < pages_of s new → (x : ℕ × List ℕ) → block_after s (part j) (onto.page_step b x) ≡ part (suc j)
      → (t : List ℕ) → MayBeHarmed s (part j) (onto.page_step b x) t → NoChance s (part j) (part (suc j)) t → (f : Bool)
      → is_exact s (part j) (onto.page_step b x) t ≡ f → R (suc j) f (set bs b t)
  page_by j l x is t harm n true k =
      page_core j l t (and_parts (only_clears (part j) t) (only_clears t (block_after s (part j) (onto.page_step b x))) k).0
      (subst (λ (y : List ℕ). only_clears t y ≡ true) is
      (and_parts (only_clears (part j) t) (only_clears t (block_after s (part j) (onto.page_step b x))) k).1) n
  page_by j l x is t harm n false k =
      page_harm j l t (subst (λ (y : List ℕ). KeepsBlank (part j) y t) is harm) n

  -- so if the power fails at any of its steps
  pub copy_tears : AtEachTear s R start steps
  copy_tears = tears.each_tear s g bs b inside seq of bytes e h new c.text R
      (λ t harm n. header_by t harm n (is_exact s ready header_step t) refl)
      (λ j l x is t harm n. page_by j l x is t harm n (is_exact s (part j) (onto.page_step b x) t) refl)

-- the two promises
module _ (s : Sizes) (bs : List (List ℕ)) (m n : Meant) (steps : List Step) (turn last : ℕ) where
  pub exact_tears : AtEachTear s (EitherAt (λ x. AcceptsBlocks s x m) (λ x. AcceptsBlocks s x n) turn last) bs steps
      → SurvivesTears s bs m n steps turn
  exact_tears a = record {
    each = λ k next t e left c.
        (let x = block (blocks_after s bs steps k) (target next) in
        elim (a k next t e (harm_of s x t next left) c) [
          | inl y ↦ inl y
          | inr (inl y) ↦ inr y
          | inr (inr y) ↦ (let no = y.0 in let yes = exact_of s x t next left in absurd (cc))
        ]);
  }

  pub any_tears : turn ≤ last → AtEachTear s (EitherAt (λ x. AcceptsBlocks s x m) (λ x. AcceptsBlocks s x n) turn last) bs steps
      → SurvivesHarm s bs m n steps turn last
  any_tears l a = record {
    each = λ k next t e harm c. elim (a k next t e harm c) [
      | inl y ↦ inl ((let few = y.0 in omega arith), y.1)
      | inr (inl y) ↦ inr y
      | inr (inr y) ↦ inl (y.1, y.2)
    ];
  }
