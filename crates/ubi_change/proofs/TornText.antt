-- What holds if the power fails while a text is written to an eraseblock that was made ready, under a header.
use Rattle.ubi_change.proofs.Prelude.{◌≡◌, ℕ, zero, suc, ◌+◌, ◌*◌, ◌/◌, ◌<◌, ◌≤◌, ◌⊎◌, inl, inr, Bool, List, [], ◌∷◌, length, map, set, take, refl, ap, sym, ◌∙◌, subst, arith, get_or-set_same, set-set, Some, slice_get, same_Some, vid_bytes, filled, Sizes, IsGeometry, EcHeader, VidHeader, block, ec, vid, Leb, program_header, program_text, blocks_after, block_after, step_done, target, pages_of, Step, laid, enumerate_from, first_chunks, MayBeHarmed, NoChance}
use Rattle.ubi_media.specs.declared.ec.EcRead.TheVariants as ec_read
use Rattle.ubi_media.specs.declared.vid.VidRead.TheVariants as vid_read
use Rattle.ubi_change.proofs.Laid.{header_written}
use Rattle.ubi_change.proofs.Mounted.{IsMount}
use Rattle.ubi_change.proofs.TextWritten as onto
use Rattle.ubi_change.proofs.TextWritten.{IsText, length-program_text}
use Rattle.ubi_change.proofs.TornBlocks.{torn_header}
use Rattle.ubi_change.proofs.TornRuns.{AtEachTear, TearIs, after-next, is_exact}
use Rattle.ubi_change.proofs.Vacated.{IsVacant}
use Rattle.ubi_change.proofs.Written.{ec-bare, ec-part, vid-bare, vid-part}

-- the pages of a text
page_is : (p j : ℕ) (xs : List (ℕ × List ℕ)) (next : Step) → slice_get (map (onto.page_step p) xs) j ≡ Some next
    → (x : ℕ × List ℕ) × (onto.page_step p x ≡ next)
page_is p j [] next e = absurd (cc)
page_is p zero (x ∷ xs) next e = (x, same_Some (onto.page_step p x) next e)
page_is p (suc j) (x ∷ xs) next e = page_is p j xs next e

page_within : (p j : ℕ) (xs : List (ℕ × List ℕ)) (next : Step) → slice_get (map (onto.page_step p) xs) j ≡ Some next
    → j < length (map (onto.page_step p) xs)
page_within p j [] next e = absurd (cc)
page_within p zero (x ∷ xs) next e = omega arith
page_within p (suc j) (x ∷ xs) next e = let l = page_within p j xs next e in omega arith

module _ (s : Sizes) (g : IsGeometry s) (bs : List (List ℕ)) (b : ℕ) (inside : b < length bs) (seq : ℕ) (of : Leb)
    (bytes : List ℕ) (e : EcHeader) (h : VidHeader) (new : List ℕ)
    (c : IsText s bs seq of bytes e h new) where
  abbrev part : ℕ → List ℕ
  part j = onto.part_at s g bs b inside seq of bytes e h new c j

  abbrev ready : List ℕ
  ready = filled s.peb_size bytes

  abbrev start : List (List ℕ)
  start = set bs b ready

  abbrev steps : List Step
  steps = program_header s b bytes h ∷ program_text s b new

  within : (j : ℕ) → j ≤ pages_of s new → s.data_offset + length (take (j * s.page) new) ≤ s.peb_size
  within j l = onto.within s g bs b inside seq of bytes e h new c j l

  ec_at : (j : ℕ) → j ≤ pages_of s new → ec s (part j) ≡ ec_read.Valid e
  ec_at j l = ec-part s g bytes e c.size c.reads h c.fits c.sound c.known c.placed (take (j * s.page) new) (within j l)

  pub vid_at : (j : ℕ) → j ≤ pages_of s new → vid s (part j) ≡ vid_read.Valid h
  vid_at j l = vid-part s g bytes e c.size c.reads h c.fits c.sound c.known c.placed (take (j * s.page) new) (within j l)

  mount_at : (j : ℕ) → j ≤ pages_of s new → IsMount s seq bs of h (part j)
  mount_at j l = onto.mount_at s g bs b inside seq of bytes e h new c j l

  -- what is left of the header is no member, or the member that it was to be
  pub header_left : (t : List ℕ) → NoChance s ready (part 0) t → IsVacant s seq t ⊎ IsMount s seq bs of h t
  header_left t n =
      torn_header s seq bs of ready (part 0) t n e h (ec-bare s g bytes e c.size c.reads) (ec_at 0 (omega arith))
      (inl (vid-bare s g bytes e c.size c.reads)) (vid_at 0 (omega arith)) c.image (mount_at 0 (omega arith))

  -- and so is what is left of a page
  pub page_left : (j : ℕ) → j < pages_of s new → (t : List ℕ) → NoChance s (part j) (part (suc j)) t
      → IsVacant s seq t ⊎ IsMount s seq bs of h t
  page_left j l t n =
      let now : j ≤ pages_of s new = omega arith in
      let after : suc j ≤ pages_of s new = omega arith in
      torn_header s seq bs of (part j) (part (suc j)) t n e h (ec_at j now) (ec_at (suc j) after) (inr (vid_at j now))
      (vid_at (suc j) after) c.image (mount_at (suc j) after)

  abbrev header_step : Step
  header_step = program_header s b bytes h

  pub header_next : block_after s ready header_step ≡ part 0
  header_next =
      let none : 0 ≡ 0 * s.page = omega arith in
      header_written s g bytes (vid_bytes h) c.size refl ∙ ap (λ k. laid s bytes (vid_bytes h) (take k new)) none

  -- what holds of each that may be left holds if the power fails at any step
  module _ (R : ℕ → Bool → List (List ℕ) → Type 0)
      (header : (t : List ℕ) → MayBeHarmed s ready header_step t → NoChance s ready (part 0) t
      → R 0 (is_exact s ready header_step t) (set bs b t))
      (page : (j : ℕ) → j < pages_of s new → (x : ℕ × List ℕ) → block_after s (part j) (onto.page_step b x) ≡ part (suc j)
      → (t : List ℕ) → MayBeHarmed s (part j) (onto.page_step b x) t → NoChance s (part j) (part (suc j)) t
      → R (suc j) (is_exact s (part j) (onto.page_step b x) t) (set bs b t)) where
    header_tear : (t : List ℕ) → TearIs s (R 0) start header_step t
    header_tear t harm n =
        let here : block start b ≡ ready = get_or-set_same bs b ready [] inside in
        let l : MayBeHarmed s ready header_step t = subst (λ (y : List ℕ). MayBeHarmed s y header_step t) here harm in
        let m : NoChance s ready (block_after s ready header_step) t =
        subst (λ (y : List ℕ). NoChance s y (block_after s y header_step) t) here n in
        subst (λ (y : List ℕ). R 0 (is_exact s y header_step t) (set start b t)) (sym here)
        (subst (R 0 (is_exact s ready header_step t)) (sym (set-set bs b ready t))
        (header t l (subst (λ (y : List ℕ). NoChance s ready y t) header_next m)))

    page_tear : (j : ℕ) → j < pages_of s new → (x : ℕ × List ℕ) → block_after s (part j) (onto.page_step b x) ≡ part (suc j)
        → (t : List ℕ) → TearIs s (R (suc j)) (set bs b (part j)) (onto.page_step b x) t
    page_tear j l x is t harm n =
        let here : block (set bs b (part j)) b ≡ part j = get_or-set_same bs b (part j) [] inside in
        let k : MayBeHarmed s (part j) (onto.page_step b x) t =
        subst (λ (y : List ℕ). MayBeHarmed s y (onto.page_step b x) t) here harm in
        let m : NoChance s (part j) (block_after s (part j) (onto.page_step b x)) t =
        subst (λ (y : List ℕ). NoChance s y (block_after s y (onto.page_step b x)) t) here n in
        subst (λ (y : List ℕ). R (suc j) (is_exact s y (onto.page_step b x) t) (set (set bs b (part j)) b t)) (sym here)
        (subst (R (suc j) (is_exact s (part j) (onto.page_step b x) t)) (sym (set-set bs b (part j) t))
        (page j l x is t k (subst (λ (y : List ℕ). NoChance s (part j) y t) is m)))

    after_steps : (j : ℕ) → j ≤ pages_of s new → blocks_after s start steps (suc j) ≡ set bs b (part j)
    after_steps j l = onto.after_steps s g bs b inside seq of bytes e h new c j l

    next_part : (j : ℕ) → j < pages_of s new → (next : Step) → target next ≡ b → slice_get steps (suc j) ≡ Some next
        → block_after s (part j) next ≡ part (suc j)
    next_part j l next at e =
        let here : block (set bs b (part j)) b ≡ part j = get_or-set_same bs b (part j) [] inside in
        let both : set bs b (part (suc j)) ≡ step_done s (set bs b (part j)) next =
        sym (after_steps (suc j) (omega arith)) ∙ after-next s start steps (suc j) next e
        ∙ ap (λ (z : List (List ℕ)). step_done s z next) (after_steps j (omega arith)) in
        let done_is : step_done s (set bs b (part j)) next ≡ set bs b (block_after s (part j) next) =
        ap (λ (q : ℕ). set (set bs b (part j)) q (block_after s (block (set bs b (part j)) q) next)) at
        ∙ ap (λ (y : List ℕ). set (set bs b (part j)) b (block_after s y next)) here
        ∙ set-set bs b (part j) (block_after s (part j) next) in
        sym (get_or-set_same bs b (block_after s (part j) next) [] inside)
        ∙ ap (λ (z : List (List ℕ)). block z b) (sym (both ∙ done_is))
        ∙ get_or-set_same bs b (part (suc j)) [] inside

    pub each_tear : AtEachTear s R start steps
    each_tear zero next t k = subst (λ (y : Step). TearIs s (R 0) start y t) (same_Some header_step next k) (header_tear t)
    each_tear (suc j) next t k =
        let pages = enumerate_from (s.data_offset / s.page) (first_chunks s.page (pages_of s new) new) in
        let x = page_is b j pages next k in
        let l : j < pages_of s new = (let w = page_within b j pages next k in let m = length-program_text s b new in omega arith) in
        let is : block_after s (part j) (onto.page_step b x.0) ≡ part (suc j) =
        next_part j l (onto.page_step b x.0) refl (k ∙ ap Some (sym x.1)) in
        subst (λ (y : Step). TearIs s (R (suc j)) (blocks_after s start steps (suc j)) y t) x.1
        (subst (λ (z : List (List ℕ)). TearIs s (R (suc j)) z (onto.page_step b x.0) t) (sym (after_steps j (omega arith)))
        (page_tear j l x.0 is t))

  -- so what holds with anything that is no member, and with anything that is the member, holds if the power fails
  pub text_tears : (P : List (List ℕ) → Type 0) → ((x : List ℕ) → IsVacant s seq x → P (set bs b x))
      → ((x : List ℕ) → IsMount s seq bs of h x → P (set bs b x)) → AtEachTear s (λ k f. P) start steps
  text_tears P vacant mounted =
      each_tear (λ k f. P) (λ t harm n. by t (header_left t n)) (λ j l x is t harm n. by t (page_left j l t n))
    where
      by : (t : List ℕ) → IsVacant s seq t ⊎ IsMount s seq bs of h t → P (set bs b t)
      by t (inl v) = vacant t v
      by t (inr m) = mounted t m
