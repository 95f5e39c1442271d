-- A copy is written to an eraseblock: its header and then the pages of its contents. What holds while the copy is bad
-- holds before the commit point, and what holds once it is good holds from it on.
use Rattle.ubi_change.proofs.Prelude.{◌≡◌, ℕ, zero, suc, ◌+◌, ◌-◌, ◌*◌, ◌<◌, ◌≤◌, true, false, List, [], ◌∷◌, ◌++◌, append_assoc, length, set, ap, sym, ◌∙◌, subst, arith, ◌==◌, None, crc_of, blank, filled, Sizes, IsGeometry, EcHeader, VidHeader, leb, Leb, is_good, program_header, program_text, fold-append, blocks_after, step_done, pages_of, torn, weak_pages, pages_needed, Step}
use Rattle.ubi_change.proofs.Mounted.{IsMount}
use Rattle.ubi_change.proofs.Runs.{AtEachCut, TurnsAt, after-all, done, turns-before, turns-behind}
use Rattle.ubi_change.proofs.Torn.{told-before, told-from, whole_place-is}
use Rattle.ubi_change.proofs.Written.{part-good}
use Rattle.ubi_change.proofs.TextWritten as onto
use Rattle.ubi_change.proofs.TextWritten.{IsText}

-- an eraseblock that was made ready, the header of a copy for it, and the text of the copy
pub record IsCopy (s : Sizes) (bs : List (List ℕ)) (seq : ℕ) (of : Leb) (bytes : List ℕ) (e : EcHeader) (h : VidHeader)
    (new : List ℕ) : Type 0 where
  pub text : IsText s bs seq of bytes e h new
  pub copied : h.copy_flag ≡ true
  pub data_size : h.data_size ≡ length new
  pub data_crc : h.data_crc ≡ crc_of new
  pub strong : weak_pages s new ≡ None

module _ (s : Sizes) (g : IsGeometry s) (bs : List (List ℕ)) (b : ℕ) (inside : b < length bs) (seq : ℕ) (of : Leb)
    (bytes : List ℕ) (e : EcHeader) (h : VidHeader) (new : List ℕ)
    (c : IsCopy s bs seq of bytes e h new) (P Q : List (List ℕ) → Type 0) where
  abbrev pub part_at : ℕ → List ℕ
  part_at = onto.part_at s g bs b inside seq of bytes e h new c.text

  abbrev copy_steps : List Step
  copy_steps = onto.text_steps s g bs b inside seq of bytes e h new c.text

  pub good_at : (j : ℕ) → j ≤ pages_of s new → is_good s (part_at j) h ≡ (crc_of (torn s new j) == crc_of new)
  good_at j l =
      part-good s (part_at j) h new j (s.peb_size - (s.data_offset + j * s.page)) c.copied c.data_size c.data_crc
      (onto.short s g bs b inside seq of bytes e h new c.text j l) (onto.leb_at s g bs b inside seq of bytes e h new c.text j l)
      (let k = onto.short s g bs b inside seq of bytes e h new c.text j l in let r = c.text.room in omega arith)

  -- what holds of the start and while the copy is bad holds before the turn, and what holds with the whole copy from it
  -- on
  pub copy_turns : P (set bs b (filled s.peb_size bytes))
      → ((x : List ℕ) → IsMount s seq bs of h x → is_good s x h ≡ false → P (set bs b x))
      → ((x : List ℕ) → IsMount s seq bs of h x → is_good s x h ≡ true
      → leb s x ≡ new ++ blank (s.peb_size - (s.data_offset + length new)) → Q (set bs b x))
      → TurnsAt s P Q (set bs b (filled s.peb_size bytes)) copy_steps (suc (pages_needed s new))
  copy_turns start bad good = record {
    comes = (let m = whole_place-is s new c.text.paged in let k = m.most in let n = onto.length_steps s g bs b inside seq of bytes e h new c.text in omega arith);
    before = before;
    from = from;
  }
    where
      place : pages_needed s new ≤ pages_of s new
      place = (whole_place-is s new c.text.paged).most

      before : (k : ℕ) → k < suc (pages_needed s new) → P (blocks_after s (set bs b (filled s.peb_size bytes)) copy_steps k)
      before zero l = start
      before (suc j) l =
          let most = place in
          let m : j ≤ pages_of s new = omega arith in
          subst P (sym (onto.after_steps s g bs b inside seq of bytes e h new c.text j m))
          (bad (part_at j) (onto.mount_at s g bs b inside seq of bytes e h new c.text j m) (good_at j m ∙ told-before s new c.text.paged c.strong j (omega arith)))

      from : (k : ℕ) → suc (pages_needed s new) ≤ k → k ≤ length copy_steps
          → Q (blocks_after s (set bs b (filled s.peb_size bytes)) copy_steps k)
      from zero l n = absurd (omega arith)
      from (suc j) l n =
          let m : j ≤ pages_of s new = (let k = onto.length_steps s g bs b inside seq of bytes e h new c.text in omega arith) in
          let w : pages_needed s new ≤ j = omega arith in
          subst Q (sym (onto.after_steps s g bs b inside seq of bytes e h new c.text j m))
          (good (part_at j) (onto.mount_at s g bs b inside seq of bytes e h new c.text j m) (good_at j m ∙ told-from s new c.text.paged j w m) (onto.whole_at s g bs b inside seq of bytes e h new c.text j w m))

  -- the whole atomic copy: made ready by some steps, written, and then what was there before is given up by others
  pub atomic_turns : (prep rel : List Step) → AtEachCut s P bs prep
      → done s bs prep ≡ set bs b (filled s.peb_size bytes)
      → ((x : List ℕ) → IsMount s seq bs of h x → is_good s x h ≡ false → P (set bs b x))
      → ((x : List ℕ) → IsMount s seq bs of h x → is_good s x h ≡ true
      → leb s x ≡ new ++ blank (s.peb_size - (s.data_offset + length new)) → Q (set bs b x))
      → AtEachCut s Q (set bs b (part_at (pages_of s new))) rel
      → TurnsAt s P Q bs ((prep ++ program_header s b bytes h ∷ []) ++ program_text s b new ++ rel)
      (length prep + suc (pages_needed s new))
  atomic_turns prep rel early ready bad good late =
      let start : P (set bs b (filled s.peb_size bytes)) = subst P (after-all s bs prep ∙ ready)
      (early (length prep) (omega arith)) in
      let turns = copy_turns start bad good in
      let first : TurnsAt s P Q bs (prep ++ copy_steps) (length prep + suc (pages_needed s new)) =
      turns-behind s P Q bs prep copy_steps (suc (pages_needed s new)) early
      (subst (λ (z : List (List ℕ)). TurnsAt s P Q z copy_steps (suc (pages_needed s new))) (sym ready) turns) in
      let end : done s bs (prep ++ copy_steps) ≡ set bs b (part_at (pages_of s new)) =
      fold-append (step_done s) bs prep copy_steps ∙ ap (λ (z : List (List ℕ)). done s z copy_steps) ready
      ∙ sym (after-all s (set bs b (filled s.peb_size bytes)) copy_steps) ∙ onto.text_done s g bs b inside seq of bytes e h new c.text in
      let joined : prep ++ copy_steps ≡ (prep ++ program_header s b bytes h ∷ []) ++ program_text s b new =
      sym (append_assoc prep (program_header s b bytes h ∷ []) (program_text s b new)) in
      subst (λ (xs : List Step). TurnsAt s P Q bs (xs ++ rel) (length prep + suc (pages_needed s new))) joined
      (turns-before s P Q bs (prep ++ copy_steps) rel (length prep + suc (pages_needed s new)) first
      (subst (λ (z : List (List ℕ)). AtEachCut s Q z rel) (sym end) late))

  -- the eraseblocks at its end
  pub atomic_done : (prep rel : List Step) → done s bs prep ≡ set bs b (filled s.peb_size bytes)
      → done s bs ((prep ++ program_header s b bytes h ∷ []) ++ program_text s b new ++ rel)
      ≡ done s (set bs b (part_at (pages_of s new))) rel
  atomic_done prep rel ready =
      let end : done s bs (prep ++ copy_steps) ≡ set bs b (part_at (pages_of s new)) =
      fold-append (step_done s) bs prep copy_steps ∙ ap (λ (z : List (List ℕ)). done s z copy_steps) ready
      ∙ sym (after-all s (set bs b (filled s.peb_size bytes)) copy_steps) ∙ onto.text_done s g bs b inside seq of bytes e h new c.text in
      let joined : prep ++ copy_steps ≡ (prep ++ program_header s b bytes h ∷ []) ++ program_text s b new =
      sym (append_assoc prep (program_header s b bytes h ∷ []) (program_text s b new)) in
      ap (λ (xs : List Step). done s bs (xs ++ rel)) (sym joined)
      ∙ fold-append (step_done s) bs (prep ++ copy_steps) rel
      ∙ ap (λ (z : List (List ℕ)). done s z rel) end
