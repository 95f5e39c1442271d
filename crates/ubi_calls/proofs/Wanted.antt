-- The bytes that are asked for: what writing them over memory answers, and that there is only one answer.
use Rattle.ubi_calls.proofs.Prelude.{List, ap, arith, length, refl, subst, sym, ℕ, ◌∙◌, ◌≡◌, IfOk-weaker, Err, IfErr, IfOk, Ok, Option, Result, Sizes, Image, image_of, Narrows, Source, WhereHeld, holds, memory, still, ArePlaces, ArePlacesOf, Placed, read_volume, volume_len, Accepts-unique, normal_bytes, IsNormalisedTo, after_run, Outcome, ToolError, Extracts, IsExtractError, IsNormaliseError, Normalises, Id, has_text, Normal, ReadsContents, no_normal, normal, read, refused, unread, Content, IsUnwritten, Writes, said, wanted, wrote}
use Rattle.ubi_files.specs.declared.outcome.ToolError.TheVariants as tool
use Rattle.ubi_writing.specs.Extract as extract
use Rattle.ubi_writing.specs.Normalise as normalise
use Rattle.ubi_calls.specs.declared.streams.Content.TheVariants as content

-- an image has one text of either sort
one_volume : (image : Image) (id : ℕ) (x y : List ℕ) → ReadsContents image id x 0 → ReadsContents image id y 0 → x ≡ y
one_volume image id x y (read m a is zero) (read n b of zero') =
    let same : m ≡ n = Accepts-unique image m n a b in cc
one_volume image id x y (unread m e why a is why_is line one) h = absurd (let bad = one in omega (arith, bad))
one_volume image id x y (refused c is line one) h = absurd (let bad = one in omega (arith, bad))
one_volume image id x y h (unread m e why a is why_is line one) = absurd (let bad = one in omega (arith, bad))
one_volume image id x y h (refused c is line one) = absurd (let bad = one in omega (arith, bad))

one_normal : (image : Image) (x y : List ℕ) → Normal image x 0 → Normal image y 0 → x ≡ y
one_normal image x y (normal m a is zero) (normal n b of zero') =
    is ∙ ap normal_bytes (Accepts-unique image m n a b) ∙ sym of
one_normal image x y (no_normal c is line one) h = absurd (let bad = one in omega (arith, bad))
one_normal image x y h (no_normal c is line one) = absurd (let bad = one in omega (arith, bad))

pub one_told : (what : Content) (image : Image) (x y : List ℕ) → wanted what image x 0 → wanted what image y 0 → x ≡ y
one_told (content.Volume id) image x y = one_volume image id x y
one_told content.Normal image x y = one_normal image x y

-- no read of memory fails
pub no_read : (start left : List ℕ) (r : Result Outcome ToolError) → memory left ≡ after_run (memory start) r → r ≡ Err tool.Read → ⊥
no_read start left (Ok o) known is = cc
no_read start left (Err tool.Read) known is = let e = ap (λ (k : Source). k.failures) known in omega (arith, e)
no_read start left (Err tool.Write) known is = cc
no_read start left (Err tool.Memory) known is = cc

module _ (image : Image) (old new : Option (List ℕ)) where
  -- what extracting answers
  of_extract : (id : ℕ) (o : Outcome) → Extracts image (Id id) old new o → Writes (ReadsContents image id) old new o
  of_extract id o (extract.accepted m a (extract.read text is gives got)) = wrote text (read m a is refl) gives.status got
  of_extract id o (extract.accepted m a (extract.unread e is line kept)) =
      said (unread m e line.0 a is line.1 line.2.text refl) line.2.status kept
  of_extract id o (extract.refused c is gives kept) = said (refused c is gives.text refl) gives.status kept

  -- and normalising
  of_normalise : (o : Outcome) → Normalises image old new o → Writes (Normal image) old new o
  of_normalise o (normalise.accepted m a gives got) = wrote (normal_bytes m) (normal m a refl refl) gives.status got
  of_normalise o (normalise.refused c is gives kept) = said (no_normal c is gives.text refl) gives.status kept

module _ (image : Image) (old new : Option (List ℕ)) (id : ℕ) where
  pub volume_written : (r : Result Outcome ToolError) → IfOk r (Extracts image (Id id) old new) → IfOk r (Writes (ReadsContents image id) old new)
  volume_written r h = IfOk-weaker r _ _ (of_extract image old new id) h

  pub volume_unwritten : (r : Result Outcome ToolError) → IfErr r (IsExtractError image (Id id) old new)
      → IfErr r (IsUnwritten (ReadsContents image id) old new)
  volume_unwritten (Ok o) h = tt
  volume_unwritten (Err tool.Memory) h = h
  volume_unwritten (Err tool.Read) h = h.2
  volume_unwritten (Err tool.Write) (m, a, (text, n, is, short, got)) = (text, n, read m a is refl, short, got)

module _ (s : Sizes) (image start left : List ℕ) (same : start ≡ image) (narrows : Narrows (holds start) (holds left))
    (old new : Option (List ℕ)) where
  held : holds left image
  held = subst (λ (b : List ℕ). holds left b) same (still start left narrows)

  pub normal_written : (r : Result Outcome ToolError)
      → IfOk r (λ o. WhereHeld (holds left) (λ bytes. Normalises (image_of s bytes) old new o))
      → IfOk r (Writes (Normal (image_of s image)) old new)
  normal_written (Ok o) h = of_normalise (image_of s image) old new o (h image held)
  normal_written (Err e) h = tt

  pub normal_unwritten : (r : Result Outcome ToolError) → memory left ≡ after_run (memory start) r
      → IfErr r (IsNormaliseError s (memory start) (holds left) old new) → IfErr r (IsUnwritten (Normal (image_of s image)) old new)
  normal_unwritten (Ok o) known h = tt
  normal_unwritten (Err tool.Memory) known h = h
  normal_unwritten (Err tool.Read) known h = no_read start left (Err tool.Read) known refl
  normal_unwritten (Err tool.Write) known h =
      let cut = h.1.1 image held in
      (normal_bytes cut.meaning, h.0, normal cut.meaning cut.accepted refl refl, cut.short, cut.written)

  -- how many bytes a normal image has
  pub normal_counted : (n : ℕ) → IsNormalisedTo s (holds left) old new n
      → (bytes : List ℕ) × Normal (image_of s image) bytes 0 × (n ≡ length bytes)
  normal_counted n h = let is = h.held image held in (normal_bytes is.meaning, normal is.meaning is.accepted refl refl, is.count)

-- and what a volume reads
pub volume_counted : (s : Sizes) (image start left : List ℕ) → start ≡ image → Narrows (holds start) (holds left) → (id : ℕ) (p : Placed)
    (n : ℕ) → ArePlacesOf s (memory start) (holds left) p → ((h : ArePlaces (image_of s image) p) → Ok n ≡ volume_len h.meaning id)
    → (bytes : List ℕ) × ReadsContents (image_of s image) id bytes 0 × (n ≡ length bytes)
volume_counted s image start left same narrows id p n places many =
    let h = places.held image (subst (λ (b : List ℕ). holds left b) same (still start left narrows)) in
    let text = has_text (read_volume h.meaning id) n (many h) in
    (text.0, read h.meaning h.accepted text.1 refl, text.2)
