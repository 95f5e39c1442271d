-- What normalising a source answers for an image whose bytes are known, and over files.
use Rattle.ubi_writing.proofs.Prelude.{◌≡◌, ℕ, ◌/◌, List, ap, length, refl, subst, sym, ◌∙◌, IfErr-at_err, IfErr, IfOk, Option, Result, Ok, Err, IsGeometry, Sizes, Image, image_of, Agreed, Source, WhereHeld, Accepts, Meant, normal_blocks, IsStreamed, count-normal_bytes, Gives, says, blocks_line, HasMeaning, IsNormaliseError, Normalises, Outcome, ToolError, not_both}
use Rattle.ubi_writing.specs.Normalise.{accepted, refused}
use Rattle.ubi_files.specs.declared.outcome.ToolError.TheVariants as tool

quotient : {n l a b : ℕ} → n ≡ l → a ≡ b → n / a ≡ l / b
quotient e f = rw (e, f) refl

-- bytes that are the normal image are counted as its eraseblocks
pub of_streamed : (s : Sizes) (bytes : List ℕ) (old new : Option (List ℕ)) (n : ℕ) (o : Outcome) → IsGeometry s
    → IsStreamed (image_of s bytes) old new n → Gives o (says (blocks_line (n / s.peb_size)) 0)
    → Normalises (image_of s bytes) old new o
of_streamed s bytes old new n o g h gives =
    let means = h.accepted.accepted.means in
    let size : s.peb_size ≡ h.meaning.sizes.peb_size = ap (λ s. s.peb_size) (sym means.sizes) in
    let count : n / s.peb_size ≡ length (normal_blocks h.meaning) =
    quotient h.count size ∙ count-normal_bytes h.meaning (subst IsGeometry (sym means.sizes) g) means.meaning in
    accepted h.meaning h.accepted (subst (λ (b : ℕ). Gives o (says (blocks_line b) 0)) count gives) h.written

-- work that was done is that of an accepted image
pub done_image : (image : Image) (old new : Option (List ℕ)) (o : Outcome) → Normalises image old new o → o.status ≡ 0
    → (m : Meant) × Accepts image m
done_image image old new o (accepted m a line bytes) done = (m, a)
done_image image old new o (refused c h line kept) done = absurd (not_both o done line.status)

-- work that was done, and work of which a write failed, is that of an accepted image
module _ (s : Sizes) (k : Source) (agrees : Agreed) (old new : Option (List ℕ)) where
  pub meant_done : (answer : Result Outcome ToolError)
      → IfOk answer (λ o. WhereHeld agrees (λ bytes. Normalises (image_of s bytes) old new o))
      → IfOk answer (λ o. o.status ≡ 0 → HasMeaning s agrees)
  meant_done (Ok o) h = λ zero bytes holds. done_image (image_of s bytes) old new o (h bytes holds) zero
  meant_done (Err e) h = tt

  pub meant_failed : (answer : Result Outcome ToolError) → IfErr answer (IsNormaliseError s k agrees old new) → answer ≡ Err tool.Write
      → HasMeaning s agrees
  meant_failed answer err is bytes holds = let cut = (IfErr-at_err _ is err).1.1 bytes holds in (cut.meaning, cut.accepted)
