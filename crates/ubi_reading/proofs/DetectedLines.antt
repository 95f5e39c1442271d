-- What is found in a part of a file, whatever the source over it may hold.
use Rattle.ubi_reading.proofs.Prelude.{List, ℕ, subst, sym, AreDetectedOf, AreImagesBeside, Images, IsDetectError, WhereHeld, Agreed, IsSource, Source, Detected, Undetected, Gives, says, Detects, detected, undetected, Outcome, FilePart, undetected_in, geometry_told, Format}
use Rattle.ubi_detect.specs.declared.detect.DetectError.TheVariants as error

module _ (format : Format) (part : FilePart) (k : Source) (agrees : Agreed) (bytes : List ℕ) (holds : agrees bytes) (o : Outcome) where
  -- of bytes that it may hold the same is told
  pub of_found : IsSource k agrees → (found : List Detected) (images : Images) → AreDetectedOf agrees found
      → WhereHeld agrees (λ bytes. AreImagesBeside bytes found images)
      → Gives o (says (geometry_told format part k.size found images.spans.items) 0) → Detects format part bytes o
  of_found sized found images are beside lines =
      let size = sym (sized.sized bytes holds) in
      detected found images (are bytes holds) (beside bytes holds)
      (subst (λ n. Gives o (says (geometry_told format part n found images.spans.items) 0)) size lines)

  -- or the cause for which nothing is
  pub of_cause : (c : Undetected) → IsDetectError k agrees (error.Undetected c) → Gives o (says (undetected_in format c) 1)
      → Detects format part bytes o
  of_cause c stands line = undetected c (stands bytes holds) line
