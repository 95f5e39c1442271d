-- What contents that were read piece by piece say about the volume of a surveyed image.
use Rattle.ubi_volume.proofs.Prelude.{◌≡◌, ◌∙◌, ◌<◌, ℕ, List, false, refl, sym, length, None, Some, Sizes, rec_fault, usable, VolumeRecord, usable_some, image_of, blocks_of, leb_bytes, share_len, pieces, case_of, Volume, IsSurvey, Seen, TextLebs, SizeIsRead, PieceIs}
use Rattle.std.specs.FinMap as finite
use Rattle.ubi_media.specs.declared.vid.VolKind.TheVariants as kind
use Rattle.ubi_volume.specs.declared.content.Content.TheVariants as content
use Rattle.ubi_volume.specs.declared.places.PlaceContent.TheVariants as place
use Rattle.ubi_volume.proofs.CaseSizes.{static_case}
use Rattle.ubi_volume.proofs.AcceptedOrRefused.{are_lebs}
use Rattle.ubi_volume.proofs.Extracted.{piece_is, piece_share}
use Rattle.ubi_volume.proofs.OfSurvey.{placed_of, places_of, survey_alike, tells_case}

module _ (s : Sizes) (bytes : List ℕ) (v : Seen) (h : IsSurvey (image_of s bytes) v) (id : ℕ) (r : VolumeRecord)
    (recorded : finite.get v.records.of id ≡ Some r) (w : Volume) (at : finite.get h.meaning.volumes id ≡ Some w) where
  abbrev bs : List (List ℕ)
  bs = blocks_of s bytes

  -- its case, where all pieces were read
  pub text_case : rec_fault s r ≡ None → r.marker ≡ false → r.kind ≡ kind.Static → (used size : ℕ)
      → TextLebs s bs id r (Some used) → SizeIsRead s bs id used used size
      → place.Static used size ≡ case_of s w.entry w.content
  text_case sound unmarked static used size lebs read =
      tells_case s bytes v h id r (place.Static used size) recorded
      (static_case s bs id r h.attached.accepted.accepted.clean (are_lebs (image_of s bytes)) v.records
      (survey_alike s bytes v h) recorded unmarked static (usable_some s r sound) used size read lebs.1 lebs.2) w at

  -- a piece is what is read of its LEB
  pub piece_text : (t : List ℕ) → w.content ≡ content.Static t → (n used : ℕ) → pieces (usable s r) (length t) ≡ used → n < used
      → (text : List ℕ) → PieceIs s bs id used n (Some text)
      → leb_bytes s (share_len (usable s r) (length t) n) (finite.get v.scan.winners (id, n)) bytes ≡ text
  piece_text t is n used count inside text piece =
      let p = placed_of s v h.meaning in
      let places = places_of s bytes v h in
      piece_is s p bytes places id r recorded w at used (length t) t is count refl n inside
      ∙ piece_share s p bytes places id r recorded w at used (length t) t is count refl n inside piece.0 piece.1
      ∙ sym piece.3
