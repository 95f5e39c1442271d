-- What was read for edits: whether the volume that gets another size reads whole.
use Rattle.ubi_change.proofs.Prelude.{◌≡◌, ℕ, true, refl, ap, sym, ◌∙◌, None, Option, Some, option_map_or, Sizes, VolumeRecord, Image, IsSurvey, Seen, Content, Volume, case_of, TellsCase, PlaceContent, is_whole_case, reads_whole}
use Rattle.std.specs.FinMap as finite
use Rattle.ubi_volume.specs.declared.content.Content.TheVariants as content
use Rattle.ubi_change.specs.EditFaults.{is_whole}
use Rattle.ubi_change.specs.declared.edit.Edit.TheVariants as edit
use Rattle.ubi_change.proofs.Surveys.{has_none, has_volume}

case_whole : (s : Sizes) (r : VolumeRecord) (c : Content) → is_whole_case (case_of s r c) ≡ is_whole c
case_whole s r content.Updating = refl
case_whole s r content.Damaged = refl
case_whole s r (content.Static text) = refl
case_whole s r (content.Dynamic lebs) = refl

module _ (image : Image) (seen : Seen) (h : IsSurvey image seen) (id n : ℕ) where
  pub whole_none : finite.get seen.records.of id ≡ None → true ≡ reads_whole h.meaning (edit.Resize id n)
  whole_none none = sym (ap (λ (o : Option Volume). option_map_or (λ v. is_whole v.content) o true) (has_none image seen h id none))

  pub whole_case : (r : VolumeRecord) → finite.get seen.records.of id ≡ Some r → (case : PlaceContent) → TellsCase image seen id case
      → is_whole_case case ≡ reads_whole h.meaning (edit.Resize id n)
  whole_case r some case tells =
      let v = has_volume image seen h id r some in
      ap is_whole_case (tells h (record { entry = r; content = v.0 }) v.1) ∙ case_whole image.sizes r v.0
      ∙ sym (ap (λ (o : Option Volume). option_map_or (λ v. is_whole v.content) o true) v.1)
