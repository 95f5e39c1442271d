-- What a volume reads by the places of its LEBs.
use Rattle.ubi_volume.proofs.Prelude.{◌≡◌, ◌∙◌, ℕ, List, length, length-take-le, take, ap, sym, subst, arith, Err, Option, Some, option_map_or, Sizes, usable, VolumeRecord, image_of, blocks_of, read_text, volume_read, VolumeReads, AreWithin, ArePlaces, CaseFits, Placed, Volume, PlaceContent, same_Some}
use Rattle.std.specs.FinMap as finite
use Rattle.ubi_volume.specs.declared.content.Content.TheVariants as content
use Rattle.ubi_volume.specs.declared.errors.ReadError.TheVariants as error
use Rattle.ubi_volume.specs.declared.places.PlaceContent.TheVariants as place
use Rattle.ubi_volume.proofs.VolumeAt.{content_is, has_volume, reads_of}

-- the front of a buffer has the size that a volume uses
pub front_usable : (s : Sizes) (r : VolumeRecord) (n : ℕ) (buffer : List ℕ) → n ≡ usable s r
    → length buffer ≡ s.peb_size → length (take n buffer) ≡ usable s r
front_usable s r n buffer size room = length-take-le n buffer (omega (arith, size, room)) ∙ size

-- what its record allows, whatever the source holds
pub case_fits : (n id : ℕ) (p : Placed) (r : VolumeRecord) (c : PlaceContent) → AreWithin n p
    → finite.get p.records.of id ≡ Some r → finite.get p.contents id ≡ Some c → CaseFits p.winners id r c
case_fits n id p r c within recorded listed =
    let h = within.contents id r recorded in
    subst (CaseFits p.winners id r) (same_Some h.0 c (sym h.1 ∙ listed)) h.2

module _ (s : Sizes) (p : Placed) (image : List ℕ) (places : ArePlaces (image_of s image) p) (id : ℕ) (r : VolumeRecord)
    (recorded : finite.get p.records.of id ≡ Some r) where
  abbrev bs : List (List ℕ)
  bs = blocks_of s image

  pub damaged_reads : finite.get p.contents id ≡ Some place.Damaged → VolumeReads s bs id r content.Damaged
  damaged_reads listed =
      let v = has_volume s p image places id r recorded in
      subst (VolumeReads s bs id r) (content_is s p image places id r recorded v.0 v.1 place.Damaged listed)
      (reads_of s p image places id r recorded v.0 v.1).1

  pub static_reads : (lebs bytes : ℕ) → finite.get p.contents id ≡ Some (place.Static lebs bytes) → (text : List ℕ)
      → ((all : List ℕ) → read_text s p id image all → text ≡ all) → VolumeReads s bs id r (content.Static text)
  static_reads lebs bytes listed text read =
      let v = has_volume s p image places id r recorded in
      let m = places.meaning in
      let t = content_is s p image places id r recorded v.0 v.1 (place.Static lebs bytes) listed in
      let all = ap (λ (o : Option Volume). option_map_or (λ v. volume_read m.sizes v.entry v.content) o
      (Err error.NoVolume)) v.1 ∙ ap (volume_read m.sizes v.0.entry) t.1 in
      subst (λ (x : List ℕ). VolumeReads s bs id r (content.Static x)) (sym (read t.0 (places, all)))
      (subst (VolumeReads s bs id r) t.1 (reads_of s p image places id r recorded v.0 v.1).1)
