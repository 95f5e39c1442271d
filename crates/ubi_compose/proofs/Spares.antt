-- A spare eraseblock is a member of no LEB, and has no fault.
use Rattle.ubi_compose.proofs.Prelude.{◌≡◌, ℕ, ◌-◌, ◌^◌, ◌<◌, ◌++◌, length, take, refl, ap, ◌∙◌, arith, None, option_map, ap₂, take_at, ec_bytes, ec_reading, blank, IsGeometry, Sizes, vid_reading, IsSound, ec, vid, vid_area, foreign, foreign_if, leb_of, member, member_if, named_in, seq_if, seq_of, behind, filled-is, length-filled, blank_vid, spare, new_ec}
use Rattle.ubi_media.specs.declared.ec.EcRead.TheVariants as ec_read
use Rattle.ubi_media.specs.declared.vid.VidRead.TheVariants as vid_read
use Rattle.ubi_compose.proofs.Blocks.{new_ec_back}

module _ (s : Sizes) (g : IsGeometry s) (seq : ℕ) (narrow : seq < 2 ^ 32) where
  ec_size : length (ec_bytes s (new_ec seq)) ≡ 64
  ec_size = refl

  spare-is : spare s seq ≡ ec_bytes s (new_ec seq) ++ blank (s.peb_size - 64)
  spare-is = filled-is s.peb_size (ec_bytes s (new_ec seq)) ∙ ap (λ n. ec_bytes s (new_ec seq) ++ blank (s.peb_size - n)) ec_size

  pub length-spare : length (spare s seq) ≡ s.peb_size
  length-spare = length-filled s.peb_size (ec_bytes s (new_ec seq)) (omega (arith, ec_size, g.page_from, g.peb_from))

  ec-spare : ec s (spare s seq) ≡ ec_read.Valid (new_ec seq)
  ec-spare = ap (λ b. ec_reading s (take 64 b)) spare-is
      ∙ ap (ec_reading s) (take_at (ec_bytes s (new_ec seq)) (blank (s.peb_size - 64)) 64 ec_size) ∙ new_ec_back s g seq narrow

  vid-spare : vid s (spare s seq) ≡ vid_read.Blank
  vid-spare =
      ap (λ b. vid_reading s (vid_area s b)) spare-is
      ∙ ap (vid_reading s) (behind (ec_bytes s (new_ec seq)) (s.peb_size - 64) s.vid_offset 64
      (omega (arith, ec_size, g.vid_from)) (omega (arith, ec_size, g.vid_from, g.data_from, g.leb)))
      ∙ blank_vid s

  member-spare : member s (spare s seq) ≡ None
  member-spare = ap₂ member_if ec-spare vid-spare

  foreign-spare : foreign s (spare s seq) ≡ None
  foreign-spare = ap₂ foreign_if ec-spare vid-spare

  pub named-spare : named_in s (spare s seq) ≡ None
  named-spare = ap (option_map leb_of) member-spare

  pub seq-spare : seq_of s (spare s seq) ≡ seq
  seq-spare = ap seq_if ec-spare

  pub sound-spare : IsSound s (spare s seq)
  sound-spare = record {
    no_ec_fault = λ f e. let is = ec-spare in cc;
    no_vid_fault = λ f used e. let is = vid-spare in cc;
    compatible = λ h e k. let is = foreign-spare in cc;
    laid = λ h e k. let is = member-spare in cc;
  }
