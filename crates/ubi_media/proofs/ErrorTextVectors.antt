-- The texts of refusals on literals.
use Rattle.ubi_media.proofs.Prelude.{◌≡◌, codes, refl, digits, geometry_error_text, refusal_text}
use Rattle.ubi_media.specs.declared.ec.EcFault.TheVariants as ec
use Rattle.ubi_media.specs.declared.geometry.GeometryError.TheVariants as limit
use Rattle.ubi_media.specs.declared.record.RecFault.TheVariants as rec
use Rattle.ubi_media.specs.declared.refusal.Refusal.TheVariants as cause
use Rattle.ubi_media.specs.declared.vid.VidFault.TheVariants as vid

page : geometry_error_text limit.Page ≡ codes "G1 Page"
page = refl

wrong_offsets : refusal_text (cause.Ec 0 ec.Offsets) ≡ codes "S3 Ec block=0 Offsets"
unfolding digits
wrong_offsets = refl

wrong_volume : refusal_text (cause.Vid 12 vid.VolumeId) ≡ codes "S5 Vid block=12 VolumeId"
unfolding digits
wrong_volume = refl

one_number_twice : refusal_text (cause.SameSqnum 305 17) ≡ codes "S8 SameSqnum block=305 earlier=17"
unfolding digits
one_number_twice = refl

wrong_record : refusal_text (cause.Record 1 127 rec.NameBlank) ≡ codes "T3 Record block=1 slot=127 NameBlank"
unfolding digits
wrong_record = refl

one_name_twice : refusal_text (cause.SameName 2 0 1) ≡ codes "T4 SameName block=2 slot=0 slot=1"
unfolding digits
one_name_twice = refl

no_space : refusal_text cause.NoSpace ≡ codes "T5 NoSpace"
no_space = refl
