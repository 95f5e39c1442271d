-- How many bytes a dynamic volume reads.
use Rattle.ubi_volume.proofs.Prelude.{◌≡◌, ℕ, ◌*◌, List, length, ap, ◌∙◌, subst, FinMap, get, option_map_or, nat_cmp, Ok, Err, Some, Result, result_map_both, IfSome_then, usable, Fits, Meant, IsVolume, volume_len, volume_read, Volume, ReadError}
use Rattle.ubi_volume.specs.declared.content.Content.TheVariants as content
use Rattle.ubi_volume.specs.declared.errors.ReadError.TheVariants as error
use Rattle.ubi_volume.proofs.LebsText.{length-lebs}

len_of : Result (List ℕ) ReadError → Result ℕ ReadError
len_of text = result_map_both length (λ e. e) text

pub volume_len-Dynamic : (m : Meant) (id : ℕ) (v : Volume) (lebs : FinMap nat_cmp (List ℕ)) → get m.volumes id ≡ Some v
    → v.content ≡ content.Dynamic lebs
    → IsVolume m.sizes id v → volume_len m id ≡ Ok (v.entry.reserved * usable m.sizes v.entry)
unfolding len_of
volume_len-Dynamic m id v lebs found is whole =
    let size : ℕ = usable m.sizes v.entry in
    let fits : Fits m.sizes v.entry (content.Dynamic lebs) = subst (Fits m.sizes v.entry) is whole.fits in
    ap (λ o. len_of (option_map_or (λ w. volume_read m.sizes w.entry w.content) o (Err error.NoVolume))) found
    ∙ ap (λ c. len_of (volume_read m.sizes v.entry c)) is
    ∙ ap Ok (length-lebs size lebs (λ l. IfSome_then (get lebs l) (fits.2 l) (λ text h. h.1)) v.entry.reserved)
