-- A page can accept what its double refuses: an image with a volume whose alignment is a multiple of the page alone.
use Rattle.ubi_compose.proofs.Prelude.{◌≡◌, ℕ, ◌+◌, ◌≤◌, cond, false, List, [], ◌∷◌, refl, ap, sym, ◌∙◌, subst, lit<, arith, inl, inr, IfSome, None, Some, sum_by, nat_cmp_total, ◌∣◌, nat_cmp, cases_eq, dvd_of_mod-eq-zero, none-some, IsGeometry, Sizes, first_broken, breaks, fields_from, first_fault, rec_fault, kept_limits, Refusal, sorted_entries, apart_test, same_test, image_of, greater_breaks, lesser_page, Accepts, Refuses, HasDistinctNames, IsMeaning, IsVolume, Meant, VolumeMap, meaning_with_page, Volume, composed, LesserAcceptsMore}
use Rattle.std.specs.Prelude.{map}
use Rattle.std.specs.FinMap as finite
use Rattle.ubi_media.specs.declared.record.RecFault.TheVariants as fault
use Rattle.ubi_media.specs.declared.vid.VolKind.TheVariants as kind
use Rattle.ubi_media.specs.declared.refusal.Refusal.TheVariants as refusal
use Rattle.ubi_volume.specs.declared.content.Content.TheVariants as content
use Rattle.ubi_compose.proofs.Accepted.{normal_accepted}
use Rattle.ubi_compose.proofs.Room.{normal_fits}

-- eraseblocks of 1,024 bytes with pages of 128 or of 256
abbrev sizes_by : ℕ → Sizes
sizes_by page = record { peb_size = 1024; page = page; vid_offset = 64; data_offset = 256; pebs = 32 }

-- an empty static volume with an alignment of 128
abbrev volume : Volume
volume = record {
  entry = record { reserved = 1; alignment = 128; kind = kind.Static; marker = false; name = 97 ∷ []; flags = 0 };
  content = content.Static [];
}

abbrev volumes : VolumeMap
volumes = finite.from_entries ((0, volume) ∷ [])

abbrev meaning : Meant
meaning = record { sizes = sizes_by 128; image_seq = 0; volumes = volumes }

found : (id : ℕ) → finite.get volumes id ≡ finite.find nat_cmp id ((0, volume) ∷ [])
found id = finite.get-from_entries nat_cmp_total ((0, volume) ∷ []) id

-- the volume is there, and no other
first_found : finite.get volumes 0 ≡ Some volume
first_found = found 0 ∙ ap (λ b. cond b (Some volume) None) (same_test 0)

only_found : (id : ℕ) (v : Volume) → finite.get volumes id ≡ Some v → id ≡ 0
only_found id v is =
    elim (cases_eq id 0) [
      | inl same ↦ same
      | inr other ↦
          absurd (none-some v (sym (found id ∙ ap (λ b. cond b (Some volume) None) (apart_test id 0 other)) ∙ is))
    ]

sound : rec_fault (sizes_by 128) volume.entry ≡ None
unfolding fields_from first_fault breaks
sound = refl

at_fault : rec_fault (sizes_by 256) volume.entry ≡ Some fault.AlignmentPage
unfolding fields_from first_fault breaks
at_fault = refl

is_volume : IsVolume (sizes_by 128) 0 volume
is_volume = record { slot = lit< tt; sound = sound; fits = (refl, refl, omega arith); kept = tt }

each : (id : ℕ) → IfSome (finite.get volumes id) (IsVolume (sizes_by 128) id)
each id =
    elim (cases_eq id 0) [
      | inl same ↦
          subst (λ n. IfSome (finite.get volumes n) (IsVolume (sizes_by 128) n)) (sym same)
          (subst (λ o. IfSome o (IsVolume (sizes_by 128) 0)) (sym first_found) is_volume)
      | inr other ↦
          subst (λ o. IfSome o (IsVolume (sizes_by 128) id))
          (sym (found id ∙ ap (λ b. cond b (Some volume) None) (apart_test id 0 other))) tt
    ]

names : HasDistinctNames volumes
names i j v w is at same = only_found i v is ∙ sym (only_found j w at)

space : 2 + sum_by (λ (v : Volume). v.entry.reserved) (finite.values volumes) ≤ 32
space =
    let es = sorted_entries ((0, volume) ∷ []) refl in
    let one = ap (λ es. sum_by (λ (v : Volume). v.entry.reserved) (map (λ e. e.1) es)) es in
    omega (arith, one)

is_meaning : IsMeaning meaning
is_meaning = record { image_seq = lit< tt; each = each; names = names; space = space }

is_lesser : IsGeometry (sizes_by 128)
unfolding first_broken
is_lesser = (kept_limits (sizes_by 128)).0 refl

is_greater : IsGeometry (sizes_by 256)
unfolding first_broken
is_greater = (kept_limits (sizes_by 256)).0 refl

-- its normal image
abbrev bytes : List ℕ
bytes = composed meaning 0

accepted : Accepts (image_of (sizes_by 128) bytes) meaning
accepted = normal_accepted meaning is_lesser is_meaning 0 (normal_fits meaning is_meaning)

refused : (c : Refusal) × Refuses (image_of (sizes_by 256) bytes) c
refused =
    let divides : 128 ∣ 256 = dvd_of_mod-eq-zero 128 refl in
    elim (lesser_page.greater (image_of (sizes_by 256) bytes) meaning 128 divides accepted) [
      | inl other ↦
          absurd (greater_breaks (image_of (sizes_by 256) bytes) meaning (meaning_with_page meaning 256) 128 0 volume
          fault.AlignmentPage divides other accepted first_found at_fault)
      | inr why ↦ (refusal.Record why.0 why.1 fault.AlignmentPage, why.2)
    ]

pub lesser_accepts_more : LesserAcceptsMore
lesser_accepts_more =
    (image_of (sizes_by 256) bytes, meaning, 128, dvd_of_mod-eq-zero 128 refl, is_greater, is_lesser, accepted, refused)
