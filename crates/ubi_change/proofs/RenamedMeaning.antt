-- A meaning with another name in one record is a meaning, and its volumes are the same except for that name.
use Rattle.ubi_change.proofs.Prelude.{◌≡◌, ◌≢◌, ℕ, inl, inr, Bool, true, false, cond, List, refl, ap, sym, ◌∙◌, subst, arith, IfSome, None, Option, Some, option_map, nat_cmp_total, sum_by, option_map_or, cases_eq, same_Some, Sizes, is_name, VolumeRecord, apart_test, at_itself, at_other, same_test, revalued_is, sum_revalued, Fits, IsMeaning, IsVolume, KeepsNoBlank, Meant, VolumeMap, Content, Volume, with_name, sound_named, ReadSame, nameless, renamed, volume_named}
use Rattle.std.proofs.Common.{◌==◌}
use Rattle.std.specs.FinMap as finite
use Rattle.ubi_volume.specs.declared.content.Content.TheVariants as content

-- what a volume holds doesn't depend on its name
fits_named : (s : Sizes) (r : VolumeRecord) (name : List ℕ) (c : Content) → Fits s r c → Fits s (with_name r name) c
fits_named s r name content.Updating h = h
fits_named s r name content.Damaged h = h
fits_named s r name (content.Static text) h = h
fits_named s r name (content.Dynamic lebs) h = h

keeps_named : (s : Sizes) (r : VolumeRecord) (name : List ℕ) (c : Content) → KeepsNoBlank s r c
    → KeepsNoBlank s (with_name r name) c
keeps_named s r name content.Updating h = h
keeps_named s r name content.Damaged h = h
keeps_named s r name (content.Static text) h = h
keeps_named s r name (content.Dynamic lebs) h = h

module _ (m : Meant) (is : IsMeaning m) (id : ℕ) (name : List ℕ) (v : Volume) (was : finite.get m.volumes id ≡ Some v)
    (named : is_name name ≡ true)
    (free : (slot : ℕ) (w : Volume) → slot ≢ id → finite.get m.volumes slot ≡ Some w → w.entry.name ≡ name → ⊥) where
  abbrev pub now : Volume
  now = volume_named v name

  abbrev pub next : Meant
  next = record m { volumes = finite.insert m.volumes id now }

  pub renamed-is : renamed m id name ≡ next
  renamed-is =
      ap
      (λ (o : Option Volume). option_map_or
      (λ (v : Volume). record m { volumes = finite.insert m.volumes id (volume_named v name) }) o m) was

  here : finite.get next.volumes id ≡ Some now
  here = finite.get-insert nat_cmp_total m.volumes id now id
      ∙ ap (λ b. cond b (Some now) (finite.get m.volumes id)) (same_test id)

  there : (i : ℕ) → i ≢ id → finite.get next.volumes i ≡ finite.get m.volumes i
  there i e = finite.get-insert nat_cmp_total m.volumes id now i
      ∙ ap (λ b. cond b (Some now) (finite.get m.volumes i)) (apart_test i id e)

  volume_was : IsVolume m.sizes id v
  volume_was = subst (λ (o : Option Volume). IfSome o (IsVolume m.sizes id)) was (is.each id)

  volume_now : IsVolume m.sizes id now
  volume_now = record {
    slot = volume_was.slot;
    sound = sound_named m.sizes v.entry name named volume_was.sound;
    fits = fits_named m.sizes v.entry name v.content volume_was.fits;
    kept = keeps_named m.sizes v.entry name v.content volume_was.kept;
  }

  -- the volumes are those of m, of which one is named
  abbrev volume_at : ℕ → Volume → Volume
  volume_at i w = cond (i == id) (volume_named w name) w

  others_stay : (i : ℕ) → i ≢ id → (o : Option Volume) → option_map (volume_at i) o ≡ o
  others_stay i e None = refl
  others_stay i e (Some w) = ap (λ b. Some (cond b (volume_named w name) w)) (at_other i id e)

  volumes_at : (i : ℕ) → finite.get next.volumes i ≡ option_map (volume_at i) (finite.get m.volumes i)
  volumes_at i = elim (cases_eq i id) [
    | inl e ↦ subst (λ (k : ℕ). finite.get next.volumes k ≡ option_map (volume_at k) (finite.get m.volumes k)) (sym e)
        (here ∙ sym (ap (option_map (volume_at id)) was ∙ ap (λ b. Some (cond b now v)) (at_itself id)))
    | inr e ↦ there i e ∙ sym (others_stay i e (finite.get m.volumes i))
  ]

  -- so as much is reserved
  reserved_one : (b : Bool) (w : Volume) → (cond b (volume_named w name) w).entry.reserved ≡ w.entry.reserved
  reserved_one true w = refl
  reserved_one false w = refl

  reserved_same : sum_by (λ (w : Volume). w.entry.reserved) (finite.values next.volumes)
      ≡ sum_by (λ (w : Volume). w.entry.reserved) (finite.values m.volumes)
  reserved_same =
      ap (λ (z : VolumeMap). sum_by (λ (w : Volume). w.entry.reserved) (finite.values z))
      (sym (revalued_is volume_at m.volumes next.volumes volumes_at))
      ∙ sum_revalued volume_at m.volumes (λ (w : Volume). w.entry.reserved) (λ (w : Volume). w.entry.reserved)
      (λ i w. reserved_one (i == id) w)

  named_now : (w : Volume) → finite.get next.volumes id ≡ Some w → w.entry.name ≡ name
  named_now w e = ap (λ (v : Volume). v.entry.name) (same_Some w now (sym e ∙ here))

  pub meaning_next : IsMeaning next
  meaning_next = record {
    image_seq = is.image_seq;
    each = λ i. elim (cases_eq i id) [
      | inl e ↦ subst (λ (k : ℕ). IfSome (finite.get next.volumes k) (IsVolume m.sizes k)) (sym e)
          (subst (λ (o : Option Volume). IfSome o (IsVolume m.sizes id)) (sym here) volume_now)
      | inr e ↦ subst (λ (o : Option Volume). IfSome o (IsVolume m.sizes i)) (sym (there i e)) (is.each i)
    ];
    names = λ i j v w e f same. elim (cases_eq i id) [
      | inl a ↦ elim (cases_eq j id) [
        | inl b ↦ a ∙ sym b
        | inr b ↦ absurd (free j w b (sym (there j b) ∙ f)
            (sym same ∙ named_now v (ap (λ (k : ℕ). finite.get next.volumes k) (sym a) ∙ e)))
      ]
      | inr a ↦ elim (cases_eq j id) [
        | inl b ↦ absurd (free i v a (sym (there i a) ∙ e)
            (same ∙ named_now w (ap (λ (k : ℕ). finite.get next.volumes k) (sym b) ∙ f)))
        | inr b ↦ is.names i j v w (sym (there i a) ∙ e) (sym (there j b) ∙ f) same
      ]
    ];
    space = (let e = reserved_same in let l = is.space in omega arith);
  }

-- where the volume is there, it has the name, and the others stay as they are
module _ (m : Meant) (id : ℕ) (name : List ℕ) (v : Volume) (was : finite.get m.volumes id ≡ Some v) where
  now_is : renamed m id name ≡ record m { volumes = finite.insert m.volumes id (volume_named v name) }
  now_is =
      ap
      (λ (o : Option Volume). option_map_or
      (λ (v : Volume). record m { volumes = finite.insert m.volumes id (volume_named v name) }) o m) was

  pub renamed_here : finite.get (renamed m id name).volumes id ≡ Some (volume_named v name)
  renamed_here = ap (λ (n : Meant). finite.get n.volumes id) now_is
      ∙ finite.get-insert nat_cmp_total m.volumes id (volume_named v name) id
      ∙ ap (λ b. cond b (Some (volume_named v name)) (finite.get m.volumes id)) (same_test id)

  pub renamed_there : (i : ℕ) → i ≢ id → finite.get (renamed m id name).volumes i ≡ finite.get m.volumes i
  renamed_there i e = ap (λ (n : Meant). finite.get n.volumes i) now_is
      ∙ finite.get-insert nat_cmp_total m.volumes id (volume_named v name) i
      ∙ ap (λ b. cond b (Some (volume_named v name)) (finite.get m.volumes i)) (apart_test i id e)

-- each volume reads as before
pub renamed_same : (m : Meant) (id : ℕ) (name : List ℕ) → ReadSame m (renamed m id name)
renamed_same m id name i = by (finite.get m.volumes id) refl
  where
    by : (o : Option Volume) → finite.get m.volumes id ≡ o
        → option_map nameless (finite.get (renamed m id name).volumes i) ≡ option_map nameless (finite.get m.volumes i)
    by None e = ap
        (λ (o : Option Volume). option_map nameless (finite.get (option_map_or
        (λ (v : Volume). record m { volumes = finite.insert m.volumes id (volume_named v name) }) o m).volumes i)) e
    by (Some v) e = elim (cases_eq i id) [
      | inl same ↦
          ap (λ (k : ℕ). option_map nameless (finite.get (renamed m id name).volumes k)) same
          ∙ ap (option_map nameless) (renamed_here m id name v e)
          ∙ sym (ap (option_map nameless) (ap (finite.get m.volumes) same ∙ e))
      | inr other ↦ ap (option_map nameless) (renamed_there m id name v e i other)
    ]
