-- A meaning with other contents in one LEB is a meaning.
use Rattle.ubi_change.proofs.Prelude.{◌≡◌, ◌≢◌, ℕ, ◌<◌, ◌≤◌, ◌⊎◌, inl, inr, cond, List, length, refl, ap, sym, ◌∙◌, subst, arith, IfSome, None, Option, Some, option_map, unwrap_or, nat_cmp_total, FinMap, nat_cmp-IsAntisymmetric, option_map_or, nat_cmp, same_Some, cases_eq, blank, filled, is_blank, usable, VolumeRecord, false_or_true, apart_test, same_test, space, IsMeaning, IsVolume, Meant, records_of, Volume, blank_text, other_text, record_of, space_of, length-filled, changed, volume_with, with_leb}
use Rattle.std.specs.FinMap as finite
use Rattle.ubi_volume.specs.declared.content.Content.TheVariants as content
use Rattle.ubi_change.proofs.Mounted.{IsChanged}

module _ {X : Type 0} (m : FinMap nat_cmp X) (k : ℕ) where
  insert_same : (x : X) → finite.get (finite.insert m k x) k ≡ Some x
  insert_same x = finite.get-insert nat_cmp_total m k x k ∙ ap (λ b. cond b (Some x) (finite.get m k)) (same_test k)

  insert_other : (x : X) (q : ℕ) → q ≢ k → finite.get (finite.insert m k x) q ≡ finite.get m q
  insert_other x q e = finite.get-insert nat_cmp_total m k x q
      ∙ ap (λ b. cond b (Some x) (finite.get m q)) (apart_test q k e)

  remove_same : finite.get (finite.remove m k) k ≡ None
  remove_same = finite.get-remove nat_cmp_total m k k ∙ ap (λ b. cond b None (finite.get m k)) (same_test k)

  remove_other : (q : ℕ) → q ≢ k → finite.get (finite.remove m k) q ≡ finite.get m q
  remove_other q e = finite.get-remove nat_cmp_total m k q ∙ ap (λ b. cond b None (finite.get m q)) (apart_test q k e)

-- LEBs with another text
module _ (lebs : FinMap nat_cmp (List ℕ)) (lnum size : ℕ) (text : List ℕ) (long : length text ≡ size) where
  pub leb_there : (l : ℕ) → l ≢ lnum → finite.get (with_leb lebs lnum text) l ≡ finite.get lebs l
  leb_there l e = elim (false_or_true (is_blank text)) [
    | inl t ↦ ap (λ b. finite.get (cond b (finite.remove lebs lnum) (finite.insert lebs lnum text)) l) t
        ∙ remove_other lebs lnum l e
    | inr t ↦ ap (λ b. finite.get (cond b (finite.remove lebs lnum) (finite.insert lebs lnum text)) l) t
        ∙ insert_other lebs lnum text l e
  ]

  leb_here : ((finite.get (with_leb lebs lnum text) lnum ≡ None) × (text ≡ blank size))
      ⊎ ((finite.get (with_leb lebs lnum text) lnum ≡ Some text) × (text ≢ blank size))
  leb_here = elim (false_or_true (is_blank text)) [
    | inl t ↦ inl (
      ap (λ b. finite.get (cond b (finite.remove lebs lnum) (finite.insert lebs lnum text)) lnum) t
          ∙ remove_same lebs lnum,
      blank_text text size t long,
    )
    | inr t ↦ inr (
      ap (λ b. finite.get (cond b (finite.remove lebs lnum) (finite.insert lebs lnum text)) lnum) t
          ∙ insert_same lebs lnum text,
      other_text text size t,
    )
  ]

  pub leb_reads : unwrap_or (finite.get (with_leb lebs lnum text) lnum) (blank size) ≡ text
  leb_reads = elim leb_here [
    | inl h ↦ ap (λ (o : Option (List ℕ)). unwrap_or o (blank size)) h.0 ∙ sym h.1
    | inr h ↦ ap (λ (o : Option (List ℕ)). unwrap_or o (blank size)) h.0
  ]

  -- what holds of each text that is kept, if it holds of this one where it isn't blank
  pub each_text : (P : ℕ → List ℕ → Type 0) → ((l : ℕ) → IfSome (finite.get lebs l) (P l))
      → (text ≢ blank size → P lnum text)
      → (l : ℕ) → IfSome (finite.get (with_leb lebs lnum text) l) (P l)
  each_text P old here l = elim (cases_eq l lnum) [
    | inl e ↦ subst (λ (k : ℕ). IfSome (finite.get (with_leb lebs lnum text) k) (P k)) (sym e) (elim leb_here [
      | inl h ↦ subst (λ (o : Option (List ℕ)). IfSome o (P lnum)) (sym h.0) tt
      | inr h ↦ subst (λ (o : Option (List ℕ)). IfSome o (P lnum)) (sym h.0) (here h.1)
    ])
    | inr e ↦ subst (λ (o : Option (List ℕ)). IfSome o (P l)) (sym (leb_there l e)) (old l)
  ]

module _ (m : Meant) (is : IsMeaning m) (id lnum : ℕ) (new : List ℕ) (r : VolumeRecord) (lebs : FinMap nat_cmp (List ℕ))
    (was : finite.get m.volumes id ≡ Some (record { entry = r; content = content.Dynamic lebs }))
    (inside : lnum < r.reserved)
    (short : length new ≤ usable m.sizes r) where
  abbrev pub text : List ℕ
  text = filled (usable m.sizes r) new

  abbrev pub now : Volume
  now = record { entry = r; content = content.Dynamic (with_leb lebs lnum text) }

  abbrev pub next : Meant
  next = record m { volumes = finite.insert m.volumes id now }

  pub changed-is : changed m id lnum new ≡ next
  changed-is =
      ap
      (λ (o : Option Volume). option_map_or
      (λ (v : Volume). record m { volumes = finite.insert m.volumes id (volume_with m.sizes v lnum new) }) o m) was

  long : length text ≡ usable m.sizes r
  long = length-filled (usable m.sizes r) new short

  volume_was : IsVolume m.sizes id (record { entry = r; content = content.Dynamic lebs })
  volume_was = subst (λ (o : Option Volume). IfSome o (IsVolume m.sizes id)) was (is.each id)

  volume_now : IsVolume m.sizes id now
  volume_now =
      let fits = volume_was.fits in
      let kept = volume_was.kept in
      record {
        slot = volume_was.slot;
        sound = volume_was.sound;
        fits = (
          fits.0,
          fits.1,
          each_text lebs lnum (usable m.sizes r) text long
              (λ l t. (l < r.reserved) × (length t ≡ usable m.sizes r)) fits.2 (λ _. (inside, long)),
        );
        kept = each_text lebs lnum (usable m.sizes r) text long (λ l t. t ≢ blank (usable m.sizes r)) kept (λ e. e);
      }

  -- each volume of the one has its record in the other
  entries_same : (i : ℕ) → option_map (λ (v : Volume). v.entry) (finite.get next.volumes i)
      ≡ option_map (λ (v : Volume). v.entry) (finite.get m.volumes i)
  entries_same i = elim (cases_eq i id) [
    | inl e ↦ subst (λ (k : ℕ). option_map (λ (v : Volume). v.entry) (finite.get next.volumes k)
        ≡ option_map (λ (v : Volume). v.entry) (finite.get m.volumes k)) (sym e)
        (ap (option_map (λ (v : Volume). v.entry)) (insert_same m.volumes id now)
        ∙ sym (ap (option_map (λ (v : Volume). v.entry)) was))
    | inr e ↦ ap (option_map (λ (v : Volume). v.entry)) (insert_other m.volumes id now i e)
  ]

  pub records_same : records_of next ≡ records_of m
  records_same =
      let same = finite.same_map nat_cmp_total nat_cmp-IsAntisymmetric (records_of next).of (records_of m).of
      (λ i. record_of next i ∙ entries_same i ∙ sym (record_of m i)) in
      λ j. record { sizes = m.sizes; of = same j }

  -- a volume of the one is one of the other with the same record
  was_volume : (i : ℕ) (v : Volume) → finite.get next.volumes i ≡ Some v
      → (w : Volume) × (finite.get m.volumes i ≡ Some w) × (w.entry ≡ v.entry)
  was_volume i v e = elim (cases_eq i id) [
    | inl k ↦
        let here : v ≡ now = same_Some v now (sym e ∙ ap (λ (j : ℕ). finite.get next.volumes j) k
        ∙ insert_same m.volumes id now) in (
          record { entry = r; content = content.Dynamic lebs },
          ap (λ (j : ℕ). finite.get m.volumes j) k
              ∙ was,
          ap (λ (v : Volume). v.entry) (sym here),
        )
    | inr k ↦ (v, sym (insert_other m.volumes id now i k) ∙ e, refl)
  ]

  pub meaning_next : IsMeaning next
  meaning_next = record {
    image_seq = is.image_seq;
    each = λ i. elim (cases_eq i id) [
      | inl e ↦ subst (λ (k : ℕ). IfSome (finite.get next.volumes k) (IsVolume m.sizes k)) (sym e)
          (subst (λ (o : Option Volume). IfSome o (IsVolume m.sizes id)) (sym (insert_same m.volumes id now))
          volume_now)
      | inr e ↦ subst (λ (o : Option Volume). IfSome o (IsVolume m.sizes i)) (sym (insert_other m.volumes id now i e))
          (is.each i)
    ];
    names = λ i j v w e f same.
        (let a = was_volume i v e in let b = was_volume j w f in
        is.names i j a.0 b.0 a.1 b.1 (ap (λ (r : VolumeRecord). r.name) a.2 ∙ same
        ∙ ap (λ (r : VolumeRecord). r.name) (sym b.2)));
    space = (let e = sym (space_of next) ∙ ap space records_same ∙ space_of m in let l = is.space in omega arith);
  }

  pub changed-next : IsChanged m next id lnum r text
  changed-next = record {
    sizes = refl;
    image_seq = refl;
    meaning = meaning_next;
    others = insert_other m.volumes id now;
    old = lebs;
    new = with_leb lebs lnum text;
    was = was;
    is = insert_same m.volumes id now;
    here = leb_reads lebs lnum (usable m.sizes r) text long;
    there = leb_there lebs lnum (usable m.sizes r) text long;
  }

-- nothing changes where a LEB that reads 0xFF is made to
pub unchanged : (m : Meant) → IsMeaning m → (id lnum : ℕ) (r : VolumeRecord) (lebs : FinMap nat_cmp (List ℕ))
    → finite.get m.volumes id ≡ Some (record { entry = r; content = content.Dynamic lebs })
    → unwrap_or (finite.get lebs lnum) (blank (usable m.sizes r)) ≡ blank (usable m.sizes r)
    → IsChanged m m id lnum r (blank (usable m.sizes r))
unchanged m is id lnum r lebs was reads = record {
  sizes = refl;
  image_seq = refl;
  meaning = is;
  others = λ i e. refl;
  old = lebs;
  new = lebs;
  was = was;
  is = was;
  here = reads;
  there = λ l e. refl;
}
