-- What is built from the records and the contents of an accepted image is its meaning.
use Rattle.ubi_compose.proofs.Prelude.{◌≡◌, ◌≢◌, ℕ, zero, suc, ◌+◌, ◌-◌, ◌*◌, ◌<◌, ◌≤◌, inl, inr, Bool, true, false, cond, List, [], ◌++◌, append-nil, length, refl, ap, sym, ◌∙◌, arith, zero-add, Contains, Err, None, Ok, Option, Some, IfSome, option_map, unwrap_or, FinMap, nat_cmp, nat_cmp_total, nat_cmp-IsAntisymmetric, range_with_len, option_map_or, mul-le, blank, filled, is_blank, Sizes, usable, VolumeRecord, VolKind, within_or_past, usable_some, filled-is, length-blank, lebs_without_blank, without_blank, pieces, share, leb_text, lebs_text, volume_read, Content, Fits, IsMeaning, IsVolume, Meant, Volume, blank_text, pieces_few, pieces_suffice, get_without_blank, is_kept, Parts, built, content_of, lebs_of, text_of, part_at, Part, not, volume_is, get_or, get_or-range_with_len, length-range_with_len, length-lebs, share_of_pieces, KeepsNoBlank, AreVolumesOf, BuiltAgain, leb_there, leb_within}
use Rattle.std.specs.FinMap as finite
use Rattle.ubi_media.specs.declared.vid.VolKind.TheVariants as kind
use Rattle.ubi_volume.specs.declared.content.Content.TheVariants as content
use Rattle.ubi_volume.specs.declared.errors.ReadError.TheVariants as error
use Rattle.ubi_laid.proofs.PartContents.{leb_of}
use Rattle.ubi_compose.proofs.BuiltReads.{some_part}
use Rattle.ubi_compose.proofs.BuiltVolumes.{built_at, volume_in}
use Rattle.ubi_compose.proofs.ListedParts.{found_part, listed_at}

module _ (size reserved : ℕ) (some : 1 ≤ size) (lebs : FinMap nat_cmp (List ℕ))
    (sized : (lnum : ℕ) → IfSome (finite.get lebs lnum) (λ x. (lnum < reserved) × (length x ≡ size)))
    (seen : (lnum : ℕ) → IfSome (finite.get lebs lnum) (λ x. x ≢ blank size)) where
  abbrev text : List ℕ
  text = lebs_text size lebs reserved

  abbrev one : ℕ → List ℕ
  one lnum = leb_text size (finite.get lebs lnum)

  sized_by : (lnum : ℕ) (o : Option (List ℕ)) → IfSome o (λ x. (lnum < reserved) × (length x ≡ size))
      → IfSome o (λ x. length x ≡ size)
  sized_by lnum None h = tt
  sized_by lnum (Some x) h = h.1

  long : length text ≡ reserved * size
  long = length-lebs size lebs (λ lnum. sized_by lnum (finite.get lebs lnum) (sized lnum)) reserved

  count : pieces size (length text) ≡ reserved
  count =
      let few = pieces_few size some (length text) reserved (omega (arith, long)) in
      let all = pieces_suffice size some (length text) in
      elim (within_or_past reserved (pieces size (length text))) [
        | inl enough ↦ omega (arith, few, enough)
        | inr less ↦ absurd (let more = mul-le (pieces size (length text) + 1) size reserved size (omega (arith, less)) (omega arith) in
            omega (arith, more, all, long, some))
      ]

  one_long : (lnum : ℕ) (o : Option (List ℕ)) → IfSome o (λ x. (lnum < reserved) × (length x ≡ size))
      → length (leb_text size o) ≡ size
  one_long lnum None h = length-blank size
  one_long lnum (Some x) h = h.1

  each_long : (lnum : ℕ) → length (one lnum) ≡ size
  each_long lnum = one_long lnum (finite.get lebs lnum) (sized lnum)

  count_range : (a n : ℕ) → length (range_with_len a n) ≡ n
  count_range a n = length-range_with_len a n

  -- the share of a LEB is what it reads
  share_is : (lnum : ℕ) → lnum < reserved → share size text lnum ≡ one lnum
  share_is lnum below =
      let range : length (range_with_len 0 reserved) ≡ reserved = count_range 0 reserved in
      let at : get_or (range_with_len 0 reserved) lnum 0 ≡ lnum =
      get_or-range_with_len 0 reserved lnum 0 below ∙ zero-add lnum in
      share_of_pieces one size (range_with_len 0 reserved) lnum (omega (arith, range, below))
      (λ i inside. omega (arith, each_long (get_or (range_with_len 0 reserved) i 0)))
      (λ i inside. each_long (get_or (range_with_len 0 reserved) i 0))
      ∙ ap one at

  whole : (x : List ℕ) → length x ≡ size → filled size x ≡ x
  whole x same =
      let none : size - length x ≡ 0 = omega (arith, same) in
      filled-is size x ∙ ap (λ n. x ++ blank n) none ∙ append-nil x

  leb_is : (lnum : ℕ) → lnum < reserved → leb_of size text lnum ≡ one lnum
  leb_is lnum below = ap (filled size) (share_is lnum below) ∙ whole (one lnum) (each_long lnum)

  abbrev made : FinMap nat_cmp (List ℕ)
  made = lebs_of size text

  blank_is : (n : ℕ) → is_blank (blank n) ≡ true
  blank_is zero = refl
  blank_is (suc n) = blank_is n

  not_blank : (x : List ℕ) → length x ≡ size → x ≢ blank size → (b : Bool) → is_blank x ≡ b → b ≡ false
  not_blank x same apart false e = refl
  not_blank x same apart true e = absurd (apart (blank_text x size e same))

  kept_as : (lnum : ℕ) (o : Option (List ℕ)) → IfSome o (λ x. (lnum < reserved) × (length x ≡ size))
      → IfSome o (λ x. x ≢ blank size)
      → cond (not (is_blank (leb_text size o))) (Some (leb_text size o)) None ≡ o
  kept_as lnum None h k = ap (λ b. cond (not b) (Some (blank size)) None) (blank_is size)
  kept_as lnum (Some x) h k = ap (λ b. cond (not b) (Some x) None) (not_blank x h.1 k (is_blank x) refl)

  none_made : (lnum : ℕ) → reserved ≤ lnum → (o : Option (List ℕ)) → finite.get made lnum ≡ o → o ≡ None
  none_made lnum past None e = refl
  none_made lnum past (Some x) e = absurd (let l = leb_within size text lnum x e in omega (arith, l, past, count))

  none_there : (lnum : ℕ) → reserved ≤ lnum → (o : Option (List ℕ))
      → IfSome o (λ x. (lnum < reserved) × (length x ≡ size)) → None ≡ o
  none_there lnum past None h = refl
  none_there lnum past (Some x) h = absurd (let below = h.0 in omega (arith, below, past))

  get_same : (lnum : ℕ) → finite.get (lebs_without_blank made) lnum ≡ finite.get lebs lnum
  get_same lnum =
      get_without_blank made lnum
      ∙ elim (within_or_past reserved lnum) as (λ _. cond (is_kept made lnum) (finite.get made lnum) None ≡ finite.get lebs lnum) [
        | inl past ↦
            ap (λ (o : Option (List ℕ)). cond (not (is_blank (unwrap_or o []))) o None)
            (none_made lnum past (finite.get made lnum) refl)
            ∙ none_there lnum past (finite.get lebs lnum) (sized lnum)
        | inr below ↦
            ap (λ (o : Option (List ℕ)). cond (not (is_blank (unwrap_or o []))) o None)
            (leb_there size text lnum (omega (arith, below, count)) ∙ ap (λ (x : List ℕ). Some x) (leb_is lnum below))
            ∙ kept_as lnum (finite.get lebs lnum) (sized lnum) (seen lnum)
      ]

  -- the LEBs of what a volume reads are its LEBs
  pub lebs_again : lebs_without_blank made ≡ lebs
  lebs_again = finite.same_map nat_cmp_total nat_cmp-IsAntisymmetric (lebs_without_blank made) lebs get_same

-- what a volume holds that what it reads was written to
module _ (s : Sizes) (id : ℕ) (v : Volume) (is : IsVolume s id v) (text : List ℕ) where
  content_by : (c : Content) → Fits s v.entry c → KeepsNoBlank s v.entry c → volume_read s v.entry c ≡ Ok text
      → without_blank (content_of v.entry.kind (usable s v.entry) text) ≡ c
  content_by content.Updating fits keeps read = absurd (cc)
  content_by content.Damaged fits keeps read = absurd (cc)
  content_by (content.Static t) fits keeps read =
      let same : t ≡ text = (let e = read in cc) in
      ap (λ (k : VolKind). without_blank (content_of k (usable s v.entry) text)) fits.1
      ∙ ap (λ (x : List ℕ). content.Static x) (sym same)
  content_by (content.Dynamic lebs) fits keeps read =
      let same : lebs_text (usable s v.entry) lebs v.entry.reserved ≡ text = (let e = read in cc) in
      ap (λ (k : VolKind). without_blank (content_of k (usable s v.entry) text)) fits.1
      ∙ ap (λ (x : List ℕ). without_blank (content_of kind.Dynamic (usable s v.entry) x)) (sym same)
      ∙ ap (λ (l : FinMap nat_cmp (List ℕ)). content.Dynamic l)
      (lebs_again (usable s v.entry) v.entry.reserved (usable_some s v.entry is.sound) lebs fits.2 keeps)

module _ (m : Meant) (meaning : IsMeaning m) (ps : Parts) (bytes : List ℕ) (are : AreVolumesOf m ps bytes) where
  volume_same : (p : Part) → Contains ps.of p → Some (volume_in ps bytes p) ≡ finite.get m.volumes p.id
  volume_same p listed =
      let of = are.read p listed in
      let v = of.0 in
      let is = volume_is m meaning p.id v of.1 in
      let read = sym (ap (λ (o : Option Volume). option_map_or (λ (v : Volume). volume_read m.sizes v.entry v.content) o (Err error.NoVolume)) of.1) ∙ of.3 in
      let holds = content_by m.sizes p.id v is (text_of bytes p) v.content is.fits is.kept read in
      ap (λ (r : VolumeRecord). Some (record { entry = r; content = without_blank (content_of r.kind (usable ps.sizes r) (text_of bytes p)) })) of.2
      ∙ ap (λ (s : Sizes). Some (record { entry = v.entry; content = without_blank (content_of v.entry.kind (usable s v.entry) (text_of bytes p)) })) are.sizes
      ∙ ap (λ (c : Content). Some (record { entry = v.entry; content = c })) holds
      ∙ sym of.1

  none_left : (id : ℕ) → part_at ps id ≡ None → (o : Option Volume) → finite.get m.volumes id ≡ o → None ≡ o
  none_left id none None e = refl
  none_left id none (Some v) e =
      let of = are.each id v e in
      let at = listed_at ps.of of.0 of.1 in
      absurd (some_part ps.of at.0 of.0 at.1 (ap (part_at ps) of.2 ∙ none))

  by_part : (id : ℕ) (o : Option Part) → part_at ps id ≡ o
      → option_map (volume_in ps bytes) o ≡ finite.get m.volumes id
  by_part id None e = none_left id e (finite.get m.volumes id) refl
  by_part id (Some p) e =
      let found = found_part ps.of id p e in
      volume_same p found.0 ∙ ap (finite.get m.volumes) found.1

  volumes_same : (built ps bytes).volumes ≡ m.volumes
  volumes_same =
      finite.same_map nat_cmp_total nat_cmp-IsAntisymmetric (built ps bytes).volumes m.volumes
      (λ id. built_at ps bytes id ∙ by_part id (part_at ps id) refl)

  pub again : built ps bytes ≡ m
  again =
      ap (λ (s : Sizes). record { sizes = s; image_seq = ps.image_seq; volumes = (built ps bytes).volumes }) are.sizes
      ∙ ap (λ (n : ℕ). record { sizes = m.sizes; image_seq = n; volumes = (built ps bytes).volumes }) are.image_seq
      ∙ ap (λ (vs : FinMap nat_cmp Volume). record { sizes = m.sizes; image_seq = m.image_seq; volumes = vs }) volumes_same

pub built_again : BuiltAgain
built_again image m ps bytes accepts h reaches are = again m accepts.accepted.means.meaning ps bytes are
