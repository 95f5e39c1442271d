-- What is built from the config and the files that `unpack` writes for an accepted image is its normal image.
use Rattle.ubi_commands.proofs.Prelude.{◌≡◌, ℕ, zero, suc, get_or, option_map_or, ◌+◌, ◌≤◌, ◌<◌, List, [], ◌∷◌, ◌++◌, drop, length, map, take, ap, arith, refl, subst, sym, ◌∙◌, append-nil, length-append, same_Some, All, AllByRecursion, IfSome, IsSome, Ok, Result, option_map, Sizes, rec_fault, VolumeRecord, known_by, Accepts, Meant, read_volume, Wrote, sections_of, record_in, Section, image_built, text_of, composed, Part, Parts, AreGathered, ArePartsOf, IsSized, Sized, built, faulty, gathered, image_path, image_paths, len_of, numbered_parts, section_part, ungathered, unwritten, AreTold, file_of, Files, Holds, fresh, row_bytes, volume_len, ReadError, Listed, all_described, file_name, listed_at, Err, is_ok, is_some, then_some, meant_by, records_are, volume_is, volume_read, Volume, parts_build_again, read_fits, read_some, AreItsParts, normal_bytes, is_said, reserved_some, section_gives_record, bytes_reserved, left_out, may_grow, volume_lines, section_at, section_for, sections_at, line_number, ConfigVolume, LeftOut, IsGeometry, slots, Image, IsMeaning, records_of, crowded, unmade, unread, AreAllDescribed, BuildsTheImage, HoldVolumes, described, folder_config, listed, append_assoc, not_both}
use Rattle.std.specs.Prelude.{Option}
use Rattle.std.specs.Prelude.{None}
use Rattle.std.specs.Prelude.{Bool, Some, false, true}
use Rattle.std.specs.Prelude.{All as Every}
use Rattle.std.specs.FinMap as finite
use Rattle.ubi_volume.specs.declared.errors.ReadError.TheVariants as error
use Rattle.ubi_media.specs.declared.vid.VolKind.TheVariants as kind
use Rattle.ubi_commands.proofs.BuildReads.{all_told, first_of, middle, named, no_volume, parts_reach, received_is, sized_sum}
use Rattle.ubi_commands.proofs.FolderReads.{folder_config_reads}

abbrev listing : Part → ℕ × VolumeRecord
listing p = (p.id, p.entry)

-- what is known of a volume of an accepted image, its record and what it reads
record IsReadable (s : Sizes) (e : Listed) (text : List ℕ) : Type 0 where
  sound : rec_fault s e.1 ≡ None
  slot : e.0 < slots s
  few : length text ≤ bytes_reserved s e.1
  some : e.1.kind ≡ kind.Dynamic → 1 ≤ length text

module _ (d : Files) (config : List ℕ) (s : Sizes) (grow : Bool) (len : ℕ → Result ℕ ReadError) (read : ℕ → Result (List ℕ) ReadError) where
  -- of a volume: it is described, and its file holds what it reads
  record IsHere (e : Listed) : Type 0 where
    said : left_out grow (described (len e.0) e) ≡ None
    text : List ℕ
    reads : read e.0 ≡ Ok text
    held : d.holds (image_path config (file_name e)) ≡ Some text
    fits : IsReadable s e text

  section_said : (place : ℕ) (v : ConfigVolume) (o : Option LeftOut) → o ≡ None
      → section_at s place v o ≡ section_for s (line_number (place + 1)) v ∷ []
  section_said place v None h = refl
  section_said place v (Some c) h = absurd (cc)

  abbrev sections : ℕ → List Listed → List Section
  sections place es = sections_at s grow place (all_described len es)

  abbrev next : ℕ → Listed → ℕ
  next place e = place + length (volume_lines s grow (described (len e.0) e))

  abbrev first : ℕ → Listed → Section
  first place e = section_for s (line_number (place + 1)) (described (len e.0) e)

  sections_cons : (place : ℕ) (e : Listed) (es : List Listed) → IsHere e
      → sections place (e ∷ es) ≡ first place e ∷ sections (next place e) es
  sections_cons place e es h =
      ap (λ (xs : List Section). xs ++ sections (next place e) es)
      (section_said place (described (len e.0) e) (left_out grow (described (len e.0) e)) h.said)

  image_by : (b : Bool) (name : List ℕ) → is_some (then_some b name) ≡ true → then_some b name ≡ Some name
  image_by true name h = refl
  image_by false name h = absurd (cc)

  image_of_said : (e : Listed) → IsHere e → (described (len e.0) e).image ≡ Some (file_name e)
  image_of_said e h = image_by (is_ok (len e.0)) (file_name e) (is_said grow (described (len e.0) e) h.said).there

  -- the file of its section
  held_of : (place : ℕ) (e : Listed) (h : IsHere e) → file_of d config (first place e) ≡ Some h.text
  held_of place e h =
      ap (λ (o : Option (List ℕ)). option_map_or (λ i. d.holds (image_path config i)) o (Some [])) (image_of_said e h) ∙ h.held

  -- the record of its section
  record_of : (place : ℕ) (e : Listed) (h : IsHere e) → record_in s (first place e) (Some (length h.text)) ≡ Ok e.1
  record_of place e h =
      section_gives_record s (line_number (place + 1)) (length h.text) (described (len e.0) e) h.fits.sound
      (is_said grow (described (len e.0) e) h.said).unmarked h.fits.slot h.fits.few h.fits.some

  -- all files are told
  are_told : (place : ℕ) (es : List Listed) → AllByRecursion IsHere es → AreTold d config (sections place es)
  are_told place [] h = tt
  are_told place (e ∷ es) h =
      subst (AreTold d config) (sym (sections_cons place e es h.0))
      (subst (λ (o : Option (List ℕ)). IsSome o) (sym (held_of place e h.0)) refl, are_told (next place e) es h.1)

  module _ (bytes : List ℕ) where
    abbrev ReadsText : Part → Type 0
    ReadsText p = read p.id ≡ Ok (text_of bytes p)

    -- the parts of sections are those of the volumes
    collects : (place : ℕ) (es : List Listed) (xs : List Sized) (ps : List Part) (front behind : List ℕ) (start : ℕ)
        → bytes ≡ front ++ behind → start ≡ length front → AllByRecursion IsHere es → named d config xs ≡ sections place es
        → AllByRecursion (IsSized d config) xs → ArePartsOf s start xs ps → AreTold d config (named d config xs)
        → row_bytes (map d.holds (image_paths config (named d config xs))) ≡ Some behind
        → (map listing ps ≡ es) × AllByRecursion ReadsText ps
    collects place [] [] [] front behind start is begins here same sized are told all = (refl, tt)
    collects place [] [] (p ∷ ps) front behind start is begins here same sized are told all = absurd are
    collects place [] (x ∷ xs) ps front behind start is begins here same sized are told all = absurd (cc)
    collects place (e ∷ es) [] ps front behind start is begins here same sized are told all =
        absurd (let one = sections_cons place e es here.0 in cc)
    collects place (e ∷ es) (x ∷ xs) [] front behind start is begins here same sized are told all = absurd are
    collects place (e ∷ es) (x ∷ xs) (p ∷ ps) front behind start is begins here same sized are told all =
        let both = same ∙ sections_cons place e es here.0 in
        let head : x.0 ≡ first place e = cc in
        let tail : named d config xs ≡ sections (next place e) es = cc in
        let f = first_of d config x xs behind sized.0 told all in
        let text : f.file ≡ here.0.text =
        same_Some f.file here.0.text (sym f.held ∙ ap (file_of d config) head ∙ held_of place e here.0) in
        let image : x.0.image ≡ Some (file_name e) = ap (λ (x : Section). x.image) head ∙ image_of_said e here.0 in
        let long : x.1 ≡ Some (length here.0.text) =
        f.len ∙ ap (option_map (λ _. length f.file)) image ∙ ap (λ (t : List ℕ). Some (length t)) text in
        let got : record_in s x.0 x.1 ≡ Ok e.1 =
        ap (λ (y : Section). record_in s y x.1) head ∙ ap (λ (n : Option ℕ). record_in s (first place e) n) long
        ∙ record_of place e here.0 in
        let entry : are.0 ≡ e.1 = (let both = sym are.1 ∙ got in cc) in
        let whole : bytes ≡ front ++ (f.file ++ f.more) = is ∙ ap (λ (b : List ℕ). front ++ b) f.both in
        let cut : text_of bytes (section_part start x are.0) ≡ f.file =
        ap (λ (b : List ℕ). take (len_of x) (drop start b)) whole
        ∙ ap (λ (k : ℕ). take k (drop start (front ++ (f.file ++ f.more)))) f.long
        ∙ ap (λ (k : ℕ). take (length f.file) (drop k (front ++ (f.file ++ f.more)))) begins
        ∙ middle front f.file f.more in
        let id : x.0.id ≡ e.0 = ap (λ (x : Section). x.id) head in
        let part : listing p ≡ (x.0.id, are.0) = ap listing are.2 in
        let numbered_so : (x.0.id, are.0) ≡ (e.0, are.0) = ap (λ (i : ℕ). (i, are.0)) id in
        let recorded_so : (e.0, are.0) ≡ e = ap (λ (r : VolumeRecord). (e.0, r)) entry in
        let one : listing p ≡ e = part ∙ numbered_so ∙ recorded_so in
        let reads : ReadsText (section_part start x are.0) =
        ap read id ∙ here.0.reads ∙ ap Ok (sym (cut ∙ text)) in
        let onward : bytes ≡ (front ++ f.file) ++ f.more = whole ∙ sym (append_assoc front f.file f.more) in
        let size = length-append front f.file in
        let rest = collects (next place e) es xs ps (front ++ f.file) f.more (start + len_of x) onward
        (omega (arith, begins, size, f.long)) here.1 tail sized.1 are.3 told.1 f.rest in (
          ap (λ (l : Listed). l ∷ map listing ps) one ∙ ap (λ (ls : List Listed). e ∷ ls) rest.0,
          (subst ReadsText (sym are.2) reads, rest.1),
        )

-- what stands of all parts stands of each
each_part : (P : Part → Type 0) (ps : List Part) (p : Part) (i : ℕ) → AllByRecursion P ps → i < length ps → get_or ps i p ≡ p → P p
each_part P [] p i all inside is = absurd (omega (arith, inside))
each_part P (q ∷ ps) p zero all inside is = subst P is all.0
each_part P (q ∷ ps) p (suc i) all inside is = each_part P ps p i all.1 (omega (arith, inside)) is

module _ (d : Files) (config : List ℕ) (image : Image) (m : Meant) (g : IsGeometry image.sizes) (accepts : Accepts image m) where
  abbrev grows : Bool
  grows = may_grow (all_described (volume_len m) (listed m))

  abbrev Here : Listed → Type 0
  Here e = IsHere d config m.sizes grows (volume_len m) (read_volume m) e

  abbrev Held : Listed → Type 0
  Held e = (text : List ℕ) × (read_volume m e.0 ≡ Ok text) × (d.holds (image_path config (file_name e)) ≡ Some text)

  is_meaning : IsMeaning m
  is_meaning = accepts.accepted.means.meaning

  geometry : IsGeometry m.sizes
  geometry = subst IsGeometry (sym accepts.accepted.means.sizes) g

  one_here : (e : Listed) → finite.get (records_of m).of e.0 ≡ Some e.1
      → left_out grows (described (volume_len m e.0) e) ≡ None → Held e → Here e
  one_here e there said (text, reads, held) =
      let table = records_are m is_meaning in
      let of = meant_by m e.0 e.1 there in
      let v : Volume = of.0 in
      let is = volume_is m is_meaning e.0 v of.1 in
      let read : volume_read m.sizes v.entry v.content ≡ Ok text =
      sym (ap (λ (o : Option Volume). option_map_or (λ (v : Volume). volume_read m.sizes v.entry v.content) o (Err error.NoVolume)) of.1)
      ∙ reads in
      let fits = read_fits m.sizes e.0 v is text read in
      let some = read_some m.sizes e.0 v is text (reserved_some m.sizes v.entry is.sound) read in
      record {
        said = said;
        text = text;
        reads = reads;
        held = held;
        fits = record {
          sound = table.sound e.0 e.1 there;
          slot = table.slot e.0 e.1 there;
          few = subst (λ (r : VolumeRecord). length text ≤ bytes_reserved m.sizes r) of.2 fits.1;
          some = subst (λ (r : VolumeRecord). r.kind ≡ kind.Dynamic → 1 ≤ length text) of.2 some;
        };
      }

  all_here : (es : List Listed) → Every (λ e. finite.get (records_of m).of e.0 ≡ Some e.1) es
      → AllByRecursion (λ v. left_out grows v ≡ None) (all_described (volume_len m) es) → AllByRecursion Held es
      → AllByRecursion Here es
  all_here [] there said held = tt
  all_here (e ∷ es) there said held = (
    one_here e (there 0 e (omega arith)) said.0 held.0,
    all_here es (λ i x inside. there (suc i) x (omega (arith, inside))) said.1 held.1,
  )

  here : AreAllDescribed m → HoldVolumes d config m → AllByRecursion Here (listed m)
  here said held = all_here (listed m) (λ k x within. listed_at (records_of m) k x within) said held

  module _ (xs : List Section) (is : xs ≡ sections d config m.sizes grows (volume_len m) (read_volume m) 1 (listed m))
      (said : AreAllDescribed m) (holds : HoldVolumes d config m) (parts : List Part) (held : List (Option (List ℕ)))
      (are : AreGathered d m.sizes config xs parts held) where
    abbrev recipe : Parts
    recipe = numbered_parts m.sizes m.image_seq parts

    -- the parts are those of the image's volumes, with the bytes of the files
    its : (bytes : List ℕ) → row_bytes (map d.holds (image_paths config (named d config are.sized))) ≡ Some bytes
        → AreTold d config (named d config are.sized) → AreItsParts m recipe bytes
    its bytes row told =
        let sum = sized_sum d config are.sized bytes are.sizes told row in
        let all = collects d config m.sizes grows (volume_len m) (read_volume m) bytes 1 (listed m) are.sized parts [] bytes 0 refl refl
        (here said holds) (are.sections ∙ is) are.sizes are.parts told row in
        record {
          sizes = refl;
          image_seq = refl;
          listed = all.0;
          reaches = parts_reach d config m.sizes are.sized parts 0 (length bytes) are.parts (omega (arith, sum));
          read = λ p c. each_part (ReadsText d config m.sizes grows (volume_len m) (read_volume m) bytes) parts p c.0 all.1 c.1 c.2;
        }

    is_normal : (e : Files) (out out_bytes : List ℕ) (size n : ℕ) (reads : List (ℕ × List ℕ)) (received : Option (List ℕ))
        → IfSome (row_bytes held) (known_by size reads)
        → Wrote (known_by size reads) (fresh d) received (image_built recipe 0) All 0 n → Holds e out received → d.tells ≡ true
        → e.holds out ≡ Some out_bytes → out_bytes ≡ normal_bytes m
    is_normal e out out_bytes size n reads received agreed wrote into tells holding =
        let told : AreTold d config (named d config are.sized) =
        subst (AreTold d config) (sym (are.sections ∙ is))
        (are_told d config m.sizes grows (volume_len m) (read_volume m) 1 (listed m) (here said holds)) in
        let files = all_told d config (named d config are.sized) told in
        let bytes : List ℕ = files.0 in
        let row : row_bytes held ≡ Some bytes =
        ap row_bytes are.held ∙ ap (λ (ys : List Section). row_bytes (map d.holds (image_paths config ys))) (sym are.sections) ∙ files.1 in
        let known : known_by size reads bytes = subst (λ (o : Option (List ℕ)). IfSome o (known_by size reads)) row agreed in
        let again = parts_build_again image m recipe bytes geometry accepts (its bytes files.1 told) in
        let made = received_is d e out recipe 0 size n reads received out_bytes bytes tells known wrote into holding in
        sym made ∙ ap (λ (x : Meant). composed x 0) again.2 ∙ append-nil (normal_bytes m)

-- what was built with the status 0 is the normal image
pub builds_the_image : BuildsTheImage
builds_the_image d e config out image m o bytes g accepts said holds (faulty n c is gives stay) done tells holding =
    absurd (not_both o done gives.status)
builds_the_image d e config out image m o bytes g accepts said holds (ungathered none un stay) done tells holding =
    absurd (not_both o done (no_volume d m.sizes config un.first.0 o un.first.2))
builds_the_image d e config out image m o bytes g accepts said holds (gathered parts held none are apart (unmade c is gives stay)) done tells holding =
    absurd (not_both o done gives.status)
builds_the_image d e config out image m o bytes g accepts said holds (gathered parts held none are apart (crowded means few gives stay)) done tells holding =
    absurd (not_both o done gives.status)
builds_the_image d e config out image m o bytes g accepts said holds (gathered parts held none are apart (unread path can among gives)) done tells holding =
    absurd (not_both o done gives.status)
builds_the_image d e config out image m o bytes g accepts said holds (gathered parts held none are apart (unwritten can gives)) done tells holding =
    absurd (not_both o done gives.status)
builds_the_image d e config out image m o bytes g accepts said holds
    (gathered parts held none are apart (built size n reads received can known wrote into gives)) done tells holding =
    is_normal d config image m g accepts (sections_of (folder_config m)) (folder_config_reads image m g accepts).1 said holds parts held
    are e out bytes size n reads received known wrote into tells holding
