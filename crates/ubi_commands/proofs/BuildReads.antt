-- Each volume of a built image reads the file that its section names.
use Rattle.ubi_commands.proofs.Prelude.{Accepts, All, AllByRecursion, Appends, AreGathered, ArePartsOf, AreTold, BuildReads, Files, HaveImage, Holds, IfSome, IsNoVolume, IsSized, IsSome, List, MatchOption, Meant, Ok, Outcome, Part, Parts, Reaches, ReadsItsFile, Section, Sized, Sizes, Wrote, [], all_from, ap, arith, built, built_accepted, built_reads, composed, cons_option, crowded, drop, drop-append-add, faulty, file_of, fresh, gathered, get_or_from_slice_get, if◌then◌else◌, image_built, image_of, image_path, image_paths, known_by, len_of, length, length-append, map, no_image, no_path, no_record, numbered_parts, option_map, option_map_or, section_part, read_volume, record_in, refl, row_bytes, same_Some, sections_of, slice_get_within, subst, suc, sum_by, sum_cons, sym, take, take-append-le, take_all, text_of, text_read, ungathered, unmade, unread, unwrap_or, unwritten, usable, zero, ℕ, ◌*◌, ◌++◌, ◌+◌, ◌∙◌, ◌∷◌, ◌≡◌, ◌≤◌, append_assoc, not_both}
use Rattle.std.specs.Prelude.{Option}
use Rattle.std.specs.Prelude.{None}
use Rattle.std.specs.Prelude.{Some, true}
use Rattle.ubi_compose.specs.Built.{built as meant}

-- a section that comes to no volume isn't done
pub no_volume : (d : Files) (s : Sizes) (config : List ℕ) (x : Section) (o : Outcome) → IsNoVolume d s config x o → o.status ≡ 1
no_volume d s config x o (no_image image is gives) = gives.status
no_volume d s config x o (no_path image is not gives) = gives.status
no_volume d s config x o (no_record len c sized refused gives) = gives.status

-- the part of bytes that stands behind others, and before more
pub middle : (front here more : List ℕ) → take (length here) (drop (length front) (front ++ (here ++ more))) ≡ here
middle front here more =
    let begins : length front ≡ length front + 0 = omega arith in
    ap (λ (k : ℕ). take (length here) (drop k (front ++ (here ++ more)))) begins
    ∙ ap (take (length here)) (drop-append-add front (here ++ more) 0)
    ∙ take-append-le (length here) here more (omega arith)
    ∙ take_all (length here) here (omega arith)

module _ (d : Files) (config : List ℕ) where
  -- the paths of the files that sections name, of which volumes are
  abbrev pub named : List Sized → List Section
  named es = map (λ e. e.0) es

  -- what a section's file holds stands before what those of the others hold
  row_cons : (image : Option (List ℕ)) (file more : List ℕ) (paths : List (List ℕ))
      → option_map_or (λ i. d.holds (image_path config i)) image (Some []) ≡ Some file
      → row_bytes (map d.holds paths) ≡ Some more
      → row_bytes (map d.holds (cons_option (option_map (image_path config) image) paths)) ≡ Some (file ++ more)
  row_cons None file more paths is rest = rest ∙ ap (λ (f : List ℕ). Some (f ++ more)) (same_Some [] file is)
  row_cons (Some image) file more paths is rest = rw (is, rest) refl

  -- what is known of each file is known of all
  pub all_told : (xs : List Section) → AreTold d config xs → (all : List ℕ) × (row_bytes (map d.holds (image_paths config xs)) ≡ Some all)
  all_told [] told = ([], refl)
  all_told (x ∷ xs) told = by (file_of d config x) refl told.0 (all_told xs told.1)
    where
      by : (o : Option (List ℕ)) → file_of d config x ≡ o → IsSome o
          → (all : List ℕ) × (row_bytes (map d.holds (image_paths config xs)) ≡ Some all)
          → (all : List ℕ) × (row_bytes (map d.holds (image_paths config (x ∷ xs))) ≡ Some all)
      by None is some rest = absurd (cc)
      by (Some file) is some rest =
          (file ++ rest.0, row_cons x.image file rest.0 (image_paths config xs) is rest.1)

  -- how many bytes a section's file has
  len_known : (image : Option (List ℕ)) (len : Option ℕ) (file : List ℕ)
      → option_map_or (λ i. d.holds (image_path config i)) image (Some []) ≡ Some file
      → MatchOption image (len ≡ None) (λ i. (n : ℕ) × (len ≡ Some n) × IfSome (d.holds (image_path config i)) (λ all. length all ≡ n))
      → (len ≡ option_map (λ _. length file) image) × (unwrap_or len 0 ≡ length file)
  len_known None len file is sized =
      (sized, ap (λ (l : Option ℕ). unwrap_or l 0) sized ∙ ap length (same_Some [] file is))
  len_known (Some image) len file is sized =
      let long : length file ≡ sized.0 = subst (λ (o : Option (List ℕ)). IfSome o (λ all. length all ≡ sized.0)) is sized.2 in
      let same : len ≡ Some (length file) = sized.1 ∙ ap Some (sym long) in
      (same, ap (λ (l : Option ℕ). unwrap_or l 0) same)

  -- the parts of sections lie in the bytes of their files
  pub parts_reach : (s : Sizes) (es : List Sized) (ps : List Part) (start size : ℕ) → ArePartsOf s start es ps
      → start + sum_by len_of es ≤ size → Reaches size ps
  parts_reach s [] [] start size are room k x below = absurd (omega (arith, below))
  parts_reach s [] (p ∷ ps) start size are room k x below = absurd are
  parts_reach s (e ∷ es) [] start size are room k x below = absurd are
  parts_reach s (e ∷ es) (p ∷ ps) start size are room zero x below =
      let one = sum_cons len_of e es in
      subst (λ (q : Part). q.start + q.len ≤ size) (sym are.2) (omega (arith, one, room))
  parts_reach s (e ∷ es) (p ∷ ps) start size are room (suc k) x below =
      let one = sum_cons len_of e es in
      parts_reach s es ps (start + len_of e) size are.3 (omega (arith, one, room)) k x (omega (arith, below))

  -- what is known of the first section and its file, and of the others
  pub record First (e : Sized) (es : List Sized) (behind : List ℕ) : Type 0 where
    pub file : List ℕ
    pub more : List ℕ
    pub held : file_of d config e.0 ≡ Some file
    pub rest : row_bytes (map d.holds (image_paths config (named es))) ≡ Some more
    pub both : behind ≡ file ++ more
    pub len : e.1 ≡ option_map (λ _. length file) e.0.image
    pub long : len_of e ≡ length file

  pub first_of : (e : Sized) (es : List Sized) (behind : List ℕ) → IsSized d config e → AreTold d config (named (e ∷ es))
      → row_bytes (map d.holds (image_paths config (named (e ∷ es)))) ≡ Some behind → First e es behind
  first_of e es behind sized told all = by (file_of d config e.0) refl told.0
    where
      by : (o : Option (List ℕ)) → file_of d config e.0 ≡ o → IsSome o → First e es behind
      by None is some = absurd (cc)
      by (Some file) is some =
          let more = all_told (named es) told.1 in
          let whole = row_cons e.0.image file more.0 (image_paths config (named es)) is more.1 in
          let known = len_known e.0.image e.1 file is sized in
          record {
            file = file;
            more = more.0;
            held = is;
            rest = more.1;
            both = same_Some behind (file ++ more.0) (sym all ∙ whole);
            len = known.0;
            long = known.1;
          }

  -- files have as many bytes together as their sections say
  pub sized_sum : (es : List Sized) (behind : List ℕ) → AllByRecursion (IsSized d config) es → AreTold d config (named es)
      → row_bytes (map d.holds (image_paths config (named es))) ≡ Some behind → sum_by len_of es ≡ length behind
  sized_sum [] behind sized told all = ap length (same_Some [] behind all)
  sized_sum (e ∷ es) behind sized told all =
      let f = first_of e es behind sized.0 told all in
      let one = sum_cons len_of e es in
      let rest = sized_sum es f.more sized.1 told.1 f.rest in
      let both = length-append f.file f.more in
      let size = ap length f.both in
      omega (arith, one, rest, both, size, f.long)

  module _ (s : Sizes) (m : Meant) (bytes : List ℕ) where
    -- the volume of a part reads its bytes
    abbrev ReadsPart : Part → Type 0
    ReadsPart p = read_volume m p.id ≡ Ok (text_read p.entry.kind (p.entry.reserved * usable s p.entry) (text_of bytes p))

    -- the volumes of sections read their files, of which the first begins behind others
    reads_files : (es : List Sized) (ps : List Part) (front behind : List ℕ) (start : ℕ) → bytes ≡ front ++ behind
        → start ≡ length front → AllByRecursion (IsSized d config) es → ArePartsOf s start es ps → AreTold d config (named es)
        → row_bytes (map d.holds (image_paths config (named es))) ≡ Some behind → AllByRecursion ReadsPart ps
        → AllByRecursion (ReadsItsFile d config s m) (named es)
    reads_files [] [] front behind start is begins sized are told all reads = tt
    reads_files [] (p ∷ ps) front behind start is begins sized are told all reads = absurd are
    reads_files (e ∷ es) [] front behind start is begins sized are told all reads = absurd are
    reads_files (e ∷ es) (p ∷ ps) front behind start is begins sized are told all reads =
        let f = first_of e es behind sized.0 told all in
        let whole : bytes ≡ front ++ (f.file ++ f.more) = is ∙ ap (λ (b : List ℕ). front ++ b) f.both in
        let here : text_of bytes (section_part start e are.0) ≡ f.file =
        ap (λ (b : List ℕ). take (len_of e) (drop start b)) whole
        ∙ ap (λ (k : ℕ). take k (drop start (front ++ (f.file ++ f.more)))) f.long
        ∙ ap (λ (k : ℕ). take (length f.file) (drop k (front ++ (f.file ++ f.more)))) begins
        ∙ middle front f.file f.more in
        let part : ReadsPart (section_part start e are.0) = subst ReadsPart are.2 reads.0 in
        let next : bytes ≡ (front ++ f.file) ++ f.more = whole ∙ sym (append_assoc front f.file f.more) in
        let long = length-append front f.file in (
          record {
            file = f.file;
            held = f.held;
            entry = are.0;
            recorded = subst (λ (l : Option ℕ). record_in s e.0 l ≡ Ok are.0) f.len are.1;
            reads = part ∙ ap (λ (t : List ℕ). Ok (text_read are.0.kind (are.0.reserved * usable s are.0) t)) here;
          },
          reads_files es ps (front ++ f.file) f.more (start + len_of e) next (omega (arith, begins, long, f.long)) sized.1 are.3 told.1
              f.rest reads.1,
        )

-- what was received is the image that was built of the bytes of the files
pub received_is : (d e : Files) (out : List ℕ) (ps : Parts) (spares size n : ℕ) (reads : List (ℕ × List ℕ)) (received : Option (List ℕ))
    (image bytes : List ℕ) → d.tells ≡ true → known_by size reads bytes
    → Wrote (known_by size reads) (fresh d) received (image_built ps spares) All 0 n → Holds e out received → e.holds out ≡ Some image
    → composed (meant ps bytes) spares ≡ image
received_is d e out ps spares size n reads received image bytes tells known wrote into holds =
    let all = wrote.held bytes known (composed (meant ps bytes) spares) refl in
    let got : received ≡ Some image = subst (λ (o : Option (List ℕ)). IfSome o (λ b. received ≡ Some b)) holds into in
    let empty : fresh d ≡ Some [] = ap (λ b. if b then Some [] else None) tells in
    let appended : Appends (Some []) (Some image) wrote.bytes =
    subst (λ (o : Option (List ℕ)). Appends (Some []) o wrote.bytes) got
    (subst (λ (o : Option (List ℕ)). Appends o received wrote.bytes) empty wrote.got) in
    let text = composed (meant ps bytes) spares in
    sym (appended ∙ all.1 ∙ ap (λ (k : ℕ). take k text) all.0 ∙ take_all (length text) text (omega arith))

-- of volumes that were gathered and built
module _ (d e : Files) (config out : List ℕ) (s : Sizes) (xs : List Section) (spares seq : ℕ) (parts : List Part)
    (held : List (Option (List ℕ))) (are : AreGathered d s config xs parts held) (image : List ℕ) where
  abbrev recipe : Parts
  recipe = numbered_parts s seq parts

  read_so : (size n : ℕ) (reads : List (ℕ × List ℕ)) (received : Option (List ℕ)) → HaveImage recipe spares
      → IfSome (row_bytes held) (known_by size reads)
      → Wrote (known_by size reads) (fresh d) received (image_built recipe spares) All 0 n → Holds e out received → d.tells ≡ true
      → AreTold d config xs → e.holds out ≡ Some image
      → (m : Meant) × Accepts (image_of s image) m × (m.image_seq ≡ seq) × AllByRecursion (ReadsItsFile d config s m) xs
  read_so size n reads received can agreed wrote into tells told holds =
      let told_named : AreTold d config (named d config are.sized) = subst (AreTold d config) (sym are.sections) told in
      let files = all_told d config (named d config are.sized) told_named in
      let bytes : List ℕ = files.0 in
      let row : row_bytes held ≡ Some bytes =
      ap row_bytes are.held ∙ ap (λ (ys : List Section). row_bytes (map d.holds (image_paths config ys))) (sym are.sections) ∙ files.1 in
      let known : known_by size reads bytes = subst (λ (o : Option (List ℕ)). IfSome o (known_by size reads)) row agreed in
      let sum = sized_sum d config are.sized bytes are.sizes told_named files.1 in
      let reach : Reaches (length bytes) parts = parts_reach d config s are.sized parts 0 (length bytes) are.parts (omega (arith, sum)) in
      let m : Meant = meant recipe bytes in
      let each : AllByRecursion (ReadsPart d config s m bytes) parts =
      all_from (ReadsPart d config s m bytes) parts
      (λ p at. built_reads recipe bytes p can.meaning reach (at.0, slice_get_within parts at.0 p at.1, get_or_from_slice_get parts at.0 p p at.1)) in (
        m,
        subst (λ (b : List ℕ). Accepts (image_of s b) m)
            (received_is d e out recipe spares size n reads received image bytes tells known wrote into holds)
            (built_accepted recipe can.meaning bytes reach spares can.room),
        refl,
        subst (AllByRecursion (ReadsItsFile d config s m)) are.sections
            (reads_files d config s m bytes are.sized parts [] bytes 0 refl refl are.sizes are.parts told_named files.1 each),
      )

-- what was built with the status 0 is accepted, and its volumes read their files
pub build_reads : BuildReads
build_reads d e config out s text spares seq o image (faulty n c is gives stay) done tells told holds =
    absurd (not_both o done gives.status)
build_reads d e config out s text spares seq o image (ungathered none un stay) done tells told holds =
    absurd (not_both o done (no_volume d s config un.first.0 o un.first.2))
build_reads d e config out s text spares seq o image (gathered parts held none are apart (unmade c is gives stay)) done tells told holds =
    absurd (not_both o done gives.status)
build_reads d e config out s text spares seq o image (gathered parts held none are apart (crowded means few gives stay)) done tells told holds =
    absurd (not_both o done gives.status)
build_reads d e config out s text spares seq o image (gathered parts held none are apart (unread path can among gives)) done tells told holds =
    absurd (not_both o done gives.status)
build_reads d e config out s text spares seq o image (gathered parts held none are apart (unwritten can gives)) done tells told holds =
    absurd (not_both o done gives.status)
build_reads d e config out s text spares seq o image
    (gathered parts held none are apart (built size n reads received can known wrote into gives)) done tells told holds =
    read_so d e config out s (sections_of text) spares seq parts held are image size n reads received can known wrote into tells told holds
