-- What was unpacked from an image, and how.
use Rattle.ubi_writing.proofs.Prelude.{Agreed, All, Appends, AreFilesOf, ArePlaces, AreUnpacked, AreUnpackedUntil, AreWithin, Bool, Ends, Err, Extent, Files, Gives, Image, IsFileOf, IsKept, IsUnpacked, IsNewFile, List, Listed, Ok, Option, OthersStay, Outcome, OutsideStay, PlaceContent, Placed, ReadError, Records, Result, Sizes, Unpacks, VolumeFile, VolumeRecord, Wrote, [], all_described, ap, append-nil, append_assoc, arith, codes, cond, config_in, config_text, described, entries, extent_in, extent_len, extent_of, false, file_line, file_name, file_path, flat_map-append, folder_config, fresh, get, get_or, get_or_from_slice_get, image_of, inl, inr, is_ok, len_none, len_some, length, list_all, list_all_more, listed, no_config, option_map_or, read_text, read_volume, refl, result_map_both, says, slice_get, slice_get_cases, slice_get_read, slice_get_within, subst, suc, sym, take, take_all, take_more, true, unpacked, unpacked_line, unpacked_lines, unpacked_status, volume_len, zero, ℕ, ◌&&◌, ◌++◌, ◌+◌, ◌<◌, ◌∙◌, ◌∷◌, ◌≡◌, ◌≤◌, ◌⊎◌, None}
use Rattle.ubi_writing.specs.Unpack.{config_path}
use Rattle.std.specs.Prelude.{Some}
use Rattle.ubi_volume.specs.declared.errors.ReadError.TheVariants as error
use Rattle.ubi_writing.specs.Unpack.{unwritten}
use Rattle.ubi_writing.proofs.Extracted.{has_text}

-- how many bytes a volume reads, by its places
pub len_same : (image : Image) (p : Placed) (h : ArePlaces image p) (n : ℕ) → AreWithin n p → (id : ℕ)
    → extent_len (extent_in p id) ≡ volume_len h.meaning id
len_same image p h n within id = by_record (get p.records.of id) refl
  where
    of_record : Option VolumeRecord → Result ℕ ReadError
    of_record o =
        extent_len (option_map_or (λ r. option_map_or (extent_of p.records.sizes r) (get p.contents id) (Err error.NoVolume)) o (Err error.NoVolume))

    by_record : (o : Option VolumeRecord) → get p.records.of id ≡ o → extent_len (extent_in p id) ≡ volume_len h.meaning id
    by_record None none = ap of_record none ∙ len_none image p h id none
    by_record (Some r) some =
        let c = within.contents id r some in
        ap of_record some
        ∙ ap (λ (o : Option PlaceContent). extent_len (option_map_or (extent_of p.records.sizes r) o (Err error.NoVolume))) c.1
        ∙ len_some image p h id p.records.sizes r c.0 refl some c.1

-- lines and statuses of the same lengths are the same
module _ (f g : ℕ → Result ℕ ReadError) (same : (id : ℕ) → f id ≡ g id) where
  pub lines_same : (es : List Listed) → unpacked_lines f es ≡ unpacked_lines g es
  lines_same [] = refl
  lines_same (e ∷ es) = rw (same e.0, lines_same es) refl

  pub status_same : (es : List Listed) → unpacked_status f es ≡ unpacked_status g es
  status_same es = ap (λ b. cond b 0 1) (all_same es)
    where
      all_same : (es : List Listed) → list_all (λ e. is_ok (f e.0)) es ≡ list_all (λ e. is_ok (g e.0)) es
      all_same [] = refl
      all_same (e ∷ es) = rw (same e.0, all_same es) refl

-- the records of places are those of the meaning
pub listed_is : (image : Image) (p : Placed) (h : ArePlaces image p) → listed h.meaning ≡ entries p.records.of
listed_is image p h = ap (λ (t : Records). entries t.of) (sym h.records)

-- of a volume that can't be read nothing is unpacked
pub none_unpacked : (r : Result (List ℕ) ReadError) (e : Result Extent ReadError) (path : List ℕ) (d : Files)
    → ((x : Extent) → e ≡ Ok x → ⊥) → extent_len e ≡ result_map_both length (λ (x : ReadError). x) r → IsUnpacked r path d d
none_unpacked (Err x) e path d none same = refl
none_unpacked (Ok text) (Ok x) path d none same = absurd (none x refl)
none_unpacked (Ok text) (Err x) path d none same = absurd cc

-- a volume of which it is known how many bytes it reads can be read
pub can_read : (r : Result (List ℕ) ReadError) (n : ℕ) → Ok n ≡ result_map_both length (λ (x : ReadError). x) r
    → (text : List ℕ) × (r ≡ Ok text)
can_read r n is = let t = has_text r n is in (t.0, t.1)

-- what a volume reads was written to its file
module _ (s : Sizes) (agrees : Agreed) (bytes : List ℕ) (holds : agrees bytes) (p : Placed) (h : ArePlaces (image_of s bytes) p)
    (id len : ℕ) (is : Ok len ≡ volume_len h.meaning id) (old new : Option (List ℕ)) (n : ℕ) where
  pub all_unpacked : Wrote agrees old new (read_text s p id) All 0 n → (d e : Files) (path : List ℕ) → old ≡ fresh d
      → IsKept d e path new → IsUnpacked (read_volume h.meaning id) path d e
  all_unpacked w d e path fresh_is kept =
      let t = has_text (read_volume h.meaning id) len is in
      let got = w.held bytes holds t.0 (h, t.1) in
      let whole : w.bytes ≡ t.0 = got.1 ∙ take_all (length w.bytes) t.0 (let same = got.0 in omega (arith, same)) in
      subst (λ (r : Result (List ℕ) ReadError). IsUnpacked r path d e) (sym t.1)
      (new, subst (λ (x : List ℕ). Appends (fresh d) new x) whole (subst (λ (x : Option (List ℕ)). Appends x new w.bytes) fresh_is w.got), kept)

-- one volume more is unpacked
module _ (read : ℕ → Result (List ℕ) ReadError) (dir : List ℕ) where
  pub are_more : (es : List Listed) (e : Listed) (old between new : Files) → AreUnpacked read dir es old between
      → IsUnpacked (read e.0) (file_path dir e) between new → AreUnpacked read dir (es ++ e ∷ []) old new
  are_more [] e old between new same is =
      (new, subst (λ (x : Files). IsUnpacked (read e.0) (file_path dir e) x new) same is, refl)
  are_more (d ∷ es) e old between new are is = (are.0, are.1, are_more es e are.0 between new are.2 is)

-- the volume at a place is unpacked too, or its file can't be written
module _ (read : ℕ → Result (List ℕ) ReadError) (dir : List ℕ) (es : List Listed) (i : ℕ) (e : Listed) (path : List ℕ) (old between new : Files)
    (inside : i < length es) (here : get_or es i e ≡ e) (named : path ≡ file_path dir e) (before : AreUnpacked read dir (take i es) old between) where
  pub next_unpacked : IsUnpacked (read e.0) path between new → AreUnpacked read dir (take (i + 1) es) old new
  next_unpacked is =
      subst (λ (xs : List Listed). AreUnpacked read dir xs old new) (sym (take_more es i e inside ∙ ap (λ (x : Listed). take i es ++ x ∷ []) here))
      (are_more read dir (take i es) e old between new before
      (subst (λ (p : List ℕ). IsUnpacked (read e.0) p between new) named is))

  pub next_unwritten : (text : List ℕ) × (read e.0 ≡ Ok text) → OthersStay between new path → (x : Listed) × AreUnpackedUntil read dir es i x old new
  next_unwritten readable others = (
    e,
    record {
      next = slice_get_read es (length es) i e refl inside (sym here);
      between = between;
      before = before;
      readable = readable;
      others = subst (OthersStay between new) named others;
    },
  )

-- the files of volumes are as many, each that of the volume at its place; and there is one more
pub files_count : (dir : List ℕ) (es : List Listed) (fs : List VolumeFile) → AreFilesOf dir es fs → length fs ≡ length es
files_count dir [] [] are = refl
files_count dir (e ∷ es) (f ∷ fs) are = ap (λ (n : ℕ). suc n) (files_count dir es fs are.1)
files_count dir [] (f ∷ fs) are = absurd are
files_count dir (e ∷ es) [] are = absurd are

pub file_at : (dir : List ℕ) (es : List Listed) (fs : List VolumeFile) → AreFilesOf dir es fs → (i : ℕ) (e : Listed) (f : VolumeFile)
    → i < length es → get_or es i e ≡ e → get_or fs i f ≡ f → IsFileOf dir e f
file_at dir [] fs are i e f inside here there = absurd (omega arith)
file_at dir (x ∷ es) [] are i e f inside here there = absurd are
file_at dir (x ∷ es) (y ∷ fs) are zero e f inside here there =
    subst (λ (a : Listed). IsFileOf dir a f) here (subst (λ (b : VolumeFile). IsFileOf dir x b) there are.0)
file_at dir (x ∷ es) (y ∷ fs) are (suc i) e f inside here there = file_at dir es fs are.1 i e f (omega arith) here there

-- where one can't be written, a line is answered, and nothing else
pub some_line : (dir : List ℕ) (es : List Listed) (fs : List VolumeFile) → AreFilesOf dir es fs → (i : ℕ) (f : VolumeFile)
    → i < length es → get_or fs i f ≡ f → (text : List ℕ) × Gives f.unwritten (says text 1)
some_line dir es fs are i f inside there = by_case (slice_get_cases es i).1
  where
    by_case : ((x : Listed) × (i < length es) × (slice_get es i ≡ Some x) × (get_or es i x ≡ x)) ⊎ ((length es ≤ i) × (slice_get es i ≡ None))
        → (text : List ℕ) × Gives f.unwritten (says text 1)
    by_case (inl found) = (_, (file_at dir es fs are i found.0 f inside found.3 there).unwritten)
    by_case (inr past) = let far = past.0 in absurd (omega (arith, far, inside))

pub files_more : (dir : List ℕ) (es : List Listed) (fs : List VolumeFile) (e : Listed) (f : VolumeFile) → AreFilesOf dir es fs
    → IsFileOf dir e f → AreFilesOf dir (es ++ e ∷ []) (fs ++ f ∷ [])
files_more dir [] [] e f are is = (is, tt)
files_more dir (x ∷ es) (y ∷ fs) e f are is = (are.0, files_more dir es fs e f are.1 is)
files_more dir [] (y ∷ fs) e f are is = absurd are
files_more dir (x ∷ es) [] e f are is = absurd are

-- of one volume more
module _ (len : ℕ → Result ℕ ReadError) (es : List Listed) (i : ℕ) (e : Listed) (inside : i < length es) (here : get_or es i e ≡ e) where
  pub lines_more : unpacked_lines len (take (i + 1) es) ≡ unpacked_lines len (take i es) ++ unpacked_line (len e.0) e
  lines_more =
      ap (unpacked_lines len) (take_more es i e inside)
      ∙ flat_map-append (λ x. unpacked_line (len x.0) x) (take i es) (get_or es i e ∷ [])
      ∙ ap (λ (x : Listed). unpacked_lines len (take i es) ++ (unpacked_line (len x.0) x ++ [])) here
      ∙ ap (λ (x : List ℕ). unpacked_lines len (take i es) ++ x) (append-nil (unpacked_line (len e.0) e))

  pub status_more : unpacked_status len (take (i + 1) es) ≡ cond (is_ok (len e.0)) (unpacked_status len (take i es)) 1
  status_more =
      ap (λ b. cond b 0 1) (list_all_more (λ x. is_ok (len x.0)) es i e inside)
      ∙ ap (λ (x : Listed). cond (list_all (λ y. is_ok (len y.0)) (take i es) && is_ok (len x.0)) 0 1) here
      ∙ both (list_all (λ y. is_ok (len y.0)) (take i es)) (is_ok (len e.0))
    where
      both : (a b : Bool) → cond {A = ℕ} (a && b) 0 1 ≡ cond b (cond {A = ℕ} a 0 1) 1
      both true true = refl
      both true false = refl
      both false true = refl
      both false false = refl

-- paths that aren't below a folder stay while the file of a volume in it is written
pub outside_config : (dir file : List ℕ) (old between new : Files) → file ≡ config_path dir → OutsideStay old between dir
    → OthersStay between new file → OutsideStay old new dir
outside_config dir file old between new named before since path outside =
    since path (λ same. outside (codes "ubi.ini") (same ∙ named ∙ sym (append_assoc dir (codes "/") (codes "ubi.ini")))) ∙ before path outside

pub outside_more : (dir : List ℕ) (e : Listed) (file : List ℕ) (old between new : Files) → file ≡ file_path dir e → OutsideStay old between dir
    → OthersStay between new file → OutsideStay old new dir
outside_more dir e file old between new named before since path outside =
    since path (λ same. outside (file_name e) (same ∙ named)) ∙ before path outside

-- the volumes of a config of the same lengths are the same
described_same : (f g : ℕ → Result ℕ ReadError) → ((id : ℕ) → f id ≡ g id) → (es : List Listed)
    → all_described f es ≡ all_described g es
described_same f g same [] = refl
described_same f g same (e ∷ es) =
    ap (λ (r : Result ℕ ReadError). described r e ∷ all_described f es) (same e.0)
    ∙ ap (λ vs. described (g e.0) e ∷ vs) (described_same f g same es)

-- the config of places is that of the meaning
config_same : (image : Image) (p : Placed) (h : ArePlaces image p) (n : ℕ) → AreWithin n p → (s : Sizes) → p.records.sizes ≡ s
    → config_in s p ≡ folder_config h.meaning
config_same image p h n within s sizes =
    let f : ℕ → Result ℕ ReadError = λ id. extent_len (extent_in p id) in
    let g : ℕ → Result ℕ ReadError = volume_len h.meaning in
    ap (λ (z : Sizes). config_text z p.image_seq (all_described f (entries p.records.of))) (sym sizes ∙ ap (λ (t : Records). t.sizes) h.records)
    ∙ ap (λ (q : ℕ). config_text h.meaning.sizes q (all_described f (entries p.records.of))) h.image_seq
    ∙ ap (config_text h.meaning.sizes h.meaning.image_seq)
    (described_same f g (len_same image p h n within) (entries p.records.of) ∙ ap (all_described g) (sym (listed_is image p h)))

-- what is answered of an image of which all volumes, or those before one, were unpacked into a folder
module _ (image : Image) (p : Placed) (h : ArePlaces image p) (n : ℕ) (within : AreWithin n p) (dir path : List ℕ) (old new : Files)
    (o : Outcome) (same : path ≡ dir) where
  are_unpacked : Ends (read_volume h.meaning) path (entries p.records.of) old new None
      → AreUnpacked (read_volume h.meaning) dir (listed h.meaning) old new
  are_unpacked are =
      subst (λ (d : List ℕ). AreUnpacked (read_volume h.meaning) d (listed h.meaning) old new) same
      (subst (λ (es : List Listed). AreUnpacked (read_volume h.meaning) path es old new) (sym (listed_is image p h)) are)

  -- and then the config was written
  pub all_done : (last : Files) (s : Sizes) (file : List ℕ) → p.records.sizes ≡ s → file ≡ config_path dir
      → Ends (read_volume h.meaning) path (entries p.records.of) old new None
      → IsNewFile (config_in s p) file new last
      → Gives o (says (unpacked_lines (λ id. extent_len (extent_in p id)) (entries p.records.of)) (unpacked_status (λ id. extent_len (extent_in p id)) (entries p.records.of)))
      → Unpacks image dir old last o
  all_done last s file sizes named are written gives =
      let listed_is : entries p.records.of ≡ listed h.meaning = sym (listed_is image p h) in
      let f : ℕ → Result ℕ ReadError = λ id. extent_len (extent_in p id) in
      let g : ℕ → Result ℕ ReadError = volume_len h.meaning in
      let lens : (id : ℕ) → f id ≡ g id = len_same image p h n within in
      unpacked h.meaning new h.accepted (are_unpacked are)
      (subst (λ (at : List ℕ). IsNewFile (folder_config h.meaning) at new last) named
      (subst (λ (text : List ℕ). IsNewFile text file new last) (config_same image p h n within s sizes) written))
      (subst (λ (es : List Listed). Gives o (says (unpacked_lines g es) (unpacked_status g es))) listed_is
      (subst (λ (x : ℕ). Gives o (says (unpacked_lines g (entries p.records.of)) x)) (status_same f g lens (entries p.records.of))
      (subst (λ (x : List ℕ). Gives o (says x (unpacked_status f (entries p.records.of)))) (lines_same f g lens (entries p.records.of)) gives)))

  -- and then the config couldn't be written
  pub config_failed : (last : Files) (file : List ℕ) → file ≡ config_path dir
      → Ends (read_volume h.meaning) path (entries p.records.of) old new None → OthersStay new last file
      → Gives o (says (file_line (codes "cannot write ") (config_path dir)) 1) → Unpacks image dir old last o
  config_failed last file named are others gives =
      no_config h.meaning new h.accepted (are_unpacked are) (subst (OthersStay new last) named others) gives

  pub stopped_at : (i : ℕ) (fs : List VolumeFile) (f : VolumeFile) → AreFilesOf dir (entries p.records.of) fs → get_or fs i f ≡ f
      → Ends (read_volume h.meaning) path (entries p.records.of) old new (Some i) → o ≡ f.unwritten → Unpacks image dir old new o
  stopped_at i fs f are there ended is =
      let es = entries p.records.of in
      let e = ended.0 in
      let here : get_or es i e ≡ e = get_or_from_slice_get es i e e ended.1.next in
      let inside : i < length es = slice_get_within es i e ended.1.next in
      let file = file_at dir es fs are i e f inside here there in
      unwritten h.meaning i e h.accepted
      (subst (λ (d : List ℕ). AreUnpackedUntil (read_volume h.meaning) d (listed h.meaning) i e old new) same
      (subst (λ (xs : List Listed). AreUnpackedUntil (read_volume h.meaning) path xs i e old new) (sym (listed_is image p h)) ended.1))
      (subst (λ (x : Outcome). Gives x (says (file_line (codes "cannot write ") (file_path dir e)) 1)) (sym is) file.unwritten)
