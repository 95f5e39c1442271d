-- What was extracted if the command did its work, or if a write failed.
use Rattle.ubi_writing.proofs.Prelude.{◌≡◌, ℕ, List, ap, refl, length, sym, zero-add, ◌∙◌, subst, arith, IfErr-at_err, option_map_or, IfErr, IfOk, Option, Result, Ok, Err, result_map_both, Sizes, Image, image_of, Records, Meant, records_of, read_volume, volume_len, ReadError, take_all, Appends, Agreed, Source, WhereHeld, read_text, ArePlaces, Placed, All, First, NotAll, Wanted, Wrote, HasGot, Gives, says, Extracts, HasFirst, HasTextIn, IsExtractError, IsExtractFault, ReadsVolume, accepted, read, read_key, number_in, bytes_line, Outcome, ToolError, VolumeKey, HasVolumeText, None, refused, not_both}
use Rattle.std.specs.Prelude.{Some}
use Rattle.ubi_volume.specs.declared.errors.ReadError.TheVariants as error
use Rattle.ubi_writing.specs.Extract.{unread}
use Rattle.ubi_files.specs.declared.outcome.ToolError.TheVariants as tool

volume_text : (m : Meant) (key : VolumeKey) (old new : Option (List ℕ)) (o : Outcome) → ReadsVolume m key old new o → o.status ≡ 0
    → (text : List ℕ) × (read_key m key ≡ Ok text)
volume_text m key old new o (unread e h line kept) done = absurd (not_both o done line.2.status)
volume_text m key old new o (read text h line got) done = (text, h)

-- work that was done gave the text of a volume
pub done_text : (image : Image) (key : VolumeKey) (old new : Option (List ℕ)) (o : Outcome) → Extracts image key old new o
    → o.status ≡ 0 → HasVolumeText image key
done_text image key old new o (accepted m a r) done = let t = volume_text m key old new o r done in (m, t.0, a, t.1)
done_text image key old new o (refused c h line kept) done = absurd (not_both o done line.status)

pub error_in : (r : Result (List ℕ) ReadError) (e : ReadError) → Err e ≡ result_map_both length (λ x. x) r → r ≡ Err e
error_in (Ok text) e h = absurd (cc)
error_in (Err d) e h = let same : d ≡ e = cc in ap Err same

-- what a volume reads is what that of its key does
key_reads : (m : Meant) (key : VolumeKey) (t : Records) (id : ℕ) → t ≡ records_of m → number_in t key ≡ Some id
    → read_key m key ≡ read_volume m id
key_reads m key t id same named =
    ap (λ (o : Option ℕ). option_map_or (read_volume m) o (Err error.NoVolume)) (ap (λ (r : Records). number_in r key) (sym same) ∙ named)

pub error_is : (m : Meant) (key : VolumeKey) (t : Records) (id : ℕ) (e : ReadError) → t ≡ records_of m → number_in t key ≡ Some id
    → Err e ≡ volume_len m id → read_key m key ≡ Err e
error_is m key t id e same named h = key_reads m key t id same named ∙ error_in (read_volume m id) e h

-- no volume of the name is there
pub nameless : (m : Meant) (key : VolumeKey) (t : Records) → t ≡ records_of m → number_in t key ≡ None
    → read_key m key ≡ Err error.NoVolume
nameless m key t same none =
    ap (λ (o : Option ℕ). option_map_or (read_volume m) o (Err error.NoVolume)) (ap (λ (r : Records). number_in r key) (sym same) ∙ none)

-- a write that failed was one of the text of a volume
pub failed_text : (image : Image) (key : VolumeKey) (old new : Option (List ℕ)) → IsExtractError image key old new tool.Write
    → HasVolumeText image key
failed_text image key old new h = (h.0, h.2.0, h.1, h.2.2)

-- a volume with a length has a text
pub has_text : (r : Result (List ℕ) ReadError) (n : ℕ) → Ok n ≡ result_map_both length (λ (x : ReadError). x) r
    → (text : List ℕ) × (r ≡ Ok text) × (n ≡ length text)
has_text (Ok text) n h = (text, refl, cc)
has_text (Err e) n h = absurd (cc)

-- what a writer received, whatever the source holds
pub received : (agrees : Agreed) (old new : Option (List ℕ)) (wanted : Wanted) (many : ℕ → ℕ → Type 0) (n : ℕ)
    → Wrote agrees old new wanted many 0 n → HasGot old new n
received agrees old new wanted many n w = (w.bytes, sym (w.count ∙ zero-add (length w.bytes)), w.got)

-- work that was done, and work of which a write failed, had a text to write
module _ (s : Sizes) (k : Source) (agrees : Agreed) (key : VolumeKey) (old new : Option (List ℕ)) where
  pub text_done : (answer : Result Outcome ToolError)
      → IfOk answer (λ o. WhereHeld agrees (λ bytes. Extracts (image_of s bytes) key old new o))
      → IfOk answer (λ o. o.status ≡ 0 → HasTextIn key s agrees)
  text_done (Ok o) h = λ zero bytes holds. done_text (image_of s bytes) key old new o (h bytes holds) zero
  text_done (Err e) h = tt

  pub text_failed : (answer : Result Outcome ToolError) → IfErr answer (IsExtractFault s k agrees key old new) → answer ≡ Err tool.Write
      → HasTextIn key s agrees
  text_failed answer err is bytes holds = failed_text (image_of s bytes) key old new (IfErr-at_err _ is err bytes holds)

-- what a writer received of a volume of a source, by the places of its LEBs
module _ (s : Sizes) (agrees : Agreed) (bytes : List ℕ) (holds : agrees bytes) (p : Placed)
    (h : ArePlaces (image_of s bytes) p)
    (key : VolumeKey) (id len : ℕ) (named : number_in p.records key ≡ Some id) (is : Ok len ≡ volume_len h.meaning id)
    (old new : Option (List ℕ)) (n : ℕ) where
  reads : (text : List ℕ) → read_volume h.meaning id ≡ Ok text → read_key h.meaning key ≡ Ok text
  reads text r = key_reads h.meaning key p.records id h.records named ∙ r

  pub places_read : (o : Outcome) → Wrote agrees old new (read_text s p id) All 0 n → Gives o (says (bytes_line n) 0)
      → Extracts (image_of s bytes) key old new o
  places_read o w gives =
      let t = has_text (read_volume h.meaning id) len is in
      let got = w.held bytes holds t.0 (h, t.1) in
      let whole : w.bytes ≡ t.0 = got.1 ∙ take_all (length w.bytes) t.0 (let e = got.0 in omega arith) in
      let count : n ≡ length t.0 = w.count ∙ zero-add (length w.bytes) ∙ ap length whole in
      accepted h.meaning h.accepted
      (read t.0 (reads t.0 t.1) (subst (λ (l : ℕ). Gives o (says (bytes_line l) 0)) count gives)
      (subst (λ (x : List ℕ). Appends old new x) whole w.got))

  pub places_cut : Wrote agrees old new (read_text s p id) NotAll 0 n
      → IsExtractError (image_of s bytes) key old new tool.Write
  places_cut w =
      let t = has_text (read_volume h.meaning id) len is in
      let got = w.held bytes holds t.0 (h, t.1) in
      (h.meaning, h.accepted, (t.0, length w.bytes, reads t.0 t.1, got.0, subst (λ (x : List ℕ). Appends old new x) got.1 w.got))

  pub places_first : Wrote agrees old new (read_text s p id) First 0 n → HasFirst (image_of s bytes) key old new
  places_first w =
      let t = has_text (read_volume h.meaning id) len is in
      let got = w.held bytes holds t.0 (h, t.1) in
      (h.meaning, h.accepted, t.0, length w.bytes, reads t.0 t.1, got.0, subst (λ (x : List ℕ). Appends old new x) got.1 w.got)
