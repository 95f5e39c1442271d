-- What is asked of the volumes of an image by their names, and the edits that stand for it.
use Rattle.std.specs.Prelude.{◌≡◌, ℕ, ◌==◌, ◌&&◌, Bool, false, find, map, not, if◌then◌else◌, ◌++◌, List, [], ◌∷◌, None, Option, Some, fold, min, option_and_then, option_map, slice_get, take}
use Rattle.std.specs.FinMap.{entries, get}
use Rattle.std.specs.Int.{div_ceil}
use Rattle.std.specs.List.{after_first, before_first, list_any}
use Rattle.ubi_media.specs.Fields.{same_bytes}
use Rattle.ubi_words.specs.Shown.{shown}
use Rattle.ubi_media.specs.Geometry.{Sizes}
use Rattle.ubi_media.specs.Name.{is_name}
use Rattle.ubi_media.specs.Record.{usable}
use Rattle.ubi_media.specs.declared.record.VolumeRecord.{VolumeRecord}
use Rattle.ubi_table.specs.Named.{with_name}
use Rattle.ubi_table.specs.Records.{Records, number_named}
use Rattle.ubi_change.specs.EditFaults.{with_size}
use Rattle.ubi_change.specs.declared.edit.Edit.{Edit}
use Rattle.ubi_change.specs.declared.edit.Edit.TheVariants as edit
use Rattle.ubi_change.specs.declared.edit.NewVolume.{NewVolume}
use Rattle.ubi_config.specs.Words.{most_bytes}
use Rattle.ubi_compose.specs.Words.{shown_name}
use Rattle.ubi_writing.specs.ByteNumbers.{bytes_within}
use Rattle.ubi_writing.specs.declared.asks.Ask.{Ask}
use Rattle.ubi_writing.specs.declared.asks.Edits.{Edits}
use Rattle.ubi_writing.specs.declared.asks.Ask.TheVariants as ask

-- the byte `=`
abbrev is_sign : ℕ → Bool
is_sign b = b == 61

-- what stands in a word before the first `=`
abbrev pub name_in : List ℕ → List ℕ
name_in word = before_first is_sign word

-- what stands in a word behind the first `=`
abbrev pub value_in : List ℕ → List ℕ
value_in word = after_first is_sign word

-- the name of the volume of which something is asked, in the form in which names are printed
abbrev pub name_of : Ask → List ℕ
name_of (ask.Rename word) = name_in word.now
name_of (ask.Resize word) = name_in word.now
name_of (ask.Remove word) = word.now
name_of (ask.Contents word start len) = name_in word.now

-- the number of the volume that a word names
abbrev pub named_by : Records → List ℕ → Option ℕ
named_by t word = option_and_then (number_named t) (shown_name word)

-- how many LEBs hold so many bytes of a volume, at most the greatest number of 32 bits
abbrev pub lebs_for : Sizes → VolumeRecord → ℕ → ℕ
lebs_for s r n = min (div_ceil n (usable s r)) 0xFFFFFFFF

-- a record after an edit, if that is one of the volume with a number
abbrev pub record_after : ℕ → VolumeRecord → Edit → VolumeRecord
record_after id r (edit.Rename other name) = if (other == id) && is_name name then with_name r name else r
record_after id r (edit.Resize other n) = if other == id then with_size r n else r
record_after id r _ = r

-- a record after edits
abbrev pub record_after_all : ℕ → VolumeRecord → List Edit → VolumeRecord
record_after_all id r es = fold (record_after id) r es

-- the edit that is asked for of the volume with a number and a record, by the edits before it; there is none if the value isn't what it
-- has to be
abbrev pub edit_of : Sizes → List Edit → ℕ → VolumeRecord → Ask → Option Edit
edit_of s before id r (ask.Rename word) = option_map (edit.Rename id) (shown_name (value_in word.now))
edit_of s before id r (ask.Resize word) = option_map (λ n. edit.Resize id (lebs_for s r n)) (bytes_within most_bytes (value_in word.now))
edit_of s before id r (ask.Remove word) = Some (edit.Remove id)
edit_of s before id r (ask.Contents word start len) =
    Some (edit.Replace id (record { entry = record_after_all id r before; start = start; len = len }))

-- the edit that is asked for, by the edits before it; there is none if the name is that of no volume, or the value
-- isn't what it has to be
abbrev pub edit_for : Records → List Edit → Ask → Option Edit
edit_for t before a =
    option_and_then (λ id. option_and_then (λ r. edit_of t.sizes before id r a) (get t.of id)) (named_by t (name_of a))

-- the edits with one more
abbrev pub with_edit_for : Records → Option (List Edit) → Ask → Option (List Edit)
with_edit_for t es a = option_and_then (λ before. option_map (λ e. before ++ e ∷ []) (edit_for t before a)) es

-- the edits that are asked for, in the same order
abbrev pub edits_for : Records → List Ask → Option (List Edit)
edits_for t asks = fold (with_edit_for t) (Some []) asks

-- whether an edit removes a volume
abbrev pub removes : ℕ → Edit → Bool
removes id (edit.Remove other) = other == id
removes id _ = false

-- whether a volume has a name after edits which don't remove it
abbrev pub keeps_name : List Edit → List ℕ → ℕ × VolumeRecord → Bool
keeps_name es name e = not (list_any (removes e.0) es) && same_bytes name (record_after_all e.0 e.1 es).name

-- the volume that has a name after edits which don't remove it
abbrev pub named_after : Records → List Edit → List ℕ → Option ℕ
named_after t es name = option_map (λ e. e.0) (find (keeps_name es name) (entries t.of))

-- the edit that writes a volume: it replaces this one, or is new
abbrev pub written_edit : NewVolume → Option ℕ → Edit
written_edit v (Some id) = edit.Replace id v
written_edit v None = edit.Create v

-- the edits with one more, which writes a volume in the place of the one that has its name after them
abbrev pub with_written : Records → List Edit → NewVolume → List Edit
with_written t es v = es ++ written_edit v (named_after t es v.entry.name) ∷ []

-- all that is asked of volumes: what is asked by words, and then volumes that are written; and the paths of the files of contents, in the
-- order of the volumes that are written
pub record AskedEdits : Type 0 where
  pub asks : List Ask
  pub volumes : List NewVolume
  pub paths : List (List ℕ)

-- the same, as it is lent
abbrev pub asked_edits : Edits → AskedEdits
asked_edits e = record { asks = e.asks.now; volumes = e.volumes.now; paths = map (λ p. p.now) e.paths.now }

-- the edits that stand for it, if there are such
abbrev pub all_edits : Records → AskedEdits → Option (List Edit)
all_edits t w = option_map (λ es. fold (with_written t) es w.volumes) (edits_for t w.asks)

-- the names of the volumes of which something is asked, in the form in which names are printed
abbrev pub asked_names : AskedEdits → List (List ℕ)
asked_names w = map name_of w.asks ++ map (λ v. shown v.entry.name) w.volumes

-- this one is the first that stands for no edit
pub record IsNoEdit (t : Records) (asks : List Ask) (i : ℕ) : Type 0 where
  pub before : List Edit
  pub edits : edits_for t (take i asks) ≡ Some before
  pub ask : Ask
  pub at : slice_get asks i ≡ Some ask
  pub none : edit_for t before ask ≡ None
