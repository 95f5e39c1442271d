-- What is listed about the volumes of an image.
use Rattle.std.specs.Prelude.{ℕ, List, [], ◌∷◌, ◌++◌, codes, decimal, length}
use Rattle.std.specs.FinMap.{entries}
use Rattle.std.specs.List.{flat_map}
use Rattle.hex.specs.Hex.{encode_lower}
use Rattle.ubi_media.specs.Geometry.{Sizes, leb_size, slots}
use Rattle.ubi_media.specs.Record.{usable}
use Rattle.ubi_media.specs.declared.record.VolumeRecord.{VolumeRecord}
use Rattle.ubi_media.specs.declared.refusal.Refusal.{Refusal}
use Rattle.ubi_scan.specs.Image.{Image, image_of}
use Rattle.ubi_scan.specs.Source.{Agreed, Source, WhereHeld}
use Rattle.ubi_scan.specs.declared.errors.StreamError.TheVariants as stream
use Rattle.ubi_volume.specs.Accepts.{Accepts, Refuses}
use Rattle.ubi_volume.specs.Amounts.{amount_of}
use Rattle.ubi_volume.specs.Meant.{Meant}
use Rattle.ubi_volume.specs.Places.{ArePlacesError, ArePlacesOf, Placed}
use Rattle.ubi_volume.specs.declared.block.Amount.{Amount}
use Rattle.ubi_volume.specs.declared.content.Volume.{Volume}
use Rattle.ubi_files.specs.Answer.{Gives, says}
use Rattle.ubi_dumps.specs.Lines.{amount_word}
use Rattle.ubi_dumps.specs.Lines.{layout_words}
use Rattle.ubi_json.specs.Line.{json_line}
use Rattle.ubi_json.specs.List.{list_data}
use Rattle.ubi_json.specs.Words.{kind_word}
use Rattle.ubi_words.specs.Shown.{shown}
use Rattle.ubi_reading.specs.Formats.{refusal_by_format}
use Rattle.ubi_reading.specs.declared.format.Format.{Format}
use Rattle.ubi_reading.specs.declared.format.Format.TheVariants as format
use Rattle.ubi_files.specs.declared.outcome.Outcome.{Outcome}

-- the numbers that follow from sizes, and how many eraseblocks there are
unfoldable pub room_words : Sizes → List ℕ
room_words s = codes " leb=" ++ decimal (leb_size s) ++ codes " slots=" ++ decimal (slots s) ++ codes " pebs=" ++ decimal s.pebs

-- the line of the sizes of a device
unfoldable pub sizes_line : Sizes → List ℕ
sizes_line s = codes "geometry " ++ layout_words s ++ room_words s ++ codes "\n"

-- what a record says about its volume, except the name
abbrev pub record_words : Sizes → VolumeRecord → List ℕ
record_words s r =
    kind_word r.kind ++ codes " reserved=" ++ decimal r.reserved ++ codes " alignment=" ++ decimal r.alignment
    ++ codes " usable=" ++ decimal (usable s r) ++ codes " flags=" ++ encode_lower (r.flags ∷ [])

-- the line of a record and its number, and how much its volume reads
abbrev pub record_line : Sizes → ℕ → VolumeRecord → Amount → List ℕ
record_line s id r amount =
    codes "volume " ++ decimal id ++ codes " " ++ record_words s r ++ codes " " ++ amount_word amount
    ++ codes " name=" ++ shown r.name ++ codes "\n"

-- the line of a volume and its number
abbrev pub volume_line : Sizes → ℕ × Volume → List ℕ
volume_line s (id, v) = record_line s id v.entry (amount_of v.content)

-- the lines of a meaning
abbrev pub list_lines : Meant → List ℕ
list_lines m =
    sizes_line m.sizes ++ flat_map (volume_line m.sizes) (entries m.volumes)
    ++ codes "volumes " ++ decimal (length (entries m.volumes)) ++ codes "\n"

-- what is printed for a meaning in a format: those lines, or the line of its object
abbrev pub list_told : Format → Meant → List ℕ
list_told format.Text m = list_lines m
list_told format.Json m = json_line (list_data m)

-- what the command answers for an image: what is printed for its meaning, or the cause of its refusal
pub data Lists (format : Format) (image : Image) : Outcome → Type 0 where
  accepted : {o : Outcome} (m : Meant) → Accepts image m → Gives o (says (list_told format m) 0) → Lists format image o
  refused : {o : Outcome} (c : Refusal) → Refuses image c → Gives o (says (refusal_by_format format c) 1) → Lists format image o

-- what it answers for any source: some text, if its places were found; or the cause of its refusal
pub data ListsFrom (format : Format) (s : Sizes) (k : Source) (agrees : Agreed) : Outcome → Type 0 where
  listed : {o : Outcome} (p : Placed) (text : List ℕ) → ArePlacesOf s k agrees p → Gives o (says text 0)
      → ListsFrom format s k agrees o
  unlisted : {o : Outcome} (c : Refusal) → ArePlacesError s k agrees (stream.Refused c)
      → Gives o (says (refusal_by_format format c) 1) → ListsFrom format s k agrees o

-- what it answers for a source: the answer for the image, whatever the source may hold
abbrev pub ListsOf : Format → Sizes → Source → Agreed → Outcome → Type 0
ListsOf format s k agrees o = ListsFrom format s k agrees o × WhereHeld agrees (λ bytes. Lists format (image_of s bytes) o)
