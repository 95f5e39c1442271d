-- The config that is written for volumes whose contents lie in files.
use Rattle.std.specs.Prelude.{ℕ, ◌*◌, ◌==◌, ◌&&◌, ◌||◌, Bool, not, nat_le, if◌then◌else◌, List, [], ◌∷◌, ◌++◌, codes, count_by, decimal, length, Option, Some, None, is_some, unwrap_or}
use Rattle.std.specs.Bool.{then_some}
use Rattle.std.specs.List.{flat_map, list_any}
use Rattle.ubi_media.specs.Geometry.{Sizes}
use Rattle.ubi_media.specs.Kind.{is_static}
use Rattle.ubi_media.specs.Record.{usable}
use Rattle.ubi_media.specs.declared.record.VolumeRecord.{VolumeRecord}
use Rattle.ubi_media.specs.declared.vid.VolKind.{VolKind}
use Rattle.ubi_media.specs.declared.vid.VolKind.TheVariants as kind
use Rattle.ubi_config.specs.Above.{first_some}
use Rattle.ubi_config.specs.Values.{is_quotable}
use Rattle.ubi_config.specs.declared.volume.ConfigVolume.{ConfigVolume}
use Rattle.ubi_config.specs.declared.volume.LeftOut.{LeftOut}
use Rattle.ubi_config.specs.declared.volume.LeftOut.TheVariants as why

-- a byte that no value of a line has: zero, and the line's end
abbrev pub is_no_value : ℕ → Bool
is_no_value b = (b == 0) || (b == 10)

-- the quote in which a value is written: `"`, or `'` if the value has a `"`
abbrev pub quote_of : List ℕ → ℕ
quote_of value = if list_any (λ b. b == 34) value then 39 else 34

-- the length of the longest value that is written: a line of `vol_name` has 1,022 bytes with it
abbrev pub longest_value : ℕ
longest_value = 1011

-- whether a value can be written: it has no such quote, and no byte that no value has; it isn't empty, doesn't end with a
-- blank, and isn't too long
abbrev pub is_writable : List ℕ → Bool
is_writable value =
    is_quotable value && nat_le (length value) longest_value && not (list_any is_no_value value)
    && not (list_any (λ b. b == quote_of value) value)

-- a value in quotes
abbrev pub quoted : List ℕ → List ℕ
quoted value = quote_of value ∷ value ++ quote_of value ∷ []

-- whether a volume grows to the size of the device
abbrev pub is_growing : ConfigVolume → Bool
is_growing v = v.entry.flags == 1

-- whether few enough volumes grow: at most one
abbrev pub may_grow : List ConfigVolume → Bool
may_grow vs = nat_le (count_by is_growing vs) 1

-- whether a config can give a volume of a kind its flags: none, 01, or 02 if it's static
abbrev pub has_words : VolKind → ℕ → Bool
has_words k flags = nat_le flags 1 || ((flags == 2) && is_static k)

-- the path of a volume's file
abbrev pub path_of : ConfigVolume → List ℕ
path_of v = unwrap_or v.image []

-- why a volume is left out; `None` if it's described
unfoldable pub left_out : Bool → ConfigVolume → Option LeftOut
left_out may_grow v =
    first_some (then_some v.entry.marker why.Updating
    ∷ then_some (not (is_some v.image)) why.Damaged
    ∷ then_some (not (is_writable v.entry.name)) why.Name
    ∷ then_some (not (is_writable (path_of v))) why.Path
    ∷ then_some (not (has_words v.entry.kind v.entry.flags)) why.Flags
    ∷ then_some (is_growing v && not may_grow) why.Growing ∷ [])

-- the words for why a volume is left out
abbrev pub left_out_words : LeftOut → List ℕ
left_out_words why.Updating = codes "its update didn't end"
left_out_words why.Damaged = codes "it is damaged"
left_out_words why.Name = codes "its name can't stand in quotes"
left_out_words why.Path = codes "the path of its file can't stand in quotes"
left_out_words why.Flags = codes "no config can give its flags"
left_out_words why.Growing = codes "more than one volume has autoresize"

-- the name of a volume's section
abbrev pub title : ℕ → List ℕ
title id = codes "volume-" ++ decimal id

-- the word for a kind
abbrev pub kind_word : VolKind → List ℕ
kind_word kind.Dynamic = codes "dynamic"
kind_word kind.Static = codes "static"

-- how many bytes a volume reserves
abbrev pub bytes_reserved : Sizes → VolumeRecord → ℕ
bytes_reserved s r = r.reserved * usable s r

-- the line of flags, if there are some
abbrev pub flag_lines : ℕ → List (List ℕ)
flag_lines flags =
    if flags == 1 then codes "vol_flags=autoresize" ∷ []
    else (if flags == 2 then codes "vol_flags=skip-check" ∷ [] else [])

-- the section of a volume, after an empty line
abbrev pub section_lines : Sizes → ConfigVolume → List (List ℕ)
section_lines s v =
    [] ∷ (codes "[" ++ title v.id ++ codes "]")
    ∷ codes "mode=ubi"
    ∷ (codes "vol_id=" ++ decimal v.id)
    ∷ (codes "vol_type=" ++ kind_word v.entry.kind)
    ∷ (codes "vol_name=" ++ quoted v.entry.name)
    ∷ (codes "vol_size=" ++ decimal (bytes_reserved s v.entry))
    ∷ (codes "vol_alignment=" ++ decimal v.entry.alignment)
    ∷ (codes "image=" ++ quoted (path_of v)) ∷ flag_lines v.entry.flags

-- the remark that says why a volume has no section, after an empty line
abbrev pub remark_lines : ConfigVolume → LeftOut → List (List ℕ)
remark_lines v c =
    [] ∷ (codes "# volume " ++ decimal v.id ++ codes " is left out: " ++ left_out_words c) ∷ []

-- the lines of a volume: its section, or else the remark
abbrev pub lines_by : Sizes → ConfigVolume → Option LeftOut → List (List ℕ)
lines_by s v None = section_lines s v
lines_by s v (Some c) = remark_lines v c

-- the lines of a volume, by whether volumes may grow
abbrev pub volume_lines : Sizes → Bool → ConfigVolume → List (List ℕ)
volume_lines s grow v = lines_by s v (left_out grow v)

-- the words that build the image again
unfoldable pub head : Sizes → ℕ → List ℕ
head s seq =
    (codes "# ubi_tool build ubi.ini --out IMAGE --peb " ++ decimal s.peb_size) ++ (codes " --page " ++ decimal s.page)
    ++ (codes " --vid " ++ decimal s.vid_offset) ++ (codes " --data " ++ decimal s.data_offset)
    ++ (codes " --pebs " ++ decimal s.pebs) ++ (codes " --seq " ++ decimal seq)

-- the lines of a config: a remark with these words, and those of the volumes, in order
abbrev pub config_lines : Sizes → ℕ → List ConfigVolume → List (List ℕ)
config_lines s seq vs = head s seq ∷ flat_map (volume_lines s (may_grow vs)) vs

-- a line and its end
abbrev pub ended : List ℕ → List ℕ
ended line = line ++ codes "\n"

-- the text of lines
abbrev pub text_of : List (List ℕ) → List ℕ
text_of ls = flat_map ended ls

-- the text of a config
abbrev pub config_text : Sizes → ℕ → List ConfigVolume → List ℕ
config_text s seq vs = text_of (config_lines s seq vs)
