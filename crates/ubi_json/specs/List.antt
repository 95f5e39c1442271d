-- The volumes of an image, as JSON.
use Rattle.std.specs.Prelude.{ℕ, List, codes, map}
use Rattle.std.specs.FinMap.{entries}
use Rattle.serde_json.specs.Data.{Data, Items, Members, array, member, no_members, number, object, put, string, unsigned}
use Rattle.serde_json.specs.View.{items_of}
use Rattle.ubi_media.specs.Geometry.{Sizes, leb_size, slots}
use Rattle.ubi_media.specs.Record.{usable}
use Rattle.ubi_media.specs.declared.record.VolumeRecord.{VolumeRecord}
use Rattle.ubi_volume.specs.Amounts.{amount_of}
use Rattle.ubi_volume.specs.Meant.{Meant}
use Rattle.ubi_volume.specs.declared.block.Amount.{Amount}
use Rattle.ubi_volume.specs.declared.block.Amount.TheVariants as amount
use Rattle.ubi_volume.specs.declared.content.Volume.{Volume}
use Rattle.ubi_json.specs.declared.list.ListedVolume.{ListedVolume}
use Rattle.ubi_json.specs.Line.{numbered, worded}
use Rattle.ubi_json.specs.Words.{kind_word}
use Rattle.ubi_words.specs.Shown.{shown}

-- the sizes of a device
abbrev pub sizes_data : Sizes → Data
sizes_data s =
    object
    (numbered (codes "data") s.data_offset
    (numbered (codes "leb") (leb_size s)
    (numbered (codes "page") s.page
    (numbered (codes "peb") s.peb_size
    (numbered (codes "pebs") s.pebs
    (numbered (codes "slots") (slots s)
    (numbered (codes "vid") s.vid_offset no_members)))))))

-- a record and its number: the name as it is shown
abbrev pub record_members : Sizes → ℕ → VolumeRecord → Members
record_members s id r =
    numbered (codes "alignment") r.alignment
    (numbered (codes "flags") r.flags
    (numbered (codes "id") id
    (worded (codes "kind") (kind_word r.kind)
    (worded (codes "name") (shown r.name)
    (numbered (codes "reserved") r.reserved
    (numbered (codes "usable") (usable s r) no_members))))))

-- with how much the volume reads: the bytes of a static one, or how many LEBs of a dynamic one aren't blank; or why it can't be read
abbrev pub with_amount : Amount → Members → Members
with_amount amount.Updating ms = put (codes "state") (string (codes "updating")) ms
with_amount amount.Damaged ms = put (codes "state") (string (codes "damaged")) ms
with_amount (amount.Bytes bytes) ms = put (codes "bytes") (number (unsigned bytes)) ms
with_amount (amount.Lebs count) ms = put (codes "lebs") (number (unsigned count)) ms

-- a volume as it is listed
abbrev pub volume_data : Sizes → ListedVolume → Data
volume_data s v = object (with_amount v.amount (record_members s v.id v.entry))

-- the sizes of a device, and its volumes
abbrev pub volumes_data : Data → Items → Data
volumes_data sizes volumes = object (member (codes "geometry") sizes (member (codes "volumes") (array volumes) no_members))

-- the sizes of a device of these sizes, and its volumes
abbrev pub listed_data : Sizes → List ListedVolume → Data
listed_data s volumes = volumes_data (sizes_data s) (items_of (map (volume_data s) volumes))

-- what is listed of a volume and its number
abbrev pub listed_volume : ℕ × Volume → ListedVolume
listed_volume (id, v) = record { id = id; entry = v.entry; amount = amount_of v.content }

-- a meaning: the volumes in ascending order
abbrev pub list_data : Meant → Data
list_data m = listed_data m.sizes (map listed_volume (entries m.volumes))
