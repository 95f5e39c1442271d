-- The law of composed images that are detected, as it stands on a function that does nothing.
use Rattle.std.specs.Prelude.{◌≡◌, ◌≢◌, ℕ, ◌+◌, ◌-◌, ◌*◌, ◌%◌, ◌≤◌, ◌⊎◌, Contains, IsTrue, List, None, length}
use Rattle.ubi_media.specs.Ec.{offsets_in}
use Rattle.ubi_media.specs.Geometry.{IsGeometry, leb_size, slots}
use Rattle.ubi_media.specs.Record.{record_size}
use Rattle.ubi_detect.specs.Detected.{AreDetected, IsFound}
use Rattle.ubi_detect.specs.FoundLaws.{ShowsImage}
use Rattle.ubi_detect.specs.Heads.{key_at, step}
use Rattle.ubi_detect.specs.Layout.{data_place}
use Rattle.ubi_detect.specs.Place.{is_without, told}
use Rattle.ubi_detect.specs.Sure.{is_seen}
use Rattle.ubi_detect.specs.declared.detect.Detected.{Detected}
use Rattle.ubi_detect.specs.declared.groups.Group.{Group}
use Rattle.ubi_volume.specs.Meant.{IsMeaning, Meant}
use Rattle.ubi_compose.specs.Composed.{composed}
use Rattle.ubi_compose.specs.Normal.{normal_blocks}

-- the headers of what is composed: one for each eraseblock, the spare ones too, from its beginning on
abbrev pub group_composed : Meant → ℕ → Group
group_composed m spares =
    let n = length (normal_blocks m) + spares in
    record {
      key = record { offsets = offsets_in m.sizes; image_seq = m.image_seq };
      first = 0;
      last = (n - 1) * m.sizes.peb_size;
      count = n;
      size = m.sizes.peb_size;
    }

-- what the eraseblocks of a file hold behind their beginnings is no header
abbrev pub NoInnerHeader : ℕ → List ℕ → Type 0
NoInnerHeader q bytes = (u : ℕ) → u * step + step ≤ length bytes → (u * step) % q ≢ 0 → key_at bytes (u * step) ≡ None

-- the geometry of what is composed can be seen in its bytes
pub record IsDetectable (m : Meant) (spares : ℕ) : Type 0 where
  -- an eraseblock ends with 16 bytes 0xFF: a spare one, or one of those with the volume table
  pub blank : (1 ≤ spares) ⊎ (record_size * slots m.sizes + 16 ≤ leb_size m.sizes)
  -- the data begin where Linux has them
  pub data_offset : data_place m.sizes.page m.sizes.vid_offset ≡ m.sizes.data_offset
  -- no volume holds what would be read as a header
  pub alone : NoInnerHeader m.sizes.peb_size (composed m spares)
  -- the size of an eraseblock is a multiple of 128, or no page with out-of-band bytes fits half of it, nor a quarter
  pub seen : IsTrue (is_seen (group_composed m spares))
  -- no page with out-of-band bytes fits it, or fewer volume-identifier headers stand where such a page has them than where one without does
  pub without : IsTrue (is_without (composed m spares) (group_composed m spares))

-- what is found in it: its own geometry, for as many eraseblocks as a device may have, and all of its bytes
abbrev pub own_detected : Meant → ℕ → Detected
own_detected m spares = record {
  geometry = record m.sizes { pebs = 1048576 };
  oob = 0;
  start = 0;
  length = length (composed m spares);
}

-- what is composed shows its image, and its own geometry is among those that are found in it
abbrev pub ComposedIsFound : Type 0
ComposedIsFound = (m : Meant) (spares : ℕ) → IsGeometry m.sizes → IsMeaning m → IsDetectable m spares
    → ShowsImage (composed m spares) (group_composed m spares) m.sizes.page
    × IsFound (composed m spares) (group_composed m spares)
    × AreDetected (composed m spares) (told (composed m spares) (group_composed m spares))
    × Contains (told (composed m spares) (group_composed m spares)) (own_detected m spares)
