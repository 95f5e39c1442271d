-- The page of an image, by the lines of its eraseblocks' headers and their letters.
use Rattle.std.specs.Prelude.{◌≡◌, ℕ, List, map}
use Rattle.std.specs.FinMap.{entries}
use Rattle.ubi_media.specs.declared.refusal.Refusal.{Refusal}
use Rattle.ubi_scan.specs.Image.{Image}
use Rattle.ubi_volume.specs.Accepts.{Accepts, Refuses}
use Rattle.ubi_volume.specs.Meant.{Meant}
use Rattle.ubi_volume.specs.Survey.{Seen}
use Rattle.ubi_json.specs.List.{listed_volume}
use Rattle.ubi_map.specs.Map.{refused_page_data, surveyed_data}
use Rattle.ubi_map.specs.Page.{page_of}

-- the page of an image with this survey, with its meaning; or of one that is refused
pub data IsPageBy (image : Image) (texts : List (List ℕ)) (letters : List ℕ) (a : Seen) (page : List ℕ) : Type 0 where
  by_meaning : (m : Meant) → Accepts image m
      → page ≡ page_of (surveyed_data image.sizes texts a (map listed_volume (entries m.volumes))) → IsPageBy image texts letters a page
  by_cause : (c : Refusal) → Refuses image c → page ≡ page_of (refused_page_data image.sizes texts letters c)
      → IsPageBy image texts letters a page
