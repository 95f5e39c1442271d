-- What edits make of volumes, and how a text is trimmed, computed by the definitions.
use Rattle.ubi_change.proofs.Prelude.{◌≡◌, ℕ, [], ◌∷◌, ◌++◌, false, refl, get, Some, replicate, filled, Sizes, Meant, Volume, empty, gets, insert, trimmed, Rename, edited}
use Rattle.ubi_media.specs.declared.vid.VolKind.TheVariants as kind
use Rattle.ubi_volume.specs.declared.content.Content.TheVariants as content

abbrev g1 : Sizes
g1 = record { peb_size = 512; page = 64; vid_offset = 64; data_offset = 128; pebs = 32 }

-- a text has whole pages, and none that is blank at its end
pub one_page : trimmed g1 (1 ∷ 2 ∷ []) ≡ (1 ∷ 2 ∷ []) ++ replicate 62 255
unfolding filled
one_page = refl

pub two_pages : trimmed g1 (1 ∷ replicate 63 255 ++ (3 ∷ []) ++ replicate 90 255)
    ≡ (1 ∷ replicate 63 255 ++ (3 ∷ []) ++ replicate 63 255)
unfolding filled
two_pages = refl

pub no_page : trimmed g1 (replicate 100 255) ≡ []
unfolding filled
no_page = refl

-- a static volume with a name of one byte and a content of one byte
abbrev volume : ℕ → ℕ → ℕ → Volume
volume reserved name byte = record {
  entry = record { reserved = reserved; alignment = 1; kind = kind.Static; marker = false; name = name ∷ []; flags = 0 };
  content = content.Static (byte ∷ []);
}

-- volume 0 is named a, and volume 1 b
abbrev two : Meant
two = record { sizes = g1; image_seq = 7; volumes = insert (insert empty 0 (volume 1 97 1)) 1 (volume 2 98 2) }

-- the names are swapped, at once
pub swapped_0 : get (edited two (2 ∷ 3 ∷ []) (Rename 0 (98 ∷ []) ∷ Rename 1 (97 ∷ []) ∷ [])).volumes 0 ≡ Some (volume 1 98 1)
swapped_0 = simp gets refl

pub swapped_1 : get (edited two (2 ∷ 3 ∷ []) (Rename 0 (98 ∷ []) ∷ Rename 1 (97 ∷ []) ∷ [])).volumes 1 ≡ Some (volume 2 97 2)
swapped_1 = simp gets refl
