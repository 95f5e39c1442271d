-- The limits of a geometry, and what follows from its numbers, on literals.
use Rattle.ubi_media.proofs.Prelude.{◌≡◌, refl, Some, None, Sizes, leb_size, slots, first_broken}
use Rattle.ubi_media.specs.declared.geometry.GeometryError.TheVariants as limit
use Rattle.ubi_media.proofs.Words.{small}

kept : first_broken small ≡ None
unfolding first_broken
kept = refl

-- of three broken limits the first
no_page : first_broken (record { peb_size = 512; page = 96; vid_offset = 100; data_offset = 128; pebs = 1 })
    ≡ Some limit.Page
unfolding first_broken
no_page = refl

no_whole_pages : first_broken (record small { peb_size = 500 }) ≡ Some limit.PebSize
unfolding first_broken
no_whole_pages = refl

vid_at_the_start : first_broken (record small { vid_offset = 0 }) ≡ Some limit.VidOffset
unfolding first_broken
vid_at_the_start = refl

data_at_the_vid : first_broken (record small { data_offset = 64 }) ≡ Some limit.DataOffset
unfolding first_broken
data_at_the_vid = refl

data_at_the_end : first_broken (record small { data_offset = 512 }) ≡ Some limit.LebTooSmall
unfolding first_broken
data_at_the_end = refl

data_of_128 : first_broken (record small { peb_size = 256 }) ≡ Some limit.LebTooSmall
unfolding first_broken
data_of_128 = refl

one_peb : first_broken (record small { pebs = 1 }) ≡ Some limit.Pebs
unfolding first_broken
one_peb = refl

-- a VID offset within the first page, and eraseblocks that are no power of two
within_a_page : Sizes
within_a_page = record { peb_size = 126976; page = 2048; vid_offset = 512; data_offset = 2048; pebs = 1048576 }

kept_within_a_page : first_broken within_a_page ≡ None
unfolding within_a_page first_broken
kept_within_a_page = refl

data_of_384 : leb_size small ≡ 384
data_of_384 = refl

two_slots : slots small ≡ 2
two_slots = refl

most_slots : slots within_a_page ≡ 128
unfolding within_a_page
most_slots = refl
