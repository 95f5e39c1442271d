-- The lines of what is found in files, and of why nothing is, on literals.
use Rattle.ubi_reading.proofs.Prelude.{◌≡◌, [], ◌∷◌, Some, refl, digits, Sizes, first_broken, options, options_lines, sizes_options, undetected_line, greatest_numbers, whole_file, codes}
use Rattle.std.proofs.Common.{None}
use Rattle.ubi_detect.specs.declared.detect.Undetected.TheVariants as cause
use Rattle.ubi_files.specs.Numbers as numbers

-- an eraseblock of 64 pages, and one of 32
abbrev small_pages : Sizes
small_pages = record { peb_size = 131072; page = 2048; vid_offset = 2048; data_offset = 4096; pebs = 1048576 }

abbrev large_pages : Sizes
large_pages = record { peb_size = 131072; page = 4096; vid_offset = 2048; data_offset = 4096; pebs = 1048576 }

-- a file that is an image of two eraseblocks: the least page first
two_pages : options_lines whole_file 262144 (
    record { geometry = small_pages; oob = 0; start = 0; length = 262144 } ∷ record { geometry = large_pages; oob = 0; start = 0; length = 262144 } ∷ [])
    ≡ codes "--peb 131072 --page 2048 --vid 2048 --data 4096\n--peb 131072 --page 4096 --vid 2048 --data 4096\n"
unfolding digits options sizes_options
two_pages = refl

-- one of which the pages have out-of-band bytes
out_of_band : options_lines whole_file 270336 (record { geometry = small_pages; oob = 64; start = 0; length = 270336 } ∷ [])
    ≡ codes "--peb 131072 --page 2048 --vid 2048 --data 4096 --oob 64\n"
unfolding digits options sizes_options
out_of_band = refl

-- an image with a boot loader in front, and one with junk behind it
behind_loader : options_lines whole_file 263168 (record { geometry = small_pages; oob = 0; start = 1024; length = 262144 } ∷ [])
    ≡ codes "--peb 131072 --page 2048 --vid 2048 --data 4096 --start 1024 --length 262144\n"
unfolding digits options sizes_options
behind_loader = refl

before_junk : options_lines whole_file 262145 (record { geometry = small_pages; oob = 0; start = 0; length = 262144 } ∷ [])
    ≡ codes "--peb 131072 --page 2048 --vid 2048 --data 4096 --start 0 --length 262144\n"
unfolding digits options sizes_options
before_junk = refl

-- a part that is an image, and one in which an image lies
in_part : options_lines (record { start = 1024; length = None }) 270336 (record { geometry = small_pages; oob = 64; start = 0; length = 270336 } ∷ [])
    ≡ codes "--peb 131072 --page 2048 --vid 2048 --data 4096 --oob 64 --start 1024 --length 270336\n"
unfolding digits options sizes_options
in_part = refl

within_part : options_lines (record { start = 1024; length = Some 263000 }) 263000 (
    record { geometry = small_pages; oob = 0; start = 512; length = 262144 } ∷ [])
    ≡ codes "--peb 131072 --page 2048 --vid 2048 --data 4096 --start 1536 --length 262144\n"
unfolding digits options sizes_options
within_part = refl

-- a part of which the words say how long it is: the file may be longer
cut_part : options_lines (record { start = 0; length = Some 262144 }) 262144 (record { geometry = small_pages; oob = 0; start = 0; length = 262144 } ∷ [])
    ≡ codes "--peb 131072 --page 2048 --vid 2048 --data 4096 --start 0 --length 262144\n"
unfolding digits options sizes_options
cut_part = refl

no_line : options_lines whole_file 0 [] ≡ []
no_line = refl

no_header : undetected_line cause.NoHeader ≡ codes "refused F1 NoHeader\n"
no_header = refl

no_size : undetected_line cause.NoSize ≡ codes "refused F2 NoSize\n"
no_size = refl

cut_off : undetected_line (cause.Length 131072 4096) ≡ codes "refused F3 Length peb=131072 rest=4096\n"
unfolding digits
cut_off = refl

no_vote : undetected_line (cause.OutOfBand 135168) ≡ codes "refused F5 OutOfBand peb=135168\n"
unfolding digits
no_vote = refl

no_page : undetected_line (cause.Page 512 (record { vid_offset = 64; data_offset = 192 })) ≡ codes "refused F6 Page peb=512 vid=64 data=192\n"
unfolding digits
no_page = refl

-- the greatest device keeps the limits
limits : first_broken (numbers.sizes_of greatest_numbers) ≡ None
unfolding first_broken
limits = refl
