-- What bytes start with if no geometry is known.
use Rattle.ubi_media.proofs.Prelude.{◌≡◌, ◌≢◌, ◌<◌, ◌≤◌, ℕ, List, refl, arith, Option, Some, None, nat_tests, option_map_or, form_of, Sizes, EcFault, EcHeader, Form, EcFields}
use Rattle.ubi_media.specs.Ec as ec
use Rattle.ubi_media.specs.declared.ec.EcRead.TheVariants as ec_read
use Rattle.ubi_media.specs.declared.header.Form.TheVariants as form
use Rattle.ubi_media.specs.declared.ec.EcFault.TheVariants as fault
use Rattle.ubi_media.specs.declared.ec.EcStart.TheVariants as start

pub own_fault : (f : EcFields) → f.version ≡ 1 → f.counter ≤ 0x7FFFFFFF → ec.first_fault (ec.sizes_naming (ec.offsets_of f)) f ≡ None
unfolding ec.first_fault ec.breaks
own_fault f e h = grind (arith, nat_tests)

version_fault : (f : EcFields) → f.version ≢ 1 → ec.first_fault (ec.sizes_naming (ec.offsets_of f)) f ≡ Some fault.Version
unfolding ec.first_fault ec.breaks
version_fault f ne = grind (arith, nat_tests)

counter_fault : (f : EcFields) → f.version ≡ 1 → 0x7FFFFFFF < f.counter → ec.first_fault (ec.sizes_naming (ec.offsets_of f)) f ≡ Some fault.Counter
unfolding ec.first_fault ec.breaks
counter_fault f e above = grind (arith, nat_tests)

module _ (f : EcFields) where
  pub other_version : f.version ≢ 1 → start.Other ≡ ec.start_by (ec.offsets_of f) (ec.judged (ec.sizes_naming (ec.offsets_of f)) f)
  unfolding ec.judged
  other_version ne = rw (version_fault f ne) refl

  pub other_counter : f.version ≡ 1 → 0x7FFFFFFF < f.counter
      → start.Other ≡ ec.start_by (ec.offsets_of f) (ec.judged (ec.sizes_naming (ec.offsets_of f)) f)
  unfolding ec.judged
  other_counter e above = rw (counter_fault f e above) refl

-- what a header says that is Valid for a geometry
record IsFor (s : Sizes) (f : EcFields) : Type 0 where
  version : f.version ≡ 1
  counter : f.counter ≤ 0x7FFFFFFF
  vid_offset : f.vid_offset ≡ s.vid_offset
  data_offset : f.data_offset ≡ s.data_offset

is_for : (s : Sizes) (f : EcFields) → ec.first_fault s f ≡ None → IsFor s f
unfolding ec.first_fault ec.breaks
is_for s f e = record {
  version = grind (arith, nat_tests);
  counter = grind (arith, nat_tests);
  vid_offset = grind (arith, nat_tests);
  data_offset = grind (arith, nat_tests);
}

no_fault : (o : Option EcFault) (g h : EcHeader) → option_map_or ec_read.Fault o (ec_read.Valid g) ≡ ec_read.Valid h → o ≡ None
no_fault None g h e = refl
no_fault (Some f) g h e = cc

no_blank : (o : Option EcFault) (g : EcHeader) → option_map_or ec_read.Fault o (ec_read.Valid g) ≡ ec_read.Blank → ⊥
no_blank None g e = cc
no_blank (Some f) g e = cc

start_named : (s : Sizes) (f : EcFields) (h : EcHeader) → ec.judged s f ≡ ec_read.Valid h
    → ec.start_by (ec.offsets_of f) (ec.judged (ec.sizes_naming (ec.offsets_of f)) f) ≡ start.Header (ec.offsets_in s)
unfolding ec.judged
start_named s f h e =
    let is = is_for s f (no_fault (ec.first_fault s f) (ec.header_of f) h e) in
    rw (own_fault f is.version is.counter) (let v = is.vid_offset in let d = is.data_offset in cc)

start_valid : (s : Sizes) (f : EcFields) (h : EcHeader) (form : Form) → ec.reading_by s f form ≡ ec_read.Valid h
    → ec.start_by (ec.offsets_of f) (ec.reading_by (ec.sizes_naming (ec.offsets_of f)) f form) ≡ start.Header (ec.offsets_in s)
start_valid s f h form.Blank e = cc
start_valid s f h form.Corrupt e = cc
start_valid s f h form.Sealed e = start_named s f h e

start_blank : (s : Sizes) (f : EcFields) (form : Form) → ec.reading_by s f form ≡ ec_read.Blank
    → ec.start_by (ec.offsets_of f) (ec.reading_by (ec.sizes_naming (ec.offsets_of f)) f form) ≡ start.Blank
unfolding ec.judged
start_blank s f form.Blank e = refl
start_blank s f form.Corrupt e = cc
start_blank s f form.Sealed e = absurd (no_blank (ec.first_fault s f) (ec.header_of f) e)

-- a header that is Valid for a geometry names its offsets
pub valid_starts : (s : Sizes) (bytes : List ℕ) (h : EcHeader) → ec.ec_reading s bytes ≡ ec_read.Valid h
    → ec.ec_start bytes ≡ start.Header (ec.offsets_in s)
unfolding ec.ec_reading ec.ec_start
valid_starts s bytes h e = start_valid s (ec.ec_fields bytes) h (form_of ec.ec_magic bytes) e

-- and blank bytes start as such
pub blank_starts : (s : Sizes) (bytes : List ℕ) → ec.ec_reading s bytes ≡ ec_read.Blank → ec.ec_start bytes ≡ start.Blank
unfolding ec.ec_reading ec.ec_start
blank_starts s bytes e = start_blank s (ec.ec_fields bytes) (form_of ec.ec_magic bytes) e
