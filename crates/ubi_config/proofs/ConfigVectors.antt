-- A config on literals: its first fault, and its sections.
use Rattle.ubi_config.proofs.Prelude.{◌≡◌, false, List, Option, ConfigCause, map, ℕ, [], ◌∷◌, ◌++◌, refl, ⊤, Some, None, Ok, Err, codes, replicate, digits, join_with_byte, breaks, fields_from, small, heading_cause, later_cause, setting_cause, cause_at, line_fault, saying, sayings, section_fault, sections_in, sections_of, config_error_text, flag_of, heading_line, is_one_line, kind_named, line_of, line_said, setting, setting_at, setting_line, title_of, record_in, draft_of, finished, key_of, plain_value, quoted_value, value_of, is_number, number_within, size_of, trimmed, unit_named, unit_of, Section, first_config_fault as config_fault, first_fault}
use Rattle.ubi_media.specs.declared.record.RecFault.TheVariants as fault
use Rattle.ubi_media.specs.declared.vid.VolKind.TheVariants as kind
use Rattle.ubi_config.specs.declared.errors.ConfigCause.TheVariants as cause
use Rattle.ubi_config.specs.declared.errors.ConfigError.TheVariants as error
use Rattle.ubi_config.specs.declared.key.Key.TheVariants as key

-- what is unfolded to compute a config on a literal
unfoldable config_on_literals : ⊤
unfolding config_fault line_fault cause_at section_fault sections_in sayings saying line_of is_one_line line_said
    heading_line title_of setting_line setting_at setting flag_of kind_named key_of value_of plain_value quoted_value trimmed
    number_within is_number size_of unit_of unit_named later_cause heading_cause setting_cause draft_of finished
config_on_literals = tt

-- the bytes of lines
abbrev text : List (List ℕ) → List ℕ
text lines = join_with_byte 10 lines

-- the first faults of texts of lines are those beside them
abbrev HaveFaults : List (List (List ℕ) × Option (ℕ × ConfigCause)) → Type 0
HaveFaults rows = map (λ e. config_fault (text e.0)) rows ≡ map (λ e. e.1) rows

-- no line has a fault
sound_configs : HaveFaults (
    (codes "" ∷ [], None) ∷
    (codes "# a" ∷ codes " " ∷ [], None) ∷
    (codes "[v]" ∷ codes "mode=ubi" ∷ codes "vol_id=1" ∷ codes "vol_name=a" ∷ codes "vol_size=9" ∷ [], None) ∷ (
      codes "  [ v ] " ∷ codes "" ∷ codes "# a" ∷ codes " Mode = ubi ; a" ∷ codes "VOL_ID=1" ∷ codes "vol_name=a"
          ∷ codes "vol_size=9 KiB" ∷ [],
      None,
    ) ∷
    [])
unfolding config_on_literals
sound_configs = refl

-- a line that is none, or none of its kind
wrong_lines : HaveFaults (
    (codes "mode=ubi" ∷ codes "[v]" ∷ [], Some (1, cause.NoSection)) ∷
    (codes "[v:w]" ∷ [], Some (1, cause.Form)) ∷
    (codes "[v] # a" ∷ [], Some (1, cause.Form)) ∷
    (codes "[v]" ∷ codes "mode ubi" ∷ [], Some (2, cause.Form)) ∷
    (codes "[v]" ∷ codes "# a\\ " ∷ [], Some (2, cause.Line)) ∷
    (codes "[v]" ∷ (codes "#" ++ 0 ∷ []) ∷ [], Some (2, cause.Line)) ∷
    (codes "[v]" ∷ replicate 1023 35 ∷ [], Some (2, cause.Line)) ∷
    (codes "[v]" ∷ codes "vol_flag=autoresize" ∷ [], Some (2, cause.Key)) ∷
    [])
unfolding config_on_literals
wrong_lines = refl

-- no value, or another than its key has: of quotes, of numbers, of sizes
wrong_values : HaveFaults (
    (codes "[v]" ∷ codes "image= # a" ∷ [], Some (2, cause.Value)) ∷
    (codes "[v]" ∷ codes "image=\"a'" ∷ [], Some (2, cause.Value)) ∷
    (codes "[v]" ∷ codes "image='a' b" ∷ [], Some (2, cause.Value)) ∷
    (codes "[v]" ∷ codes "image='a '" ∷ [], Some (2, cause.Value)) ∷
    (codes "[v]" ∷ codes "vol_id=010" ∷ [], Some (2, cause.Unfit)) ∷
    (codes "[v]" ∷ codes "vol_id=4294967296" ∷ [], Some (2, cause.Unfit)) ∷
    (codes "[v]" ∷ codes "vol_size=8589934592GiB" ∷ [], Some (2, cause.Unfit)) ∷
    (codes "[v]" ∷ codes "vol_size=0KiB" ∷ [], Some (2, cause.Unfit)) ∷
    (codes "[v]" ∷ codes "vol_size=1kib" ∷ [], Some (2, cause.Unfit)) ∷
    [])
unfolding config_on_literals
wrong_values = refl

-- the longest line and the largest numbers, quotes and flags, of sections that lack something
right_values : HaveFaults (
    (codes "[v]" ∷ replicate 1022 35 ∷ [], Some (1, cause.Missing key.Mode)) ∷
    (codes "[v]" ∷ codes "image='#;\"' # b" ∷ [], Some (1, cause.Missing key.Mode)) ∷
    (codes "[v]" ∷ codes "vol_id=4294967295" ∷ [], Some (1, cause.Missing key.Mode)) ∷
    (codes "[v]" ∷ codes "vol_size=9223372036854775807" ∷ [], Some (1, cause.Missing key.Mode)) ∷ (
      codes "[v]" ∷ codes "vol_flags=skip-check" ∷ codes "[w]" ∷ codes "vol_flags=skip-check"
          ∷ [],
      Some (1, cause.Missing key.Mode),
    ) ∷
    [])
unfolding config_on_literals
right_values = refl

-- what stands twice
again : HaveFaults (
    (codes "[v]" ∷ codes "[V]" ∷ [], Some (2, cause.Again)) ∷
    (codes "[v]" ∷ codes "mode=ubi" ∷ codes "mode=ubi" ∷ [], Some (3, cause.Again)) ∷
    (codes "[v]" ∷ codes "vol_id=1" ∷ codes "[w]" ∷ codes "vol_id=1" ∷ [], Some (4, cause.SameId)) ∷
    (codes "[v]" ∷ codes "vol_name=a" ∷ codes "[w]" ∷ codes "vol_name=a" ∷ [], Some (4, cause.SameName)) ∷ (
      codes "[v]" ∷ codes "vol_flags=autoresize" ∷ codes "[w]" ∷ codes "vol_flags=autoresize"
          ∷ [],
      Some (4, cause.Autoresize),
    ) ∷
    [])
unfolding config_on_literals
again = refl

-- what a section lacks
lacking : HaveFaults (
    (codes "[v]" ∷ codes "mode=ubi" ∷ codes "[w]" ∷ codes "mode=ubi" ∷ [], Some (1, cause.Missing key.Id)) ∷
    (codes "[v]" ∷ codes "mode=ubi" ∷ codes "vol_id=1" ∷ codes "vol_size=9" ∷ [], Some (1, cause.Missing key.Name)) ∷
    (codes "[v]" ∷ codes "mode=ubi" ∷ codes "vol_id=1" ∷ codes "vol_name=a" ∷ [], Some (1, cause.Missing key.Image)) ∷ (
      codes "# a" ∷ codes "[v]" ∷ codes "mode=ubi" ∷ codes "vol_id=1" ∷ codes "vol_name=a" ∷ codes "vol_size=9"
          ∷ codes "vol_type=static" ∷ [],
      Some (2, cause.Missing key.Image),
    ) ∷ (
      codes "[v]" ∷ codes "mode=ubi" ∷ codes "vol_id=1" ∷ codes "vol_name=a" ∷ codes "image=a"
          ∷ codes "vol_flags=skip-check" ∷ [],
      Some (1, cause.SkipCheck),
    ) ∷
    [])
unfolding config_on_literals
lacking = refl

-- a static volume may go without a check
static_without_check : sections_of (text (codes "[v]" ∷ codes "vol_flags=skip-check" ∷ codes "mode=ubi" ∷ codes "vol_id=1"
    ∷ codes "vol_name=a" ∷ codes "image=b" ∷ codes "vol_type=static" ∷ []))
    ≡ record {
      line = 1;
      id = 1;
      name = codes "a";
      kind = kind.Static;
      alignment = 1;
      flags = 2;
      size = None;
      image = Some (codes "b");
    } ∷ []
unfolding config_on_literals
static_without_check = refl

-- the example of ubinize's manual
abbrev manual : List ℕ
manual =
    text (codes "[jffs2-volume]" ∷ codes "mode=ubi" ∷ codes "image=../jffs2.img" ∷ codes "vol_id=1"
    ∷ codes "vol_size=30MiB" ∷ codes "vol_type=dynamic" ∷ codes "vol_name=jffs2_volume"
    ∷ codes "vol_flags=autoresize"
    ∷ codes "vol_alignment=1" ∷ [])

-- its section
abbrev jffs2 : Section
jffs2 = record {
  line = 1;
  id = 1;
  name = codes "jffs2_volume";
  kind = kind.Dynamic;
  alignment = 1;
  flags = 1;
  size = Some 31457280;
  image = Some (codes "../jffs2.img");
}

no_fault_of_the_manual : config_fault manual ≡ None
unfolding config_on_literals
no_fault_of_the_manual = refl

section_of_the_manual : sections_of manual ≡ jffs2 ∷ []
unfolding config_on_literals
section_of_the_manual = refl

-- what is unfolded to compute the record of a section on a literal
unfoldable records_on_literals : ⊤
unfolding record_in first_fault breaks fields_from
records_on_literals = tt

record_of_the_manual : record_in small jffs2 (Some 1)
    ≡ Ok (record {
      reserved = 81920;
      alignment = 1;
      kind = kind.Dynamic;
      marker = false;
      name = codes "jffs2_volume";
      flags = 1;
    })
unfolding records_on_literals
record_of_the_manual = refl

longer_image : record_in small jffs2 (Some 31457281) ≡ Err cause.LongImage
unfolding records_on_literals
longer_image = refl

empty_image : record_in small jffs2 (Some 0) ≡ Err cause.Empty
unfolding records_on_literals
empty_image = refl

empty_static : record_in small (record jffs2 { kind = kind.Static; size = None }) (Some 0)
    ≡ Ok (record {
      reserved = 1;
      alignment = 1;
      kind = kind.Static;
      marker = false;
      name = codes "jffs2_volume";
      flags = 1;
    })
unfolding records_on_literals
empty_static = refl

alignment_of_256 : record_in small (record jffs2 { alignment = 256; size = None }) (Some 769)
    ≡ Ok (record {
      reserved = 4;
      alignment = 256;
      kind = kind.Dynamic;
      marker = false;
      name = codes "jffs2_volume";
      flags = 1;
    })
unfolding records_on_literals
alignment_of_256 = refl

alignment_of_65 : record_in small (record jffs2 { alignment = 65 }) None ≡ Err (cause.Record fault.AlignmentPage)
unfolding records_on_literals
alignment_of_65 = refl

too_large : record_in small (record jffs2 { size = Some 824633720449 }) None ≡ Err cause.TooLarge
unfolding records_on_literals
too_large = refl

no_slot : record_in small (record jffs2 { id = 2 }) None ≡ Err cause.IdRange
unfolding records_on_literals
no_slot = refl

shown_with_a_key : config_error_text (error.Refused 12 (cause.Missing key.Alignment))
    ≡ codes "I12 Missing line=12 vol_alignment"
unfolding digits
shown_with_a_key = refl
