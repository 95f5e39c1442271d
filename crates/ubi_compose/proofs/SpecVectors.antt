-- The composer's text on literals: the first line with a cause, and the volumes.
use Rattle.ubi_compose.proofs.Prelude.{◌≡◌, ℕ, List, Option, SpecCause, map, false, true, [], ◌∷◌, ◌++◌, replicate, refl, ⊤, Some, None, codes, from_entries, digits, decode_pairs, filled, breaks, fields_from, first_fault, VolumeRecord, small, spec_error_text, damaged_line, line_form, leb_line, line_of, text_line, updating_line, line_of_volume, cause_of, content_cause, first_cause, later_cause, saying, sayings, volume_from, volumes_in, volumes_of, flags_of, hex_of, is_number, kind_named, number_within, shown_bytes, shown_name, record_in_lines}
use Rattle.ubi_media.specs.declared.record.RecFault.TheVariants as fault
use Rattle.ubi_media.specs.declared.vid.VolKind.TheVariants as kind
use Rattle.ubi_volume.specs.declared.content.Content.TheVariants as content
use Rattle.ubi_compose.specs.declared.errors.SpecCause.TheVariants as cause
use Rattle.ubi_compose.specs.declared.errors.SpecError.TheVariants as error

-- what is unfolded to compute a text on a literal
unfoldable spec_on_literals : ⊤
unfolding first_cause cause_of later_cause content_cause sayings saying line_of line_form number_within is_number hex_of
    flags_of kind_named shown_bytes shown_name decode_pairs record_in_lines first_fault breaks fields_from line_of_volume leb_line
    text_line damaged_line updating_line volumes_in volume_from filled
spec_on_literals = tt

-- lines that many texts have
abbrev a_volume : List ℕ
a_volume = codes "volume 0 dynamic 20 1 00 root"

abbrev a_leb : List ℕ
a_leb = codes "leb 0 1 61"

abbrev no_end : List ℕ
no_end = codes "updating 0"

-- a text of lines
abbrev text : List (List ℕ) → List ℕ
text [] = []
text (l ∷ []) = l
text (l ∷ k ∷ ls) = l ++ (10 ∷ text (k ∷ ls))

-- the first causes of texts of lines are those beside them
abbrev HaveCauses : List (List (List ℕ) × Option (ℕ × SpecCause)) → Type 0
HaveCauses rows = map (λ e. first_cause small (text e.0)) rows ≡ map (λ e. e.1) rows

-- no line has a cause
no_cause : HaveCauses (
    ([], None) ∷
    (codes "volume 4294967295 dynamic 20 1 00 root" ∷ [], None) ∷
    (codes "volume 0 dynamic 20 1 aF \\x4a\\x4A" ∷ [], None) ∷
    (a_volume ∷ (codes "leb 0 1 " ++ replicate 768 48) ∷ [], None) ∷
    (codes "volume 5 dynamic 20 1 00 root" ∷ [], None) ∷
    (a_volume ∷ codes "leb 0 25 61" ∷ [], None) ∷
    [])
unfolding spec_on_literals
no_cause = refl

-- a word too many or too few, or another word; the cause of a word comes before that of a number
wrong_words : HaveCauses (
    (codes "# a" ∷ [] ∷ a_volume ∷ codes "leb 0 1" ∷ [], Some (4, cause.Word)) ∷
    (a_volume ∷ codes "leb 0  1 61" ∷ [], Some (2, cause.Word)) ∷
    (a_volume ∷ codes "updating 0 " ∷ [], Some (2, cause.Word)) ∷
    (codes "volume 00 other 20 1 00 root" ∷ [], Some (1, cause.Word)) ∷
    (codes " # a" ∷ [], Some (1, cause.Word)) ∷
    [])
unfolding spec_on_literals
wrong_words = refl

-- a leading zero, a number of more than 32 bits; the cause of a number comes before that of digits
wrong_numbers : HaveCauses (
    (codes "volume 0 dynamic 020 1 00 root" ∷ [], Some (1, cause.Number)) ∷
    (codes "volume 4294967296 dynamic 20 1 00 root" ∷ [], Some (1, cause.Number)) ∷
    (codes "volume 0 dynamic 20 a 0 root" ∷ [], Some (1, cause.Number)) ∷
    [])
unfolding spec_on_literals
wrong_numbers = refl

-- too few or too many hexadecimal digits
wrong_digits : HaveCauses (
    (codes "volume 0 dynamic 20 1 0 root" ∷ [], Some (1, cause.Hex)) ∷
    (codes "volume 0 dynamic 20 1 0000 root" ∷ [], Some (1, cause.Hex)) ∷
    (a_volume ∷ codes "leb 0 1 6" ∷ [], Some (2, cause.Hex)) ∷
    [])
unfolding spec_on_literals
wrong_digits = refl

-- a name with a zero, and with an X
wrong_names : HaveCauses (
    (codes "volume 0 dynamic 20 1 00 a\\x00" ∷ [], Some (1, cause.Name)) ∷
    (codes "volume 0 dynamic 20 1 00 a\\X41" ∷ [], Some (1, cause.Name)) ∷
    [])
unfolding spec_on_literals
wrong_names = refl

-- a line that can't come where it stands
wrong_order : HaveCauses (
    (a_volume ∷ a_volume ∷ [], Some (2, cause.Order)) ∷
    (a_volume ∷ codes "bytes 0 61" ∷ [], Some (2, cause.Order)) ∷
    (codes "volume 0 static 20 1 00 root" ∷ codes "leb 0 0 61" ∷ [], Some (2, cause.Order)) ∷
    (codes "leb 0 0 61" ∷ a_volume ∷ [], Some (1, cause.Order)) ∷
    (a_volume ∷ no_end ∷ codes "leb 0 0 61" ∷ [], Some (3, cause.Order)) ∷
    (a_volume ∷ codes "leb 0 0 61" ∷ no_end ∷ [], Some (3, cause.Order)) ∷
    (a_volume ∷ no_end ∷ no_end ∷ [], Some (3, cause.Order)) ∷
    [])
unfolding spec_on_literals
wrong_order = refl

-- a record that breaks a rule
wrong_records : HaveCauses (
    (codes "volume 0 dynamic 0 1 00 root" ∷ [], Some (1, cause.Record fault.NotEmpty)) ∷
    (codes "volume 0 dynamic 2147483648 0 00 root" ∷ [], Some (1, cause.Record fault.Negative)) ∷
    (codes "volume 0 dynamic 20 0 00 root" ∷ [], Some (1, cause.Record fault.Alignment)) ∷
    (codes "volume 0 dynamic 20 65 00 root" ∷ [], Some (1, cause.Record fault.AlignmentPage)) ∷
    [])
unfolding spec_on_literals
wrong_records = refl

-- a LEB that was given before, which is told first, or with too many bytes; and an earlier line before a later one
wrong_lebs : HaveCauses (
    (a_volume ∷ a_leb ∷ a_leb ∷ [], Some (3, cause.Twice)) ∷
    (a_volume ∷ a_leb ∷ (codes "leb 0 1 " ++ replicate 770 48) ∷ [], Some (3, cause.Twice)) ∷
    (a_volume ∷ (codes "leb 0 1 " ++ replicate 770 48) ∷ [], Some (2, cause.Long)) ∷
    (a_volume ∷ a_leb ∷ a_leb ∷ codes "nothing" ∷ [], Some (3, cause.Twice)) ∷
    [])
unfolding spec_on_literals
wrong_lebs = refl

-- the record of these lines
root : VolumeRecord
root = record { reserved = 20; alignment = 1; kind = kind.Dynamic; marker = false; name = codes "root"; flags = 0 }

filled_leb : volumes_of small (text (a_volume ∷ codes "leb 0 1 6162" ∷ []))
    ≡ (0, record { entry = root; content = content.Dynamic (from_entries ((1, 97 ∷ 98 ∷ replicate 382 255) ∷ [])) }) ∷
    []
unfolding spec_on_literals root
filled_leb = refl

updating_volume : volumes_of small (text (a_volume ∷ no_end ∷ []))
    ≡ (0, record { entry = record root { marker = true }; content = content.Updating }) ∷ []
unfolding spec_on_literals root
updating_volume = refl

static_volumes : volumes_of small (codes "volume 1 static 20 1 00 root" ++ (10 ∷ [])
    ++ codes "volume 0 static 20 1 00 root" ++ (10 ∷ []) ++ codes "bytes 1 61" ++ (10 ∷ [])
    ++ codes "damaged 0" ++ (10 ∷ [])
    ++ codes "bytes 1 6263") ≡ (1, record { entry = record root { kind = kind.Static }; content = content.Static (codes "abc") })
    ∷ (0, record { entry = record root { kind = kind.Static }; content = content.Damaged }) ∷ []
unfolding spec_on_literals root
static_volumes = refl

no_volume : volumes_of small ([]) ≡ []
unfolding spec_on_literals root
no_volume = refl

-- shown names: a backslash is followed by an x and two digits, of either case, that aren't those of zero; 127 bytes at most
shown_names : map shown_name (
    (codes "a\\x41\\x4Bb") ∷
    (codes "a\\X41") ∷
    (codes "a\\") ∷
    (codes "a\\x4") ∷
    (codes "\\xfF\\x5c") ∷
    (codes "a\\x00") ∷
    (replicate 127 97) ∷
    (replicate 128 97) ∷
    [])
    ≡ (Some (codes "aAKb")) ∷ None ∷ None ∷ None ∷ (Some (255 ∷ 92 ∷ [])) ∷ None ∷ (Some (replicate 127 97)) ∷ None ∷ []
unfolding spec_on_literals
shown_names = refl

-- errors as they are printed
error_texts : map spec_error_text (error.Refused 2 cause.Hex ∷ error.Refused 1 (cause.Record fault.NotEmpty) ∷ [])
    ≡ codes "P3 Hex line=2" ∷ codes "P6 Record line=1 NotEmpty" ∷ []
unfolding digits
error_texts = refl
