-- Which words the command line takes.
use Rattle.ubi_commands.proofs.Prelude.{◌≡◌, ◌&&◌, ◌||◌, ◌∷◌, ◌∙◌, [], List, Some, ap, false, refl, subst, sym, true, true≢false, ForSome, same_Some, bytes_eq, fault_of, Row, Text, first_of, clap_on_literals, is_block_list, gives_bytes, gives_part, gives_sizes, gives_word, gives_no_geometry, unit_named, HasOneVolume, Mean, Takes, tool, inl, inr, ◌⊎◌, None, most_number, Option}
use Rattle.std.proofs.Common.{codes}
use Rattle.clap.specs.declared.error.kind.ErrorKind.TheVariants as kind
use Rattle.ubi_commands.proofs.Lacking.{apart}

-- another command than `extract` needs no volume
of_another : (named : Option (Text × List Row)) (name : Text) (rows : List Row) → named ≡ Some (name, rows)
    → bytes_eq name (codes "extract") ≡ false → HasOneVolume named
of_another named name rows is other behind same =
    let both : Some (name, rows) ≡ Some (codes "extract", behind) = sym is ∙ same in
    absurd (apart name (codes "extract") other (ap (λ (e : Text × List Row). e.0) (same_Some _ _ both)))

-- another command than `extract`, with a list of bad eraseblocks or none, with nothing but `keep` said of Blank ones, with the word of a
-- format or none, with both sizes or nothing of a geometry, and with numbers of bytes
means : (name : Text) (rows : List Row) → bytes_eq name (codes "extract") ≡ false
    → ForSome (first_of (codes "bad") rows) (λ list. is_block_list list ≡ true)
    → ForSome (first_of (codes "blank") rows) (λ word. word ≡ codes "keep")
    → ForSome (first_of (codes "format") rows) (λ word. (word ≡ codes "text") ⊎ (word ≡ codes "json"))
    → ((gives_word rows (codes "peb") && gives_word rows (codes "page")) || gives_no_geometry rows) ≡ true
    → gives_sizes rows ≡ true → gives_part rows ≡ true → gives_bytes most_number rows (codes "oob") ≡ true → Mean (Some (name, rows))
means name rows other listed kept told whole sized placed spared = record {
  volume = of_another (Some (name, rows)) name rows refl other;
  list = λ named words is reads. subst (λ ws. ForSome (first_of (codes "bad") ws) (λ list. is_block_list list ≡ true)) (rows_of named words is) listed;
  blank = λ named words is plans. subst (λ ws. ForSome (first_of (codes "blank") ws) (λ word. word ≡ codes "keep")) (rows_of named words is) kept;
  geometry = λ named words is found.
      subst (λ ws. ((gives_word ws (codes "peb") && gives_word ws (codes "page")) || gives_no_geometry ws) ≡ true) (rows_of named words is) whole;
  format = λ named words is tells.
      subst (λ ws. ForSome (first_of (codes "format") ws) (λ word. (word ≡ codes "text") ⊎ (word ≡ codes "json"))) (rows_of named words is) told;
  sizes = λ named words is takes. subst (λ ws. gives_sizes ws ≡ true) (rows_of named words is) sized;
  part = λ named words is takes. subst (λ ws. gives_part ws ≡ true) (rows_of named words is) placed;
  oob = λ named words is reads. subst (λ ws. gives_bytes most_number ws (codes "oob") ≡ true) (rows_of named words is) spared;
}
  where
    rows_of : (named : Text) (words : List Row) → ◌≡◌ {A = Option (Text × List Row)} (Some (name, rows)) (Some (named, words)) → rows ≡ words
    rows_of named words is =
        let asked : Text × List Row = (name, rows) in
        let found : Text × List Row = (named, words) in
        let same : asked ≡ found = same_Some asked found is in
        ap (λ (e : Text × List Row). e.1) same

-- a word that isn't given, and one that is
not_given : (P : Text → Type 0) (o : Option Text) → o ≡ None → ForSome o P
not_given P o none x is = absurd cc

given : (P : Text → Type 0) (o : Option Text) (word : Text) → o ≡ Some word → P word → ForSome o P
given P o word at holds x is = subst P (same_Some word x (sym at ∙ is)) holds

-- a line, of which the program's name stands first
abbrev words : List Text → List Text
words behind = codes "ubi_tool" ∷ codes "list" ∷ codes "a.img" ∷ codes "--peb" ∷ codes "512" ∷ behind

taken : Takes (words (codes "--page=64" ∷ []))
unfolding clap_on_literals tool
taken = (refl, means (codes "list") _ refl (not_given _ _ refl) (not_given _ _ refl) (not_given _ _ refl) refl refl refl refl)

-- a line of `extract`, with the options that name the volume
abbrev extract_words : List Text → List Text
extract_words volume = codes "ubi_tool" ∷ codes "extract" ∷ codes "a.img" ∷ codes "--peb=512" ∷ codes "--page=64" ∷ codes "--out=b" ∷ volume

by_name : fault_of tool (extract_words (codes "--name=root" ∷ [])) ≡ []
unfolding clap_on_literals tool
by_name = refl

two_volumes : Takes (extract_words (codes "--name=root" ∷ codes "--id=0" ∷ [])) → ⊥
unfolding clap_on_literals tool
two_volumes takes = let both : true ≡ false = takes.1.volume _ refl in true≢false both

no_volume : Takes (extract_words []) → ⊥
unfolding clap_on_literals tool
no_volume takes = let neither : false ≡ true = takes.1.volume _ refl in true≢false (sym neither)

-- eraseblocks that are listed as bad, and a word that is no list
bad_taken : Takes (words (codes "--page=64" ∷ codes "--bad=1,4-9" ∷ []))
unfolding clap_on_literals tool
bad_taken = (refl, means (codes "list") _ refl (given _ _ (codes "1,4-9") refl refl) (not_given _ _ refl) (not_given _ _ refl) refl refl refl refl)

no_list : Takes (words (codes "--page=64" ∷ codes "--bad=3,,4" ∷ [])) → ⊥
unfolding clap_on_literals tool
no_list takes = let listed : false ≡ true = takes.1.list (codes "list") _ refl refl (codes "3,,4") refl in true≢false (sym listed)

-- half a geometry, none, and what goes with one alone
no_page : Takes (words []) → ⊥
unfolding clap_on_literals tool
no_page takes = let half : false ≡ true = takes.1.geometry (codes "list") _ refl refl in true≢false (sym half)

-- a line of `list` without a geometry
abbrev of_list : List Text → List Text
of_list behind = codes "ubi_tool" ∷ codes "list" ∷ codes "a.img" ∷ behind

nothing_taken : Takes (of_list [])
unfolding clap_on_literals tool
nothing_taken = (refl, means (codes "list") _ refl (not_given _ _ refl) (not_given _ _ refl) (not_given _ _ refl) refl refl refl refl)

pebs_taken : Takes (of_list (codes "--pebs=32" ∷ codes "--start=64" ∷ codes "--bad=3" ∷ []))
unfolding clap_on_literals tool
pebs_taken = (refl, means (codes "list") _ refl (given _ _ (codes "3") refl refl) (not_given _ _ refl) (not_given _ _ refl) refl refl refl refl)

oob_alone : Takes (of_list (codes "--oob=64" ∷ [])) → ⊥
unfolding clap_on_literals tool
oob_alone takes = let alone : false ≡ true = takes.1.geometry (codes "list") _ refl refl in true≢false (sym alone)

-- a plan isn't made without one
no_sizes : fault_of tool (codes "ubi_tool" ∷ codes "rename" ∷ codes "a.img" ∷ codes "--id=0" ∷ codes "--name=b" ∷ codes "--out=c" ∷ [])
    ≡ kind.MissingRequiredArgument ∷ []
unfolding clap_on_literals tool
no_sizes = refl

-- a number of eraseblocks that has no 32 bits is none for the command line
large_number : fault_of tool (words (codes "--pebs" ∷ codes "4294967296" ∷ [])) ≡ kind.ValueValidation ∷ []
unfolding clap_on_literals tool
large_number = refl

twice : fault_of tool (words (codes "--page" ∷ codes "64" ∷ codes "--peb" ∷ codes "512" ∷ [])) ≡ kind.ArgumentConflict ∷ []
unfolding clap_on_literals tool
twice = refl

help : fault_of tool (words (codes "--help" ∷ [])) ≡ kind.DisplayHelp ∷ []
unfolding clap_on_literals tool
help = refl

-- the words of a line that `geometry` prints
options_taken : Takes (codes "ubi_tool" ∷ codes "list" ∷ codes "a.img" ∷ codes "--peb" ∷ codes "131072" ∷ codes "--page" ∷ codes "2048"
    ∷ codes "--vid" ∷ codes "2048" ∷ codes "--data" ∷ codes "4096" ∷ [])
unfolding clap_on_literals tool
options_taken = (refl, means (codes "list") _ refl (not_given _ _ refl) (not_given _ _ refl) (not_given _ _ refl) refl refl refl refl)

-- a part of a file, with out-of-band bytes
view_taken : Takes (words (codes "--page=64" ∷ codes "--start" ∷ codes "9223372036854775807" ∷ codes "--length=+00" ∷ codes "--oob=64" ∷ []))
unfolding clap_on_literals tool
view_taken = (refl, means (codes "list") _ refl (not_given _ _ refl) (not_given _ _ refl) (not_given _ _ refl) refl refl refl refl)

far_start : Takes (words (codes "--page=64" ∷ codes "--start" ∷ codes "9223372036854775808" ∷ [])) → ⊥
unfolding clap_on_literals tool
far_start takes = let far : false ≡ true = takes.1.part (codes "list") _ refl refl in true≢false (sym far)

-- numbers of bytes with units, and in hexadecimal digits
units_taken : Takes (of_list (codes "--peb=128KiB" ∷ codes "--page" ∷ codes "0x800" ∷ codes "--oob=64" ∷ codes "--start=4GiB" ∷ []))
unfolding clap_on_literals tool unit_named
units_taken = (refl, means (codes "list") _ refl (not_given _ _ refl) (not_given _ _ refl) (not_given _ _ refl) refl refl refl refl)

-- a size that is too large, a word that is no number of bytes, and an empty one
large_size : Takes (of_list (codes "--peb=4GiB" ∷ codes "--page=2KiB" ∷ [])) → ⊥
unfolding clap_on_literals tool unit_named
large_size takes = let large : false ≡ true = takes.1.sizes (codes "list") _ refl refl in true≢false (sym large)

no_bytes : Takes (words (codes "--page=64" ∷ codes "--oob=1.5MiB" ∷ [])) → ⊥
unfolding clap_on_literals tool unit_named
no_bytes takes = let none : false ≡ true = takes.1.oob (codes "list") _ refl refl in true≢false (sym none)

no_word_given : Takes (words (codes "--page=64" ∷ codes "--length=" ∷ [])) → ⊥
unfolding clap_on_literals tool
no_word_given takes = let none : false ≡ true = takes.1.part (codes "list") _ refl refl in true≢false (sym none)

-- `geometry` takes the name of a file, and the part of it in which it looks
abbrev of_geometry : List Text → List Text
of_geometry behind = codes "ubi_tool" ∷ codes "geometry" ∷ behind

file_taken : Takes (of_geometry (codes "a.img" ∷ []))
unfolding clap_on_literals tool
file_taken = (refl, means (codes "geometry") _ refl (not_given _ _ refl) (not_given _ _ refl) (not_given _ _ refl) refl refl refl refl)

part_taken : Takes (of_geometry (codes "a.img" ∷ codes "--start=512" ∷ codes "--length" ∷ codes "1024" ∷ []))
unfolding clap_on_literals tool
part_taken = (refl, means (codes "geometry") _ refl (not_given _ _ refl) (not_given _ _ refl) (not_given _ _ refl) refl refl refl refl)

no_oob_taken : fault_of tool (of_geometry (codes "a.img" ∷ codes "--oob" ∷ codes "64" ∷ [])) ≡ kind.UnknownArgument ∷ []
unfolding clap_on_literals tool
no_oob_taken = refl

no_file : fault_of tool (of_geometry []) ≡ kind.MissingRequiredArgument ∷ []
unfolding clap_on_literals tool
no_file = refl

no_number_taken : fault_of tool (of_geometry (codes "a.img" ∷ codes "--peb" ∷ codes "512" ∷ [])) ≡ kind.UnknownArgument ∷ []
unfolding clap_on_literals tool
no_number_taken = refl

-- the word of a format, and one that is none
json_taken : Takes (of_geometry (codes "a.img" ∷ codes "--format" ∷ codes "json" ∷ []))
unfolding clap_on_literals tool
json_taken = (refl, means (codes "geometry") _ refl (not_given _ _ refl) (not_given _ _ refl) (given _ _ (codes "json") refl (inr refl)) refl refl refl refl)

text_taken : Takes (of_list (codes "--format=text" ∷ []))
unfolding clap_on_literals tool
text_taken = (refl, means (codes "list") _ refl (not_given _ _ refl) (not_given _ _ refl) (given _ _ (codes "text") refl (inl refl)) refl refl refl refl)

no_word : Takes (of_list (codes "--format=JSON" ∷ [])) → ⊥
unfolding clap_on_literals tool
no_word takes = elim (takes.1.format (codes "list") _ refl refl (codes "JSON") refl) [ inl e ↦ apart _ _ refl e | inr e ↦ apart _ _ refl e ]

show_in_lines : fault_of tool (codes "ubi_tool" ∷ codes "show" ∷ codes "a.img" ∷ codes "--block=0" ∷ codes "--format=json" ∷ [])
    ≡ kind.UnknownArgument ∷ []
unfolding clap_on_literals tool
show_in_lines = refl
