-- What is answered of a text that was read, and what composing answers and then writing the file.
use Rattle.ubi_writing.proofs.Prelude.{IsTextOf, Numbers, OfText, first_broken, length, sizes_of, subst, text_limit, ◌≤◌, ComesTo, Composes, ComposesInto, ComposesOf, Files, Global, HasRoom, IsSome, List, Meant, Ok, Option, Outcome, Sizes, Some, Vec, WritesFile, fits, option_map, ℕ, ◌≡◌, None, crowded, unmade, unread}
use Rattle.std.proofs.Common.{None}
use Rattle.ubi_writing.specs.Compose.{described}
use Rattle.ubi_writing.specs.Compose as compose
use Rattle.ubi_writing.specs.Outputs as outputs
use Rattle.ubi_dumps.specs.FileAnswers as file_answers

no_file : (file : Option (Vec ℕ Global)) → option_map (λ v. v.items) file ≡ None → IsSome file → ⊥
no_file None e h = cc
no_file (Some v) e h = cc

-- a file is there only where the device has room for a meaning
room_with_file : (m : Meant) (spares : ℕ) (o : Outcome) → ComposesOf m spares o → IsSome o.file → HasRoom m spares
room_with_file m spares o (fits room a gives) some = room
room_with_file m spares o (crowded many gives) some = absurd (no_file o.file gives.file some)

-- and where a text describes it
described_with_file : (s : Sizes) (text : List ℕ) (spares seq : ℕ) (o : Outcome) → Composes s text spares seq o → IsSome o.file
    → (m : Meant) × ComesTo s seq text (Ok m) × HasRoom m spares
described_with_file s text spares seq o (described m d of_m) some = (m, d, room_with_file m spares o of_m some)
described_with_file s text spares seq o (unread line c e gives) some = absurd (no_file o.file gives.file some)
described_with_file s text spares seq o (unmade c is gives) some = absurd (no_file o.file gives.file some)

-- composing, and then writing the file
pub composes_into : (s : Sizes) (text : List ℕ) (spares seq : ℕ) (out : List ℕ) (d e : Files) (work o : Outcome)
    → Composes s text spares seq work → WritesFile out d e work o
    → ComposesInto out d e s text spares seq o
composes_into s text spares seq out d e work o n (file_answers.kept received) = compose.written n received
composes_into s text spares seq out d e work o n (file_answers.lost some gives) =
    let h = described_with_file s text spares seq work n some in
    compose.unwritten h.0 h.1 h.2 gives

-- what is answered of a text that was read
pub of_text : (d : Files) (numbers : Numbers) (path : List ℕ) (answers : Sizes → List ℕ → Outcome → Type 0) (s : Sizes)
    (bytes : List ℕ) (o : Outcome)
    → s ≡ sizes_of numbers → first_broken (sizes_of numbers) ≡ None → length bytes ≤ text_limit (sizes_of numbers)
    → IsTextOf d path bytes → answers s bytes o
    → OfText d numbers path answers o
of_text d numbers path answers s bytes o e limits few named a = outputs.text bytes limits few named
    (subst (λ (t : Sizes). answers t bytes o) e a)
