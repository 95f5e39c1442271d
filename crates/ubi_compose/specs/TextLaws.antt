-- What a text comes to, and the law that only the text decides it.
use Rattle.std.specs.Prelude.{◌≡◌, ℕ, List, None, Result, Ok, Err}
use Rattle.ubi_media.specs.Geometry.{Sizes}
use Rattle.ubi_volume.specs.Made.{IsFirstMade, NoCause, meaning_of}
use Rattle.ubi_volume.specs.Meant.{Meant}
use Rattle.ubi_volume.specs.declared.errors.MeaningCause.{MeaningCause}
use Rattle.ubi_compose.specs.Spec.{first_cause, volumes_of}

-- what a text without a line at fault comes to: the meaning of its volumes with an image sequence number, or the first
-- cause for which they have none
abbrev pub ComesTo : Sizes → ℕ → List ℕ → Result Meant MeaningCause → Type 0
ComesTo s seq text (Ok m) =
    (first_cause s text ≡ None) × NoCause s (volumes_of s text) × (m ≡ meaning_of s seq (volumes_of s text))
ComesTo s seq text (Err c) = (first_cause s text ≡ None) × IsFirstMade s (volumes_of s text) c

-- the text and the number alone decide what it comes to
abbrev pub OneAnswer : Type 0
OneAnswer = (s : Sizes) (seq : ℕ) (text : List ℕ) (a b : Result Meant MeaningCause) → ComesTo s seq text a
    → ComesTo s seq text b → a ≡ b
