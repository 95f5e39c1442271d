-- Causes for which there is no other answer, as a line and as JSON.
use Rattle.std.specs.Prelude.{ℕ, ◌∷◌, ◌++◌, [], List, None, Option, Some, codes, decimal, fold, if◌then◌else◌, length, take, ◌-◌}
use Rattle.std.specs.Str.Lossy.{utf8_lossy}
use Rattle.std.specs.Str.{bytes_eq}
use Rattle.serde_json.specs.Data.{Data, Members, member, no_members, number, object, put, string, unsigned}
use Rattle.ubi_media.specs.ErrorTexts.{ec_fault_name, rec_fault_name, vid_fault_name}
use Rattle.ubi_media.specs.declared.refusal.Refusal.{Refusal}
use Rattle.ubi_media.specs.declared.refusal.Refusal.TheVariants as cause
use Rattle.ubi_detect.specs.declared.detect.Undetected.{Undetected}
use Rattle.ubi_detect.specs.declared.detect.Undetected.TheVariants as unknown
use Rattle.ubi_compare.specs.declared.difference.Side.{Side}
use Rattle.ubi_json.specs.Line.{worded}
use Rattle.ubi_json.specs.Words.{side_word}

-- a cause: its code, its name, numbers under words, and the name of the rule that is broken, if it names one
pub record Told : Type 0 where
  pub code : List ℕ
  pub cause : List ℕ
  pub numbers : List (List ℕ × ℕ)
  pub fault : Option (List ℕ)

-- the word of a number in the line: that in the object, except that the second of two slots has the word of the first
abbrev pub line_word : List ℕ → List ℕ
line_word word = if bytes_eq word (codes "next_slot") then codes "slot" else word

-- the numbers in the line
abbrev pub numbers_text : List (List ℕ × ℕ) → List ℕ
numbers_text [] = []
numbers_text ((word, n) ∷ rest) = codes " " ++ (line_word word ++ (codes "=" ++ (decimal n ++ numbers_text rest)))

-- the rule in the line
abbrev pub fault_text : Option (List ℕ) → List ℕ
fault_text None = []
fault_text (Some name) = codes " " ++ name

-- the text of the line
abbrev pub told_text : Told → List ℕ
told_text t = t.code ++ (codes " " ++ (t.cause ++ (numbers_text t.numbers ++ fault_text t.fault)))

-- members, followed by the numbers
abbrev pub with_numbers : List (List ℕ × ℕ) → Members → Members
with_numbers numbers ms = fold (λ m (word, n). put word (number (unsigned n)) m) ms numbers

-- members, followed by the rule
abbrev pub with_fault : Option (List ℕ) → Members → Members
with_fault None ms = ms
with_fault (Some name) ms = put (codes "fault") (string name) ms

-- the members of the object
abbrev pub told_members : Told → Members
told_members t = with_fault t.fault (with_numbers t.numbers (worded (codes "cause") t.cause (worded (codes "code") t.code no_members)))

-- the object of a cause with these members
abbrev pub refused_data : Members → Data
refused_data ms = object (member (codes "refused") (object ms) no_members)

-- a cause without numbers
abbrev pub bare : List ℕ → List ℕ → Told
bare code name = record { code = code; cause = name; numbers = []; fault = None }

-- a cause that names an eraseblock
abbrev pub at_block : List ℕ → List ℕ → ℕ → Told
at_block code name p = record { code = code; cause = name; numbers = (codes "block", p) ∷ []; fault = None }

-- a cause that names an eraseblock and the rule that it breaks
abbrev pub at_fault : List ℕ → List ℕ → ℕ → List ℕ → Told
at_fault code name p fault = record { code = code; cause = name; numbers = (codes "block", p) ∷ []; fault = Some fault }

-- the cause for which an image is refused
abbrev pub refusal_told : Refusal → Told
refusal_told cause.Length = bare (codes "S1") (codes "Length")
refusal_told cause.TooMany = bare (codes "S2") (codes "TooMany")
refusal_told (cause.Ec p f) = at_fault (codes "S3") (codes "Ec") p (ec_fault_name f)
refusal_told (cause.ImageSeq p) = at_block (codes "S4") (codes "ImageSeq") p
refusal_told (cause.Vid p f) = at_fault (codes "S5") (codes "Vid") p (vid_fault_name f)
refusal_told (cause.Incompatible p volume) =
    record { code = codes "S6"; cause = codes "Incompatible"; numbers = (codes "block", p) ∷ (codes "volume", volume) ∷ []; fault = None }
refusal_told (cause.Layout p) = at_block (codes "S7") (codes "Layout") p
refusal_told (cause.SameSqnum p q) =
    record { code = codes "S8"; cause = codes "SameSqnum"; numbers = (codes "block", p) ∷ (codes "earlier", q) ∷ []; fault = None }
refusal_told cause.NoTable = bare (codes "T1") (codes "NoTable")
refusal_told cause.BothCorrupt = bare (codes "T2") (codes "BothCorrupt")
refusal_told (cause.Record p slot f) =
    record { code = codes "T3"; cause = codes "Record"; numbers = (codes "block", p) ∷ (codes "slot", slot) ∷ []; fault = Some (rec_fault_name f) }
refusal_told (cause.SameName p i j) =
    record { code = codes "T4"; cause = codes "SameName"; numbers = (codes "block", p) ∷ (codes "slot", i) ∷ (codes "next_slot", j) ∷ []; fault = None }
refusal_told cause.NoSpace = bare (codes "T5") (codes "NoSpace")
refusal_told (cause.Mismatch p) = at_block (codes "V1") (codes "Mismatch") p

-- the object of an image that is refused
abbrev pub refusal_data : Refusal → Data
refusal_data c = refused_data (told_members (refusal_told c))

-- the object of one of two images that is refused, with the side on which it stands
abbrev pub side_data : Side → Refusal → Data
side_data side c = refused_data (put (codes "side") (string (side_word side)) (told_members (refusal_told c)))

-- the cause for which no geometry is found in a file
abbrev pub undetected_told : Undetected → Told
undetected_told unknown.NoHeader = bare (codes "F1") (codes "NoHeader")
undetected_told unknown.NoSize = bare (codes "F2") (codes "NoSize")
undetected_told (unknown.Length size rest) =
    record { code = codes "F3"; cause = codes "Length"; numbers = (codes "peb", size) ∷ (codes "rest", rest) ∷ []; fault = None }
undetected_told (unknown.OutOfBand size) =
    record { code = codes "F5"; cause = codes "OutOfBand"; numbers = (codes "peb", size) ∷ []; fault = None }
undetected_told (unknown.Page size o) =
    record {
      code = codes "F6";
      cause = codes "Page";
      numbers = (codes "peb", size) ∷ (codes "vid", o.vid_offset) ∷ (codes "data", o.data_offset) ∷ [];
      fault = None;
    }

-- the object of a file in which no geometry is found
abbrev pub undetected_data : Undetected → Data
undetected_data c = refused_data (told_members (undetected_told c))

-- the object of a file that can't be opened: what is printed for it, without the line's end; it is text, as words are, and any
-- byte that isn't would be the replacement character
abbrev pub error_data : List ℕ → Data
error_data line = object (member (codes "error") (string (utf8_lossy (take (length line - 1) line))) no_members)
