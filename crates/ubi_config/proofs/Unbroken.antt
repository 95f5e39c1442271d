-- A text is cut into its lines, if none of them holds a line's end.
use Rattle.ubi_config.proofs.Prelude.{◌≡◌, ◌<◌, ◌^◌, ℕ, Bool, true, false, List, [], ◌∷◌, ◌++◌, append_assoc, arith, refl, ap, ◌∙◌, ◌==◌, codes, AllByRecursion, Option, Some, None, lines, list_any, rec_fault, Sizes, VolKind, if◌then◌else◌, slice_split-cons_no, slice_split-cons_yes, onto_first, decimal, IsGeometry, bytes_reserved, kind_word, lines_by, path_of, quoted, section_lines, text_of, title, ConfigVolume, LeftOut}
use Rattle.ubi_media.specs.declared.vid.VolKind.TheVariants as kind
use Rattle.ubi_config.proofs.CanSay.{IsSaid, alignment_fits, bytes_fit}
use Rattle.ubi_config.proofs.Digits.{digits_without}
use Rattle.ubi_config.proofs.Distinct.{or_false}
use Rattle.ubi_config.proofs.Framed.{both_none}
use Rattle.ubi_config.proofs.QuotedValues.{quoted_unbroken}
use Rattle.ubi_config.proofs.WrittenRemarks.{left_out_unbroken}

-- a line holds no line's end
abbrev pub IsUnbroken : List ℕ → Type 0
IsUnbroken line = list_any (λ b. b == 10) line ≡ false

cut_behind : (l rest : List ℕ) → IsUnbroken l → lines (l ++ 10 ∷ rest) ≡ l ∷ lines rest
cut_behind [] rest h = slice_split-cons_yes (λ b. b == 10) 10 rest refl
cut_behind (x ∷ l) rest h =
    let both = or_false (x == 10) (list_any (λ b. b == 10) l) h in
    slice_split-cons_no (λ b. b == 10) x (l ++ 10 ∷ rest) both.0 ∙ ap (onto_first x) (cut_behind l rest both.1)

-- the text of lines is cut into them, and an empty line
pub lines_of_text : (ls : List (List ℕ)) → AllByRecursion IsUnbroken ls → lines (text_of ls) ≡ ls ++ [] ∷ []
lines_of_text [] h = refl
lines_of_text (l ∷ ls) h =
    ap lines (append_assoc l (codes "\n") (text_of ls))
    ∙ cut_behind l (text_of ls) h.0
    ∙ ap (λ ms. l ∷ ms) (lines_of_text ls h.1)

pub unbroken-append : (ls ms : List (List ℕ)) → AllByRecursion IsUnbroken ls → AllByRecursion IsUnbroken ms
    → AllByRecursion IsUnbroken (ls ++ ms)
unbroken-append [] ms h k = k
unbroken-append (l ∷ ls) ms h k = (h.0, unbroken-append ls ms h.1 k)

behind : (front text : List ℕ) → IsUnbroken front → IsUnbroken text → IsUnbroken (front ++ text)
behind front text h k = both_none (λ b. b == 10) front text h k

number : (front : List ℕ) (n : ℕ) → n < 2 ^ 64 → IsUnbroken front → IsUnbroken (front ++ decimal n)
number front n small h = behind front (decimal n) h (digits_without n small 10 (omega arith))

kind_unbroken : (k : VolKind) → IsUnbroken (codes "vol_type=" ++ kind_word k)
kind_unbroken kind.Dynamic = refl
kind_unbroken kind.Static = refl

flags_by : (a b : Bool) → AllByRecursion IsUnbroken
    (if a then codes "vol_flags=autoresize" ∷ [] else (if b then codes "vol_flags=skip-check" ∷ [] else []))
flags_by true b = (refl, tt)
flags_by false true = (refl, tt)
flags_by false false = tt

module _ (s : Sizes) (g : IsGeometry s) (grow : Bool) (v : ConfigVolume) (sound : rec_fault s v.entry ≡ None)
    (small : v.id < 2 ^ 32) where
  section_unbroken : IsSaid grow v → AllByRecursion IsUnbroken (section_lines s v)
  section_unbroken said = (
    refl,
    (
      behind (codes "[" ++ title v.id) (codes "]") (number (codes "[volume-") v.id (omega (arith, small)) refl) refl,
      (
        refl,
        (
          number (codes "vol_id=") v.id (omega (arith, small)) refl,
          (
            kind_unbroken v.entry.kind,
            (
              behind (codes "vol_name=") (quoted v.entry.name) refl (quoted_unbroken v.entry.name said.name),
              (
                number (codes "vol_size=") (bytes_reserved s v.entry) (omega (arith, bytes_fit s g v.entry sound)) refl,
                (
                  number (codes "vol_alignment=") v.entry.alignment (omega (arith, alignment_fits s g v.entry sound)) refl,
                  (
                    behind (codes "image=") (quoted (path_of v)) refl (quoted_unbroken (path_of v) said.path),
                    flags_by (v.entry.flags == 1) (v.entry.flags == 2),
                  ),
                ),
              ),
            ),
          ),
        ),
      ),
    ),
  )

  pub volume_unbroken : (o : Option LeftOut) → (o ≡ None → IsSaid grow v) → AllByRecursion IsUnbroken (lines_by s v o)
  volume_unbroken None h = section_unbroken (h refl)
  volume_unbroken (Some c) h = (refl, (left_out_unbroken v.id (omega (arith, small)) c, tt))
