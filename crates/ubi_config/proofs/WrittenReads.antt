-- The config that is written is read as the sections of its volumes.
use Rattle.ubi_config.proofs.Prelude.{◌≡◌, ◌<◌, ◌≤◌, ◌+◌, ◌^◌, ℕ, Bool, true, List, [], ◌∷◌, ◌++◌, append-nil, arith, length, refl, subst, sym, ap, ◌∙◌, suc, AllByRecursion, None, count_by, flat_map, first_config_fault, groups, line_fault, line_number, lines, nat_le, nat_tests, rec_fault, sayings, section_fault, sections_in, sections_of, Line, Sizes, All, IsGeometry, config_lines, config_text, head, is_growing, left_out, may_grow, volume_lines, AreVolumes, WrittenReads, sections_at, ConfigVolume}
use Rattle.ubi_config.proofs.AllMade.{all_made}
use Rattle.ubi_config.proofs.AllRead.{IsAhead, IsSound, all_read, said_from}
use Rattle.ubi_config.proofs.AreRead.{AreRead, read-append, skip_line, text_read}
use Rattle.ubi_config.proofs.CanSay.{is_said}
use Rattle.ubi_config.proofs.Faults.{by_parts}
use Rattle.ubi_config.proofs.SectionRead.{IsClear}
use Rattle.ubi_config.proofs.Unbroken.{IsUnbroken, lines_of_text, unbroken-append, volume_unbroken}
use Rattle.ubi_config.proofs.WrittenLines.{empty_read}
use Rattle.ubi_config.proofs.WrittenRemarks.{head_read, head_unbroken}

-- what holds of each element by its place, holds by recursion
each : {X : Type 0} (P : X → Type 0) (xs : List X) → All P xs → AllByRecursion P xs
each P [] h = tt
each P (x ∷ xs) h = (h 0 x (omega arith), each P xs (λ k d within. h (suc k) d (omega (arith, within))))

both_known : (s : Sizes) (vs : List ConfigVolume) → AllByRecursion (λ v. v.id < 2 ^ 32) vs
    → AllByRecursion (λ v. rec_fault s v.entry ≡ None) vs → AllByRecursion (IsSound s) vs
both_known s [] h k = tt
both_known s (v ∷ vs) h k = (record { number = h.0; sound = k.0 }, both_known s vs h.1 k.1)

all_clear : (vs : List ConfigVolume) → AllByRecursion (IsClear []) vs
all_clear [] = tt
all_clear (v ∷ vs) = (record { title = refl; id = refl; name = refl }, all_clear vs)

may : (n : ℕ) → nat_le n 1 ≡ true → n ≤ 1
may n h = grind (arith, nat_tests)

module _ (s : Sizes) (g : IsGeometry s) (grow : Bool) where
  volumes_unbroken : (vs : List ConfigVolume) → AllByRecursion (IsSound s) vs
      → AllByRecursion IsUnbroken (flat_map (volume_lines s grow) vs)
  volumes_unbroken [] h = tt
  volumes_unbroken (v ∷ vs) h =
      unbroken-append (volume_lines s grow v) (flat_map (volume_lines s grow) vs)
      (volume_unbroken s g grow v h.0.sound h.0.number (left_out grow v) (is_said grow v)) (volumes_unbroken vs h.1)

module _ (s : Sizes) (seq : ℕ) (small : seq < 2 ^ 32) (vs : List ConfigVolume) (a : AreVolumes s vs) where
  sounds : AllByRecursion (IsSound s) vs
  sounds =
      both_known s vs (each (λ v. v.id < 2 ^ 32) vs a.numbers) (each (λ v. rec_fault s v.entry ≡ None) vs a.sound)

  abbrev said : List Line
  said = said_from s (may_grow vs) 1 vs

  cut : lines (config_text s seq vs) ≡ config_lines s seq vs ++ [] ∷ []
  cut =
      lines_of_text (config_lines s seq vs)
      (head_unbroken s a.geometry seq small, volumes_unbroken s a.geometry (may_grow vs) vs sounds)

  ahead : IsAhead (may_grow vs) [] vs
  ahead = record {
    clear = all_clear vs;
    room = omega (arith, a.few);
    grows = λ on. omega (arith, may (count_by is_growing vs) on);
  }

  body_read : AreRead 1 [] [] (flat_map (volume_lines s (may_grow vs)) vs) said
  body_read = all_read s a.geometry (may_grow vs) vs 1 [] sounds a.ids a.names ahead

  all_lines : AreRead 0 [] [] (config_lines s seq vs ++ [] ∷ []) said
  all_lines =
      subst (λ ls. AreRead 0 [] [] (config_lines s seq vs ++ [] ∷ []) ls) (append-nil said)
      (read-append 0 [] [] (config_lines s seq vs) ([] ∷ []) said []
      (skip_line 0 [] [] (head s seq) (flat_map (volume_lines s (may_grow vs)) vs) said
      (head_read s a.geometry seq small (line_number 0)) body_read)
      (skip_line _ [] said [] [] [] (empty_read (line_number (0 + length (config_lines s seq vs)))) refl))

  text_lines : (line_fault (config_text s seq vs) ≡ None) × (sayings (lines (config_text s seq vs)) ≡ said)
  text_lines = text_read (config_text s seq vs) said (subst (λ ls. AreRead 0 [] [] ls said) (sym cut) all_lines)

  pub reads : (first_config_fault (config_text s seq vs) ≡ None)
      × (sections_of (config_text s seq vs) ≡ sections_at s (may_grow vs) 1 vs)
  reads =
      let made = all_made s (may_grow vs) vs 1 in (
        by_parts (config_text s seq vs) None None text_lines.0 (ap (λ ls. section_fault (groups ls)) text_lines.1 ∙ made.0),
        ap (λ ls. sections_in (groups ls)) text_lines.1 ∙ made.1,
      )

pub written_reads : WrittenReads
written_reads s seq vs small a = reads s seq small vs a
