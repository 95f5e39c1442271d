-- With nothing typed a command answers what it answers with the numbers typed of what is found first.
use Rattle.ubi_commands.proofs.Prelude.{inl, inr, ℕ, List, Some, Sizes, Agreed, Source, Files, Gives, Outcome, says, Detected, Dump, json_line, error_data, OfAskedIn, OfRead, MapsOf, PicturesInto, PicturesOf, IsDump, OfAsked, TellFirst, told_dump, format_of, reads, FindsNothing, UntypedIsTyped, Asked, Sought, Format}
use Rattle.std.specs.Prelude.{None}
use Rattle.std.specs.Prelude.{◌⊎◌}
use Rattle.ubi_reading.specs.InFormat as in_format
use Rattle.ubi_reading.specs.Map as map
use Rattle.ubi_dumps.specs.Asked as program
use Rattle.ubi_dumps.specs.declared.asked.Asked.TheVariants as asked
use Rattle.ubi_reading.specs.declared.format.Format.TheVariants as format
use Rattle.ubi_commands.specs.declared.requests.Request.TheVariants as request

module _ (d : Files) (path : List ℕ) (sought : Sought) where
  -- nothing is found, or this stands of what is found first
  abbrev Either : (Detected → Type 0) → Type 0
  Either answers = FindsNothing d path sought ⊎ ((told : Detected) × TellFirst d sought.part path told × answers told)

  abbrev typed : Detected → Asked
  typed told = asked.Given (told_dump sought told)

  abbrev Answers : Type 1
  Answers = Sizes → Source → Agreed → Outcome → Type 0

  plain : (e : Files) (answers : Answers) (o : Outcome) → OfAsked d e (asked.Sought sought) path answers o
      → Either (λ told. OfAsked d e (typed told) path answers o)
  plain e answers o (program.untold none stay) = inl (o, none)
  plain e answers o (program.of_dump dump (program.told told first) of) = inr (told, first, program.of_dump (told_dump sought told) program.given of)

  json_failed : (e : Files) (answers : Answers) (said o : Outcome) → Gives o (says (json_line (error_data said.text.items)) said.status)
      → Either (λ told. OfAsked d e (typed told) path (λ _ _ _ _. ⊥) said) → Either (λ told. OfAskedIn format.Json d e (typed told) path answers o)
  json_failed e answers said o gives (inl none) = inl none
  json_failed e answers said o gives (inr (told, first, again)) = inr (told, first, in_format.failed said again gives)

  json_answered : (e : Files) (answers : Answers) (o : Outcome) (dump : Dump) → IsDump d path (asked.Sought sought) dump → OfRead d dump path answers o
      → Either (λ told. OfAskedIn format.Json d e (typed told) path answers o)
  json_answered e answers o dump (program.told told first) read = inr (told, first, in_format.answered (told_dump sought told, program.given, read))

  formatted : (f : Format) (e : Files) (answers : Answers) (o : Outcome) → OfAskedIn f d e (asked.Sought sought) path answers o
      → Either (λ told. OfAskedIn f d e (typed told) path answers o)
  formatted format.Text e answers o h = plain e answers o h
  formatted format.Json e answers o (in_format.failed said fails gives) =
      json_failed e answers said o gives (plain e (λ _ _ _ _. ⊥) said fails)
  formatted format.Json e answers o (in_format.answered (dump, is, read)) = json_answered e answers o dump is read

  drawn : (e : Files) (out : List ℕ) (answers : Answers) (made o : Outcome) → ((told : Detected) → OfAsked d d (typed told) path answers made
      → PicturesInto out d e (OfAsked d d (typed told) path answers) o)
      → Either (λ told. OfAsked d d (typed told) path answers made) → Either (λ told. PicturesInto out d e (OfAsked d d (typed told) path answers) o)
  drawn e out answers made o draw (inl none) = inl none
  drawn e out answers made o draw (inr (told, first, again)) = inr (told, first, draw told again)

  pictured : (e : Files) (out : List ℕ) (answers : Answers) (o : Outcome) → PicturesInto out d e (OfAsked d d (asked.Sought sought) path answers) o
      → Either (λ told. PicturesInto out d e (OfAsked d d (typed told) path answers) o)
  pictured e out answers o (map.pictured h received) =
      drawn e out answers o o (λ told again. map.pictured again received) (plain d answers o h)
  pictured e out answers o (map.unpictured made h is gives) =
      drawn e out answers made o (λ told again. map.unpictured made again is gives) (plain d answers made h)

  with_kept : (P : Detected → Type 0) (Q : Type 0) → Q → Either P → Either (λ told. P told × Q)
  with_kept P Q q (inl none) = inl none
  with_kept P Q q (inr (told, first, p)) = inr (told, first, (p, q))

pub untyped_is_typed : UntypedIsTyped
untyped_is_typed d e (request.Tell dump image what) sought o = λ h. formatted d image.now sought (format_of what) e (reads what) o h
untyped_is_typed d e (request.Map dump image None) sought o = λ h. plain d image.now sought e MapsOf o h
untyped_is_typed d e (request.Map dump image (Some page)) sought o = λ h. pictured d image.now sought e page.now PicturesOf o h
untyped_is_typed d e (request.Extract dump what) sought o = λ h. plain d what.paths.image.now sought e _ o h
untyped_is_typed d e (request.Unpack dump paths) sought o = λ h. plain d paths.image.now sought e _ o h
untyped_is_typed d e (request.Normalise dump paths) sought o = λ h.
    with_kept d paths.image.now sought _ _ h.1 (plain d paths.image.now sought e _ o h.0)
untyped_is_typed d e (request.Geometry part image f) sought o = tt
untyped_is_typed d e (request.Compose numbers new) sought o = tt
untyped_is_typed d e (request.Build numbers new) sought o = tt
untyped_is_typed d e (request.Compare how dump left right) sought o = tt
untyped_is_typed d e (request.Change dump change) sought o = tt
untyped_is_typed d e (request.Rename dump rename) sought o = tt
untyped_is_typed d e (request.Update dump update) sought o = tt
