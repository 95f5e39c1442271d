-- Which cause applies first against edits, by what the functions on the way to their plan found.
use Rattle.ubi_change.proofs.Prelude.{◌≡◌, ℕ, ◌<◌, Bool, List, [], IsSome, map, ap, sym, ◌∙◌, subst, arith, None, Option, Some, Sizes, Image, eraseblocks, image_of, IsSurvey, Seen, AttachValue, Records, records_of, BothGood, avoiding, Avoided, Holders, weak_pages, table_pages, AreHolders, ReadBlank, of_blocks, IsWholeSize, touchable, is_taken, reads_whole, edited_records, IsUpdateCause, RecordsStand, UpdateStands, asked_records, update_rank, TellsUsed, IsFirstJudged, IsJudged, IsMade, IsUnready, Edit, UpdateRefusal, Judged, Agreed, Source, StreamError, ArePlacesError, IsKnown, NotBlankIs, IsUnbased, update_error, Known}
use Rattle.ubi_change.specs.declared.errors.UpdateRefusal.TheVariants as refusal
use Rattle.ubi_scan.specs.declared.errors.StreamError.TheVariants as stream
use Rattle.ubi_change.specs.declared.errors.UpdateError.TheVariants as error
use Rattle.ubi_change.proofs.BlankListed.{survey_blank}
use Rattle.ubi_change.proofs.Surveys.{whole}
use Rattle.ubi_change.proofs.UsedByWinners.{used_told}

module _ (image : Image) (av : Avoided) (seen : Seen) (is : IsSurvey image seen) (blank : of_blocks ReadBlank image av) (contents : List ℕ)
    (es : List Edit) (wholes : List Bool) (are : wholes ≡ map (reads_whole is.meaning) es) where
  abbrev s : Sizes
  s = image.sizes

  abbrev bs : List (List ℕ)
  bs = eraseblocks image

  abbrev ends : List ℕ
  ends = av.ends

  abbrev a : AttachValue
  a = avoiding av (whole image seen is)

  abbrev room : ℕ
  room = touchable av seen.states

  abbrev OfRecords : UpdateRefusal → Type 0
  OfRecords c = RecordsStand s (is_taken s bs ends) (reads_whole is.meaning) seen.records room es c

  abbrev Stands : UpdateRefusal → Type 0
  Stands c = UpdateStands s bs ends a contents room es c

  surveyed : (c : UpdateRefusal) → RecordsStand s (is_taken s bs ends) (reads_whole is.meaning) (records_of is.meaning) room es c → OfRecords c
  surveyed c h = subst (λ (t : Records). RecordsStand s (is_taken s bs ends) (reads_whole is.meaning) t room es c) (sym is.records) h

  meant : (c : UpdateRefusal) → OfRecords c → RecordsStand s (is_taken s bs ends) (reads_whole is.meaning) (records_of is.meaning) room es c
  meant c h = subst (λ (t : Records). RecordsStand s (is_taken s bs ends) (reads_whole is.meaning) t room es c) is.records h

  -- the first causes are those that the records say
  to_records : (d : UpdateRefusal) → update_rank d < 6 → Stands d → OfRecords d
  to_records (refusal.Edit i f) l h = surveyed (refusal.Edit i f) h
  to_records (refusal.SameName i j) l h = surveyed (refusal.SameName i j) h
  to_records (refusal.NoSlot i j) l h = surveyed (refusal.NoSlot i j) h
  to_records (refusal.NoSpace i j) l h = surveyed (refusal.NoSpace i j) h
  to_records (refusal.Autoresize i j) l h = surveyed (refusal.Autoresize i j) h
  to_records (refusal.Attach x) l h = absurd h
  to_records refusal.Memory l h = absurd h
  to_records refusal.NeedsRepair l h = absurd (omega arith)
  to_records (refusal.WeakCheck k) l h = absurd (omega arith)
  to_records refusal.Exhausted l h = absurd (omega arith)
  to_records (refusal.NoFree n k) l h = absurd (omega arith)

  used : (c : UpdateRefusal) → ((d : UpdateRefusal) → update_rank d < update_rank c → Stands d → ⊥) → Stands c → IsUpdateCause image av contents es c
  used c first stands = record { from = whole image seen is; attached = is.attached; blank = blank; stands = stands; first = first }

  -- one that the records say
  judged_first : (c : UpdateRefusal) → update_rank c < 6 → IsFirstJudged s seen (is_taken s bs ends) (reads_whole is.meaning) es room c → Stands c
      → IsUpdateCause image av contents es c
  judged_first c few first stands = used c (λ d l h. first.first d l (to_records d (omega (arith, few, l)) h)) stands

  abbrev Told : UpdateRefusal → Type 0
  Told c = IsFirstJudged s seen (is_taken s bs ends) (reads_whole is.meaning) es room c

  made : (j : Judged) → IsJudged s seen ends wholes es room j → IsMade s seen (is_taken s bs ends) (reads_whole is.meaning) es room j
  made j judged = judged (is_taken s bs ends) (reads_whole is.meaning) (used_told s bs ends seen.scan.winners is.attached.scan.winners) are

  -- those after them
  module _ (j : Judged) (judged : IsJudged s seen ends wholes es room j) where
    before_repair : (d : UpdateRefusal) → update_rank d < 6 → Stands d → ⊥
    before_repair d l h = (made j judged).none d (to_records d l h)

    before_weak : (t : Records) → BothGood s bs t → (d : UpdateRefusal) → update_rank d < 7 → Stands d → ⊥
    before_weak t both (refusal.Edit i f) l h = before_repair (refusal.Edit i f) (omega arith) h
    before_weak t both (refusal.SameName i k) l h = before_repair (refusal.SameName i k) (omega arith) h
    before_weak t both (refusal.NoSlot i k) l h = before_repair (refusal.NoSlot i k) (omega arith) h
    before_weak t both (refusal.NoSpace i k) l h = before_repair (refusal.NoSpace i k) (omega arith) h
    before_weak t both (refusal.Autoresize i k) l h = before_repair (refusal.Autoresize i k) (omega arith) h
    before_weak t both (refusal.Attach x) l h = absurd h
    before_weak t both refusal.Memory l h = absurd h
    before_weak t both refusal.NeedsRepair l h = h t both
    before_weak t both (refusal.WeakCheck k) l h = absurd (omega arith)
    before_weak t both refusal.Exhausted l h = absurd (omega arith)
    before_weak t both (refusal.NoFree n k) l h = absurd (omega arith)

    table_is : j.table ≡ asked_records s bs ends a es
    table_is = (made j judged).table ∙ ap (λ (t : Records). edited_records (is_taken s bs ends) t es) is.records

    pub repair_is : ((t : Records) → BothGood s bs t → ⊥) → IsUpdateCause image av contents es refusal.NeedsRepair
    repair_is none = used refusal.NeedsRepair before_repair none

    pub weak_is : (t : Records) → BothGood s bs t → (k : ℕ) → weak_pages s (table_pages s j.table) ≡ Some k
        → IsUpdateCause image av contents es (refusal.WeakCheck k)
    weak_is t both k weak = used (refusal.WeakCheck k) (before_weak t both)
        (ap (λ (t : Records). weak_pages s (table_pages s t)) (sym table_is) ∙ weak)

-- what was read of a source says so for whatever it may hold
module _ (s : Sizes) (k : Source) (agrees : Agreed) (av : Avoided) (es : List Edit) (known : Known) (is : IsKnown s k agrees av es known)
    (blank : NotBlankIs av.marks known.surveyed.states None) where
  abbrev seen : Seen
  seen = known.surveyed

  module _ (bytes : List ℕ) (holds : agrees bytes) where
    survey : IsSurvey (image_of s bytes) seen
    survey = is.survey.held bytes holds

    none_listed : of_blocks ReadBlank (image_of s bytes) av
    none_listed = survey_blank (image_of s bytes) seen survey av blank

    are : known.wholes.items ≡ map (reads_whole survey.meaning) es
    are = is.wholes bytes holds survey

    abbrev FirstOf : UpdateRefusal → Type 0
    FirstOf c = IsFirstJudged s seen (is_taken s (eraseblocks (image_of s bytes)) av.ends) (reads_whole survey.meaning) es (touchable av seen.states) c

    cause_is : (c : UpdateRefusal) → update_rank c < 6 → FirstOf c → (contents : List ℕ)
        → UpdateStands s (eraseblocks (image_of s bytes)) av.ends (avoiding av (whole (image_of s bytes) seen survey)) contents (touchable av seen.states) es c
        → IsUpdateCause (image_of s bytes) av contents es c
    cause_is c few first contents stands =
        judged_first (image_of s bytes) av seen survey none_listed contents es known.wholes.items are c few first stands

    stands_for : (c : UpdateRefusal) → FirstOf c
        → RecordsStand s (is_taken s (eraseblocks (image_of s bytes)) av.ends) (reads_whole survey.meaning) (records_of survey.meaning) (touchable av seen.states) es c
    stands_for c first = meant (image_of s bytes) av seen survey none_listed [] es known.wholes.items are c first.stands

    judged_used : TellsUsed seen.scan.winners av.ends (is_taken s (eraseblocks (image_of s bytes)) av.ends)
    judged_used = used_told s (eraseblocks (image_of s bytes)) av.ends seen.scan.winners survey.attached.scan.winners

  whole_size : IsWholeSize s k.size
  whole_size = is.survey.scan.whole

  pub unready_is : (c : UpdateRefusal) → IsUnready s seen av.ends known.wholes.items known.holders es (touchable av seen.states) c
      → IsUnbased s k agrees av es (error.Refused c)
  unready_is refusal.Memory h = tt
  unready_is (refusal.Attach x) h = absurd h
  unready_is (refusal.Edit i f) h = (
    whole_size,
    λ bytes holds contents.
        (let first = h _ _ (judged_used bytes holds) (are bytes holds) in
        cause_is bytes holds (refusal.Edit i f) (omega arith) first contents (stands_for bytes holds (refusal.Edit i f) first)),
  )
  unready_is (refusal.SameName i j) h = (
    whole_size,
    λ bytes holds contents.
        (let first = h _ _ (judged_used bytes holds) (are bytes holds) in
        cause_is bytes holds (refusal.SameName i j) (omega arith) first contents (stands_for bytes holds (refusal.SameName i j) first)),
  )
  unready_is (refusal.NoSlot i j) h = (
    whole_size,
    λ bytes holds contents.
        (let first = h _ _ (judged_used bytes holds) (are bytes holds) in
        cause_is bytes holds (refusal.NoSlot i j) (omega arith) first contents (stands_for bytes holds (refusal.NoSlot i j) first)),
  )
  unready_is (refusal.NoSpace i j) h = (
    whole_size,
    λ bytes holds contents.
        (let first = h _ _ (judged_used bytes holds) (are bytes holds) in
        cause_is bytes holds (refusal.NoSpace i j) (omega arith) first contents (stands_for bytes holds (refusal.NoSpace i j) first)),
  )
  unready_is (refusal.Autoresize i j) h = (
    whole_size,
    λ bytes holds contents.
        (let first = h _ _ (judged_used bytes holds) (are bytes holds) in
        cause_is bytes holds (refusal.Autoresize i j) (omega arith) first contents (stands_for bytes holds (refusal.Autoresize i j) first)),
  )
  unready_is refusal.NeedsRepair h = (
    whole_size,
    λ bytes holds contents.
        repair_is (image_of s bytes) av seen (survey bytes holds) (none_listed bytes holds) contents es known.wholes.items (are bytes holds) h.0 h.1
        (subst (AreHolders s (eraseblocks (image_of s bytes)) av seen) h.2 (is.holders.held bytes holds)),
  )
  unready_is (refusal.WeakCheck n) h = (
    whole_size,
    λ bytes holds contents.
        by bytes holds contents known.holders h.2 (is.holders.held bytes holds),
  )
    where
      by : (bytes : List ℕ) (holds : agrees bytes) (contents : List ℕ) (o : Option Holders) → IsSome o
          → AreHolders s (eraseblocks (image_of s bytes)) av seen o → IsUpdateCause (image_of s bytes) av contents es (refusal.WeakCheck n)
      by bytes holds contents None some held = absurd (cc)
      by bytes holds contents (Some two) some held =
          weak_is (image_of s bytes) av seen (survey bytes holds) (none_listed bytes holds) contents es known.wholes.items (are bytes holds) h.0 h.1
          held.0.0 held.0.1 n h.3
  unready_is refusal.Exhausted h = absurd h
  unready_is (refusal.NoFree n m) h = absurd h

-- what can't be read
pub unread_is : (s : Sizes) (k : Source) (agrees : Agreed) (av : Avoided) (es : List Edit) (e : StreamError) → ArePlacesError s k agrees e
    → IsUnbased s k agrees av es (update_error e)
unread_is s k agrees av es (stream.Refused c) h = h
unread_is s k agrees av es (stream.Read p written) h = (h.0, h.1.0)
unread_is s k agrees av es (stream.Write n) h = absurd h
unread_is s k agrees av es stream.Memory h = tt
