-- What was read and judged for edits makes the plan of their commit.
use Rattle.ubi_change.proofs.Prelude.{raised, ◌≡◌, ◌<◌, ℕ, ◌+◌, ◌≤◌, Bool, List, length, map, refl, ap, sym, ◌∙◌, subst, arith, None, Option, Some, AllByRecursion, IsGeometry, Sizes, Image, eraseblocks, IsSurvey, Seen, AttachValue, Records, records_of, avoiding, Avoided, MayBeCommitted, Holders, holder, Site, site_at, takeable, taken, first_taken, weak_pages, table_pages, edits_plan, AreHolders, layout, edited_in, ◌++◌, length-map, length-take, option_map_or, Laid, lay_all, table_plan, AreRecords, commit_needs, first_edit_fault, is_taken, reads_whole, all_asked, news_of, all_layings, edited_parts, edited_records, groups_from, in_order, RecordsStand, UpdateStands, asked_records, IsMade, IsReady, Edit, EditFault, UpdateRefusal, Laying, Ready, ReadBlank, touchable, IsUpdateCause, update_rank, of_blocks}
use Rattle.ubi_change.proofs.PartLayings.{laid_as}
use Rattle.std.specs.FinMap as finite
use Rattle.ubi_change.specs.declared.errors.UpdateRefusal.TheVariants as refusal
use Rattle.ubi_change.proofs.EditedRecords.{edited_are}
use Rattle.ubi_change.proofs.EditsAllowed.{may_be}
use Rattle.ubi_change.proofs.Sited.{taken_at}
use Rattle.ubi_change.proofs.Surveys.{whole}
use Rattle.ubi_change.proofs.UpdatePieces.{needs_are, pieces_are}
use Rattle.ubi_change.proofs.UpdateSteps.{groups_are}
use Rattle.ubi_change.proofs.UsedByWinners.{used_told}

module _ (image : Image) (av : Avoided) (seen : Seen) (is : IsSurvey image seen) (contents : List ℕ) (room : ℕ) (es : List Edit)
    (wholes : List Bool) (are : wholes ≡ map (reads_whole is.meaning) es) where
  abbrev s : Sizes
  s = image.sizes

  abbrev bs : List (List ℕ)
  bs = eraseblocks image

  abbrev ends : List ℕ
  ends = av.ends

  -- the image as the plan sees it
  abbrev a : AttachValue
  a = avoiding av (whole image seen is)

  sizes : is.meaning.sizes ≡ s
  sizes = is.attached.accepted.accepted.means.sizes

  module _ (holders : Option Holders) (r : Ready) (ready : IsReady s seen ends wholes holders es room r) where
    made : IsMade s seen (is_taken s bs ends) (reads_whole is.meaning) es room (record { table = ready.table; parts = r.parts })
    made = ready.judged (is_taken s bs ends) (reads_whole is.meaning) (used_told s bs ends seen.scan.winners is.attached.scan.winners) are

    none : (c : UpdateRefusal) → RecordsStand s (is_taken s bs ends) (reads_whole is.meaning) (records_of is.meaning) room es c → ⊥
    none c h = made.none c (subst (λ (t : Records). RecordsStand s (is_taken s bs ends) (reads_whole is.meaning) t room es c) (sym is.records) h)

    pub parts_are : r.parts.items ≡ edited_parts (is_taken s bs ends) (records_of is.meaning) es
    parts_are = made.parts ∙ ap (λ (t : Records). edited_parts (is_taken s bs ends) t es) is.records

    table_is : ready.table ≡ asked_records s bs ends a es
    table_is = made.table ∙ ap (λ (t : Records). edited_records (is_taken s bs ends) t es) is.records

    pub pages_are : r.pages.items ≡ table_pages s (asked_records s bs ends a es)
    pages_are = ready.pages ∙ ap (table_pages s) table_is

    faultless : first_edit_fault s (is_taken s bs ends) (reads_whole is.meaning) 0 (records_of is.meaning) es ≡ None
    faultless = by (first_edit_fault s (is_taken s bs ends) (reads_whole is.meaning) 0 (records_of is.meaning) es) refl
      where
        by : (o : Option (ℕ × EditFault)) → first_edit_fault s (is_taken s bs ends) (reads_whole is.meaning) 0 (records_of is.meaning) es ≡ o → o ≡ None
        by None e = refl
        by (Some f) e = absurd (none (refusal.Edit f.0 f.1) e)

    module _ (reach : AllByRecursion (λ v. v.start + v.len ≤ length contents) (news_of es)) (layings : List Laying)
        (laid : layings ≡ all_layings s contents r.parts.items) where
      pub layings_are : layings ≡ all_layings s contents (edited_parts (is_taken s bs ends) (records_of is.meaning) es)
      layings_are = laid ∙ ap (all_layings s contents) parts_are

      pub needed : commit_needs s bs ends a (all_asked s contents es) ≡ length layings + 2
      needed = needs_are s bs ends a sizes contents es faultless reach ∙ ap (λ (ls : List Laying). length ls + 2) (sym layings_are)

      -- before the sequence numbers no cause stands, and then there are as many as are needed
      module _ (held : AreHolders s bs av seen (Some r.holders)) where
        before_numbers : (c : UpdateRefusal) → update_rank c < 8 → UpdateStands s bs ends a contents room es c → ⊥
        before_numbers refusal.NeedsRepair l h = h held.0.0 held.0.1
        before_numbers (refusal.WeakCheck k) l h =
            let e : Some k ≡ None = sym h ∙ ap (weak_pages s) (sym pages_are) ∙ ready.strong in absurd (cc)
        before_numbers refusal.Exhausted l h = absurd (omega arith)
        before_numbers (refusal.NoFree n k) l h = absurd (omega arith)
        before_numbers (refusal.Edit i f) l h = none (refusal.Edit i f) h
        before_numbers (refusal.SameName i j) l h = none (refusal.SameName i j) h
        before_numbers (refusal.NoSlot i j) l h = none (refusal.NoSlot i j) h
        before_numbers (refusal.NoSpace i j) l h = none (refusal.NoSpace i j) h
        before_numbers (refusal.Autoresize i j) l h = none (refusal.Autoresize i j) h
        before_numbers (refusal.Attach x) l h = h
        before_numbers refusal.Memory l h = h

        before_free : (raised av.above seen.scan).top_sqnum + (length layings + 2) ≤ 0xFFFFFFFFFFFFFFFF → (c : UpdateRefusal) → update_rank c < 9
            → UpdateStands s bs ends a contents room es c → ⊥
        before_free few refusal.Exhausted l h = absurd (omega (arith, h, few, needed))
        before_free few (refusal.NoFree n k) l h = absurd (omega arith)
        before_free few refusal.NeedsRepair l h = before_numbers refusal.NeedsRepair (omega arith) h
        before_free few (refusal.WeakCheck k) l h = before_numbers (refusal.WeakCheck k) (omega arith) h
        before_free few (refusal.Edit i f) l h = before_numbers (refusal.Edit i f) (omega arith) h
        before_free few (refusal.SameName i j) l h = before_numbers (refusal.SameName i j) (omega arith) h
        before_free few (refusal.NoSlot i j) l h = before_numbers (refusal.NoSlot i j) (omega arith) h
        before_free few (refusal.NoSpace i j) l h = before_numbers (refusal.NoSpace i j) (omega arith) h
        before_free few (refusal.Autoresize i j) l h = before_numbers (refusal.Autoresize i j) (omega arith) h
        before_free few (refusal.Attach x) l h = h
        before_free few refusal.Memory l h = h

        module _ (blank : of_blocks ReadBlank image av) (told : room ≡ touchable av seen.states) where
          cause : (c : UpdateRefusal) → ((d : UpdateRefusal) → update_rank d < update_rank c → UpdateStands s bs ends a contents room es d → ⊥)
              → UpdateStands s bs ends a contents room es c → IsUpdateCause image av contents es c
          cause c first stands = record {
            from = whole image seen is;
            attached = is.attached;
            blank = blank;
            stands = subst (λ n. UpdateStands s bs ends a contents n es c) told stands;
            first = λ d l h. first d l (subst (λ n. UpdateStands s bs ends a contents n es d) (sym told) h);
          }

          pub exhausted_is : 0xFFFFFFFFFFFFFFFF < (raised av.above seen.scan).top_sqnum + (length layings + 2) → IsUpdateCause image av contents es refusal.Exhausted
          exhausted_is more = cause refusal.Exhausted before_numbers (omega (arith, more, needed))

          pub free_is : (raised av.above seen.scan).top_sqnum + (length layings + 2) ≤ 0xFFFFFFFFFFFFFFFF → (has : ℕ) → has < length layings + 2
              → has ≡ length (takeable s bs a.states) → IsUpdateCause image av contents es (refusal.NoFree (length layings + 2) has)
          free_is few has less is = cause (refusal.NoFree (length layings + 2) has) (before_free few) (sym needed, is, less)

      module _ (held : AreHolders s bs av seen (Some r.holders)) (most : room ≤ s.pebs) (sites : List Site)
          (taking : sites ≡ first_taken s bs a.states (length layings + 2)) (enough : length layings + 2 ≤ length sites)
          (few : (raised av.above seen.scan).top_sqnum + (length layings + 2) ≤ 0xFFFFFFFFFFFFFFFF) where
        as_many : length layings + 2 ≤ length (takeable s bs a.states)
        as_many =
            let n = length layings + 2 in
            let k = ap length taking ∙ length-take n (map (site_at s bs a.states) (takeable s bs a.states)) in
            let l = length-map (takeable s bs a.states) (site_at s bs a.states) in
            omega (arith, enough, k, l)

        pub no_cause : (c : UpdateRefusal) → UpdateStands s bs ends a contents room es c → ⊥
        no_cause refusal.NeedsRepair h = h held.0.0 held.0.1
        no_cause (refusal.WeakCheck k) h =
            let e : Some k ≡ None = sym h ∙ ap (weak_pages s) (sym pages_are) ∙ ready.strong in absurd (cc)
        no_cause refusal.Exhausted h = absurd (omega (arith, h, few, needed))
        no_cause (refusal.NoFree n k) h = (let x = h.0 in let y = h.1 in let z = h.2 in absurd (omega (arith, x, y, z, as_many, needed)))
        no_cause (refusal.Edit i f) h = none (refusal.Edit i f) h
        no_cause (refusal.SameName i j) h = none (refusal.SameName i j) h
        no_cause (refusal.NoSlot i j) h = none (refusal.NoSlot i j) h
        no_cause (refusal.NoSpace i j) h = none (refusal.NoSpace i j) h
        no_cause (refusal.Autoresize i j) h = none (refusal.Autoresize i j) h
        no_cause (refusal.Attach x) h = h
        no_cause refusal.Memory h = h

        pub allowed : MayBeCommitted s bs ends a (all_asked s contents es)
        allowed = may_be s bs ends a contents room es is.attached.accepted.accepted most held.0.0 held.0.1
            (subst AreRecords table_is ready.records) no_cause

        pub plan_is : IsGeometry s → in_order (groups_from s (raised av.above seen.scan) contents r.pages.items r.holders 0 layings sites)
            ≡ edits_plan s bs ends a (all_asked s contents es)
        plan_is g =
            let n = edited_in s bs ends a.meaning (all_asked s contents es) in
            let f = laid_as s contents in
            let holder_at : (c p : ℕ) → finite.get a.scan.winners (layout, c) ≡ Some p → p ≡ holder s bs a c =
            λ c p e. ap (λ (o : Option ℕ). option_map_or (λ p. p) o 0) (sym e) in
            let first = held.1 in
            let second = held.2 in
            groups_are s bs a is.attached.scan.carriers g contents r.pages.items r.holders
            (first.2 ∙ ap (site_at s bs a.states) (holder_at 0 first.0 first.1))
            (second.2 ∙ ap (site_at s bs a.states) (holder_at 1 second.0 second.1)) n
            (pages_are ∙ ap (table_pages s) (sym (edited_are s bs ends a.meaning sizes contents es))) 0 layings sites enough
            (λ i t e. (taken_at (site_at s bs a.states) (takeable s bs a.states) (length layings + 2) i sites t taking e).1
            ∙ ap (λ j. site_at s bs a.states (taken s bs a j)) (let z : i ≡ 0 + i = omega arith in z))
            ∙ ap (λ k. lay_all s bs a 0 (map f layings) ++ table_plan s bs a k n) (let z : 0 + length layings ≡ length layings = omega arith in z ∙ sym (length-map layings f))
            ∙ ap (λ (ls : List Laid). lay_all s bs a 0 ls ++ table_plan s bs a (length ls) n)
            (ap (map f) layings_are ∙ sym (pieces_are s bs ends a sizes contents es faultless reach))
