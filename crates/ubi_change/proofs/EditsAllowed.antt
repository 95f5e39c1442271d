-- With no cause against them, edits may be committed.
use Rattle.ubi_change.proofs.Prelude.{◌≡◌, ℕ, ◌+◌, ◌≤◌, inl, inr, List, length, refl, arith, ap, sym, ◌∙◌, subst, cases_lt, None, Option, Some, AllByRecursion, Sizes, Records, records_of, AcceptsBlocks, AttachValue, BothGood, takeable, weak_pages, table_pages, length-map, IsWhole, MayBeCommitted, fresh, edited_in, of_blocks, Volume, commit_needs, written, same_Some, MayBeSized, AreRecords, space, space_of, first_edit_fault, is_taken, reads_whole, all_asked, news_of, EditsAllowed, free_slots, UpdateStands, asked_records, Edit, EditFault, UpdateRefusal}
use Rattle.ubi_change.specs.declared.errors.UpdateRefusal.TheVariants as refusal
use Rattle.ubi_change.proofs.EditedAllowed.{edited_meaning}
use Rattle.ubi_change.proofs.EditedRecords.{edited_are, fresh_are, written_are}
use Rattle.ubi_change.proofs.EditsSized.{edits_sized, edits_there, news_whole}
use Rattle.ubi_change.proofs.BothRecords.{both_records}

module _ (s : Sizes) (bs : List (List ℕ)) (ends : List ℕ) (a : AttachValue) (contents : List ℕ) (room : ℕ) (es : List Edit) (acc : AcceptsBlocks s bs a.meaning)
    (most : room ≤ s.pebs) (t : Records) (both : BothGood s bs t) (records : AreRecords (asked_records s bs ends a es))
    (none : (c : UpdateRefusal) → UpdateStands s bs ends a contents room es c → ⊥) where
  faultless : first_edit_fault s (is_taken s bs ends) (reads_whole a.meaning) 0 (records_of a.meaning) es ≡ None
  faultless = by (first_edit_fault s (is_taken s bs ends) (reads_whole a.meaning) 0 (records_of a.meaning) es) refl
    where
      by : (o : Option (ℕ × EditFault)) → first_edit_fault s (is_taken s bs ends) (reads_whole a.meaning) 0 (records_of a.meaning) es ≡ o → o ≡ None
      by None e = refl
      by (Some f) e = absurd (none (refusal.Edit f.0 f.1) e)

  sizes : a.meaning.sizes ≡ s
  sizes = acc.means.sizes

  are : records_of (edited_in s bs ends a.meaning (all_asked s contents es)) ≡ asked_records s bs ends a es
  are = edited_are s bs ends a.meaning sizes contents es

  old : space (records_of a.meaning) ≤ s.pebs
  old = subst (λ (z : Sizes). space (records_of a.meaning) ≤ z.pebs) sizes
      (let sum = space_of a.meaning in let fits = acc.means.meaning.space in omega (arith, sum, fits))

  fits : space (asked_records s bs ends a es) ≤ s.pebs
  fits =
      let now = space (asked_records s bs ends a es) in
      elim (cases_lt (space (records_of a.meaning)) now) [
        | inr same ↦ omega (arith, old, same)
        | inl more ↦ elim (cases_lt room (now + 2)) [
          | inl large ↦ absurd (none (refusal.NoSpace (now + 2) room) (refl, refl, more, large))
          | inr enough ↦ omega (arith, enough, most)
        ]
      ]

  room_for : length (written (all_asked s contents es)) ≤ length (fresh s bs ends a.meaning)
  room_for =
      let news = length (news_of es) in
      let free = length (free_slots (is_taken s bs ends) (records_of a.meaning)) in
      let n = ap length (written_are s contents es) ∙ length-map (news_of es) _ in
      let k = ap length (fresh_are s bs ends a.meaning sizes) in
      elim (cases_lt free news) [
        | inl few ↦ absurd (none (refusal.NoSlot news free) (refl, refl, few))
        | inr enough ↦ omega (arith, n, k, enough)
      ]

  strong : weak_pages s (table_pages s (records_of (edited_in s bs ends a.meaning (all_asked s contents es)))) ≡ None
  strong = ap (λ (t : Records). weak_pages s (table_pages s t)) are ∙ by (weak_pages s (table_pages s (asked_records s bs ends a es))) refl
    where
      by : (o : Option ℕ) → weak_pages s (table_pages s (asked_records s bs ends a es)) ≡ o → o ≡ None
      by None e = refl
      by (Some k) e = absurd (none (refusal.WeakCheck k) e)

  few : a.scan.top_sqnum + commit_needs s bs ends a (all_asked s contents es) ≤ 0xFFFFFFFFFFFFFFFF
  few = elim (cases_lt 0xFFFFFFFFFFFFFFFF (a.scan.top_sqnum + commit_needs s bs ends a (all_asked s contents es))) [
    | inl more ↦ absurd (none refusal.Exhausted more)
    | inr as_many ↦ as_many
  ]

  enough : commit_needs s bs ends a (all_asked s contents es) ≤ length (takeable s bs a.states)
  enough =
      let n = commit_needs s bs ends a (all_asked s contents es) in
      let k = length (takeable s bs a.states) in
      elim (cases_lt k n) [
        | inl less ↦ absurd (none (refusal.NoFree n k) (refl, refl, less))
        | inr as_many ↦ as_many
      ]

  same_so : (i : ℕ) (v w : Volume) → v ≡ w → (w.content ≡ v.content) × MayBeSized s bs ends i v w
  same_so i v w e = (ap (λ (x : Volume). x.content) (sym e), inl (ap (λ (x : Volume). x.entry.reserved) (sym e)))

  pub may_be : MayBeCommitted s bs ends a (all_asked s contents es)
  may_be = record {
    there = edits_there s bs ends a.meaning contents a.meaning.volumes 0 es faultless;
    room = room_for;
    whole = subst (AllByRecursion (λ (v : Volume). IsWhole v.content)) (sym (written_are s contents es)) (news_whole s contents (news_of es));
    sized = λ id v w was is. (edits_sized s bs ends a.meaning contents a.meaning.volumes 0 es faultless
        (λ i x y e f. same_so i x y (same_Some x y (sym e ∙ f))) id v w was is).1;
    meaning = edited_meaning s bs ends a.meaning acc contents es faultless records (subst (λ (t : Records). space t ≤ s.pebs) (sym are) fits);
    both = subst (BothGood s bs) (both_records s bs a.meaning acc t both) both;
    strong = strong;
    few = few;
    enough = enough;
  }

pub edits_are_allowed : EditsAllowed
edits_are_allowed image ends a contents room es acc most t both records none =
    may_be image.sizes (of_blocks (λ _ bs. bs) image) ends a contents room es acc.accepted most t both records none
