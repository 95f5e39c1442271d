use Rattle.ubi_change.proofs.Prelude.{◌≡◌, ℕ, ◌<◌, Bool, [], space, ap, ap₂, sym, ◌∙◌, subst, List, None, Records, AllByRecursion, Sizes, rec_fault, slots, length, Part, all_records_left, first_edit_fault, news_of, TellsUsed, Found, free_slots, parts_of, records_with, NewVolume, IsPartReadable}
use Rattle.ubi_change.proofs.OnlyRenames.{no_news, no_parts_of, space_left}
use Rattle.ubi_change.proofs.PlacedParts.{parts_below, parts_readable, parts_sound, with_sizes}
use Rattle.ubi_change.proofs.judging.with_new_volumes.Goals as goal

pub place-requires-clause-below : goal.place-requires-clause-below
place-requires-clause-below c =
    let free = c.in_ok-free.free.items in
    let volumes = c.in_ok-written.written.items in
    let is = c.as_slice.ensures.value ∙ c.in_ok-parts.ensures
    ∙ ap₂ (λ (js : List ℕ) (vs : List NewVolume). parts_of js vs) c.as_slice-slots.ensures.value c.as_slice-volumes.ensures.value in
    let sizes = ap (λ (t : Records). t.sizes) c.table-table.ensures ∙ c.requires.sizes ∙ sym c.in_ok-drafted.ensures.sizes in
    subst (AllByRecursion (λ (p : Part). p.id < slots c.drafted.new.draft.sizes)) (sym is)
    (parts_below (slots c.drafted.new.draft.sizes) free volumes
    (subst (λ (z : Sizes). AllByRecursion (λ j. j < slots z) free) sizes c.in_ok-free.ensures.below))

pub place-requires-clause-sound : goal.place-requires-clause-sound
place-requires-clause-sound c =
    let free = c.in_ok-free.free.items in
    let volumes = c.in_ok-written.written.items in
    let is = c.as_slice.ensures.value ∙ c.in_ok-parts.ensures
    ∙ ap₂ (λ (js : List ℕ) (vs : List NewVolume). parts_of js vs) c.as_slice-slots.ensures.value c.as_slice-volumes.ensures.value in
    subst (λ (z : Sizes). AllByRecursion (λ (p : Part). rec_fault z p.entry ≡ None) c.as_slice.result.now) (sym c.in_ok-drafted.ensures.sizes)
    (subst (AllByRecursion (λ (p : Part). rec_fault c.args.geometry.now p.entry ≡ None)) (sym is)
    (parts_sound c.args.geometry.now free volumes
    (subst (AllByRecursion _) (sym c.in_ok-written.ensures) c.in_ok-drafted.ensures.sound)))

pub returns-clause-placed : goal.returns-clause-placed
returns-clause-placed c =
    let t = c.args.surveyed.now.records in
    let es = c.args.edits.now in
    let free = c.in_ok-free.free.items in
    let volumes = c.in_ok-written.written.items in
    let before = c.in_ok-draft.ensures ∙ c.table-table.ensures in
    let free_is : (used : ℕ → ℕ → Bool) → TellsUsed c.args.surveyed.now.scan.winners c.args.ends.now used → free ≡ free_slots used t =
    λ used tells. c.in_ok-free.ensures.free used (subst (λ (f : Found). TellsUsed f.winners c.args.ends.now used) (sym c.scan-scan.ensures) tells)
    ∙ ap (λ (t : Records). free_slots used t) c.table-table.ensures in
    let parts_is = c.in_ok-parts.ensures
    ∙ ap₂ (λ (js : List ℕ) (vs : List NewVolume). parts_of js vs) c.as_slice-slots.ensures.value
    (c.as_slice-volumes.ensures.value ∙ c.in_ok-written.ensures) in
    record {
      faultless = λ used whole tells each. ap (λ (t : Records). first_edit_fault c.args.geometry.now used whole 0 t es) (sym before)
          ∙ c.in_ok-drafted.ensures.made used whole (subst (λ (f : Found). TellsUsed f.winners c.args.ends.now used) (sym c.scan-scan.ensures) tells) each;
      needs = ap length (c.as_slice-volumes.ensures.value) ∙ ap length c.in_ok-written.ensures;
      has = λ used tells. ap length c.as_slice-slots.ensures.value ∙ ap length (free_is used tells);
      parts = λ used tells. parts_is ∙ ap (λ (js : List ℕ). parts_of js (news_of es)) (free_is used tells);
      draft = λ used tells. c.in_ok-place.ensures
          ∙ ap₂ (λ (t : Records) (ps : List Part). records_with t ps)
          (c.in_ok-drafted.ensures.left ∙ ap (λ (t : Records). all_records_left t es) before)
          (c.as_slice.ensures.value ∙ parts_is ∙ ap (λ (js : List ℕ). parts_of js (news_of es)) (free_is used tells));
    }

pub returns-clause-sizes : goal.returns-clause-sizes
returns-clause-sizes c =
    ap (λ (t : Records). t.sizes) c.in_ok-place.ensures ∙ with_sizes c.drafted.new.draft c.as_slice.result.now
    ∙ c.in_ok-drafted.ensures.sizes

pub returns-clause-readable : goal.returns-clause-readable
returns-clause-readable c = λ size narrow reach.
    let s = c.args.geometry.now in
    let free = c.in_ok-free.free.items in
    let is = c.in_ok-parts.ensures
    ∙ ap₂ (λ (js : List ℕ) (vs : List NewVolume). parts_of js vs) c.as_slice-slots.ensures.value
    (c.as_slice-volumes.ensures.value ∙ c.in_ok-written.ensures) in
    subst (AllByRecursion (IsPartReadable s size)) (sym is)
    (parts_readable s free (news_of c.args.edits.now) c.in_ok-drafted.ensures.sound size narrow reach)

pub returns-clause-renamed : goal.returns-clause-renamed
returns-clause-renamed c = λ alone.
    let t = c.args.surveyed.now.records in
    let es = c.args.edits.now in
    let none = no_news es alone in
    let before = c.in_ok-draft.ensures ∙ c.table-table.ensures in
    let parts : c.in_ok-parts.parts.items ≡ [] =
    c.in_ok-parts.ensures
    ∙ ap (λ (vs : List NewVolume). parts_of c.as_slice-slots.result.now vs) (c.as_slice-volumes.ensures.value ∙ c.in_ok-written.ensures ∙ none)
    ∙ no_parts_of c.as_slice-slots.result.now in
    record {
      needs = ap length (c.as_slice-volumes.ensures.value) ∙ ap length (c.in_ok-written.ensures ∙ none);
      parts = parts;
      same = ap space (c.in_ok-place.ensures
          ∙ ap (λ (ps : List Part). records_with c.drafted.new.draft ps) (c.as_slice.ensures.value ∙ parts)
          ∙ c.in_ok-drafted.ensures.left ∙ ap (λ (t : Records). all_records_left t es) before) ∙ space_left t es alone;
    }
