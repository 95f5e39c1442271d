use Rattle.ubi_change.proofs.Prelude.{◌≡◌, ◌+◌, ◌++◌, Bool, false, List, [], ◌∷◌, drop, take, get_or, ap, sym, ◌∙◌, subst, None, Records, AllByRecursion, take_more, at_drop_more, get_or-map, all_records_left, fault_of, first_edit_fault, records_left, writing_fault, news_of, Edit}
use Rattle.ubi_change.proofs.EditsLeft.{left_sizes, more_sound, passed_edit}
use Rattle.ubi_change.proofs.drafting.drafted.Goals as goal

pub loop-i-preserved : goal.loop-i-preserved
loop-i-preserved c =
    let s = c.args.geometry.now in
    let es = c.args.edits.now in
    let i = c.loop-i.i in
    let e : Edit = c.index-edits-i.result in
    let t : Records = c.loop-i.draft in
    let none = c.in_default.is in
    let next : c.make.new.draft ≡ records_left t e = c.in_ok-fault.ensures.left none in
    let inside = c.loop-i-test.true in
    let here : get_or es i e ≡ e = sym c.index-edits-i.is in
    record {
      sizes = ap (λ (r : Records). r.sizes) next ∙ left_sizes t e ∙ c.loop-i.invariant.sizes;
      rest = λ used whole tells each.
          c.loop-i.invariant.rest used whole tells each
          ∙ at_drop_more (λ rest. first_edit_fault s used whole i t rest) es i e inside
          ∙ ap (λ (x : Edit). first_edit_fault s used whole i t (x ∷ drop (i + 1) es)) here
          ∙ passed_edit s used whole i t e (drop (i + 1) es)
          (ap (λ (b : Bool). fault_of s used b t e) (sym (ap whole here) ∙ sym (get_or-map whole es i e false inside)
          ∙ ap (λ (bs : List Bool). get_or bs i false) (sym each))
          ∙ sym (c.in_ok-fault.ensures.fault used tells) ∙ none)
          ∙ ap (λ (r : Records). first_edit_fault s used whole (i + 1) r (drop (i + 1) es)) (sym next);
      left = c.loop-i.invariant.left
          ∙ at_drop_more (λ rest. all_records_left t rest) es i e inside
          ∙ ap (λ (x : Edit). all_records_left (records_left t x) (drop (i + 1) es)) here
          ∙ ap (λ (r : Records). all_records_left r (drop (i + 1) es)) (sym next);
      sound = subst (λ (xs : List Edit). AllByRecursion (λ v. writing_fault s v ≡ None) (news_of xs))
          (sym (take_more es i e inside ∙ ap (λ (x : Edit). take i es ++ x ∷ []) here))
          (more_sound s (take i es) e c.loop-i.invariant.sound (c.in_ok-fault.ensures.sound none));
    }
