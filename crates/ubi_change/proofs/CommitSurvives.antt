-- The law: the plan of a commit of edits, with nothing against it, survives every cut, and leaves both copies good.
use Rattle.ubi_change.proofs.Prelude.{◌≡◌, ℕ, List, refl, sym, ◌∙◌, None, Some, true, IsGeometry, Sizes, Image, eraseblocks, of_blocks, slots, AttachValue, Meant, VolumeMap, Volume, range_with_len, LeavesBoth, SurvivesCommit, MayBeCommitted, edited_in, fresh, is_fresh, left_by_all, made_in, written, CommitSurvives, edits_plan}
use Rattle.ubi_change.specs.Edited.{Edit}
use Rattle.std.specs.FinMap as finite
use Rattle.ubi_change.proofs.Committed.{IsCommitted, Stays, committed_both, committed_survives}
use Rattle.ubi_change.proofs.EditedMeaning.{all_filter, fresh_none, fresh_slot, left_are, placed_each, placed_none, placed_there, stays_so}
use Rattle.ubi_change.proofs.PlanPremises.{IsShown, shown}

module _ (image : Image) (ends : List ℕ) (a : AttachValue) (att : IsShown image a) (es : List Edit) (may : of_blocks MayBeCommitted image ends a es)
  where
    abbrev s : Sizes
    s = image.sizes

    abbrev bs : List (List ℕ)
    bs = eraseblocks image

    abbrev m : Meant
    m = a.meaning

    abbrev pub new : VolumeMap
    new = made_in s bs ends m es

    abbrev pub n : Meant
    n = edited_in s bs ends m es

    placed_is : (id : ℕ) (v : Volume) → finite.get new id ≡ Some v → is_fresh s bs ends m id ≡ true
    placed_is = placed_each (λ j. is_fresh s bs ends m j ≡ true) (fresh s bs ends m) (written es)
        (all_filter (is_fresh s bs ends m) (range_with_len 0 (slots s)))

    stay : (id : ℕ) (w : Volume) → finite.get n.volumes id ≡ Some w → finite.get new id ≡ None
        → (v : Volume) × (finite.get m.volumes id ≡ Some v) × Stays s bs id v w
    stay id w e old =
        let left : finite.get (left_by_all m.volumes es) id ≡ Some w =
        sym (placed_none (left_by_all m.volumes es) (fresh s bs ends m) (written es) id old) ∙ e in
        let k = left_are m.volumes es id w left in
        (k.0, k.1, stays_so s bs ends m att.accepted.accepted id k.0 w k.1 k.2 (may.sized id k.0 w k.1 left))

    pub is_committed : IsCommitted s bs m new n
    is_committed = record {
      sizes = refl;
      image_seq = refl;
      meaning = may.meaning;
      there = λ id v e. placed_there (left_by_all m.volumes es) (fresh s bs ends m) (written es) id v e;
      slot = λ id v e. fresh_slot s bs ends m id (placed_is id v e);
      none = λ id v e. fresh_none s bs ends m id (placed_is id v e);
      stays = stay;
    }

module _ (image : Image) (ends : List ℕ) (a : AttachValue) (att : IsShown image a) (es : List Edit) (may : of_blocks MayBeCommitted image ends a es)
    (g : IsGeometry image.sizes) where
  pub shown_survives : of_blocks SurvivesCommit image a.meaning (of_blocks edited_in image ends a.meaning es)
      (of_blocks edits_plan image ends a es)
  shown_survives = committed_survives image g a att (new image ends a att es may) (n image ends a att es may)
      (is_committed image ends a att es may) may.both may.strong may.few may.enough

  pub shown_both : of_blocks LeavesBoth image (of_blocks edited_in image ends a.meaning es) (of_blocks edits_plan image ends a es)
  shown_both = committed_both image g a att (new image ends a att es may) (n image ends a att es may)
      (is_committed image ends a att es may) may.both may.strong may.few may.enough

pub commit_survives : CommitSurvives
commit_survives image ends a es g att may =
    let k = shown image a att in (shown_survives image ends a k es may g, shown_both image ends a k es may g)
