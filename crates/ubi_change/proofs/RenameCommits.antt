-- A rename is a commit of one edit: nothing more stands against it, it means the same, and its plan is the same.
use Rattle.ubi_change.proofs.Prelude.{◌≡◌, ◌≢◌, ℕ, ◌+◌, ◌-◌, inl, inr, cond, List, [], ◌∷◌, ◌++◌, length, refl, ap, sym, ◌∙◌, subst, arith, cases_eq, eq_by_cmp, nat_cmp, nat_cmp_total, None, Option, Some, option_map_or, same_Some, same_test, apart_test, Sizes, Image, eraseblocks, of_blocks, AttachValue, IsMeaning, Meant, VolumeMap, Volume, copy_plan, rename_plan, renamed, volume_named, MayBeNamed, SurvivesRename, LeavesBothGood, table_pages, records_of, weak_pages, IsGeometry, empty, get-empty, get-insert, Holds, held_entry, Laid, laid_blocks, commit_plan, edits_plan, lay_all, turn, renamed_pages, pages_of, pages_needed, AreBytes, AllByRecursion, AllFit, SurvivesHarm, SurvivesTears, Step, table_plan, LeavesBoth, SurvivesCommit, MayBeCommitted, commit_needs, Rename, edited_in, fresh, made_in, placed, with_volume}
use Rattle.ubi_change.specs.Edited.{Edit}
use Rattle.std.specs.FinMap as finite
use Rattle.ubi_change.proofs.CommitKept.{fits, harmed, torn}
use Rattle.ubi_change.proofs.CommitSurvives.{shown_both, shown_survives}
use Rattle.ubi_change.proofs.PlanPremises.{IsShown}
use Rattle.ubi_change.proofs.RenamedMeaning as naming

-- no volumes have no entry
none_held : (es : List (ℕ × Volume)) → ((e : ℕ × Volume) → Holds es e → ⊥) → es ≡ []
none_held [] none = refl
none_held (e ∷ es) none = absurd (none e (0, refl))

entries_none : (vs : VolumeMap) → ((id : ℕ) → finite.get vs id ≡ None) → finite.entries vs ≡ []
entries_none vs none = none_held (finite.entries vs) (λ e h. let k = held_entry vs e h in let l = none e.0 in cc)

placed_nil : (vs : VolumeMap) (js : List ℕ) → placed vs js [] ≡ vs
placed_nil vs [] = refl
placed_nil vs (j ∷ js) = refl

module _ (s : Sizes) (bs : List (List ℕ)) (ends : List ℕ) (m : Meant) (id : ℕ) (name : List ℕ) where
  abbrev pub one : List Edit
  one = Rename id name ∷ []

  -- it makes the renamed meaning
  pub edited-is : edited_in s bs ends m one ≡ renamed m id name
  edited-is =
      ap (λ (vs : VolumeMap). record m { volumes = vs })
      (placed_nil (with_volume m.volumes id (λ v. volume_named v name)) (fresh s bs ends m))
      ∙ by (finite.get m.volumes id)
    where
      by : (o : Option Volume)
          → record m { volumes = option_map_or (λ v. finite.insert m.volumes id (volume_named v name)) o m.volumes }
          ≡ option_map_or (λ v. record m { volumes = finite.insert m.volumes id (volume_named v name) }) o m
      by None = refl
      by (Some v) = refl

  -- and writes no LEB
  pub laid-none : laid_blocks s (finite.entries (made_in s bs ends m one)) ≡ []
  laid-none = ap (λ (vs : VolumeMap). laid_blocks s (finite.entries vs)) (placed_nil empty (fresh s bs ends m))
      ∙ ap (laid_blocks s) (entries_none empty (λ id. get-empty nat_cmp id))

module _ (s : Sizes) (bs : List (List ℕ)) (ends : List ℕ) (a : AttachValue) (id : ℕ) (name : List ℕ) where
  pub plan-is : commit_plan s bs a (made_in s bs ends a.meaning (one s bs ends a.meaning id name)) (edited_in s bs ends a.meaning (one s bs ends a.meaning id name))
      ≡ rename_plan s bs a id name
  plan-is =
      let first : a.scan.top_sqnum + 1 + 0 ≡ a.scan.top_sqnum + 1 = omega arith in
      let second : a.scan.top_sqnum + 1 + (0 + 1) ≡ a.scan.top_sqnum + 2 = omega arith in
      let next : 0 + 1 ≡ 1 = omega arith in
      let new = table_pages s (records_of (renamed a.meaning id name)) in
      ap (λ (ls : List Laid). lay_all s bs a 0 ls ++ table_plan s bs a (length ls) (edited_in s bs ends a.meaning (one s bs ends a.meaning id name)))
      (laid-none s bs ends a.meaning id name)
      ∙ ap (λ (n : Meant). table_plan s bs a 0 n) (edited-is s bs ends a.meaning id name)
      ∙ ap (λ (q : ℕ). copy_plan s bs a new 0 0 q ++ copy_plan s bs a new 1 (0 + 1) (a.scan.top_sqnum + 1 + (0 + 1))) first
      ∙ ap (λ (q : ℕ). copy_plan s bs a new 0 0 (a.scan.top_sqnum + 1) ++ copy_plan s bs a new 1 q (a.scan.top_sqnum + 1 + (0 + 1))) next
      ∙ ap (λ (q : ℕ). copy_plan s bs a new 0 0 (a.scan.top_sqnum + 1) ++ copy_plan s bs a new 1 1 q) second

  module _ (is : IsMeaning a.meaning) (may : MayBeNamed s bs a id name) where
    abbrev m : Meant
    m = a.meaning

    free : (slot : ℕ) (w : Volume) → slot ≢ id → finite.get m.volumes slot ≡ Some w → w.entry.name ≡ name → ⊥
    free slot w apart e f = may.free slot (apart, w, e, f)

    next_is : IsMeaning (renamed m id name)
    next_is =
        subst IsMeaning (sym (naming.renamed-is m is id name may.volume may.there may.named free))
        (naming.meaning_next m is id name may.volume may.there may.named free)

    sized : (i : ℕ) (v w : Volume) → finite.get m.volumes i ≡ Some v
        → finite.get (with_volume m.volumes id (λ v. volume_named v name)) i ≡ Some w → w.entry.reserved ≡ v.entry.reserved
    sized i v w e f = by_case (finite.get m.volumes id) may.there f
      where
        by_case : (o : Option Volume) → o ≡ Some may.volume
            → finite.get (option_map_or (λ v. finite.insert m.volumes id (volume_named v name)) o m.volumes) i ≡ Some w
            → w.entry.reserved ≡ v.entry.reserved
        by_case None k h = absurd (cc)
        by_case (Some x) k h =
            let there : x ≡ may.volume = same_Some x may.volume k in
            elim (cases_eq i id) [
              | inl same ↦
                  let now : finite.get (finite.insert m.volumes id (volume_named x name)) i ≡ Some (volume_named x name) =
                  get-insert nat_cmp_total m.volumes id (volume_named x name) i
                  ∙ ap (λ b. cond b (Some (volume_named x name)) (finite.get m.volumes i))
                  (ap (λ (k : ℕ). eq_by_cmp nat_cmp k id) same ∙ same_test id) in
                  let is_w : volume_named x name ≡ w = same_Some (volume_named x name) w (sym now ∙ h) in
                  let is_v : x ≡ v = same_Some x v (sym k_there ∙ ap (finite.get m.volumes) (sym same) ∙ e) in
                  ap (λ (y : Volume). y.entry.reserved) (sym is_w) ∙ ap (λ (y : Volume). y.entry.reserved) is_v
              | inr other ↦
                  let was : finite.get (finite.insert m.volumes id (volume_named x name)) i ≡ finite.get m.volumes i =
                  get-insert nat_cmp_total m.volumes id (volume_named x name) i
                  ∙ ap (λ b. cond b (Some (volume_named x name)) (finite.get m.volumes i)) (apart_test i id other) in
                  ap (λ (y : Volume). y.entry.reserved) (sym (same_Some v w (sym e ∙ sym was ∙ h)))
            ]
          where
            k_there : finite.get m.volumes id ≡ Some x
            k_there = may.there ∙ sym k

    -- nothing stands against the commit
    pub may_be_committed : MayBeCommitted s bs ends a (one s bs ends m id name)
    may_be_committed =
        let needs : commit_needs s bs ends a (one s bs ends m id name) ≡ 2 =
        ap (λ (ls : List Laid). length ls + 2) (laid-none s bs ends m id name) in
        record {
          there = ((may.volume, may.there), tt);
          room = omega arith;
          whole = tt;
          sized = λ i v w e f. inl (sized i v w e f);
          meaning = subst IsMeaning (sym (edited-is s bs ends m id name)) next_is;
          both = may.both;
          strong = ap (λ (n : Meant). weak_pages s (table_pages s (records_of n))) (edited-is s bs ends m id name) ∙ may.strong;
          few = (let e = may.few in omega arith);
          enough = (let e = may.enough in omega arith);
        }

-- so it survives every cut as any commit does
module _ (image : Image) (g : IsGeometry image.sizes) (a : AttachValue) (att : IsShown image a) (id : ℕ) (name : List ℕ)
    (may : of_blocks MayBeNamed image a id name) where
  abbrev s : Sizes
  s = image.sizes

  abbrev bs : List (List ℕ)
  bs = eraseblocks image

  -- nothing has to be hidden from a rename
  abbrev ends : List ℕ
  ends = []

  abbrev es : List Edit
  es = one s bs ends a.meaning id name

  commits : MayBeCommitted s bs ends a es
  commits = may_be_committed s bs ends a id name att.accepted.accepted.means.meaning may

  survives : SurvivesCommit s bs a.meaning (renamed a.meaning id name) (rename_plan s bs a id name)
  survives =
      subst (λ (n : Meant). SurvivesCommit s bs a.meaning n (rename_plan s bs a id name)) (edited-is s bs ends a.meaning id name)
      (subst (SurvivesCommit s bs a.meaning (edited_in s bs ends a.meaning es)) (plan-is s bs ends a id name)
      (shown_survives image ends a att es commits g))

  pub rename_survives : SurvivesRename s bs a.meaning id name (rename_plan s bs a id name)
  rename_survives = record { two_copies = survives.two_copies; comes = survives.comes; each = survives.each }

  pub rename_both : LeavesBothGood s bs a.meaning id name (rename_plan s bs a id name)
  rename_both =
      subst (λ (n : Meant). LeavesBoth s bs n (rename_plan s bs a id name)) (edited-is s bs ends a.meaning id name)
      (subst (LeavesBoth s bs (edited_in s bs ends a.meaning es)) (plan-is s bs ends a id name)
      (shown_both image ends a att es commits g))

  -- what holds of the commit and of what it makes holds of the plan and of the renamed meaning
  has : (F : Meant → List Step → Type 0) → F (edited_in s bs ends a.meaning es) (edits_plan s bs ends a es)
      → F (renamed a.meaning id name) (rename_plan s bs a id name)
  has F h =
      subst (λ (n : Meant). F n (rename_plan s bs a id name)) (edited-is s bs ends a.meaning id name)
      (subst (F (edited_in s bs ends a.meaning es)) (plan-is s bs ends a id name) h)

  pub rename_tears : SurvivesTears s bs a.meaning (renamed a.meaning id name) (rename_plan s bs a id name)
      (turn s (rename_plan s bs a id name) (renamed_pages s a.meaning id name))
  rename_tears = has (λ n xs. SurvivesTears s bs a.meaning n xs (turn s xs (table_pages s (records_of n)))) (torn image ends a att es commits g)

  pub rename_harm : SurvivesHarm s bs a.meaning (renamed a.meaning id name) (rename_plan s bs a id name)
      (turn s (rename_plan s bs a id name) (renamed_pages s a.meaning id name))
      (turn s (rename_plan s bs a id name) (renamed_pages s a.meaning id name)
      + (pages_of s (renamed_pages s a.meaning id name) - pages_needed s (renamed_pages s a.meaning id name)))
  rename_harm = has
      (λ n xs. let new = table_pages s (records_of n) in
      SurvivesHarm s bs a.meaning n xs (turn s xs new) (turn s xs new + (pages_of s new - pages_needed s new)))
      (harmed image ends a att es commits g)

  pub rename_fits : AreBytes (renamed_pages s a.meaning id name) → AllFit s bs (rename_plan s bs a id name)
  rename_fits bytes = has (λ n xs. AllFit s bs xs) (fits image ends a att es commits g (record {
    texts = subst (AllByRecursion (λ l. AreBytes l.text)) (sym (laid-none s bs ends a.meaning id name)) tt;
    pages = subst (λ (n : Meant). AreBytes (table_pages s (records_of n))) (sym (edited-is s bs ends a.meaning id name)) bytes;
  }))
