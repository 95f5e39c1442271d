-- The law: the plan of a commit that avoids something keeps what a plan has to keep.
use Rattle.ubi_change.proofs.Prelude.{table_pages, records_of, ◌≡◌, ℕ, ◌*◌, ◌<◌, List, length, arith, Wins, layout, holder, avoiding, IsGeometry, Image, eraseblocks, of_blocks, Sizes, AttachValue, VolumeMap, AllFit, RisesBetweenErases, AllByRecursion, bytes-take, AreBytes, plain_blocks, all_at, all_from, Laid, laid_blocks, pieces, MayBeCommitted, commit_needs, edits_plan, IsFrugalCommit, WritesBytes, edited_in, made_in, CommitAvoiding, Meant, ◌+◌, ◌-◌, turn, CommitSurvivesTears, SurvivesHarm, SurvivesTears, pages_needed, pages_of}
use Rattle.ubi_change.specs.Edited.{Edit}
use Rattle.std.specs.FinMap as finite
use Rattle.ubi_change.proofs.CommitFits.{HasBytes}
use Rattle.ubi_change.proofs.CommitSurvives.{is_committed, shown_both, shown_survives}
use Rattle.ubi_change.proofs.CommitTouches.{commit_avoids}
use Rattle.ubi_change.proofs.Committed.{IsCommitted, committed_fits, committed_frugal, committed_harm, committed_holders, committed_rises, committed_tears}
use Rattle.ubi_change.proofs.CopyFits.{bytes-filled}
use Rattle.ubi_change.proofs.PlanPremises.{IsShown, shown_avoiding}
use Rattle.ubi_change.proofs.TornImage.{image_harmed, image_torn}

-- a text is written as bytes, and so is its header
texts_have : (s : Sizes) (new : VolumeMap) → AllByRecursion (λ l. AreBytes l.text) (laid_blocks s (finite.entries new))
    → AllByRecursion (HasBytes s) (laid_blocks s (finite.entries new))
texts_have s new bytes = all_from (HasBytes s) (laid_blocks s (finite.entries new)) (λ l h.
    let text : AreBytes l.text = all_at (λ l. AreBytes l.text) (laid_blocks s (finite.entries new)) h.0 l bytes h.1 in
    let all : ℕ = pieces s.page (length l.text) * s.page in
    let none = all_at (λ (l : Laid). l.header.compat ≡ 0) (laid_blocks s (finite.entries new)) h.0 l (plain_blocks s new) h.1 in
    (bytes-take _ _ (bytes-filled all l.text text), omega arith))

module _ (image : Image) (ends : List ℕ) (a : AttachValue) (att : IsShown image a) (es : List Edit) (may : of_blocks MayBeCommitted image ends a es)
    (g : IsGeometry image.sizes) where
  abbrev pub new : VolumeMap
  new = made_in image.sizes (eraseblocks image) ends a.meaning es

  abbrev pub n : Meant
  n = edited_in image.sizes (eraseblocks image) ends a.meaning es

  is : of_blocks IsCommitted image a.meaning new n
  is = is_committed image ends a att es may

  pub torn : of_blocks SurvivesTears image a.meaning n (of_blocks edits_plan image ends a es)
      (turn image.sizes (of_blocks edits_plan image ends a es) (table_pages image.sizes (records_of n)))
  torn = committed_tears image g a att new n is may.both may.strong may.few may.enough

  pub harmed : of_blocks SurvivesHarm image a.meaning n (of_blocks edits_plan image ends a es)
      (turn image.sizes (of_blocks edits_plan image ends a es) (table_pages image.sizes (records_of n)))
      (turn image.sizes (of_blocks edits_plan image ends a es) (table_pages image.sizes (records_of n))
      + (pages_of image.sizes (table_pages image.sizes (records_of n)) - pages_needed image.sizes (table_pages image.sizes (records_of n))))
  harmed = committed_harm image g a att new n is may.both may.strong may.few may.enough

  rises : of_blocks RisesBetweenErases image (of_blocks edits_plan image ends a es)
  rises = committed_rises image g a att new n is may.both may.strong may.few may.enough

  frugal : of_blocks IsFrugalCommit image a (of_blocks commit_needs image ends a es) n (of_blocks edits_plan image ends a es)
  frugal = committed_frugal image g a att new n is may.both may.strong may.few may.enough

  pub fits : of_blocks WritesBytes image ends a es → of_blocks AllFit image (of_blocks edits_plan image ends a es)
  fits bytes = committed_fits image g a att new n is may.both may.strong may.few may.enough
      (texts_have image.sizes new bytes.texts) bytes.pages

  held : (k : ℕ) → k < 2 → of_blocks Wins image (layout, k) (of_blocks holder image a k)
  held = committed_holders image g a att new n is may.both may.strong may.few may.enough

pub commit_avoiding : CommitAvoiding
commit_avoiding image av from es g att blank may =
    let a = avoiding av from in
    let k = shown_avoiding image av from att in
    let f = frugal image av.ends a k es may g in
    record {
      survives = shown_survives image av.ends a k es may g;
      torn = torn image av.ends a k es may g;
      copies = shown_both image av.ends a k es may g;
      fits = fits image av.ends a k es may g;
      rises = rises image av.ends a k es may g;
      frugal = f;
      avoids = commit_avoids image av from att blank (of_blocks commit_needs image av.ends a es) (of_blocks edits_plan image av.ends a es)
          (held image av.ends a k es may g) f.touches;
    }

pub commit_survives_tears : CommitSurvivesTears
commit_survives_tears image av from es g att may =
    let a = avoiding av from in
    let k : IsShown image a = shown_avoiding image av from att in
    let t = torn image av.ends a k es may g in
    let h = harmed image av.ends a k es may g in (
      t,
      h,
      λ bytes.
          let fit = fits image av.ends a k es may g bytes in
          (image_torn image g a k _ _ _ _ 0 fit t, image_harmed image g a k _ _ _ _ _ fit h),
    )
