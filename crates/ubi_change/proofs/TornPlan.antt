-- The laws: the plans of an attached image survive the power failing during any of their steps.
use Rattle.ubi_change.proofs.Prelude.{avoiding, PlanSurvivesTears, RenameSurvivesTears}
use Rattle.ubi_change.proofs.PlanPremises.{IsShown, shown_avoiding}
use Rattle.ubi_change.proofs.PlanFits.{plan_fits}
use Rattle.ubi_change.proofs.TornImage.{image_harmed, image_torn}
use Rattle.ubi_change.proofs.Attached.{Changing, harm_all, tears_all}
use Rattle.ubi_change.proofs.RenameCommits.{rename_fits, rename_harm, rename_tears}

pub plan_survives_tears_law : PlanSurvivesTears
plan_survives_tears_law image av from id lnum new v g of_image there allowed =
    let a = avoiding av from in
    let att : IsShown image a = shown_avoiding image av from of_image in
    let change : Changing = record {
      image = image;
      g = g;
      a = a;
      att = att;
      id = id;
      lnum = lnum;
      new = new;
      v = v;
      there = there;
      allowed = allowed;
    } in (
      tears_all change,
      harm_all change,
      λ bytes. (
        image_torn image g a att _ _ _ _ 0 (plan_fits change bytes) (tears_all change),
        image_harmed image g a att _ _ _ _ _ (plan_fits change bytes) (harm_all change),
      ),
    )

pub rename_survives_tears_law : RenameSurvivesTears
rename_survives_tears_law image av from id name g att may =
    let a = avoiding av from in
    let known : IsShown image a = shown_avoiding image av from att in
    let torn = rename_tears image g a known id name may in
    let harm = rename_harm image g a known id name may in
    let fits = rename_fits image g a known id name may in
    (torn, harm, λ bytes. (image_torn image g a known _ _ _ _ 0 (fits bytes) torn, image_harmed image g a known _ _ _ _ _ (fits bytes) harm))
