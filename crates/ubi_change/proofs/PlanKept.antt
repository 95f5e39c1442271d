-- What holds for the steps of a change, since they are those of its plan.
use Rattle.ubi_change.proofs.Prelude.{ℕ, List, sym, subst, AreBytes, IsGeometry, Image, of_blocks, SurvivesCuts, AllFit, IsFrugal, RisesBetweenErases, PlanFacts, IsPlanAvoiding, ReadBlank, Avoided, Avoids, avoiding, changed, turn, Step, SurvivesTears}
use Rattle.ubi_change.proofs.PlanFits.{plan_fits}
use Rattle.ubi_change.proofs.PlanFrugal.{plan_frugal}
use Rattle.ubi_change.proofs.PlanRises.{plan_rises}
use Rattle.ubi_change.proofs.PlanPremises.{IsShown, shown_avoiding}
use Rattle.ubi_change.proofs.AvoidedKept.{plan_avoids}
use Rattle.ubi_change.proofs.Attached.{Changing, survives_all, tears_all}

pub plan_kept : (image : Image) (av : Avoided) → IsGeometry image.sizes → of_blocks ReadBlank image av → (id lnum : ℕ) (new : List ℕ) → AreBytes new → (steps : List Step)
    → IsPlanAvoiding image av id lnum new steps → PlanFacts image av id lnum new steps
plan_kept image av g blank id lnum new bytes steps is =
    let a = avoiding av is.from in
    let att : IsShown image a = shown_avoiding image av is.from is.attached in
    let change : Changing = record {
      image = image;
      g = g;
      a = a;
      att = att;
      id = id;
      lnum = lnum;
      new = new;
      v = is.volume;
      there = is.there;
      allowed = is.allowed;
    } in
    record {
      survives = (
        is.from.meaning,
        is.attached.accepted,
        subst (of_blocks SurvivesCuts image a.meaning id lnum new) (sym is.plan) (survives_all change),
      );
      torn = (
        is.from.meaning,
        is.attached.accepted,
        subst (λ (xs : List Step). of_blocks SurvivesTears image a.meaning (changed a.meaning id lnum new) xs
            (turn image.sizes xs new)) (sym is.plan) (tears_all change),
      );
      fits = subst (of_blocks AllFit image) (sym is.plan) (plan_fits change bytes);
      rises = subst (of_blocks RisesBetweenErases image) (sym is.plan) (plan_rises change);
      frugal = (
        is.from,
        is.attached,
        subst (of_blocks IsFrugal image a id lnum new) (sym is.plan) (plan_frugal change),
      );
      plan = is;
      avoids = subst (of_blocks Avoids image av) (sym is.plan)
          (plan_avoids image av is.from is.attached blank g id lnum new is.volume is.there is.allowed);
      blank = blank;
    }
