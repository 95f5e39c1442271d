-- What the program's users may rely on, as one fact over the definitions.
use Rattle.ubi_volume.specs.Laws.{NeverBoth, OneCause, OneOrOther}
use Rattle.ubi_volume.specs.MeaningLaws.{OneMeaning}
use Rattle.ubi_compose.specs.Laws.{Normalising}
use Rattle.ubi_change.specs.Laws.{CommitSurvivesTears, PlanSurvives, PlanSurvivesTears, RenameSurvivesTears}

-- of accepted images of one geometry, two mean the same exactly if their normalised images are equal byte for byte;
-- normalising keeps the meaning and twice is once; an image has at most one meaning; it is refused exactly where a stated
-- fault stands, which is one cause, with its eraseblock if one is at fault; and an atomic change cut after any whole step means
-- the old or the new, and touches nothing that it avoids, such as bad eraseblocks. So do changes, renames and commits of edits if the
-- power fails at any instant, where what is left of the step's eraseblock meets the premises
pub record Headline : Type 0 where
  pub one_meaning : OneMeaning
  pub normalising : Normalising
  pub accepted_or_refused : OneOrOther
  pub never_both : NeverBoth
  pub one_cause : OneCause
  pub atomic : PlanSurvives
  pub torn_change : PlanSurvivesTears
  pub torn_rename : RenameSurvivesTears
  pub torn_commit : CommitSurvivesTears
