use Rattle.ubi_commands.proofs.Prelude.{accepted_or_refused, Accepts-unique, never_accepted_and_refused, one_cause, normalising, commit_survives_tears, plan_survives_law, plan_survives_tears_law, rename_survives_tears_law}
use Rattle.ubi_commands.proofs.laws.headline.Goals as goal

pub returns : goal.returns
returns c = record {
  one_meaning = Accepts-unique;
  normalising = normalising;
  accepted_or_refused = accepted_or_refused;
  never_both = never_accepted_and_refused;
  one_cause = one_cause;
  atomic = plan_survives_law;
  torn_change = plan_survives_tears_law;
  torn_rename = rename_survives_tears_law;
  torn_commit = commit_survives_tears;
}
