use Rattle.ubi_change.proofs.Prelude.{◌≡◌, ap, sym, ◌∙◌, Option, None, Some, NewVolume}
use Rattle.ubi_change.proofs.PlacedParts.{news_more, with_new}
use Rattle.ubi_change.proofs.placing.new_volumes.Goals as goal
use Rattle.ubi_change.proofs.placing.new_volumes.Goals.{in-Some+in_ok-push, in_default}

pub loop-i-preserved : goal.loop-i-preserved
loop-i-preserved c =
    let old = c.loop-i.volumes.items in
    let all = c.match-new_volume.volumes.items in
    let more = λ (o : Option NewVolume) (is : c.new_volume.result ≡ o) (now : all ≡ with_new old o).
    now ∙ sym (news_more c.args.edits.now c.loop-i.i c.index-edits-i.result c.loop-i-test.true (sym c.index-edits-i.is) o
    (sym c.new_volume.ensures ∙ is) old c.loop-i.invariant) in
    elim c.match-new_volume.branch [
      | in-Some+in_ok-push w ↦ more (Some w.in-Some.volume) w.in-Some.is
          (ap (λ v. v.items) w.volumes-is ∙ w.in_ok-push.ensures.items)
      | in_default w ↦ more None w.in_default.is (ap (λ v. v.items) w.volumes-is)
    ]
