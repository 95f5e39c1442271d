use Rattle.ubi_writing.proofs.Prelude.{IfErr-weaker, IfOk-weaker, Tells-weaker}
use Rattle.ubi_writing.proofs.AskedVolumes.{words_asked, words_unasked}
use Rattle.ubi_writing.proofs.all_asked.gather_asked.Goals as goal

pub returns-in-None-clause-asked : goal.returns-in-None-clause-asked
returns-in-None-clause-asked g c =
    IfOk-weaker c.gather_contents.result _ _
    (λ r by. words_asked (g.D.Disk.files c.args.disk.now) c.args.numbers c.args.asked.now c.in-None.is r.0 _ by)
    c.gather_contents.ensures.filled

pub returns-in-None-clause-unread : goal.returns-in-None-clause-unread
returns-in-None-clause-unread g c =
    IfErr-weaker c.gather_contents.result _ _
    (Tells-weaker _ _ (words_unasked (g.D.Disk.files c.args.disk.now) c.args.numbers c.args.asked.now c.in-None.is))
    c.gather_contents.ensures.unread
