use Rattle.ubi_detect.proofs.Prelude.{◌∙◌, ◌++◌, ◌∷◌, [], List, ap, get_or, ℕ, ◌&&◌, ◌==◌, nat_lt, Way}
use Rattle.ubi_detect.proofs.MostVoted.{less_more, most_more}
use Rattle.ubi_detect.proofs.place.most_voted.Goals as goal
use Rattle.ubi_detect.proofs.place.most_voted.Goals.{else-are_most, then-are_most+in_ok-push}

pub loop-i-preserved : goal.loop-i-preserved
loop-i-preserved c = λ f are.
    let ws : List Way = c.args.ways.now in
    let i = c.loop-i.i in
    let vs : List ℕ = c.args.votes.now in
    let answer = c.are_most.ensures ∙ ap (λ m. nat_lt 0 (get_or vs i 0) && (get_or vs i 0 == m)) c.greatest-most.ensures in
    elim c.if-are_most.branch [
      | then-are_most+in_ok-push w ↦
          ap (λ v. v.items) w.voted-is ∙ w.in_ok-push.ensures.items ∙ ap (λ x. c.loop-i.voted.items ++ x ∷ []) c.index-ways-i.is
          ∙ most_more f ws vs are i c.index-ways-i.result c.loop-i-test.true c.loop-i.voted.items (c.loop-i.invariant f are) c.are_most.result answer
          w.if-are_most.true
      | else-are_most w ↦
          ap (λ v. v.items) w.voted-is
          ∙ less_more f ws vs are i c.index-ways-i.result c.loop-i-test.true c.loop-i.voted.items (c.loop-i.invariant f are) c.are_most.result answer
          w.if-are_most.false
    ]
