use Rattle.ubi_json.proofs.Prelude.{◌≡◌, map, take, members_view, with_numbers}
use Rattle.ubi_json.proofs.told.put_numbers.Given as goal

abbrev pub invariant-loop-word : goal.invariant-loop-word
invariant-loop-word l =
    members_view l.members.entries
    ≡ with_numbers (map (λ e. (e.0.now, e.1)) (take l.word-index l.numbers)) (members_view l.initial.members.entries)
