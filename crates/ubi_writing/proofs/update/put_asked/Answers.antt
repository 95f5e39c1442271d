use Rattle.ubi_writing.proofs.Prelude.{List, Option, [], ap, append-nil, append_assoc, ap₂, asked_edits, codes, option_map_or, sym, ℕ, ◌++◌, ◌∙◌, on_ok_weaker, name_of, shown, NewVolume}
use Rattle.ubi_writing.proofs.NamedLines.{none_named, second_named}
use Rattle.ubi_writing.proofs.update.put_asked.Goals as goal

pub returns-in_ok-put_word-in-Some-get : goal.returns-in_ok-put_word-in-Some-get
returns-in_ok-put_word-in-Some-get c =
    let w = asked_edits c.args.asked.now in
    let v : NewVolume = c.in-Some-get.volume.now in
    let before = c.args.text.now.items in
    let at = c.in-Some-get.ensures.lookup in
    let is = second_named name_of (λ (x : NewVolume). shown x.entry.name) w.asks w.volumes c.args.i v c.in_default.ensures.lookup.3 at.3.0 at.1 in
    on_ok_weaker c.put_shown.result
    (λ said. said ∙ ap₂ (λ (xs name : List ℕ). xs ++ shown name) c.in_ok-put_word-in-Some-get.ensures c.as_bytes.ensures.value
    ∙ append_assoc before (codes " name=") (shown v.entry.name)
    ∙ ap (λ (o : Option (List ℕ)). before ++ option_map_or (λ name. codes " name=" ++ name) o []) (sym is))
    c.put_shown.ensures

pub returns-in-None : goal.returns-in-None
returns-in-None c =
    let w = asked_edits c.args.asked.now in
    let before = c.args.text.now.items in
    let is = none_named name_of (λ (x : NewVolume). shown x.entry.name) w.asks w.volumes c.args.i c.in_default.ensures.lookup.3 c.in-None.ensures.lookup.3 in
    sym (append-nil before) ∙ ap (λ (o : Option (List ℕ)). before ++ option_map_or (λ name. codes " name=" ++ name) o []) (sym is)
