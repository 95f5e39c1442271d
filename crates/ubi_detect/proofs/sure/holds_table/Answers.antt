use Rattle.ubi_detect.proofs.Prelude.{◌≡◌, ◌∙◌, ◌+◌, ◌*◌, ◌-◌, ap, sym, not, eq-eqb, ne_eqb, slots, record_size, vid_magic, layout, is_blank_at, number_at, put}
use Rattle.ubi_detect.proofs.InTurn.{first_fails, second_fails, third_decides}
use Rattle.ubi_detect.proofs.sure.holds_table.Goals as goal

pub returns-then-branch-ne-VID_MAGIC-clause-is : goal.returns-then-branch-ne-VID_MAGIC-clause-is
returns-then-branch-ne-VID_MAGIC-clause-is g c = λ bytes holds.
    let w = c.args.way.now in
    let place = c.put.ensures.place ∙ ap (put w) c.vid_offset.ensures.value in
    let is = c.in_ok-number_at.ensures.is bytes holds ∙ ap (λ x. number_at bytes (c.args.at + x)) place in
    first_fails _ _ _ (ne_eqb _ vid_magic (λ e. c.if-branch-ne-VID_MAGIC.true (is ∙ e)))

pub returns-then-branch-ne-LAYOUT_VOLUME-clause-is : goal.returns-then-branch-ne-LAYOUT_VOLUME-clause-is
returns-then-branch-ne-LAYOUT_VOLUME-clause-is g c = λ bytes holds.
    let w = c.args.way.now in
    let place = c.put.ensures.place ∙ ap (put w) c.vid_offset.ensures.value in
    let one = c.in_ok-number_at.ensures.is bytes (c.in_ok-number_at-2.ensures.source.narrows bytes holds)
    ∙ ap (λ x. number_at bytes (c.args.at + x)) place in
    let two = c.in_ok-number_at-2.ensures.is bytes holds ∙ ap (λ x. number_at bytes (c.args.at + x + 8)) place in
    second_fails _ _ _ (eq-eqb _ vid_magic (sym one ∙ c.if-branch-ne-VID_MAGIC.false))
    (ne_eqb _ layout (λ e. c.if-branch-ne-LAYOUT_VOLUME.true (two ∙ e)))

pub returns-clause-is : goal.returns-clause-is
returns-clause-is g c = λ bytes holds.
    let w = c.args.way.now in
    let place = c.put.ensures.place ∙ ap (put w) c.vid_offset.ensures.value in
    let after = c.in_ok-all_are.ensures.source.narrows bytes holds in
    let one = c.in_ok-number_at.ensures.is bytes (c.in_ok-number_at-2.ensures.source.narrows bytes after)
    ∙ ap (λ x. number_at bytes (c.args.at + x)) place in
    let two = c.in_ok-number_at-2.ensures.is bytes after ∙ ap (λ x. number_at bytes (c.args.at + x + 8)) place in
    let last : c.put-2.result ≡ put w (w.geometry.data_offset + record_size * (slots w.geometry - 1)) = c.put-2.ensures.place
    ∙ ap (λ x. put w (x + 172 * (c.slots.result - 1))) c.data_offset.ensures.value
    ∙ ap (λ x. put w (w.geometry.data_offset + 172 * (x - 1))) c.slots.ensures.value in
    third_decides _ _ _ _ (eq-eqb _ vid_magic (sym one ∙ c.if-branch-ne-VID_MAGIC.false))
    (eq-eqb _ layout (sym two ∙ c.if-branch-ne-LAYOUT_VOLUME.false))
    (ap not (c.in_ok-all_are.ensures.are bytes holds ∙ ap (λ x. is_blank_at bytes (c.args.at + x)) last))
