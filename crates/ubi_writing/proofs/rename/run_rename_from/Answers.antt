use Rattle.ubi_writing.proofs.Prelude.{◌≡◌, List, ℕ, ap, sym, subst, ◌∙◌, IfOk, codes, Keeps-refl, same_Some, shown_name, Source, blocks_in, All, Wrote, AllWithin, IsPlannedRename, IsRenameError, Step, Gives, says, refused_line, cut_text, steps_done, nameless_from}
use Rattle.std.specs.Prelude.{Some}
use Rattle.ubi_writing.specs.Rename.{not_blank_from, unplanned_from}
use Rattle.ubi_writing.proofs.Edited.{rename_cut, rename_done, rename_narrowed}
use Rattle.ubi_writing.proofs.rename.run_rename_from.Goals as goal

pub returns-in_default-clause-ok : goal.returns-in_default-clause-ok
returns-in_default-clause-ok g c =
    let line : refused_line (codes "N1 BadName") ≡ c.in_ok-line.line.items =
    same_Some (refused_line (codes "N1 BadName")) c.in_ok-line.line.items c.in_ok-line.ensures in
    let gives : Gives c.saying.result (says c.in_ok-line.line.items 1) = c.saying.ensures in
    nameless_from (sym c.in_default.ensures)
    (subst (λ (text : List ℕ). Gives c.saying.result (says text 1)) (sym line) gives) (Keeps-refl _)

pub carry_out-requires-clause-within : goal.carry_out-requires-clause-within
carry_out-requires-clause-within g c =
    let s = c.args.geometry.now in
    let within : AllWithin s (blocks_in s (g.S.BlockSource.known c.plan_rename_from.new.source)) c.in-Ok.steps.items =
    subst (λ (k : Source). AllWithin s (blocks_in s k) c.in-Ok.steps.items) (sym c.in-Ok.ensures.known) c.in-Ok.ensures.plan.within in
    subst (λ (steps : List Step). AllWithin s (blocks_in s (g.S.BlockSource.known c.plan_rename_from.new.source)) steps)
    (sym c.as_slice.ensures.value) within

pub returns-in-Ok-clause-ok : goal.returns-in-Ok-clause-ok
returns-in-Ok-clause-ok g c =
    let s = c.args.geometry.now in
    let av = c.args.avoided.now in
    let id = c.args.id in
    let word = c.args.word.now in
    let name = c.as_bytes.result.now in
    let known = g.S.BlockSource.known c.args.source.now in
    let agrees = g.S.BlockSource.agrees c.carry_out.new.source in
    let steps = c.as_slice.result.now in
    let plan : IsPlannedRename s known (g.S.BlockSource.agrees c.plan_rename_from.new.source) av id name steps =
    subst (λ (steps : List Step). IsPlannedRename s known (g.S.BlockSource.agrees c.plan_rename_from.new.source) av id name steps)
    (sym c.as_slice.ensures.value) c.in-Ok.ensures.plan in
    let shown : shown_name word ≡ Some name = sym c.in-Some.ensures ∙ ap Some (sym c.as_bytes.ensures.value) in
    rename_done av id word c.args.stop s known agrees name shown steps
    (rename_narrowed av id word c.args.stop s name known _ agrees steps c.carry_out.ensures.narrows plan)
    c.carry_out.result c.carry_out.new.pages.items _ _ c.carry_out.ensures.answer
    (rw c.requires at c.carry_out.ensures.pages)
    (subst (λ (k : Source). IfOk c.carry_out.result (λ _. Wrote agrees (g.W.Write.contents c.args.writer.now)
    (g.W.Write.contents c.carry_out.new.writer) (cut_text s steps (steps_done steps c.args.stop)) All 0 k.size)) c.in-Ok.ensures.known
    c.carry_out.ensures.written)
    c.carry_out.ensures.cut

pub returns-in-Ok-clause-err : goal.returns-in-Ok-clause-err
returns-in-Ok-clause-err g c =
    let s = c.args.geometry.now in
    let av = c.args.avoided.now in
    let id = c.args.id in
    let word = c.args.word.now in
    let name = c.as_bytes.result.now in
    let known = g.S.BlockSource.known c.args.source.now in
    let agrees = g.S.BlockSource.agrees c.carry_out.new.source in
    let steps = c.as_slice.result.now in
    let plan : IsPlannedRename s known (g.S.BlockSource.agrees c.plan_rename_from.new.source) av id name steps =
    subst (λ (steps : List Step). IsPlannedRename s known (g.S.BlockSource.agrees c.plan_rename_from.new.source) av id name steps)
    (sym c.as_slice.ensures.value) c.in-Ok.ensures.plan in
    let shown : shown_name word ≡ Some name = sym c.in-Some.ensures ∙ ap Some (sym c.as_bytes.ensures.value) in
    rename_cut av id word c.args.stop s known agrees name shown steps
    (rename_narrowed av id word c.args.stop s name known _ agrees steps c.carry_out.ensures.narrows plan)
    c.carry_out.result _ _ c.carry_out.ensures.err

pub returns-in_ok-rename_line-in-Err-Refused-clause-ok : goal.returns-in_ok-rename_line-in-Err-Refused-clause-ok
returns-in_ok-rename_line-in-Err-Refused-clause-ok g c =
    let s = c.args.geometry.now in
    let name = c.as_bytes.result.now in
    let shown : shown_name c.args.word.now ≡ Some name = sym c.in-Some.ensures ∙ ap Some (sym c.as_bytes.ensures.value) in
    unplanned_from name c.in-Err-Refused.cause c.in_ok-rename_line-in-Err-Refused.field-0.items shown
    (subst (IsRenameError s (g.S.BlockSource.known c.args.source.now) (g.S.BlockSource.agrees c.plan_rename_from.new.source)
    c.args.avoided.now c.args.id name) c.in-Err-Refused.field-0-is c.in-Err-Refused.ensures.refused)
    (rw c.in-Err-Refused.field-0-is at c.in_ok-rename_line-in-Err-Refused.ensures) c.saying-in-Err-Refused.ensures (Keeps-refl _)

pub returns-in_ok-not_blank_line-in-Err-NotBlank-clause-ok : goal.returns-in_ok-not_blank_line-in-Err-NotBlank-clause-ok
returns-in_ok-not_blank_line-in-Err-NotBlank-clause-ok g c =
    let s = c.args.geometry.now in
    let name = c.as_bytes.result.now in
    let shown : shown_name c.args.word.now ≡ Some name = sym c.in-Some.ensures ∙ ap Some (sym c.as_bytes.ensures.value) in
    not_blank_from name c.in-Err-NotBlank.p shown
    (subst (IsRenameError s (g.S.BlockSource.known c.args.source.now) (g.S.BlockSource.agrees c.plan_rename_from.new.source)
    c.args.avoided.now c.args.id name) c.in-Err-NotBlank.field-0-is c.in-Err-NotBlank.ensures.refused)
    (rw (c.in_ok-not_blank_line-in-Err-NotBlank.ensures, c.in-Err-NotBlank.field-0-is) at c.saying-in-Err-NotBlank.ensures) (Keeps-refl _)
