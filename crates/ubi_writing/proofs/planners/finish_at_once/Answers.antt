use Rattle.ubi_writing.proofs.Prelude.{◌≢◌, ◌∙◌, Some, ap, refl, sym, Files, Receives, pages_made, pages_unwritten}
use Rattle.ubi_writing.proofs.AtOnce.{finished_at_once, not_lost, of_one}
use Rattle.ubi_writing.proofs.planners.finish_at_once.Goals as goal

pub returns-in-None-clause-answer : goal.returns-in-None-clause-answer
returns-in-None-clause-answer g c held agreed =
    let d = g.D.Disk.files c.args.disk.now in
    finished_at_once d d (g.D.Disk.files c.replaced.new.disk) c.args.plan.now (pages_made c.args.pages.now.made held) c.args.bytes.now c.args.outcome
    c.args.faults.unwritten c.replaced.result c.requires.done c.requires.unwritten
    (λ path is. absurd (let bad = sym c.in-None.is ∙ is in cc)) (λ path is. absurd (let bad = sym c.in-None.is ∙ is in cc)) refl refl
    c.replaced.ensures.others c.replaced.ensures.answer

pub returns-then-not-put_pages-clause-answer : goal.returns-then-not-put_pages-clause-answer
returns-then-not-put_pages-clause-answer g c held agreed =
    pages_unwritten c.in-Some.path c.in-Some.is c.put_pages.ensures.out (c.requires.unpaged c.in-Some.path c.in-Some.is)

pub returns-clause-answer : goal.returns-clause-answer
returns-clause-answer g c held agreed =
    let d = g.D.Disk.files c.args.disk.now in
    let m = g.D.Disk.files c.put_pages.new.disk in
    let plan = c.args.plan.now in
    let put = c.if-not-put_pages.ensures in
    finished_at_once d m (g.D.Disk.files c.replaced-in-Some.new.disk) plan (pages_made c.put_pages.new.pages.made held) c.args.bytes.now c.args.outcome
    c.args.faults.unwritten c.replaced-in-Some.result c.requires.done c.requires.unwritten
    (of_one plan.pages c.in-Some.path (λ path. Receives d m path (Some (pages_made c.put_pages.new.pages.made held))) c.in-Some.is (put.written refl held agreed))
    (of_one plan.pages c.in-Some.path (λ path. path ≢ plan.paths.out.now) c.in-Some.is (put.apart refl)) put.out
    (g.D.Disk.same_telling c.put_pages.new.disk c.args.disk.now) c.replaced-in-Some.ensures.others c.replaced-in-Some.ensures.answer

pub returns-clause-kept : goal.returns-clause-kept
returns-clause-kept g c fails =
    let plan = c.args.plan.now in
    let m = g.D.Disk.files c.put_pages.new.disk in
    ap (λ (f : Files). f.holds plan.paths.image.now)
    (not_lost plan.paths.out.now m (g.D.Disk.files c.replaced-in-Some.new.disk) c.args.bytes.now c.args.outcome c.args.faults.unwritten
    c.replaced-in-Some.result c.replaced-in-Some.ensures.answer fails)
    ∙ c.put_pages.ensures.image
