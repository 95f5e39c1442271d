use Rattle.ubi_change.proofs.Prelude.{base_of, ◌≡◌, ◌+◌, arith, length, ◌++◌, List, sym, ap, ap₂, subst, ◌∙◌, text_held, Piece, VidHeader, Found, trimmed, AllWithin, header_at, FitsIn, lay_on, Step}
use Rattle.ubi_change.proofs.update.lay_group.Goals as goal
use Rattle.ubi_change.proofs.StepPages.{lay_all_within}
use Rattle.ubi_change.proofs.GroupPlaces.{group_laid}
use Rattle.ubi_change.proofs.PlacedParts.{all_here}

pub push_laid-requires-clause-short : goal.push_laid-requires-clause-short
push_laid-requires-clause-short g c =
    let s = c.requires.fits.sound.peb_to in
    let l = c.trimmed_text-text.ensures.short in
    omega arith

pub returns-clause-steps : goal.returns-clause-steps
returns-clause-steps g c bytes held =
    let s = c.args.geometry.now in
    let p = c.args.plan.now in
    let scan = base_of p in
    let k = c.args.k in
    let q : Piece = c.index.result.now.piece in
    let here = c.in_ok-read_piece.ensures.held bytes held in
    let header : VidHeader = record c.header_of.result { sqnum = c.top_sqnum.result + 1 + k } in
    let head : header ≡ header_at s scan bytes k q =
    ap (λ (h : VidHeader). record h { sqnum = c.top_sqnum.result + 1 + k }) (c.header_of.ensures bytes here)
    ∙ ap (λ n. record (header_at s scan bytes k q) { sqnum = n + 1 + k }) (c.top_sqnum.ensures ∙ ap (λ (f : Found). f.top_sqnum) c.basis-basis.ensures) in
    let enough = c.requires.fits.enough in
    group_laid s scan bytes p.pages.items p.holders p.layings.items p.sites.items k c.index.result.now c.index-2.result.now c.requires.inside (omega (arith, enough)) c.index.ensures c.index-2.ensures
    header c.trimmed_text-text.result.now c.push_laid.new.steps.items head
    (c.trimmed_text-text.ensures.text ∙ ap (trimmed s) (text_held s q.origin q.len c.read_piece.new.buffer bytes here))
    (c.in_ok-push_laid.ensures ∙ ap₂ (λ (xs : List Step) (f : Found). xs ++ lay_on s f c.index-2.result.now header c.trimmed_text-text.result.now) c.new-steps.ensures.items c.basis-basis.ensures)

pub returns-clause-within : goal.returns-clause-within
returns-clause-within g c =
    let s = c.args.geometry.now in
    let n = length c.args.plan.now.surveyed.states in
    let fits = subst (FitsIn n) (sym c.index-2.ensures) (all_here (FitsIn n) c.args.plan.now.sites.items c.args.k c.index-2.result.now c.requires.fits.sites (let e = c.requires.fits.enough in let i = c.requires.inside in omega (arith, e, i))) in
    subst (AllWithin s n) (sym (c.in_ok-push_laid.ensures ∙ ap (λ (xs : List Step). xs ++ lay_on s c.basis-basis.result c.index-2.result.now (record c.header_of.result { sqnum = c.top_sqnum.result + 1 + c.args.k }) c.trimmed_text-text.result.now) c.new-steps.ensures.items))
    (lay_all_within s n c.requires.fits.sound c.basis-basis.result c.index-2.result.now _ c.trimmed_text-text.result.now fits (let f = c.header_of.type_inv in omega arith) c.trimmed_text-text.ensures.paged c.trimmed_text-text.ensures.short)
