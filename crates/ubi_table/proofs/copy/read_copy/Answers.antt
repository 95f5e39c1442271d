use Rattle.ubi_table.proofs.Prelude.{ℕ, ap, ◌∙◌, sym, subst, MatchOption, Option, IfOk-weaker, Sizes, eraseblocks, Leb, NoMember, Wins, layout, CopyIs, copy_of}
use Rattle.ubi_table.proofs.OneTable.{copy_held}
use Rattle.ubi_table.proofs.copy.read_copy.Goals as goal

pub leb-requires : goal.leb-requires
leb-requires c =
    let s = c.args.blocks.now.sizes in
    let bs = eraseblocks c.args.blocks.now in
    let of : Leb = (layout, c.args.c) in
    let w : Wins s bs of c.in-Some.p = subst (λ (o : Option ℕ). MatchOption o (NoMember s bs of) (Wins s bs of))
    (sym c.in-Some.ensures) (c.requires.scan.winners of) in
    w.member.inside

pub returns : goal.returns
returns c =
    let s = c.args.blocks.now.sizes in
    let bs = eraseblocks c.args.blocks.now in
    let p = c.in-Some.p in
    let of : Leb = (layout, c.args.c) in
    let w : Wins s bs of p = subst (λ (o : Option ℕ). MatchOption o (NoMember s bs of) (Wins s bs of))
    (sym c.in-Some.ensures) (c.requires.scan.winners of) in
    let same = ap (λ (z : Sizes). copy_of z c.leb.result.now) c.geometry.ensures ∙ ap (copy_of s) c.leb.ensures.value in
    IfOk-weaker _ _ (CopyIs s bs c.args.c) (λ what read. copy_held s bs c.args.c p what w (read ∙ same)) c.copy_in.ensures
