use Rattle.ubi_writing.proofs.Prelude.{◌≡◌, ◌+◌, ◌++◌, ◌∷◌, [], ◌∙◌, List, ap, subst, sym, take, vec_items, take_more, Listed, AreFilesOf, VolumeFile}
use Rattle.ubi_writing.proofs.Unpacked.{files_more}
use Rattle.ubi_writing.proofs.unpack.folder_of.Goals as goal

pub loop-listed-preserved : goal.loop-listed-preserved
loop-listed-preserved c =
    let e = c.listed-item.result in
    let i = c.loop-listed.listed-index in
    let es = c.args.entries.now in
    let more : take (i + 1) es ≡ take i es ++ e ∷ [] =
    take_more es i e c.loop-listed-test.true ∙ ap (λ (x : Listed). take i es ++ x ∷ []) (sym c.listed-item.is) in
    subst (λ (xs : List Listed). AreFilesOf c.args.path.now xs (vec_items c.push.new.self)) (sym more)
    (subst (λ (fs : List VolumeFile). AreFilesOf c.args.path.now (take i es ++ e ∷ []) fs) (sym c.in_ok-push.ensures.items)
    (files_more c.args.path.now (take i es) (vec_items c.loop-listed.files) e _ c.loop-listed.invariant c.in_ok-volume_file.ensures))
