use Rattle.ubi_writing.proofs.Prelude.{AreRecords, ConfigVolume, List, ReadError, Records, [], all_described, ap, arith, described, extent_in, extent_len, get_or, rec_fault, refl, subst, sym, take, take_all, ℕ, ◌++◌, ◌∙◌, ◌∷◌, ◌≡◌, None}
use Rattle.std.proofs.Common.{Result}
use Rattle.std.specs.Prelude.{All}
use Rattle.std.specs.FinMap as finite
use Rattle.ubi_writing.proofs.FolderConfigs.{described_more, sound_described}
use Rattle.ubi_writing.proofs.folder_config.config_volumes.Goals as goal

pub loop-listed-preserved : goal.loop-listed-preserved
loop-listed-preserved c =
    let e = c.listed-item.result in
    let i = c.loop-listed.listed-index in
    let es = c.entries-listed-items.result.now in
    let len : ℕ → Result ℕ ReadError = λ id. extent_len (extent_in c.args.places.now id) in
    let here : get_or es i e ≡ e = sym c.listed-item.is in
    let is : extent_len c.extent-extent.result ≡ len e.0 = ap extent_len c.extent-extent.ensures.value in
    c.in_ok-push.ensures.items
    ∙ ap (λ (vs : List ConfigVolume). vs ++ c.in_ok-volume.volume ∷ []) c.loop-listed.invariant
    ∙ ap (λ (v : ConfigVolume). all_described len (take i es) ++ v ∷ [])
    (c.in_ok-volume.ensures ∙ ap (λ (r : Result ℕ ReadError). described r e) is)
    ∙ sym (described_more len es i e c.loop-listed-test.true here)

pub returns-clause-sound : goal.returns-clause-sound
returns-clause-sound c =
    let len : ℕ → Result ℕ ReadError = λ id. extent_len (extent_in c.args.places.now id) in
    let t = c.args.places.now.records in
    let es = c.entries-listed-items.result.now in
    let entries = c.entries-listed-items.ensures.value ∙ ap (λ (x : Records). finite.entries x.of) c.table.ensures in
    let are = subst AreRecords c.table.ensures c.entries-listed-items.ensures.table in
    let end = c.loop-listed.auto.listed-index-end in
    let test = c.loop-listed-test.false in
    let all : take c.loop-listed.listed-index es ≡ es = take_all c.loop-listed.listed-index es (omega (arith, end, test)) in
    let volumes = c.loop-listed.invariant ∙ ap (all_described len) (all ∙ entries) in
    subst (λ (vs : List ConfigVolume). All (λ v. rec_fault t.sizes v.entry ≡ None) vs) (sym volumes)
    (sound_described len t t.sizes refl are)
