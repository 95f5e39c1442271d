use Rattle.ubi_writing.proofs.Prelude.{IsImagedBy, IsUnimaged, List, Tells-weaker, [], ap, arith, bytes_in, err_from_is_err_and, length, map, map-append, sizes_of, subst, sum_by, sum_by-append, sym, take, take_all, take_more, ◌++◌, ◌+◌, ◌∙◌, ◌∷◌, ◌≡◌, ◌≤◌, Section}
use Rattle.ubi_writing.proofs.ImagedVolumes.{none_imaged, of_section, one_imaged}
use Rattle.ubi_writing.proofs.config_volumes.gather_volumes.Goals as goal

pub loop-section-init : goal.loop-section-init
loop-section-init g c = record {
  imaged = none_imaged (g.D.Disk.files c.args.disk.now) (sizes_of c.args.numbers) c.args.config.now c.args.contents.now _;
  total = λ is. is;
}

pub loop-section-preserved : goal.loop-section-preserved
loop-section-preserved g c =
    let d = g.D.Disk.files c.args.disk.now in
    let s = sizes_of c.args.numbers in
    let config = c.args.config.now in
    let xs = c.args.sections.now in
    let i = c.loop-section.section-index in
    let x : Section = c.section-item.result in
    let added = c.in_ok-add_image.ensures in
    let pushed = c.in_ok-push_file.ensures in
    let files = c.loop-section.files.items in
    record {
      imaged = subst (λ (ys : List Section). IsImagedBy d s config ys c.args.contents.now c.add_image.new.self
          (map (λ f. bytes_in (λ x. g.D.Placed.PlacedFile.bytes x.file) f.file) c.args.files.now.items)
          (map (λ f. bytes_in (λ x. g.D.Placed.PlacedFile.bytes x.file) f.file) c.push_file.new.files.items))
          (sym (take_more xs i x c.loop-section-test.true ∙ ap (λ (y : Section). take i xs ++ y ∷ []) (sym c.section-item.is)))
          (one_imaged d s config (take i xs) x c.in_ok-image.image c.in_ok-image.file.len _ c.args.contents.now c.loop-section.contents
          c.add_image.new.self _ _ _ c.loop-section.invariant.imaged c.in_ok-image.ensures.volume added.asks (rw c.len.ensures at added.volumes)
          (rw c.len.ensures at added.total) added.paths
          (ap (map (λ f. bytes_in (λ x. g.D.Placed.PlacedFile.bytes x.file) f.file)) pushed
          ∙ map-append (λ f. bytes_in (λ x. g.D.Placed.PlacedFile.bytes x.file) f.file) files (c.in_ok-image.file ∷ [])));
      total = λ is.
          (added.total ∙ ap (λ n. c.loop-section.contents.total + n) c.len.ensures
          ∙ ap (λ n. n + c.in_ok-image.file.len) (c.loop-section.invariant.total is)
          ∙ (let one : sum_by (λ f. f.len) files + c.in_ok-image.file.len
          ≡ sum_by (λ f. f.len) files + sum_by (λ f. f.len) (c.in_ok-image.file ∷ []) = omega arith in one)
          ∙ sym (ap (sum_by (λ f. f.len)) pushed ∙ sum_by-append (λ f. f.len) files (c.in_ok-image.file ∷ [])));
    }

pub returns-in_err-image-clause-unread : goal.returns-in_err-image-clause-unread
returns-in_err-image-clause-unread g c =
    let from = err_from_is_err_and c.from_residual.result c.from_residual.ensures.1 in
    let x : Section = c.section-item.result in
    rw (from.1, from.2) (Tells-weaker _ _
    (of_section c.args.sections.now c.loop-section.section-index x c.loop-section-test.true (sym c.section-item.is)
    (IsUnimaged (g.D.Disk.files c.args.disk.now) c.args.numbers c.args.config.now)) _ c.in_err-image.ensures.unread)

pub returns-clause-imaged : goal.returns-clause-imaged
returns-clause-imaged g c =
    let xs = c.args.sections.now in
    let i = c.loop-section.section-index in
    let all : length xs ≤ i = (let end = c.loop-section.auto.section-index-end in let test = c.loop-section-test.false in omega (arith, end, test)) in
    subst (λ (ys : List Section). IsImagedBy (g.D.Disk.files c.args.disk.now) (sizes_of c.args.numbers) c.args.config.now ys c.args.contents.now c.loop-section.contents
    (map (λ f. bytes_in (λ x. g.D.Placed.PlacedFile.bytes x.file) f.file) c.args.files.now.items)
    (map (λ f. bytes_in (λ x. g.D.Placed.PlacedFile.bytes x.file) f.file) c.loop-section.files.items))
    (take_all i xs all) c.loop-section.invariant.imaged
