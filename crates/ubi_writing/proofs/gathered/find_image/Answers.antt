use Rattle.ubi_writing.proofs.Prelude.{◌≡◌, List, Some, ap, subst, sym, ◌∙◌, ℕ, path_with_file_name, IsUnreadLine, image_path, no_image, no_path}
use Rattle.ubi_writing.proofs.GatheredParts.{one_apart}
use Rattle.ubi_writing.proofs.gathered.find_image.Goals as goal

pub returns-in_default-from_utf8-clause-unread : goal.returns-in_default-from_utf8-clause-unread
returns-in_default-from_utf8-clause-unread g c = λ s.
    no_path c.as_bytes.result.now (c.in-Some.is ∙ ap Some (sym c.as_bytes.ensures))
    c.in_default-from_utf8.ensures.cases.0 c.in_ok-config_line.ensures

pub returns-clause-unread : goal.returns-clause-unread
returns-clause-unread g c = λ s.
    let named : c.as_str.result.now ≡ image_path c.args.paths.config.now c.as_bytes.result.now =
    c.as_str.ensures ∙ c.in_ok-path.ensures ∙ ap (λ (x : List ℕ). path_with_file_name x c.in-Ok.image.now) c.new.ensures
    ∙ ap (path_with_file_name c.args.paths.config.now) c.in-Ok.ensures.cases.0 in
    no_image c.as_bytes.result.now (c.in-Some.is ∙ ap Some (sym c.as_bytes.ensures))
    (subst (λ (p : List ℕ). IsUnreadLine p c.in_ok-unread-2.unread) named c.in_ok-unread-2.ensures)

pub returns-in-Some-placed_beside-clause-apart : goal.returns-in-Some-placed_beside-clause-apart
returns-in-Some-placed_beside-clause-apart g c =
    let named : c.as_str-2.result.now ≡ image_path c.args.paths.config.now c.as_bytes.result.now =
    c.as_str-2.ensures ∙ c.in_ok-path.ensures ∙ ap (λ (x : List ℕ). path_with_file_name x c.in-Ok.image.now) c.new.ensures
    ∙ ap (path_with_file_name c.args.paths.config.now) c.in-Ok.ensures.cases.0 in
    one_apart c.args.paths.config.now c.args.paths.out.now c.args.section.now c.as_bytes.result.now (c.in-Some.is ∙ ap Some (sym c.as_bytes.ensures))
    (λ same. c.in-Some-placed_beside.ensures.apart (named ∙ same))
