use Rattle.ubi_change.proofs.Prelude.{rules, ◌≡◌, ap, arith, refl, ◌∙◌, block, ec_area, valid_ec, blocks_of, names_part}
use Rattle.ubi_change.proofs.Sited.{counter_fits}
use Rattle.ubi_change.proofs.sites.read_site.Goals as goal

pub returns-clause-site : goal.returns-clause-site
returns-clause-site g c =
    let s = c.args.geometry.now in
    let read = c.valid_ec-ec.ensures ∙ ap valid_ec c.read_ec.ensures.value in
    record {
      number = refl;
      fits = record {
        inside = c.requires.inside;
        area = c.read_part.auto.out;
        counter = counter_fits s c.read_part.new.out c.valid_ec-ec.result read;
      };
      held = λ bytes holds.
          let area : c.read_part.new.out ≡ ec_area (block (blocks_of s bytes) c.args.p) =
          c.in_ok-read_part.ensures.bytes bytes (c.in_ok-is_clean.ensures.narrows bytes holds) in
          let clean = c.in_ok-is_clean.ensures.clean bytes holds in
          rw (read, area, clean) refl;
    }

pub returns-in_err-read_part-clause-named : goal.returns-in_err-read_part-clause-named
returns-in_err-read_part-clause-named g c =
    let limits = c.peb_size.ensures.limits in
    let vid_from = limits.vid_from in
    let data_from = limits.data_from in
    let leb = limits.leb in
    names_part c.args.geometry.now c.args.p 0 _ c.from_residual.result (omega arith) (search rules) (search rules)
