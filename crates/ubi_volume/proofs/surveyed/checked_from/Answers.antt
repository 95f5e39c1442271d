use Rattle.ubi_volume.proofs.Prelude.{ℕ, ◌^◌, ◌<◌, subst, err_from_is_err_and, blocks_of, narrows_more, scan_narrowed, source_narrowed}
use Rattle.ubi_volume.proofs.PlacesOf.{winners_refused}
use Rattle.ubi_volume.proofs.surveyed.checked_from.Goals as goal

pub returns-in_err-check_winners-clause-refused : goal.returns-in_err-check_winners-clause-refused
returns-in_err-check_winners-clause-refused g c =
    let s = c.args.geometry.now in
    let known = g.S.BlockSource.known c.args.source.now in
    let agrees = g.S.BlockSource.agrees c.choose_from.new.source in
    let p = err_from_is_err_and c.from_residual-in_err-check_winners.result
    c.from_residual-in_err-check_winners.ensures.1 in
    rw (p.1, p.2) (winners_refused s known agrees c.in_ok-scan.scan c.in_ok-table.table
    (scan_narrowed s known _ agrees c.in_ok-scan.scan c.in_ok-table.ensures.narrows c.in_ok-scan.ensures.found)
    c.in_ok-table.ensures.table c.in_err-check_winners.field-0.0 c.in_err-check_winners.ensures.refused)

pub returns-clause-checked : goal.returns-clause-checked
returns-clause-checked g c =
    let s = c.args.geometry.now in
    let known = g.S.BlockSource.known c.args.source.now in
    let agrees = g.S.BlockSource.agrees c.choose_from.new.source in
    let chosen = c.in_ok-table.ensures.narrows in
    let scan = scan_narrowed s known _ agrees c.in_ok-scan.scan chosen c.in_ok-scan.ensures.found in
    record {
      sizes = c.peb_size.ensures.limits;
      source = source_narrowed known _ agrees (narrows_more _ _ agrees c.in_ok-scan.ensures.narrows chosen)
          (g.met.S.BlockSource.sized c.args.source.now);
      scan = scan;
      narrow = subst (λ (n : ℕ). n < 2 ^ 32) c.image_seq.ensures c.image_seq.type_inv;
      mean = c.in_ok-scan.ensures.mean;
      table = c.in_ok-table.ensures.table;
      alike = λ bytes holds. c.in_ok-check_winners.ensures.alike (blocks_of s bytes) (scan.held bytes holds);
    }
