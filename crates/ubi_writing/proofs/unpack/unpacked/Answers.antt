use Rattle.ubi_writing.proofs.Prelude.{◌≡◌, ℕ, ◌++◌, ◌∙◌, List, ap, cond, get_or, sym, take, is_ok, extent_in, extent_len, ReadError, unpacked_line, unpacked_lines, unpacked_status}
use Rattle.std.proofs.Common.{Result}
use Rattle.ubi_writing.proofs.Unpacked.{lines_more, status_more}
use Rattle.ubi_writing.proofs.unpack.unpacked.Goals as goal

pub loop-listed-preserved : goal.loop-listed-preserved
loop-listed-preserved c =
    let e = c.listed-item.result in
    let i = c.loop-listed.listed-index in
    let es = c.entries-listed-items.result.now in
    let len : ℕ → Result ℕ ReadError = λ id. extent_len (extent_in c.args.places.now id) in
    let here : get_or es i e ≡ e = sym c.listed-item.is in
    let is : extent_len c.extent-extent.result ≡ len e.0 = ap extent_len c.extent-extent.ensures.value in
    record {
      text = c.in_ok-put_unpacked.ensures
          ∙ ap (λ (x : List ℕ). x ++ unpacked_line (extent_len c.extent-extent.result) e) c.loop-listed.invariant.text
          ∙ ap (λ (x : Result ℕ ReadError). unpacked_lines len (take i es) ++ unpacked_line x e) is ∙ sym (lines_more len es i e c.loop-listed-test.true here);
      status = c.status_with-status.ensures ∙ ap (λ (x : ℕ). cond (is_ok (extent_len c.extent-extent.result)) x 1) c.loop-listed.invariant.status
          ∙ ap (λ (x : Result ℕ ReadError). cond (is_ok x) (unpacked_status len (take i es)) 1) is ∙ sym (status_more len es i e c.loop-listed-test.true here);
    }
