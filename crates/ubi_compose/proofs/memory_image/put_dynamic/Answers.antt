use Rattle.ubi_compose.proofs.Prelude.{◌≤◌, ◌++◌, ℕ, List, length, ap, ◌∙◌, subst, AllByRecursion, leb_size, laid_bytes, new_ec}
use Rattle.ubi_compose.proofs.Puts.{put_next}
use Rattle.ubi_compose.proofs.memory_image.put_dynamic.Goals as goal

pub put_block-requires : goal.put_block-requires
put_block-requires c =
    let fits : ℕ × List ℕ → Type 0 = λ e. length e.1 ≤ leb_size c.args.geometry.now in
    rw c.as_slice.ensures
    (subst (AllByRecursion fits) c.in-Some.ensures.steps c.loop-lnum.invariant.fit).0

pub loop-lnum-preserved : goal.loop-lnum-preserved
loop-lnum-preserved c =
    let s = c.args.geometry.now in
    let fits : ℕ × List ℕ → Type 0 = λ e. length e.1 ≤ leb_size s in
    record {
      steps = (tt, tt);
      fit = (subst (AllByRecursion fits) c.in-Some.ensures.steps c.loop-lnum.invariant.fit).1;
      all =
          put_next s c.args.image_seq c.args.data_pad c.args.vol_id c.in-Some.lnum.now c.in-Some.text.now _ _ _ c.plain-header.result
          c.loop-lnum.lnum-iterator c.next.new.self
          c.in-Some.ensures.steps c.plain-header.ensures
          (c.in_ok-put_block.ensures
          ∙ ap (λ t. c.loop-lnum.image.items ++ laid_bytes s (new_ec c.args.image_seq)
          (record { header = c.plain-header.result; text = t })) c.as_slice.ensures)
          c.loop-lnum.invariant.all;
    }
