use Rattle.ubi_files.proofs.Prelude.{◌≡◌, ◌∙◌, ◌+◌, ◌++◌, ◌*◌, ◌<◌, blank, min, ap, ap₂, rules, sym, ℕ, Sizes, as_read, sizes_of, unfit_whole, misfit, pages_of, FilePart}
use Rattle.ubi_files.proofs.Tells.{Tells-weaker}
use Rattle.ubi_files.proofs.SeenBytes.{judged_seen, length-whole}
use Rattle.ubi_files.proofs.whole_dump.image_of.Goals as goal

pub returns-in-Some-clause-unread : goal.returns-in-Some-clause-unread
returns-in-Some-clause-unread c = λ d path read.
    let frame = c.args.frame.now in
    let n = c.args.read.len in
    let page = c.page.ensures.value ∙ ap (λ (s : Sizes). s.page) frame.sizes in
    let fits : misfit c.part_read-part.result c.page.result frame.dump.oob n
    ≡ misfit (as_read frame.dump).part (sizes_of frame.dump.numbers).page frame.dump.oob n =
    ap₂ (λ (part : FilePart) (p : ℕ). misfit part p frame.dump.oob n) c.part_read-part.ensures page in
    Tells-weaker _ _ (λ o h. unfit_whole n c.in-Some.misfit frame.limits read.len (sym fits ∙ sym c.in-Some.ensures) h)
    c.unseen.result c.unseen.ensures

pub returns-clause-read : goal.returns-clause-read
returns-clause-read c =
    let frame = c.args.frame.now in
    record {
      limits = frame.limits;
      few =
          let s = sizes_of frame.dump.numbers in
          let device = s.pebs * s.peb_size in
          rw (c.in_ok-bytes.ensures, frame.sizes)
          (length-whole s.peb_size device frame.marks.items
          (blank (min (frame.before * s.peb_size) (device + 1)) ++ pages_of s.page frame.dump.oob c.args.read.bytes.items));
    }

pub returns-clause-named : goal.returns-clause-named
returns-clause-named c = λ d path read.
    let frame = c.args.frame.now in
    let some : 0 < c.page.result = search rules in
    let page = c.page.ensures.value ∙ ap (λ (s : Sizes). s.page) frame.sizes in
    judged_seen frame.dump (d.holds path) c.args.read.bytes.items c.in_ok-bytes.bytes.items (rw page at some)
    (rw (frame.sizes, frame.marked, frame.led) at c.in_ok-bytes.ensures) read.bytes
