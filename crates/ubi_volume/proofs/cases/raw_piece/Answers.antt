use Rattle.ubi_volume.proofs.Prelude.{◌≡◌, ◌≤◌, ◌∙◌, length, length-take-le, slice_range, take, ap, sym, arith, min, leb_size, block, leb, blocks_of, ℕ, ◌++◌, List, drop, subst, Some, take-append_seam, RawIs}
use Rattle.ubi_volume.proofs.CaseSizes.{held_checked, held_unchecked}
use Rattle.ubi_volume.proofs.cases.raw_piece.Goals as goal

pub returns-then-header-used-clause-held : goal.returns-then-header-used-clause-held
returns-then-header-used-clause-held g c = λ bytes holds.
    let s = c.args.geometry.now in
    let h = c.in-Some-2.header in
    let b = leb s (block (blocks_of s bytes) c.in-Some.p) in
    let n = c.min-size.result in
    let text = c.read_leb.new.out in
    let before = c.in_ok-read_leb.ensures.narrows bytes holds in
    let first = c.in_ok-header.ensures.narrows bytes before in
    let least : n ≡ min h.data_size (leb_size s) = c.min-size.ensures ∙ ap (min h.data_size) c.leb_size.ensures.value in
    let room : n ≤ length c.read_member.new.buffer = omega arith in
    let size : length (take n c.read_member.new.buffer) ≡ n = length-take-le n c.read_member.new.buffer room in
    let read = c.in_ok-read_leb.ensures.bytes bytes holds ∙ ap (slice_range b 0) (size ∙ least) in
    let long : length text ≡ n = c.read_leb.auto.out ∙ size in
    let front : text ≡ take n (text ++ drop n c.read_member.new.buffer) =
    sym (ap (λ k. take k (text ++ drop n c.read_member.new.buffer)) (sym long)
    ∙ take-append_seam text (drop n c.read_member.new.buffer)) in
    let scanned = c.requires.scan.held bytes first in
    let member = sym c.in-Some-2.is ∙ c.in_ok-header.ensures.member bytes before in
    subst (λ (x : List ℕ). RawIs s (blocks_of s bytes) c.args.id c.args.used c.args.lnum (Some (x, h.data_crc))) front (
      held_checked s bytes c.args.scan.now scanned c.args.id c.args.lnum c.in-Some.p (sym c.in-Some.ensures) c.args.used h member
          text n long read c.if-header-used.true,
      λ other. held_unchecked s bytes c.args.scan.now scanned
          c.args.id c.args.lnum c.in-Some.p (sym c.in-Some.ensures) c.args.used h member text n long read (λ both. other both.1),
    )

pub returns-else-header-used-clause-held : goal.returns-else-header-used-clause-held
returns-else-header-used-clause-held g c = λ bytes holds.
    let s = c.args.geometry.now in
    let h = c.in-Some-2.header in
    let b = leb s (block (blocks_of s bytes) c.in-Some.p) in
    let before = c.in_ok-read_leb.ensures.narrows bytes holds in
    let first = c.in_ok-header.ensures.narrows bytes before in
    let least : c.min-size.result ≡ min h.data_size (leb_size s) = c.min-size.ensures
    ∙ ap (min h.data_size) c.leb_size.ensures.value in
    let room : c.min-size.result ≤ length c.read_member.new.buffer = omega arith in
    let size : length (take c.min-size.result c.read_member.new.buffer) ≡ c.min-size.result =
    length-take-le c.min-size.result c.read_member.new.buffer room in
    let read = c.in_ok-read_leb.ensures.bytes bytes holds ∙ ap (slice_range b 0) (size ∙ least) in
    held_unchecked s bytes c.args.scan.now
    (c.requires.scan.held bytes first) c.args.id c.args.lnum c.in-Some.p (sym c.in-Some.ensures) c.args.used h
    (sym c.in-Some-2.is ∙ c.in_ok-header.ensures.member bytes before) c.read_leb.new.out c.min-size.result
    (c.read_leb.auto.out ∙ size) read (λ both. c.if-header-used.false both.0)
