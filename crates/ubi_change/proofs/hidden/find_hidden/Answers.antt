use Rattle.ubi_change.proofs.Prelude.{count_blocks, ◌+◌, ◌/◌, ◌≡◌, ◌<◌, length, Source, map, ap₂, List, [], ◌∙◌, ◌∷◌, ℕ, ap, sym, subst, arith, blocks_of, listed_header, listed_end_of, listed_top_of, end_named, sqnum_named, slots, max, min, range_with_len, fold-append, map-range_with_len_more, Hidden, get_or-map-range_with_len, length-map-range_with_len, same_number_lists}
use Rattle.std.specs.List.{fold}
use Rattle.ubi_change.proofs.hidden.find_hidden.Goals as goal

-- one number more
more : (f : ℕ → ℕ) (n : ℕ) → max (fold max 0 (map f (range_with_len 0 n))) (f n) ≡ fold max 0 (map f (range_with_len 0 (n + 1)))
more f n = sym (ap (fold max 0) (map-range_with_len_more f 0 n n (omega arith)) ∙ fold-append max 0 (map f (range_with_len 0 n)) (f n ∷ []))

pub loop-p-preserved : goal.loop-p-preserved
loop-p-preserved g c =
    let s = c.args.geometry.now in
    let marks = c.args.marks.now in
    let n = c.loop-p.p in
    record {
      known = c.in_ok-header.ensures.known ∙ c.loop-p.invariant.known;
      narrows = λ x xs. c.loop-p.invariant.narrows x (c.in_ok-header.ensures.narrows x xs);
      above = λ x xs.
          c.max-above.ensures
          ∙ ap₂ (λ (a b : ℕ). max a b) (c.loop-p.invariant.above x (c.in_ok-header.ensures.narrows x xs))
          (c.sqnum_named.ensures ∙ ap sqnum_named (c.in_ok-header.ensures.header x xs))
          ∙ more (λ p. sqnum_named (listed_header s (blocks_of s x) marks p)) n;
      count = c.raise.ensures.count ∙ c.loop-p.invariant.count;
      ends = λ x xs vol inside.
          (let was : vol < length c.loop-p.ends.items = subst (λ k. vol < k) c.raise.ensures.count inside in
          c.raise.ensures.each vol was
          ∙ ap₂ (λ (a b : ℕ). max a b) (c.loop-p.invariant.ends x (c.in_ok-header.ensures.narrows x xs) vol was)
          (ap (end_named vol) (c.in_ok-header.ensures.header x xs))
          ∙ more (λ p. end_named vol (listed_header s (blocks_of s x) marks p)) n);
    }

pub returns-clause-hidden : goal.returns-clause-hidden
returns-clause-hidden g c bytes held =
    let s = c.args.geometry.now in
    let marks = c.args.marks.now in
    let k = g.S.BlockSource.known c.args.source.now in
    let now = c.loop-p.source in
    let blocks : length (blocks_of s bytes) ≡ k.size / s.peb_size =
    count_blocks s (g.S.BlockSource.known now) (g.S.BlockSource.agrees now) bytes (g.met.S.BlockSource.sized now) held
    ∙ ap (λ (k : Source). k.size / s.peb_size) c.loop-p.invariant.known in
    let count : c.min-count.result ≡ min (length (blocks_of s bytes)) s.pebs =
    c.min-count.ensures
    ∙ ap₂ (λ (a b : ℕ). min a b)
    (ap₂ (λ (a b : ℕ). a / b) c.len.ensures (c.from.ensures ∙ c.peb_size-2.ensures.value) ∙ sym blocks) (c.from-2.ensures ∙ c.pebs.ensures.value) in
    let end : c.loop-p.p ≡ c.min-count.result = (let a = c.loop-p-test.false in let b = c.loop-p.auto.p-end in omega arith) in
    let all = end ∙ count in
    let end_of = listed_end_of s (blocks_of s bytes) marks (min (length (blocks_of s bytes)) s.pebs) in
    let same : c.loop-p.ends.items ≡ map end_of (range_with_len 0 (slots s)) =
    same_number_lists c.loop-p.ends.items (map end_of (range_with_len 0 (slots s)))
    (c.loop-p.invariant.count ∙ sym (length-map-range_with_len end_of 0 (slots s)))
    (λ vol inside.
    c.loop-p.invariant.ends bytes held vol inside
    ∙ ap (λ n. listed_end_of s (blocks_of s bytes) marks n vol) all
    ∙ sym (get_or-map-range_with_len end_of 0 (slots s) vol vol 0 (subst (λ n. vol < n) c.loop-p.invariant.count inside) (omega arith))) in
    ap₂ {C = Hidden} (λ (n : ℕ) (ends : List ℕ). record { above = n; ends = ends })
    (c.loop-p.invariant.above bytes held ∙ ap (listed_top_of s (blocks_of s bytes) marks) all) same
