use Rattle.ubi_volume.proofs.Prelude.{◌≡◌, ◌∙◌, ℕ, arith, false, length, refl, subst, sym, true, blank, is_blank, usable, blocks_of, leb_bytes, AreKeptLebs}
use Rattle.ubi_volume.proofs.AmountAt.{none_kept, none_more, one_kept}
use Rattle.ubi_volume.proofs.Blanks.{blank_text, not_false, not_true, other_text}
use Rattle.ubi_volume.proofs.ContentAt.{front_usable}
use Rattle.ubi_volume.proofs.VolumeAt.{leb_reads}
use Rattle.ubi_volume.proofs.block.count_kept.Goals as goal
use Rattle.ubi_volume.proofs.block.count_kept.Goals.{else-branch, then-branch}

pub loop-lnum-init : goal.loop-lnum-init
loop-lnum-init g c = record {
  source = refl;
  narrows = λ bytes holds. holds;
  kept = λ bytes holds. none_kept c.args.geometry.now (blocks_of c.args.geometry.now bytes) c.args.id c.args.entry.now;
  few = omega arith;
}

pub loop-lnum-preserved : goal.loop-lnum-preserved
loop-lnum-preserved g c =
    let s = c.args.geometry.now in
    let r = c.args.entry.now in
    let n = c.loop-lnum.lnum in
    let still = c.loop-lnum.invariant.source in
    let long : length c.loop-lnum.text ≡ usable s r = c.loop-lnum.auto.text
    ∙ front_usable s r c.usable.result c.args.buffer.now c.usable.ensures.value c.requires.room in
    elim c.if-branch.branch [
      | then-branch w ↦ record {
        source = c.in_ok-holds_bytes.ensures.known ∙ still;
        narrows = λ bytes holds. c.loop-lnum.invariant.narrows bytes (c.in_ok-holds_bytes.ensures.narrows bytes holds);
        kept = λ bytes holds.
            let before = c.in_ok-holds_bytes.ensures.narrows bytes holds in
            let places = c.requires.places.held bytes (c.loop-lnum.invariant.narrows bytes before) in
            let text = leb_bytes s (length c.loop-lnum.text) c.place.result bytes in
            let reads = leb_reads s c.args.places.now bytes places c.args.id r n _ c.place.result text long
            c.place.ensures refl in
            let some : is_blank text ≡ false = not_true (is_blank text)
            (sym w.if-branch.true ∙ c.in_ok-holds_bytes.ensures.holds bytes holds) in
            rw w.count-is (one_kept s (blocks_of s bytes) c.args.id r n c.loop-lnum.count text
            (c.loop-lnum.invariant.kept bytes before) reads (c.in_ok-holds_bytes.ensures.long bytes holds ∙ long)
            (other_text text (usable s r) some));
        few = (let few = c.loop-lnum.invariant.few in omega (arith, few, w.count-is));
      }
      | else-branch w ↦ record {
        source = c.in_ok-holds_bytes.ensures.known ∙ still;
        narrows = λ bytes holds. c.loop-lnum.invariant.narrows bytes (c.in_ok-holds_bytes.ensures.narrows bytes holds);
        kept = λ bytes holds.
            let before = c.in_ok-holds_bytes.ensures.narrows bytes holds in
            let places = c.requires.places.held bytes (c.loop-lnum.invariant.narrows bytes before) in
            let text = leb_bytes s (length c.loop-lnum.text) c.place.result bytes in
            let none : is_blank text ≡ true = not_false (is_blank text)
            (sym w.if-branch.false ∙ c.in_ok-holds_bytes.ensures.holds bytes holds) in
            let reads = leb_reads s c.args.places.now bytes places c.args.id r n _ c.place.result
            (blank (length c.loop-lnum.text)) long
            c.place.ensures (blank_text text _ none (c.in_ok-holds_bytes.ensures.long bytes holds)) in
            rw w.count-is (none_more s (blocks_of s bytes) c.args.id r n c.loop-lnum.count
            (c.loop-lnum.invariant.kept bytes before) (rw long at reads));
        few = (let few = c.loop-lnum.invariant.few in omega (arith, few, w.count-is));
      }
    ]

pub returns-clause-count : goal.returns-clause-count
returns-clause-count g c = λ bytes holds.
    let s = c.args.geometry.now in
    let all : c.loop-lnum.lnum ≡ c.args.entry.now.reserved =
    (let end = c.loop-lnum.auto.lnum-end in let test = c.loop-lnum-test.false in omega (arith, end, test)) in
    subst (λ (n : ℕ). AreKeptLebs s (blocks_of s bytes) c.args.id c.args.entry.now n c.loop-lnum.count) all
    (c.loop-lnum.invariant.kept bytes holds)
