use Rattle.ubi_volume.proofs.Prelude.{◌≡◌, ◌∙◌, ℕ, arith, length, refl, subst, blank, usable, blocks_of, AreGatheredLebs, AreKeptTexts}
use Rattle.ubi_volume.proofs.ContentAt.{front_usable}
use Rattle.ubi_volume.proofs.Dynamic.{gathered_blank, gathered_none, gathered_text, texts_blank, texts_more, texts_none}
use Rattle.ubi_volume.proofs.VolumeAt.{leb_reads}
use Rattle.ubi_volume.proofs.attached.dynamic_content.Goals as goal
use Rattle.ubi_volume.proofs.attached.dynamic_content.Goals.{else-branch, then-branch+in_ok-from_slice+in_ok-insert}

pub loop-lnum-init : goal.loop-lnum-init
loop-lnum-init g c =
    let s = c.args.geometry.now in
    rw c.new-lebs.ensures (record {
      source = refl;
      narrows = λ bytes holds. holds;
      texts = texts_none (usable s c.args.entry.now);
      gathered = λ bytes holds. gathered_none s (blocks_of s bytes) c.args.id c.args.entry.now;
    })

pub loop-lnum-preserved : goal.loop-lnum-preserved
loop-lnum-preserved g c =
    let s = c.args.geometry.now in
    let r = c.args.entry.now in
    let n = c.loop-lnum.lnum in
    let old = c.loop-lnum.invariant in
    let text = c.is_kept.new.text in
    let long : length c.loop-lnum.text ≡ usable s r = c.loop-lnum.auto.text
    ∙ front_usable s r c.usable.result c.args.buffer.now c.usable.ensures.value c.requires.room in
    elim c.if-branch.branch [
      | then-branch+in_ok-from_slice+in_ok-insert w ↦
          let same : w.new.result ≡ text = w.new.ensures ∙ w.in_ok-from_slice.ensures.items in
          let some = rw long at (c.in_ok-is_kept.ensures.some w.if-branch.true) in
          rw (w.lebs-is, w.in_ok-insert.ensures.ok, same) (record {
            source = c.in_ok-is_kept.ensures.known ∙ old.source;
            narrows = λ bytes holds. old.narrows bytes (c.in_ok-is_kept.ensures.narrows bytes holds);
            texts = texts_more (usable s r) n c.loop-lnum.lebs text old.texts (c.is_kept.auto.text ∙ long) some;
            gathered = λ bytes holds.
                let before = c.in_ok-is_kept.ensures.narrows bytes holds in
                let reads = leb_reads s c.args.places.now bytes (c.requires.places.held bytes (old.narrows bytes before))
                c.args.id r n _ c.place.result text long c.place.ensures
                (rw w.if-branch.true at (c.in_ok-is_kept.ensures.reads bytes holds)) in
                gathered_text s (blocks_of s bytes) c.args.id r n c.loop-lnum.lebs text (old.gathered bytes before) reads
                (c.is_kept.auto.text ∙ long) some;
          })
      | else-branch w ↦
          rw w.lebs-is (record {
            source = c.in_ok-is_kept.ensures.known ∙ old.source;
            narrows = λ bytes holds. old.narrows bytes (c.in_ok-is_kept.ensures.narrows bytes holds);
            texts = texts_blank (usable s r) n c.loop-lnum.lebs old.texts;
            gathered = λ bytes holds.
                let before = c.in_ok-is_kept.ensures.narrows bytes holds in
                let reads = leb_reads s c.args.places.now bytes (c.requires.places.held bytes (old.narrows bytes before))
                c.args.id r n _ c.place.result (blank (length c.loop-lnum.text)) long c.place.ensures
                (rw w.if-branch.false at (c.in_ok-is_kept.ensures.reads bytes holds)) in
                gathered_blank s (blocks_of s bytes) c.args.id r n c.loop-lnum.lebs (old.gathered bytes before)
                (rw long at reads);
          })
    ]

pub returns-clause-content : goal.returns-clause-content
returns-clause-content g c =
    let s = c.args.geometry.now in
    let r = c.args.entry.now in
    let old = c.loop-lnum.invariant in
    let all : c.loop-lnum.lnum ≡ r.reserved =
    (let end = c.loop-lnum.auto.lnum-end in let test = c.loop-lnum-test.false in omega (arith, end, test)) in
    let texts = subst (λ (n : ℕ). AreKeptTexts (usable s r) n c.loop-lnum.lebs) all old.texts in
    record {
      fits = (c.requires.unmarked, c.requires.kind, texts.fits);
      kept = texts.kept;
      reads = λ bytes holds. (
        c.requires.unmarked,
        c.requires.kind,
        (subst (λ (n : ℕ). AreGatheredLebs s (blocks_of s bytes) c.args.id r n c.loop-lnum.lebs) all
            (old.gathered bytes holds)).reads,
      );
    }
