use Rattle.ubi_change.proofs.Prelude.{◌≡◌, ◌∙◌, length, sym, subst, ap, arith, IfSome, Source, blocks_in, blocks_of, count_blocks, IsSurveyOf, FitsIn, Site, states_avoiding, survey_narrowed}
use Rattle.ubi_change.proofs.FirstTakeable.{all_fit, more_few, more_fit, parted_all, parted_enough, parted_same, parted_some}
use Rattle.ubi_change.proofs.takeable.first_takeable.Goals as goal
use Rattle.ubi_change.proofs.takeable.first_takeable.Goals.{in-Some+in_ok-add, in_default}

pub takeable_site-requires-clause-survey : goal.takeable_site-requires-clause-survey
takeable_site-requires-clause-survey g c =
    let s = c.args.geometry.now in
    let agrees = g.S.BlockSource.agrees c.loop-p.source in
    subst (λ (k : Source). IsSurveyOf s k agrees c.args.surveyed.now) (sym c.loop-p.invariant.source)
    (survey_narrowed s _ _ agrees c.args.surveyed.now c.loop-p.invariant.narrows c.requires.survey)

pub loop-p-preserved : goal.loop-p-preserved
loop-p-preserved g c =
    let s = c.args.geometry.now in
    let most = c.args.most in
    let n = blocks_in s (g.S.BlockSource.known c.args.source.now) in
    let states = states_avoiding c.args.avoided.now c.args.surveyed.now.states in
    let clean = c.loop-p.parted.clean.items in
    let other = c.loop-p.parted.other.items in
    let found = c.in_ok-site.field-0 in
    let fits : IfSome found (FitsIn n) =
    subst (λ n. IfSome found (FitsIn n)) (ap (blocks_in s) c.loop-p.invariant.source) c.in_ok-site.ensures.fits in
    elim c.match-branch-3.branch [
      | in-Some+in_ok-add w ↦
          let t : Site = w.in-Some.site in
          record {
            source = c.in_ok-site.ensures.known ∙ c.loop-p.invariant.source;
            narrows = λ bytes holds. c.loop-p.invariant.narrows bytes (c.in_ok-site.ensures.narrows bytes holds);
            few = rw (w.parted-is, w.in_ok-add.ensures.clean) (more_few most clean t t.is_clean c.loop-p.invariant.few);
            fits = rw (w.parted-is, w.in_ok-add.ensures.clean, w.in_ok-add.ensures.other)
                (more_fit n most clean other t c.loop-p.invariant.fits (subst (λ o. IfSome o (FitsIn n)) w.in-Some.is fits));
            parted = λ bytes holds. rw (w.parted-is, w.in_ok-add.ensures.clean, w.in_ok-add.ensures.other)
                (parted_some s (blocks_of s bytes) states most c.loop-p.p clean other
                (c.loop-p.invariant.parted bytes (c.in_ok-site.ensures.narrows bytes holds)) t
                (sym w.in-Some.is ∙ c.in_ok-site.ensures.takeable bytes holds));
          }
      | in_default w ↦ record {
        source = c.in_ok-site.ensures.known ∙ c.loop-p.invariant.source;
        narrows = λ bytes holds. c.loop-p.invariant.narrows bytes (c.in_ok-site.ensures.narrows bytes holds);
        few = rw w.parted-is c.loop-p.invariant.few;
        fits = rw w.parted-is c.loop-p.invariant.fits;
        parted = λ bytes holds. rw w.parted-is
            (parted_same s (blocks_of s bytes) states most c.loop-p.p clean other
            (c.loop-p.invariant.parted bytes (c.in_ok-site.ensures.narrows bytes holds))
            (sym w.in_default.is ∙ c.in_ok-site.ensures.takeable bytes holds));
      }
    ]

pub returns-then-len-most-clause-taken : goal.returns-then-len-most-clause-taken
returns-then-len-most-clause-taken g c =
    let s = c.args.geometry.now in
    let known : Source = g.S.BlockSource.known c.args.source.now in
    let n = blocks_in s known in
    let states = states_avoiding c.args.avoided.now c.args.surveyed.now.states in
    let clean = c.loop-p.parted.clean.items in
    let other = c.loop-p.parted.other.items in
    record {
      fit = rw c.in_ok-all.ensures (all_fit n c.args.most clean other c.loop-p.invariant.fits);
      held = λ bytes holds.
          let bs = blocks_of s bytes in
          let count : length bs ≡ n = count_blocks s known (g.S.BlockSource.agrees c.args.source.now) bytes
          (g.met.S.BlockSource.sized c.args.source.now) (c.loop-p.invariant.narrows bytes holds) in
          c.in_ok-all.ensures
          ∙ parted_enough s bs states c.args.most c.loop-p.p
          (omega (arith, c.requires.survey.count, c.loop-p-test.true, ap length c.states-count.ensures, count)) clean other
          (c.loop-p.invariant.parted bytes holds)
          (let e = c.loop-p.parted.clean.ok.0 in omega (arith, e, c.len.ensures, c.if-len-most.true));
    }

pub returns-clause-taken : goal.returns-clause-taken
returns-clause-taken g c =
    let s = c.args.geometry.now in
    let known : Source = g.S.BlockSource.known c.args.source.now in
    let n = blocks_in s known in
    let states = states_avoiding c.args.avoided.now c.args.surveyed.now.states in
    let clean = c.loop-p.parted.clean.items in
    let other = c.loop-p.parted.other.items in
    let all : c.loop-p.p ≡ n = omega (arith, c.requires.survey.count, c.loop-p.auto.p-end, c.loop-p-test.false, ap length c.states-count.ensures) in
    record {
      fit = rw c.in_ok-all-2.ensures (all_fit n c.args.most clean other c.loop-p.invariant.fits);
      held = λ bytes holds.
          let bs = blocks_of s bytes in
          let count : length bs ≡ n = count_blocks s known (g.S.BlockSource.agrees c.args.source.now) bytes
          (g.met.S.BlockSource.sized c.args.source.now) (c.loop-p.invariant.narrows bytes holds) in
          c.in_ok-all-2.ensures
          ∙ parted_all s bs states c.args.most clean other (rw (count, ← all) (c.loop-p.invariant.parted bytes holds));
    }
