use Rattle.ubi_change.proofs.Prelude.{raised, ◌≤◌, List, Part, ◌≡◌, err_from_is_err_and, ◌+◌, ◌<◌, ◌^◌, refl, length, None, AllByRecursion, sym, ap, subst, ◌∙◌, arith, Source, states_avoiding, blocks_in, blocks_of, BothFit, FitsIn, FitsUpdate, IsPlanOf, IsUpdateFor, image_of, first_taken, first_beyond, all_layings, IsPartReadable, UpdatePlan, IsContentsError, IsSitesError, UpdateError, IsLaidFrom}
use Rattle.ubi_change.proofs.PlanBeside.{beside_is, never_in}
use Rattle.ubi_change.proofs.Touchable.{none_beyond}
use Rattle.ubi_change.proofs.UpdateKept.{contents_known, contents_unread_is, sites_are, sites_known, unbased_is, unbased_known, update_beside, update_is}
use Rattle.ubi_change.proofs.updating.plan_update_from.Goals as goal

pub layings_from-requires-clause-parts : goal.layings_from-requires-clause-parts
layings_from-requires-clause-parts g c =
    let s = c.args.geometry.now in
    let es = c.args.edits.now in
    let size = (g.T.BlockSource.known c.args.contents.now).size in
    let inside : first_beyond size es ≡ None =
    ap (λ n. first_beyond n es) (sym c.len.ensures) ∙ sym c.first_beyond.ensures ∙ c.in_default.is in
    let narrow : size < 2 ^ 64 = (let f = c.len.type_inv in omega (arith, c.len.ensures)) in
    subst (AllByRecursion (IsPartReadable s size)) (sym c.as_slice.ensures.value)
    (c.in_ok-surveyed.ensures.based.readable size narrow (none_beyond size es inside))

pub returns-clause-narrows : goal.returns-clause-narrows
returns-clause-narrows g c bytes held = c.in_ok-surveyed.ensures.narrows bytes (c.in_ok-sites.ensures.narrows bytes held)

pub returns-clause-fits : goal.returns-clause-fits
returns-clause-fits g c =
    let s = c.args.geometry.now in
    let known = g.S.BlockSource.known c.args.source.now in
    let is = c.in_ok-surveyed.ensures.based in
    let taken = c.in_ok-sites.ensures.taken in
    let sites = c.in_ok-sites.sites.items in
    let total = is.survey.count in
    let count : c.len-needs.result ≡ length c.in_ok-layings.layings.items = c.len-needs.ensures ∙ c.in_ok-layings.layings.ok.0 in
    subst (FitsUpdate s (g.T.BlockSource.known c.args.contents.now).size) (sym c.of-plan.ensures) (record {
      sound = c.peb_size.ensures.limits;
      sites = subst (λ n. AllByRecursion (FitsIn n) sites) (sym total)
          (subst (λ (k : Source). AllByRecursion (FitsIn (blocks_in s k)) sites) c.in_ok-surveyed.ensures.known taken.taken.fit);
      enough = let e = taken.enough in omega (arith, e, count);
      holders = subst (λ n. BothFit n c.in_ok-surveyed.field-0.ready.holders) (sym total) is.holders.fits;
      lie = c.in_ok-layings.ensures.lie;
      paged = is.pages.paged;
      short = is.pages.short;
      fit = is.pages.fit;
      bytes = is.pages.bytes;
      few = subst (λ n. (raised n c.in_ok-surveyed.field-0.surveyed.scan).top_sqnum + (length c.in_ok-layings.layings.items + 2) ≤ 0xFFFFFFFFFFFFFFFF)
          (sym c.above.ensures) (let f = taken.few in omega (arith, f, count));
    })

pub returns-clause-laid : goal.returns-clause-laid
returns-clause-laid g c bytes agreed =
    let s = c.args.geometry.now in
    subst (IsLaidFrom s bytes) (sym c.of-plan.ensures)
    (c.in_ok-layings.ensures.layings bytes agreed ∙ ap (all_layings s bytes) c.as_slice.ensures.value)

pub returns-clause-source : goal.returns-clause-source
returns-clause-source g c =
    let s = c.args.geometry.now in
    let is = c.in_ok-surveyed.ensures.based.survey in
    subst (IsPlanOf s (g.S.BlockSource.known c.args.source.now)) (sym c.of-plan.ensures) (record { whole = is.scan.whole; count = is.count })

pub returns-clause-plan : goal.returns-clause-plan
returns-clause-plan g c bytes held contents agreed =
    let s = c.args.geometry.now in
    let es = c.args.edits.now in
    let size = (g.T.BlockSource.known c.args.contents.now).size in
    let inside : first_beyond size es ≡ None =
    ap (λ n. first_beyond n es) (sym c.len.ensures) ∙ sym c.first_beyond.ensures ∙ c.in_default.is in
    let laid = c.in_ok-layings.ensures in
    let taken = c.in_ok-sites.ensures.taken in
    let count : c.len-needs.result ≡ length c.in_ok-layings.layings.items = c.len-needs.ensures ∙ c.in_ok-layings.layings.ok.0 in
    let agrees = g.S.BlockSource.agrees c.based_on.new.source in
    let read = c.in_ok-surveyed.field-0 in
    let p : UpdatePlan =
    (record {
      surveyed = read.surveyed;
      above = c.above.result;
      parts = read.ready.parts;
      layings = c.in_ok-layings.layings;
      sites = c.in_ok-sites.sites;
      holders = read.ready.holders;
      pages = read.ready.pages;
    }) in
    let sized = (g.met.T.BlockSource.sized c.layings_from.new.contents).sized contents agreed in
    subst (IsUpdateFor (image_of s bytes) c.args.avoided.now contents es) (sym c.of-plan.ensures)
    (update_is s c.peb_size.ensures.limits (g.S.BlockSource.known c.args.source.now) agrees c.args.avoided.now es c.in_ok-surveyed.field-0
    c.in_ok-surveyed.ensures.based bytes (c.in_ok-sites.ensures.narrows bytes held) contents size
    (sized ∙ ap (λ (k : Source). k.size) laid.known) inside p refl c.above.ensures refl refl refl
    (laid.layings contents agreed ∙ ap (all_layings s contents) c.as_slice.ensures.value)
    (taken.taken.held bytes held
    ∙ ap (λ n. first_taken s (blocks_of s bytes) (states_avoiding c.args.avoided.now c.in_ok-surveyed.field-0.surveyed.states) (n + 2)) count)
    (let e = taken.enough in omega (arith, e, count)) (let f = taken.few in omega (arith, f, count)))

pub returns-clause-beside : goal.returns-clause-beside
returns-clause-beside g c = beside_is c.args.avoided.now.marks c.of-plan.result (sym c.in-None.ensures)

pub returns-in-Some-listed-clause-refused : goal.returns-in-Some-listed-clause-refused
returns-in-Some-listed-clause-refused g c =
    let s = c.args.geometry.now in
    let is = c.in_ok-surveyed.ensures.based in
    let known = g.S.BlockSource.known c.args.source.now in (
      is.survey.scan.whole,
      λ bytes held. absurd (never_in c.args.avoided.now.marks c.of-plan.result
          (update_beside s known (g.S.BlockSource.agrees c.based_on.new.source) c.args.avoided.now c.args.edits.now c.in_ok-surveyed.field-0 is
          (g.S.BlockSource.agrees c.take_sites.new.source) c.in_ok-sites.ensures.narrows c.of-plan.result (c.len-needs.result + 2)
          (ap (λ (p : UpdatePlan). p.holders) c.of-plan.ensures)
          (λ bytes held. ap (λ (p : UpdatePlan). p.sites.items) c.of-plan.ensures ∙ c.in_ok-sites.ensures.taken.taken.held bytes held)
          bytes held)
          c.in-Some-listed.p (sym c.in-Some-listed.ensures)),
    )

pub returns-in_err-surveyed-clause-refused : goal.returns-in_err-surveyed-clause-refused
returns-in_err-surveyed-clause-refused g c =
    let from = err_from_is_err_and c.from_residual-in_err-surveyed.result c.from_residual-in_err-surveyed.ensures.1 in
    rw (from.1, from.2)
    (unbased_is c.args.geometry.now (g.S.BlockSource.known c.args.source.now) (g.S.BlockSource.agrees c.based_on.new.source)
    (g.T.BlockSource.known c.args.contents.now).size (g.T.BlockSource.failed_at c.args.contents.now) (g.T.BlockSource.agrees c.args.contents.now)
    c.args.avoided.now c.args.edits.now c.in_err-surveyed.field-0.0 c.in_err-surveyed.ensures.refused)

pub returns-in_err-layings-clause-refused : goal.returns-in_err-layings-clause-refused
returns-in_err-layings-clause-refused g c =
    let from = err_from_is_err_and c.from_residual-in_err-layings.result c.from_residual-in_err-layings.ensures.1 in
    let e : UpdateError = c.in_err-layings.field-0.0 in
    let at = g.T.BlockSource.failed_at c.layings_from.new.contents in
    rw (from.1, from.2)
    (contents_unread_is c.args.geometry.now (g.S.BlockSource.known c.args.source.now) (g.S.BlockSource.agrees c.based_on.new.source)
    c.args.avoided.now c.args.edits.now c.in_ok-surveyed.field-0 c.in_ok-surveyed.ensures.based
    (g.T.BlockSource.known c.args.contents.now).size at (g.T.BlockSource.agrees c.layings_from.new.contents) e
    (subst (λ (ps : List Part). IsContentsError ps at e) c.as_slice.ensures.value c.in_err-layings.ensures.refused))

pub returns-in_err-sites-clause-refused : goal.returns-in_err-sites-clause-refused
returns-in_err-sites-clause-refused g c =
    let s = c.args.geometry.now in
    let es = c.args.edits.now in
    let size = (g.T.BlockSource.known c.args.contents.now).size in
    let inside : first_beyond size es ≡ None =
    ap (λ n. first_beyond n es) (sym c.len.ensures) ∙ sym c.first_beyond.ensures ∙ c.in_default.is in
    let laid = c.in_ok-layings.ensures in
    let layings = c.in_ok-layings.layings in
    let count : c.len-needs.result ≡ length layings.items = c.len-needs.ensures ∙ layings.ok.0 in
    let read = c.in_ok-surveyed.field-0 in
    let now = g.S.BlockSource.agrees c.take_sites.new.source in
    let known = g.S.BlockSource.known c.args.source.now in
    let from = err_from_is_err_and c.from_residual-in_err-sites.result c.from_residual-in_err-sites.ensures.1 in
    let e : UpdateError = c.in_err-sites.field-0.0 in
    rw (from.1, from.2)
    (sites_are s known (g.S.BlockSource.agrees c.based_on.new.source) c.args.avoided.now es read c.in_ok-surveyed.ensures.based now
    c.in_err-sites.ensures.narrows size (g.T.BlockSource.failed_at c.layings_from.new.contents) (g.T.BlockSource.agrees c.layings_from.new.contents)
    (λ contents held. (g.met.T.BlockSource.sized c.layings_from.new.contents).sized contents held ∙ ap (λ (k : Source). k.size) laid.known)
    inside layings.items
    (λ contents held. laid.layings contents held ∙ ap (all_layings s contents) c.as_slice.ensures.value) e
    (subst (λ n. IsSitesError s known now c.args.avoided.now read.surveyed n e) (ap (λ n. n + 2) count)
    (subst (λ (k : Source). IsSitesError s k now c.args.avoided.now read.surveyed (c.len-needs.result + 2) e) c.in_ok-surveyed.ensures.known
    c.in_err-sites.ensures.refused)))

pub returns-in_err-surveyed-clause-known_contents : goal.returns-in_err-surveyed-clause-known_contents
returns-in_err-surveyed-clause-known_contents g c =
    let from = err_from_is_err_and c.from_residual-in_err-surveyed.result c.from_residual-in_err-surveyed.ensures.1 in
    rw (from.1, from.2)
    (sym (unbased_known c.args.geometry.now (g.S.BlockSource.known c.args.source.now) (g.S.BlockSource.agrees c.based_on.new.source)
    c.args.avoided.now c.args.edits.now (g.T.BlockSource.known c.args.contents.now) c.in_err-surveyed.field-0.0 c.in_err-surveyed.ensures.refused))

pub returns-in_err-layings-clause-known_contents : goal.returns-in_err-layings-clause-known_contents
returns-in_err-layings-clause-known_contents g c =
    let from = err_from_is_err_and c.from_residual-in_err-layings.result c.from_residual-in_err-layings.ensures.1 in
    rw (from.1, from.2)
    (c.in_err-layings.ensures.known
    ∙ sym (contents_known (g.T.BlockSource.known c.args.contents.now) _ _ c.in_err-layings.field-0.0 c.in_err-layings.ensures.refused))

pub returns-in_err-sites-clause-known_contents : goal.returns-in_err-sites-clause-known_contents
returns-in_err-sites-clause-known_contents g c =
    let from = err_from_is_err_and c.from_residual-in_err-sites.result c.from_residual-in_err-sites.ensures.1 in
    rw (from.1, from.2)
    (c.in_ok-layings.ensures.known
    ∙ sym (sites_known c.args.geometry.now (g.S.BlockSource.known c.based_on.new.source) (g.S.BlockSource.agrees c.take_sites.new.source) c.args.avoided.now c.in_ok-surveyed.field-0.surveyed
    (c.len-needs.result + 2) (g.T.BlockSource.known c.args.contents.now) c.in_err-sites.field-0.0 c.in_err-sites.ensures.refused))
