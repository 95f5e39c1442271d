use Rattle.ubi_detect.proofs.Prelude.{◌≡◌, ◌∙◌, ◌+◌, ◌*◌, ◌/◌, ◌-◌, ◌≤◌, ℕ, ap, subst, sym, arith, length, div_ceil, All, min, heads_to, step, Source, AreGroups, IsWithin}
use Rattle.ubi_detect.proofs.MoreKeys.{keys_in_more}
use Rattle.ubi_detect.proofs.Surveyed.{all_windows, below_ceil, next_window, past_ceil}
use Rattle.ubi_detect.proofs.survey.read_groups.Goals as goal

pub loop-i-preserved : goal.loop-i-preserved
loop-i-preserved g c =
    let n = (g.S.BlockSource.known c.args.source.now).size in
    let size = ap (λ (k : Source). k.size) c.loop-i.invariant.source in
    let len = c.as_mut_slice.ensures.len ∙ c.loop-i.invariant.window in
    let at = c.loop-i.i * 65536 in
    let units = next_window c.loop-i.i n (below_ceil c.loop-i.i n (c.div_ceil-i-end.ensures ∙ ap (λ k. div_ceil k 65536) c.len.ensures) c.loop-i-test.true) in
    let count : min ((g.S.BlockSource.known c.loop-i.source).size - at) (length c.as_mut_slice.result.now) ≡ min (n - at) 65536 =
    ap (λ k. min (k - at) (length c.as_mut_slice.result.now)) size ∙ ap (min (n - at)) len in
    let next : at / step + min ((g.S.BlockSource.known c.loop-i.source).size - at) (length c.as_mut_slice.result.now) / step
    ≡ min ((c.loop-i.i + 1) * 1024) (n / step) = ap (λ k. at / step + k / step) count ∙ sym units.1 in
    let groups = rw c.if-not-branch.false at c.in_ok-add_window.ensures.groups in
    record {
      source = c.in_ok-add_window.ensures.source.known ∙ c.loop-i.invariant.source;
      narrows = λ bytes holds. c.loop-i.invariant.narrows bytes (c.in_ok-add_window.ensures.source.narrows bytes holds);
      groups = λ bytes holds.
          let P : ℕ → Type 0 = λ k. AreGroups (heads_to bytes k) c.add_window.new.groups.items in
          let Q : ℕ → Type 0 = λ k. AreGroups (heads_to bytes k) c.loop-i.groups.items in
          subst P next (groups bytes holds
          (subst Q units.0 (c.loop-i.invariant.groups bytes (c.in_ok-add_window.ensures.source.narrows bytes holds))));
      within = let P : ℕ → Type 0 = λ k. All (IsWithin k) c.add_window.new.groups.items in
          subst P next (c.in_ok-add_window.ensures.within c.if-not-branch.false);
      few = c.in_ok-add_window.ensures.few c.if-not-branch.false;
      window = c.loop-i.invariant.window;
    }

pub returns-then-not-branch-clause-groups : goal.returns-then-not-branch-clause-groups
returns-then-not-branch-clause-groups g c = λ bytes holds.
    let before = c.in_ok-add_window.ensures.source.narrows bytes holds in
    let n = (g.S.BlockSource.known c.args.source.now).size in
    let size = ap (λ (k : Source). k.size) c.loop-i.invariant.source in
    let sized : length bytes ≡ n = (g.met.S.BlockSource.sized c.args.source.now).sized bytes (c.loop-i.invariant.narrows bytes before) in
    let at = c.loop-i.i * 65536 in
    let below = below_ceil c.loop-i.i n (c.div_ceil-i-end.ensures ∙ ap (λ k. div_ceil k 65536) c.len.ensures) c.loop-i-test.true in
    let units = next_window c.loop-i.i n below in
    let many = rw c.if-not-branch.true at c.in_ok-add_window.ensures.groups in
    let Q : ℕ → Type 0 = λ k. AreGroups (heads_to bytes k) c.loop-i.groups.items in
    let named = many bytes holds (subst Q units.0 (c.loop-i.invariant.groups bytes before)) in
    let read = min ((g.S.BlockSource.known c.loop-i.source).size - at) (length c.as_mut_slice.result.now) in
    let inside : at / step + read / step ≤ length bytes / step = omega (arith, below, size, sized) in
    let more = keys_in_more bytes (at / step + read / step) (length bytes / step) inside in omega (arith, named, more)

pub returns-clause-groups : goal.returns-clause-groups
returns-clause-groups g c = λ bytes holds.
    let n = (g.S.BlockSource.known c.args.source.now).size in
    let done = past_ceil c.loop-i.i n (c.div_ceil-i-end.ensures ∙ ap (λ k. div_ceil k 65536) c.len.ensures) c.loop-i-test.false in
    let sized : length bytes ≡ n = (g.met.S.BlockSource.sized c.args.source.now).sized bytes (c.loop-i.invariant.narrows bytes holds) in
    let P : ℕ → Type 0 = λ k. AreGroups (heads_to bytes k) c.loop-i.groups.items in
    subst P (all_windows c.loop-i.i n done ∙ ap (λ k. k / step) (sym sized)) (c.loop-i.invariant.groups bytes holds)
