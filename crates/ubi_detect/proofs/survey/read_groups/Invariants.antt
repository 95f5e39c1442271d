use Rattle.ubi_detect.proofs.Prelude.{◌≡◌, ◌*◌, ◌/◌, ◌≤◌, vec_len, All, min, heads_to, step, Narrows, WhereHeld, AreGroups, IsWithin}
use Rattle.ubi_detect.proofs.survey.read_groups.Given as goal

-- the headers of the first windows are among the groups
abbrev pub invariant-loop-i : goal.invariant-loop-i
invariant-loop-i g l = record {
  source : g.S.BlockSource.known l.source ≡ g.S.BlockSource.known l.fn.source;
  narrows : Narrows (g.S.BlockSource.agrees l.fn.source) (g.S.BlockSource.agrees l.source);
  groups : WhereHeld (g.S.BlockSource.agrees l.source) (λ bytes.
      AreGroups (heads_to bytes (min (l.i * 1024) ((g.S.BlockSource.known l.fn.source).size / step))) l.groups.items);
  within : All (IsWithin (min (l.i * 1024) ((g.S.BlockSource.known l.fn.source).size / step))) l.groups.items;
  few : vec_len l.groups ≤ 256;
  window : vec_len l.window ≡ 65536;
}
