use Rattle.ubi_config.proofs.Prelude.{◌≡◌, ◌-◌, ◌≤◌, length, take, suffix_len, is_space}
use Rattle.ubi_config.proofs.words.trimmed_end.Given as goal

abbrev pub invariant-loop-end : goal.invariant-loop-end
invariant-loop-end l = record {
  within : l.end ≤ length l.bytes;
  value : take (l.end - suffix_len is_space (take l.end l.bytes)) l.bytes
      ≡ take (length l.bytes - suffix_len is_space l.bytes) l.bytes;
}

abbrev pub decreases-loop-end : goal.decreases-loop-end
decreases-loop-end l = l.end
