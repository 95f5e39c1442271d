-- What a window of bytes that were read ahead holds.
use Rattle.std.specs.Prelude.{◌≡◌, ℕ, ◌+◌, ◌-◌, ◌≤◌, List, length, slice_range}
use Rattle.ubi_scan.specs.declared.window.Window.{Window}

-- bytes stand in the window, from a place of the file on: all of them were read
pub record HoldsAt (w : Window) (at : ℕ) (out : List ℕ) : Type 0 where
  pub from : w.start ≤ at
  pub read : at - w.start + length out ≤ w.filled
  pub bytes : out ≡ slice_range w.bytes (at - w.start) (at - w.start + length out)
