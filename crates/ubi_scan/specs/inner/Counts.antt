-- What one more eraseblock adds to the numbers of all.
use Rattle.std.specs.Prelude.{ℕ, ◌==◌, if◌then◌else◌, option_and_then, unwrap_or}
use Rattle.std.specs.Option.{option_map_or}
use Rattle.ubi_media.specs.declared.ec.EcRead.{EcRead}
use Rattle.ubi_media.specs.declared.vid.VidRead.{VidRead}
use Rattle.ubi_scan.specs.Members.{header_if}
use Rattle.ubi_scan.specs.Numbers.{valid_ec, seq_if, sqnum_in_use}

-- the first of two image sequence numbers that isn't zero
abbrev pub first_seq : ℕ → ℕ → ℕ
first_seq known seq = if known == 0 then seq else known

-- what one more eraseblock adds to the number of carriers
abbrev pub carrier_if : EcRead → ℕ
carrier_if e = if seq_if e == 0 then 0 else 1

-- what one more eraseblock adds to the sum of the erase counters
abbrev pub counter_if : EcRead → ℕ
counter_if e = option_map_or (λ h. h.counter) (valid_ec e) 0

-- what one more eraseblock adds to the number of erase counters
abbrev pub counted_if : EcRead → ℕ
counted_if e = option_map_or (λ _. 1) (valid_ec e) 0

-- the sequence number of one more eraseblock, 0 if it has none that counts
abbrev pub sqnum_if : EcRead → VidRead → ℕ
sqnum_if e v = unwrap_or (option_and_then sqnum_in_use (header_if e v)) 0
