-- A source for tests: what it holds, where it fails, and what it has counted.
use Rattle.std.specs.Prelude.{◌≡◌, ℕ, ◌+◌, ◌-◌, ◌/◌, ◌%◌, ◌^◌, ◌==◌, Bool, nat_le, nat_lt, List, [], if◌then◌else◌, Some, length, min, refl, slice_index, slice_set}
use Rattle.std.specs.Coded.{Coded, code_by, coded×, coded_ℕ, coded_list}
use Rattle.std.proofs.Common.{ap}
use Rattle.ubi_scan.specs.Source.{IsSource, Reads, Source, holds}

-- its bytes, the size and the data offset of its eraseblocks, the read that fails (0 for none), how many reads were made and
-- failed, where the last failed read began, and how many reads began in each eraseblock, began in the data of each, and went
-- beyond the eraseblock in which they began
pub record Probed : Type 0 where
  pub bytes : List ℕ
  pub peb_size : ℕ
  pub data_offset : ℕ
  pub fail_at : ℕ
  pub made : ℕ
  pub failures : ℕ
  pub failed_at : ℕ
  pub reads : List ℕ
  pub data_reads : List ℕ
  pub crossing : ℕ

-- how a source for tests is stored
abbrev pub probed_code : Coded Probed
probed_code =
    code_by (List ℕ × (ℕ × (ℕ × (ℕ × (ℕ × (ℕ × (ℕ × (List ℕ × (List ℕ × ℕ)))))))))
    (coded× (coded_list coded_ℕ) (coded× coded_ℕ (coded× coded_ℕ (coded× coded_ℕ (coded× coded_ℕ (coded× coded_ℕ (coded× coded_ℕ (coded× (coded_list coded_ℕ) (coded× (coded_list coded_ℕ) coded_ℕ)))))))))
    (λ p. (p.bytes, (p.peb_size, (p.data_offset, (p.fail_at, (p.made, (p.failures, (p.failed_at, (p.reads, (p.data_reads, p.crossing))))))))))
    (λ t. record {
      bytes = t.0;
      peb_size = t.1.0;
      data_offset = t.1.1.0;
      fail_at = t.1.1.1.0;
      made = t.1.1.1.1.0;
      failures = t.1.1.1.1.1.0;
      failed_at = t.1.1.1.1.1.1.0;
      reads = t.1.1.1.1.1.1.1.0;
      data_reads = t.1.1.1.1.1.1.1.1.0;
      crossing = t.1.1.1.1.1.1.1.1.1;
    })
    (λ _. refl)

-- one more, up to the greatest number of 64 bits
abbrev pub next : ℕ → ℕ
next n = min (n + 1) (2 ^ 64 - 1)

-- one more at a place
abbrev pub bumped : List ℕ → ℕ → List ℕ
bumped counts i = slice_set counts i (next (slice_index counts i))

-- one more at a place, if something holds
abbrev pub bumped_if : Bool → List ℕ → ℕ → List ℕ
bumped_if b counts i = if b then bumped counts i else counts

-- one more, if something holds
abbrev pub next_if : Bool → ℕ → ℕ
next_if b n = if b then next n else n

-- what is known of a source for tests
abbrev pub probe_source : Probed → Source
probe_source p = record { size = length p.bytes; failures = p.failures; held = Some p.bytes }

-- the reads that it notes: none, since it promises its bytes
abbrev pub no_reads : Probed → Reads
no_reads p = []

-- what it holds is as long as its size
pub probe_sized : (p : Probed) → IsSource (probe_source p) (holds p.bytes)
probe_sized p = record { sized = λ held is. ap length is }

-- what changes by a read of n bytes from a place on
pub record IsCounted (old new : Probed) (at n : ℕ) : Type 0 where
  pub made : new.made ≡ next old.made
  pub failures : new.failures ≡ next_if (next old.made == old.fail_at) old.failures
  pub reads : new.reads ≡ bumped old.reads (at / old.peb_size)
  pub data_reads : new.data_reads ≡ bumped_if (nat_le old.data_offset (at % old.peb_size)) old.data_reads (at / old.peb_size)
  pub crossing : new.crossing ≡ next_if (nat_lt old.peb_size (at % old.peb_size + n)) old.crossing

-- what a read leaves as it was
pub record IsSameProbe (old new : Probed) : Type 0 where
  pub bytes : new.bytes ≡ old.bytes
  pub peb_size : new.peb_size ≡ old.peb_size
  pub data_offset : new.data_offset ≡ old.data_offset
  pub fail_at : new.fail_at ≡ old.fail_at
