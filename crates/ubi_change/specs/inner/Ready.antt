-- What edits write, and the eraseblocks that are taken for it.
use Rattle.std.specs.Prelude.{◌≡◌, ℕ, ◌+◌, ◌<◌, ◌≤◌, Bool, List, length, Option, Some, None, IsSome}
use Rattle.ubi_media.specs.Geometry.{Sizes}
use Rattle.ubi_scan.specs.Source.{Agreed, Source, WhereHeld, blocks_in, blocks_of}
use Rattle.ubi_table.specs.Records.{AreRecords, Records}
use Rattle.ubi_volume.specs.Survey.{Seen}
use Rattle.ubi_change.specs.Avoided.{Avoided, raised, states_avoiding}
use Rattle.ubi_change.specs.RenamePlan.{table_pages}
use Rattle.ubi_change.specs.Takeable.{takeable}
use Rattle.ubi_change.specs.Weak.{weak_pages}
use Rattle.ubi_change.specs.inner.Judging.{IsJudged, IsUnjudged}
use Rattle.ubi_change.specs.inner.Taking.{AreTaken}
use Rattle.ubi_change.specs.declared.copies.Holders.{Holders}
use Rattle.ubi_change.specs.declared.edit.Edit.{Edit}
use Rattle.ubi_change.specs.declared.errors.UpdateError.{UpdateError}
use Rattle.ubi_change.specs.declared.errors.UpdateError.TheVariants as error
use Rattle.ubi_change.specs.declared.errors.UpdateRefusal.{UpdateRefusal}
use Rattle.ubi_change.specs.declared.errors.UpdateRefusal.TheVariants as refusal
use Rattle.ubi_change.specs.declared.judging.Judged.{Judged}
use Rattle.ubi_change.specs.declared.written_out.Ready.{Ready}
use Rattle.ubi_change.specs.declared.sites.Site.{Site}

module _ (s : Sizes) (seen : Seen) (ends : List ℕ) (wholes : List Bool) (holders : Option Holders) (es : List Edit) (room : ℕ) where
  -- no cause applies up to the CRC of the new table, and this is what the edits write
  pub record IsReady (r : Ready) : Type 0 where
    pub table : Records
    pub judged : IsJudged s seen ends wholes es room (record { table = table; parts = r.parts })
    pub records : AreRecords table
    pub pages : r.pages.items ≡ table_pages s table
    pub both : holders ≡ Some r.holders
    pub strong : weak_pages s r.pages.items ≡ None

  -- why they write nothing: a cause that the records and the members say; or none does, and the copies of the table aren't both good, or
  -- the CRC of the new table doesn't show each cut; or memory ran out
  abbrev pub IsUnready : UpdateRefusal → Type 0
  IsUnready refusal.NeedsRepair = (j : Judged) × IsJudged s seen ends wholes es room j × (holders ≡ None)
  IsUnready (refusal.WeakCheck k) =
      (j : Judged) × IsJudged s seen ends wholes es room j × IsSome holders × (weak_pages s (table_pages s j.table) ≡ Some k)
  IsUnready c = IsUnjudged s seen ends wholes es room c

module _ (s : Sizes) (k : Source) (agrees : Agreed) (av : Avoided) (seen : Seen) (needs : ℕ) where
  -- as many eraseblocks are taken as are needed, and there are as many sequence numbers
  pub record AreSitesTaken (ts : List Site) : Type 0 where
    pub taken : AreTaken s k agrees (states_avoiding av seen.states) needs ts
    pub enough : needs ≤ length ts
    pub few : (raised av.above seen.scan).top_sqnum + needs ≤ 0xFFFFFFFFFFFFFFFF

  -- why they aren't
  abbrev pub IsSitesError : UpdateError → Type 0
  IsSitesError (error.Read p) = p < blocks_in s k
  IsSitesError (error.Refused refusal.Exhausted) = 0xFFFFFFFFFFFFFFFF < (raised av.above seen.scan).top_sqnum + needs
  IsSitesError (error.Refused (refusal.NoFree n has)) =
      ((raised av.above seen.scan).top_sqnum + needs ≤ 0xFFFFFFFFFFFFFFFF) × (n ≡ needs) × (has < needs)
      × WhereHeld agrees (λ bytes. has ≡ length (takeable s (blocks_of s bytes) (states_avoiding av seen.states)))
  IsSitesError (error.Refused refusal.Memory) = Unit {0}
  IsSitesError _ = ⊥
