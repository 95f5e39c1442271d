-- The table of an image, by the bytes of the copy that decides.
use Rattle.ubi_table.proofs.Prelude.{◌≡◌, ℕ, ◌++◌, inl, inr, List, refl, ap, sym, ◌∙◌, subst, None, Option, Some, find, nat_cmp, Sizes, RecRead, VolumeRecord, block, leb, Wins, layout, AreRecords, HasSpace, Records, no_records, table_bytes, is_faulty, readings, records_in, twice, copy_by, copy_of, named_copy, table_in, IsTable}
use Rattle.std.specs.FinMap as finite
use Rattle.ubi_media.specs.declared.record.RecRead.TheVariants as read
use Rattle.ubi_table.specs.declared.copy.CopyRead.TheVariants as copy
use Rattle.ubi_table.proofs.Entries.{kept_records}
use Rattle.ubi_table.proofs.ReadEntries.{kept_in}
use Rattle.ubi_table.proofs.ReadBack.{reads_back}

module _ (s : Sizes) (bytes : List ℕ) (t : Records) where
  -- the table is the one that is read, and no name comes again
  abbrev IsMade : Type 0
  IsMade = (table_in s bytes ≡ t) × (twice (records_in s bytes) ≡ None)

  by_names : (o : Option (ℕ × ℕ)) → twice (records_in s bytes) ≡ o → named_copy s bytes o ≡ copy.Good t → IsMade
  by_names None is e = (cc, is)
  by_names (Some p) is e = absurd (cc)

  by_first : (o : Option (ℕ × RecRead)) → copy_by s bytes o ≡ copy.Good t → IsMade
  by_first None e = by_names (twice (records_in s bytes)) refl e
  by_first (Some (slot, read.Empty)) e = by_names (twice (records_in s bytes)) refl e
  by_first (Some (slot, read.BadCrc)) e = absurd (cc)
  by_first (Some (slot, read.Fault f)) e = absurd (cc)
  by_first (Some (slot, read.Valid r)) e = by_names (twice (records_in s bytes)) refl e

  -- a good copy has the records that are read, and they meet the rules
  good_records : copy_of s bytes ≡ copy.Good t → (t.sizes ≡ s) × AreRecords t
  unfolding copy_of
  good_records e =
      let h = by_first (find (λ e. is_faulty e.1) (readings s bytes)) e in (
        ap (λ (x : Records). x.sizes) (sym h.0),
        subst AreRecords h.0 (kept_records s (records_in s bytes) (kept_in s bytes h.1)),
      )

no_record : (id : ℕ) → finite.get (finite.empty {X = VolumeRecord} {R = nat_cmp}) id ≡ None
no_record id = finite.get-empty nat_cmp id

pub no_records_are : (s : Sizes) → AreRecords (no_records s)
no_records_are s = record {
  slot = λ id r e. (let none = no_record id in absurd (cc));
  sound = λ id r e. (let none = no_record id in absurd (cc));
  apart = λ i j r q e f same. (let none = no_record i in absurd (cc));
}

pub table_records : (s : Sizes) (bs : List (List ℕ)) (t : Records) → IsTable s bs t → (t.sizes ≡ s) × AreRecords t
table_records s bs t (inl e) = (ap (λ (x : Records). x.sizes) e.1, subst AreRecords (sym e.1) (no_records_are s))
table_records s bs t (inr e) = good_records s (leb s (block bs e.1.is.0)) t e.1.is.2

-- and a table whose bytes begin the LEB of the winner of copy 0 is that of the image
pub table_written : (s : Sizes) (bs : List (List ℕ)) (p : ℕ) (t : Records) (rest : List ℕ) → t.sizes ≡ s → AreRecords t
    → HasSpace s t
    → Wins s bs (layout, 0) p → leb s (block bs p) ≡ table_bytes t ++ rest → IsTable s bs t
table_written s bs p t rest same are room wins held =
    let good : copy_of s (leb s (block bs p)) ≡ copy.Good t = ap (copy_of s) held
    ∙ ap (λ z. copy_of z (table_bytes t ++ rest)) (sym same) ∙ reads_back t rest are in
    inr (0, record { is = (p, wins, good); can = refl; before = inl refl }, room)
