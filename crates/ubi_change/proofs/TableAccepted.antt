-- Eraseblocks whose table becomes that of a meaning: they are accepted with it, if they read so by that table.
use Rattle.ubi_change.proofs.Prelude.{◌≡◌, ℕ, inl, inr, List, refl, sym, subst, Sizes, NoFault, block, leb, Wins, layout, image_seq, HasSpace, Records, IsTable, copy_of, AcceptsBlocks, NoMismatch, Means, IsMeaning, Meant, records_of, records_meant, records_fit}
use Rattle.ubi_table.specs.declared.copy.CopyRead.TheVariants as copy
use Rattle.ubi_change.proofs.MeaningKept.{KeepsVolumes, alike_kept, means_kept}

-- read by the table of n, eraseblocks mean n
pub record ReadsAs (s : Sizes) (bs : List (List ℕ)) (n : Meant) : Type 0 where
  pub alike : NoMismatch s bs (records_of n)
  pub means : Means s bs (records_of n) n

-- where copy 0 is good, the image has its table
pub table_by_first : (s : Sizes) (bs : List (List ℕ)) (p : ℕ) (t : Records) → Wins s bs (layout, 0) p
    → copy_of s (leb s (block bs p)) ≡ copy.Good t → HasSpace s t → IsTable s bs t
table_by_first s bs p t wins good room =
    inr (0, record { is = (p, wins, good); can = refl; before = inl refl }, room)

-- the records of a meaning fit its eraseblocks
pub meant_fit : (s : Sizes) (n : Meant) → n.sizes ≡ s → IsMeaning n → HasSpace s (records_of n)
meant_fit s n sizes is = subst (λ (z : Sizes). HasSpace z (records_of n)) sizes (records_fit n is)

-- what is accepted with n reads as n
pub accepted_reads : (s : Sizes) (bs : List (List ℕ)) (n : Meant) → AcceptsBlocks s bs n → ReadsAs s bs n
accepted_reads s bs n a =
    let same : a.records ≡ records_of n = sym (records_meant s bs a.records n a.table a.means) in
    record {
      alike = subst (NoMismatch s bs) same a.alike;
      means = subst (λ (t : Records). Means s bs t n) same a.means;
    }

-- and so do eraseblocks that keep what n reads
pub reads_kept : (s : Sizes) (bs cs : List (List ℕ)) (n : Meant) → NoFault s cs → image_seq s cs ≡ image_seq s bs
    → KeepsVolumes s bs cs (records_of n) → ReadsAs s bs n → ReadsAs s cs n
reads_kept s bs cs n clean number kept r = record {
  alike = alike_kept s bs cs clean (records_of n) kept r.alike;
  means = means_kept s bs cs clean (records_of n) n number kept r.means;
}

pub table_accepted : (s : Sizes) (cs : List (List ℕ)) (n : Meant) → NoFault s cs → IsTable s cs (records_of n)
    → ReadsAs s cs n → AcceptsBlocks s cs n
table_accepted s cs n clean table r = record {
  clean = clean;
  records = records_of n;
  table = table;
  alike = r.alike;
  means = r.means;
}
