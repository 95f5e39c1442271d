-- Both copies of the table of an accepted image are good with its records, if they are good.
use Rattle.ubi_change.proofs.Prelude.{◌≡◌, ℕ, inl, inr, List, refl, sym, ◌∙◌, Sizes, layout, Records, Decides, IsTable, blank_none, decides_unique, AcceptsBlocks, Meant, records_of, records_meant, BothGood}
use Rattle.ubi_table.specs.declared.copy.CopyRead.TheVariants as copy

-- both copies are good with the table of an accepted image
pub both_records : (s : Sizes) (bs : List (List ℕ)) (m : Meant) → AcceptsBlocks s bs m → (t : Records)
    → BothGood s bs t → t ≡ records_of m
both_records s bs m a t both =
    by_table a.table ∙ sym (records_meant s bs a.records m a.table a.means)
  where
    first : Decides s bs 0 (copy.Good t)
    first = record { is = both.0; can = refl; before = inl refl }

    same : (u : Records) → copy.Good t ≡ copy.Good u → t ≡ u
    same u e = cc

    by_table : IsTable s bs a.records → t ≡ a.records
    by_table (inl e) = absurd (blank_none s bs e.0 (layout, 0) both.0.0 both.0.1.member)
    by_table (inr e) = same a.records (decides_unique s bs a.clean 0 e.0 (copy.Good t) (copy.Good a.records) first e.1)
