-- When two copies of a table have equal records.
use Rattle.ubi_change.proofs.Prelude.{◌≡◌, ℕ, Bool, List, refl, ap, sym, ◌∙◌, subst, unsigned_Decides, pointwise, Decides-and, Decides-like, slice_eq-Decides, Sizes, block, leb, Records, CopyIs, HasSizes, Entry, copy_sizes, record_Decides}
use Rattle.std.proofs.Common.{◌==◌, ◌&&◌, Decides}
use Rattle.ubi_media.specs.contracts.record.VolumeRecordPartialEq.TheImpl as record_eq
use Rattle.ubi_table.specs.declared.copy.CopyRead.TheVariants as copy

-- equal entries
abbrev pub same_entry : Entry → Entry → Bool
same_entry p q = (p.0 == q.0) && (record_eq.ghosts).eq p.1 q.1

entry_Decides : (p q : Entry) → Decides (same_entry p q) (p ≡ q)
entry_Decides p q = Decides-like (same_entry p q) (λ e i. (e.0 i, e.1 i)) (λ e. (ap (λ x. x.0) e, ap (λ x. x.1) e))
    (Decides-and _ _ (unsigned_Decides p.0 q.0) (record_Decides p.1 q.1))

pub entries_Decides : (a b : List Entry) → Decides (pointwise same_entry a b) (a ≡ b)
entries_Decides a b = slice_eq-Decides entry_Decides a b (pointwise same_entry a b) refl

-- the table of a good copy has the sizes of the image
pub good_sizes : (s : Sizes) (bs : List (List ℕ)) (c : ℕ) (t : Records) → CopyIs s bs c (copy.Good t) → t.sizes ≡ s
good_sizes s bs c t h = subst (HasSizes s) h.2 (copy_sizes s (leb s (block bs h.0)))

pub same_records : (s : Sizes) (t u : Records) → t.sizes ≡ s → u.sizes ≡ s → t.of ≡ u.of → u ≡ t
same_records s t u a b of = λ i. record { sizes = (b ∙ sym a) i; of = sym of i }
