-- Equal LEBs, volumes and meanings.
use Rattle.ubi_volume.proofs.Prelude.{◌≡◌, ℕ, ◌==◌, ◌&&◌, Bool, true, Decides, List, ◌-◌, length, replicate, take, refl, ap, sym, ◌∙◌, BTreeMap, booleans_Decides, nat_cmp_total, unsigned_Decides, pointwise, ◌↔◌, IsTrue, FinMap, is_sorted, nat_cmp-IsAntisymmetric, same_entries_map, nat_cmp, Decides-and, Decides-like, take-append_seam, slice_eq-Decides, padded, Sizes, VolumeRecord, VolKind, sorted_entries, entries_tree, same_lebs, Meant, VolumeMap, same_meaning, Content, Volume}
use Rattle.std.specs.BTreeMap as tree
use Rattle.std.specs.FinMap as finite
use Rattle.ubi_media.specs.contracts.geometry.GeometryPartialEq.TheImpl as geometry_eq
use Rattle.ubi_media.specs.contracts.record.VolumeRecordPartialEq.TheImpl as record_eq
use Rattle.ubi_media.specs.contracts.vid.VolKindPartialEq.TheImpl as kind_eq
use Rattle.ubi_media.specs.declared.vid.VolKind.TheVariants as kind
use Rattle.ubi_volume.specs.contracts.content.ContentPartialEq.TheImpl as content_eq
use Rattle.ubi_volume.specs.contracts.content.VolumePartialEq.TheImpl as volume_eq
use Rattle.ubi_volume.specs.declared.content.Content.TheVariants as content

abbrev same_leb : ℕ × List ℕ → ℕ × List ℕ → Bool
same_leb p q = (p.0 == q.0) && pointwise ◌==◌ p.1 q.1

pub same_trees : (m n : BTreeMap ℕ (List ℕ)) → tree.IsOrdered nat_cmp m → tree.IsOrdered nat_cmp n
    → pointwise same_leb m.entries n.entries ≡ same_lebs (finite.from_entries m.entries) (finite.from_entries n.entries)
same_trees m n h k =
    ap (λ es. pointwise same_leb es n.entries) (sym (entries_tree nat_cmp_total nat_cmp-IsAntisymmetric m h))
    ∙ ap (pointwise same_leb (finite.entries (finite.from_entries m.entries)))
    (sym (entries_tree nat_cmp_total nat_cmp-IsAntisymmetric n k))

pub bytes_Decides : (a b : List ℕ) → Decides (pointwise ◌==◌ a b) (a ≡ b)
bytes_Decides a b = slice_eq-Decides unsigned_Decides a b (pointwise ◌==◌ a b) refl

leb_Decides : (p q : ℕ × List ℕ) → Decides (same_leb p q) (p ≡ q)
leb_Decides p q = Decides-like (same_leb p q) (λ e i. (e.0 i, e.1 i)) (λ e. (ap (λ x. x.0) e, ap (λ x. x.1) e))
    (Decides-and _ _ (unsigned_Decides p.0 q.0) (bytes_Decides p.1 q.1))

pub lebs_Decides : (a b : FinMap nat_cmp (List ℕ)) → Decides (same_lebs a b) (a ≡ b)
lebs_Decides a b = Decides-like (same_lebs a b) (same_entries_map a b) (ap finite.entries)
    (slice_eq-Decides leb_Decides (finite.entries a) (finite.entries b) (same_lebs a b) refl)

-- ---- records
padded_same : (a b : List ℕ) → padded a ≡ padded b → length a ≡ length b → a ≡ b
padded_same a b e n =
    sym (take-append_seam a (replicate (128 - length a) 0)) ∙ ap (take (length a)) e ∙ ap (λ k. take k (padded b)) n
    ∙ take-append_seam b (replicate (128 - length b) 0)

name_Decides : (a b : List ℕ) → Decides (pointwise ◌==◌ (padded a) (padded b) && (length a == length b)) (a ≡ b)
name_Decides a b = Decides-like _ (λ e. padded_same a b e.0 e.1) (λ e. (ap padded e, ap length e))
    (Decides-and _ _ (bytes_Decides (padded a) (padded b)) (unsigned_Decides (length a) (length b)))

kind_Decides : (a b : VolKind) → Decides ((kind_eq.ghosts).eq a b) (a ≡ b)
kind_Decides kind.Dynamic kind.Dynamic = (λ e. refl, λ e. refl)
kind_Decides kind.Dynamic kind.Static = (λ e. absurd (cc), λ e. absurd (cc))
kind_Decides kind.Static kind.Dynamic = (λ e. absurd (cc), λ e. absurd (cc))
kind_Decides kind.Static kind.Static = (λ e. refl, λ e. refl)

pub record_Decides : (a b : VolumeRecord) → Decides ((record_eq.ghosts).eq a b) (a ≡ b)
record_Decides a b = Decides-like _ (λ e i. record {
  reserved = e.0 i;
  alignment = e.1.0 i;
  kind = e.1.1.0 i;
  marker = e.1.1.1.0 i;
  name = e.1.1.1.1.0 i;
  flags = e.1.1.1.1.1 i;
})
    (λ e. (
      ap (λ r. r.reserved) e,
      (
        ap (λ r. r.alignment) e,
        (ap (λ r. r.kind) e, (ap (λ r. r.marker) e, (ap (λ r. r.name) e, ap (λ r. r.flags) e))),
      ),
    ))
    (Decides-and _ _ (unsigned_Decides a.reserved b.reserved)
    (Decides-and _ _ (unsigned_Decides a.alignment b.alignment) (Decides-and _ _ (kind_Decides a.kind b.kind)
    (Decides-and _ _ (booleans_Decides a.marker b.marker)
    (Decides-and _ _ (name_Decides a.name b.name) (unsigned_Decides a.flags b.flags))))))

-- ---- volumes
content_Decides : (a b : Content) → Decides ((content_eq.ghosts).eq a b) (a ≡ b)
content_Decides content.Updating content.Updating = (λ e. refl, λ e. refl)
content_Decides content.Updating content.Damaged = (λ e. absurd (cc), λ e. absurd (cc))
content_Decides content.Updating (content.Static y) = (λ e. absurd (cc), λ e. absurd (cc))
content_Decides content.Updating (content.Dynamic y) = (λ e. absurd (cc), λ e. absurd (cc))
content_Decides content.Damaged content.Updating = (λ e. absurd (cc), λ e. absurd (cc))
content_Decides content.Damaged content.Damaged = (λ e. refl, λ e. refl)
content_Decides content.Damaged (content.Static y) = (λ e. absurd (cc), λ e. absurd (cc))
content_Decides content.Damaged (content.Dynamic y) = (λ e. absurd (cc), λ e. absurd (cc))
content_Decides (content.Static x) content.Updating = (λ e. absurd (cc), λ e. absurd (cc))
content_Decides (content.Static x) content.Damaged = (λ e. absurd (cc), λ e. absurd (cc))
content_Decides (content.Static x) (content.Static y) = Decides-like (pointwise ◌==◌ x y) (λ e. ap content.Static e)
    (λ e. cc) (bytes_Decides x y)
content_Decides (content.Static x) (content.Dynamic y) = (λ e. absurd (cc), λ e. absurd (cc))
content_Decides (content.Dynamic x) content.Updating = (λ e. absurd (cc), λ e. absurd (cc))
content_Decides (content.Dynamic x) content.Damaged = (λ e. absurd (cc), λ e. absurd (cc))
content_Decides (content.Dynamic x) (content.Static y) = (λ e. absurd (cc), λ e. absurd (cc))
content_Decides (content.Dynamic x) (content.Dynamic y) = Decides-like (same_lebs x y) (λ e. ap content.Dynamic e)
    (λ e. cc) (lebs_Decides x y)

pub volume_Decides : (a b : Volume) → Decides ((volume_eq.ghosts).eq a b) (a ≡ b)
volume_Decides a b = Decides-like _ (λ e i. record { entry = e.0 i; content = e.1 i })
    (λ e. (ap (λ v. v.entry) e, ap (λ v. v.content) e))
    (Decides-and _ _ (record_Decides a.entry b.entry) (content_Decides a.content b.content))

-- ---- meanings
sizes_Decides : (a b : Sizes) → Decides ((geometry_eq.ghosts).eq a b) (a ≡ b)
sizes_Decides a b = Decides-like _ (λ e i. record {
  peb_size = e.0 i;
  page = e.1.0 i;
  vid_offset = e.1.1.0 i;
  data_offset = e.1.1.1.0 i;
  pebs = e.1.1.1.1 i;
})
    (λ e. (
      ap (λ r. r.peb_size) e,
      (ap (λ r. r.page) e, (ap (λ r. r.vid_offset) e, (ap (λ r. r.data_offset) e, ap (λ r. r.pebs) e))),
    ))
    (Decides-and _ _ (unsigned_Decides a.peb_size b.peb_size)
    (Decides-and _ _ (unsigned_Decides a.page b.page) (Decides-and _ _ (unsigned_Decides a.vid_offset b.vid_offset)
    (Decides-and _ _ (unsigned_Decides a.data_offset b.data_offset) (unsigned_Decides a.pebs b.pebs)))))

item_Decides : (p q : ℕ × Volume) → Decides ((p.0 == q.0) && (volume_eq.ghosts).eq p.1 q.1) (p ≡ q)
item_Decides p q = Decides-like _ (λ e i. (e.0 i, e.1 i)) (λ e. (ap (λ x. x.0) e, ap (λ x. x.1) e))
    (Decides-and _ _ (unsigned_Decides p.0 q.0) (volume_Decides p.1 q.1))

volumes_Decides : (a b : VolumeMap)
    → Decides (pointwise (λ p q. (p.0 == q.0) && (volume_eq.ghosts).eq p.1 q.1) (finite.entries a) (finite.entries b))
    (a ≡ b)
volumes_Decides a b = Decides-like _ (same_entries_map a b) (ap finite.entries)
    (slice_eq-Decides item_Decides (finite.entries a) (finite.entries b) _ refl)

pub meaning_Decides : (a b : Meant) → Decides (same_meaning a b) (a ≡ b)
meaning_Decides a b = Decides-like (same_meaning a b)
    (λ e i. record { sizes = e.0.0 i; image_seq = e.0.1 i; volumes = e.1 i })
    (λ e. ((ap (λ m. m.sizes) e, ap (λ m. m.image_seq) e), ap (λ m. m.volumes) e))
    (Decides-and _ _ (Decides-and _ _ (sizes_Decides a.sizes b.sizes) (unsigned_Decides a.image_seq b.image_seq))
    (volumes_Decides a.volumes b.volumes))

abbrev pub same_item : ℕ × Volume → ℕ × Volume → Bool
same_item p q = (p.0 == q.0) && (volume_eq.ghosts).eq p.1 q.1

-- of one geometry and one image sequence number, meanings are equal where their volumes are
pub same_volumes_same : (s t : Sizes) (n m : ℕ) (xs ys : List (ℕ × Volume)) (b : Bool)
    → ((geometry_eq.ghosts).eq s t && (n == m)) ≡ true
    → IsTrue (is_sorted nat_cmp xs) → IsTrue (is_sorted nat_cmp ys)
    → b ≡ pointwise same_item xs ys
    → b ≡ same_meaning (record { sizes = s; image_seq = n; volumes = finite.from_entries xs })
    (record { sizes = t; image_seq = m; volumes = finite.from_entries ys })
same_volumes_same s t n m xs ys b g h k e =
    let v : VolumeMap = finite.from_entries xs in
    let w : VolumeMap = finite.from_entries ys in
    e ∙ ap (λ es. pointwise same_item es ys) (sym (sorted_entries xs h))
    ∙ ap (pointwise same_item (finite.entries v)) (sym (sorted_entries ys k))
    ∙ ap (λ r. r && pointwise same_item (finite.entries v) (finite.entries w)) (sym g)

pub tells_equal : (a b : Meant) (r : Bool) → r ≡ same_meaning a b → IsTrue r ↔ (a ≡ b)
tells_equal a b r e = (λ t. (meaning_Decides a b).0 (sym e ∙ t), λ same. e ∙ (meaning_Decides a b).1 same)
