-- The normal image of what is built fits the device if the table, all pieces and the spares do, and is then accepted.
use Rattle.ubi_compose.proofs.Prelude.{◌≡◌, ℕ, suc, ◌+◌, ◌<◌, ◌≤◌, List, [], ◌∷◌, length, map, refl, ap, sym, ◌∙◌, arith, Some, slice_get, sum_by, AllByRecursion, length-map, length-flat_map, length-map-range_with_len, sum_by-cons, Sizes, data_pad, usable, VolumeRecord, VolKind, image_of, Accepts, item_without_blank, without_blank, pieces, Content, Volume, HaveMeaning, Parts, Reaches, built, content_of, item_of, items_of, most_blocks, pieces_of, text_of, HasRoom, composed, dynamic_block, static_part, volume_blocks, Part, all_from, held_entry, entries_rise, text_size}
use Rattle.std.specs.FinMap as finite
use Rattle.ubi_media.specs.declared.vid.VolKind.TheVariants as kind
use Rattle.ubi_volume.specs.declared.content.Content.TheVariants as content
use Rattle.ubi_compose.proofs.Accepted.{normal_accepted}
use Rattle.ubi_compose.proofs.BuiltMeaning.{built_meaning, sum_made}
use Rattle.ubi_compose.proofs.BuiltVolumes.{kept, within}
use Rattle.ubi_compose.proofs.ListedParts.{reached}
use Rattle.ubi_compose.proofs.Room.{few_rising}

-- how many eraseblocks a volume has doesn't depend on its number
count_same : (s : Sizes) (k l : ℕ) (r : VolumeRecord) (c : Content)
    → length (volume_blocks s k r c) ≡ length (volume_blocks s l r c)
count_same s k l r content.Updating = refl
count_same s k l r content.Damaged = refl
count_same s k l r (content.Static text) =
    length-map-range_with_len (static_part (data_pad s r) (usable s r) k text) 0 (pieces (usable s r) (length text))
    ∙ sym (length-map-range_with_len (static_part (data_pad s r) (usable s r) l text) 0
    (pieces (usable s r) (length text)))
count_same s k l r (content.Dynamic lebs) =
    length-map (finite.entries lebs) (dynamic_block (data_pad s r) k)
    ∙ sym (length-map (finite.entries lebs) (dynamic_block (data_pad s r) l))

-- the volume of a part has no more eraseblocks than pieces
module _ (ps : Parts) (bytes : List ℕ) (p : Part) (reaches : p.start + p.len ≤ length bytes) where
  few_kept : length (finite.entries (kept ps bytes p)) ≤ pieces (usable ps.sizes p.entry)
      (length (text_of bytes p))
  few_kept =
      let lebs = kept ps bytes p in
      let es = finite.entries lebs in
      let n = pieces (usable ps.sizes p.entry) (length (text_of bytes p)) in
      let below : AllByRecursion (λ (e : ℕ × List ℕ). e.0 < n) es = all_from (λ (e : ℕ × List ℕ). e.0 < n) es (λ e at.
      within ps bytes p e.0 e.1 (held_entry lebs e at)) in
      let from : AllByRecursion (λ (e : ℕ × List ℕ). 0 ≤ e.0) es =
      all_from (λ (e : ℕ × List ℕ). 0 ≤ e.0) es (λ e at. omega arith) in
      let few = few_rising (λ (e : ℕ × List ℕ). e.0) es 0 n (omega arith)
      (entries_rise es (finite.entries_sorted lebs)) from below in
      omega arith

  few_of : (k : VolKind) → length (volume_blocks ps.sizes p.id p.entry
      (without_blank (content_of k (usable ps.sizes p.entry) (text_of bytes p)))) ≤ pieces_of ps.sizes p
  few_of kind.Static =
      let size : ℕ = usable ps.sizes p.entry in
      let all = length-map-range_with_len (static_part (data_pad ps.sizes p.entry) size p.id (text_of bytes p)) 0
      (pieces size (length (text_of bytes p))) in
      let same = ap (pieces size) (text_size bytes p reaches) in
      omega (arith, all, same)
  few_of kind.Dynamic =
      let size : ℕ = usable ps.sizes p.entry in
      let es = finite.entries (kept ps bytes p) in
      let all = length-map es (dynamic_block (data_pad ps.sizes p.entry) p.id) in
      let same = ap (pieces size) (text_size bytes p reaches) in
      let few = few_kept in
      omega (arith, all, same, few)

module _ (ps : Parts) (h : HaveMeaning ps) (bytes : List ℕ) (reaches : Reaches (length bytes) ps.of) where
  abbrev count : ℕ × Volume → ℕ
  count e = length (volume_blocks ps.sizes e.0 e.1.entry e.1.content)

  few_listed : (parts : List Part) → ((i : ℕ) (p : Part) → slice_get parts i ≡ Some p → p.start + p.len ≤ length bytes)
      → sum_by count (map item_without_blank (items_of ps.sizes bytes parts)) ≤ sum_by (pieces_of ps.sizes) parts
  few_listed [] each = omega arith
  few_listed (p ∷ parts) each =
      let one = few_of ps bytes p (each 0 p refl) p.entry.kind in
      let rest = few_listed parts (λ i q at. each (suc i) q at) in
      let counts = sum_by-cons count (item_without_blank (item_of ps.sizes bytes p))
      (map item_without_blank (items_of ps.sizes bytes parts)) in
      let pieces = sum_by-cons (pieces_of ps.sizes) p parts in
      omega (arith, one, rest, counts, pieces)

  pub built_room : (spares : ℕ) → most_blocks ps + spares ≤ ps.sizes.pebs → HasRoom (built ps bytes) spares
  built_room spares room =
      let all = length-flat_map (λ (v : ℕ × Volume). volume_blocks ps.sizes v.0 v.1.entry v.1.content)
      (finite.entries (built ps bytes).volumes) in
      let made = sum_made count (λ k l v. count_same ps.sizes k l v.entry v.content)
      (map item_without_blank (items_of ps.sizes bytes ps.of)) in
      let few = few_listed ps.of (λ i p at. reached (length bytes) ps.of i p reaches at) in
      omega (arith, all, made, few, room)

  pub built_accepted : (spares : ℕ) → most_blocks ps + spares ≤ ps.sizes.pebs
      → Accepts (image_of ps.sizes (composed (built ps bytes) spares)) (built ps bytes)
  built_accepted spares room =
      normal_accepted (built ps bytes) h.sizes (built_meaning ps h bytes reaches) spares (built_room spares room)
