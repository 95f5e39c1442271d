-- How much a volume reads, by the places of its LEBs.
use Rattle.ubi_volume.proofs.Prelude.{◌≡◌, ◌≢◌, ℕ, ◌+◌, cond, List, [], length, refl, ap, sym, ◌∙◌, subst, None, Option, Some, is_some, nat_cmp_total, length-put, nat_cmp, blank, Sizes, usable, VolumeRecord, blocks_of, sorted_entries, AmountIs, amount_of, AreKeptLebs, ContentIs, LebReads, Placed}
use Rattle.std.specs.FinMap as finite
use Rattle.ubi_volume.specs.declared.block.Amount.TheVariants as amount
use Rattle.ubi_volume.specs.declared.content.Content.TheVariants as content
use Rattle.ubi_volume.specs.declared.places.PlaceContent.TheVariants as place
use Rattle.ubi_volume.proofs.Dynamic.{dynamic_is, gathered_blank, gathered_none, gathered_text, none_behind}
use Rattle.ubi_volume.proofs.OneMeaning.{reads_unique}
use Rattle.ubi_volume.proofs.VolumeAt.{content_has, content_is}

module _ (s : Sizes) (bs : List (List ℕ)) (vol : ℕ) (r : VolumeRecord) where
  pub none_kept : AreKeptLebs s bs vol r 0 0
  none_kept = (finite.empty, gathered_none s bs vol r, sym (ap length (sorted_entries [] refl)))

  -- one LEB more
  pub one_kept : (n count : ℕ) (text : List ℕ) → AreKeptLebs s bs vol r n count → LebReads s bs vol r n text
      → length text ≡ usable s r → text ≢ blank (usable s r) → AreKeptLebs s bs vol r (n + 1) (count + 1)
  one_kept n count text h reads size some =
      let lebs = h.0 in
      let free : finite.find nat_cmp n (finite.entries lebs) ≡ None = sym (finite.get-entries lebs n)
      ∙ none_behind (usable s r) n lebs h.1.texts in
      let long : length (finite.entries (finite.insert lebs n text)) ≡ length (finite.entries lebs) + 1 =
      ap length (finite.entries-insert nat_cmp_total lebs n text)
      ∙ length-put nat_cmp nat_cmp_total n text (finite.entries lebs) (finite.entries_sorted lebs)
      ∙ ap (λ (o : Option (List ℕ)). cond (is_some o) (length (finite.entries lebs)) (length (finite.entries lebs) + 1))
      free in (
        finite.insert lebs n text,
        gathered_text s bs vol r n lebs text h.1 reads size some,
        ap (λ k. k + 1) h.2 ∙ sym long,
      )

  pub none_more : (n count : ℕ) → AreKeptLebs s bs vol r n count → LebReads s bs vol r n (blank (usable s r))
      → AreKeptLebs s bs vol r (n + 1) count
  none_more n count h reads = (h.0, gathered_blank s bs vol r n h.0 h.1 reads, h.2)

module _ (s : Sizes) (p : Placed) (id : ℕ) (r : VolumeRecord) (recorded : finite.get p.records.of id ≡ Some r)
    (image : List ℕ) where
  pub updating_amount : finite.get p.contents id ≡ Some place.Updating → AmountIs s p id image amount.Updating
  updating_amount listed h v at = sym (ap amount_of (content_is s p image h id r recorded v at place.Updating listed))

  pub damaged_amount : finite.get p.contents id ≡ Some place.Damaged → AmountIs s p id image amount.Damaged
  damaged_amount listed h v at = sym (ap amount_of (content_is s p image h id r recorded v at place.Damaged listed))

  pub static_amount : (lebs bytes : ℕ) → finite.get p.contents id ≡ Some (place.Static lebs bytes)
      → AmountIs s p id image (amount.Bytes bytes)
  static_amount lebs bytes listed h v at =
      let t = content_is s p image h id r recorded v at (place.Static lebs bytes) listed in
      sym (ap amount_of t.1 ∙ ap amount.Bytes t.3)

  pub dynamic_amount : finite.get p.contents id ≡ Some place.Dynamic → (count : ℕ)
      → AreKeptLebs s (blocks_of s image) id r r.reserved count → AmountIs s p id image (amount.Lebs count)
  dynamic_amount listed count kept h v at =
      let bs = blocks_of s image in
      let l = content_is s p image h id r recorded v at place.Dynamic listed in
      let own = subst (ContentIs s bs id r) l.1 (content_has s p image h id r recorded v at) in
      let all = dynamic_is s bs id r kept.0 own.reads.0 own.reads.1 kept.1 in
      let same = reads_unique s bs h.accepted.accepted.clean id r (content.Dynamic kept.0)
      (content.Dynamic l.0) all.reads own.reads all.fits own.fits all.kept own.kept in
      ap amount.Lebs kept.2 ∙ ap amount_of (same ∙ sym l.1)
