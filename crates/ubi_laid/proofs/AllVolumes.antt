-- The eraseblocks of volumes by their numbers.
use Rattle.ubi_laid.proofs.Prelude.{◌≡◌, ℕ, List, length, refl, sym, ap, ◌∙◌, subst, same_Some, AllByRecursion, range_with_len, IfSome, Option, Some, IsGeometry, Sizes, data_pad, usable, VolumeRecord, IsVolume, VolumeMap, pieces, Content, Volume, AreApart, CanBeLaid, Laid, laid_blocks, dynamic_block, static_part, volume_blocks, AllApart, EachIsVolume, EachCanBeLaid}
use Rattle.std.specs.FinMap as finite
use Rattle.ubi_volume.specs.declared.content.Content.TheVariants as content
use Rattle.ubi_laid.proofs.Lists.{Holds, all_at, all_flat_map, all_from, entry_held, flat_map_holds, held_entry, holds_flat_map}
use Rattle.ubi_laid.proofs.Rising.{apart_flat_map, apart_map, entries_rise, range_rises}
use Rattle.ubi_laid.proofs.Volumes.{IsLike, fine_volume, like_blocks, own_blocks, plain_volume}

-- those of one volume are of different LEBs
apart_volume : (s : Sizes) (vol : ℕ) (r : VolumeRecord) (c : Content) → AreApart (volume_blocks s vol r c)
apart_volume s vol r content.Updating = tt
apart_volume s vol r content.Damaged = (tt, tt)
apart_volume s vol r (content.Static text) =
    let used : ℕ = pieces (usable s r) (length text) in
    apart_map (λ k. k) (static_part (data_pad s r) (usable s r) vol text) (range_with_len 0 used) (λ x. refl)
    (range_rises 0 used)
apart_volume s vol r (content.Dynamic lebs) =
    apart_map (λ (e : ℕ × List ℕ). e.0) (dynamic_block (data_pad s r) vol) (finite.entries lebs) (λ x. refl)
    (entries_rise (finite.entries lebs) (finite.entries_sorted lebs))

module _ (s : Sizes) (volumes : VolumeMap) where
  abbrev blocks_in : ℕ × Volume → List Laid
  blocks_in e = volume_blocks s e.0 e.1.entry e.1.content

  -- and so are all
  pub apart_blocks : AreApart (laid_blocks s (finite.entries volumes))
  apart_blocks =
      apart_flat_map (λ (e : ℕ × Volume). e.0) blocks_in (finite.entries volumes) (λ e. own_blocks s e.0 e.1.entry e.1.content)
      (all_from (λ e. AreApart (blocks_in e)) (finite.entries volumes) (λ e h. apart_volume s e.0 e.1.entry e.1.content))
      (entries_rise (finite.entries volumes) (finite.entries_sorted volumes))

  pub plain_blocks : AllByRecursion (λ (l : Laid). l.header.compat ≡ 0) (laid_blocks s (finite.entries volumes))
  plain_blocks =
      all_flat_map (λ (l : Laid). l.header.compat ≡ 0) blocks_in (finite.entries volumes)
      (all_from (λ e. AllByRecursion (λ (l : Laid). l.header.compat ≡ 0) (blocks_in e)) (finite.entries volumes)
      (λ e h. plain_volume s e.0 e.1.entry e.1.content))

  -- each is of a volume
  pub its_volume : (l : Laid) → Holds (laid_blocks s (finite.entries volumes)) l → (id : ℕ) × (v : Volume) × (finite.get volumes id ≡ Some v)
      × Holds (volume_blocks s id v.entry v.content) l × (l.header.vol_id ≡ id)
  its_volume l h =
      let e = flat_map_holds blocks_in (finite.entries volumes) l h in (
        e.0.0,
        e.0.1,
        held_entry volumes e.0 e.1,
        e.2,
        all_at (λ (l : Laid). l.header.vol_id ≡ e.0.0) (blocks_in e.0) e.2.0 l
            (own_blocks s e.0.0 e.0.1.entry e.0.1.content) e.2.1,
      )

  -- one volume
  module _ (id : ℕ) (v : Volume) (e : finite.get volumes id ≡ Some v) where
    -- its eraseblocks are there
    pub own_there : (l : Laid) → Holds (volume_blocks s id v.entry v.content) l → Holds (laid_blocks s (finite.entries volumes)) l
    own_there l h = holds_flat_map blocks_in (finite.entries volumes) (id, v) l (entry_held volumes id v e) h

    -- and all with its number are its own
    pub own_only : (l : Laid) → Holds (laid_blocks s (finite.entries volumes)) l → l.header.vol_id ≡ id
        → Holds (volume_blocks s id v.entry v.content) l
    own_only l h same =
        let k = its_volume l h in
        let number : k.0 ≡ id = sym k.4 ∙ same in
        let value : k.1 ≡ v = same_Some k.1 v (sym k.2 ∙ ap (finite.get volumes) number ∙ e) in
        subst (λ (x : ℕ × Volume). Holds (blocks_in x) l) (λ i. (number i, value i)) k.3

  module _ (each : EachIsVolume s volumes) where
    pub volume_at : (id : ℕ) (v : Volume) → finite.get volumes id ≡ Some v → IsVolume s id v
    volume_at id v e = subst (λ (o : Option Volume). IfSome o (IsVolume s id)) e (each id)

    -- the headers of a volume are like its record
    pub own_like : (id : ℕ) (v : Volume) → finite.get volumes id ≡ Some v → (l : Laid) → Holds (laid_blocks s (finite.entries volumes)) l
        → l.header.vol_id ≡ id → IsLike s id v.entry l
    own_like id v e l h same =
        let mine = own_only id v e l h same in
        all_at (IsLike s id v.entry) (volume_blocks s id v.entry v.content) mine.0 l
        (like_blocks s id v.entry v.content (volume_at id v e).fits) mine.1

    -- each can be laid out
    pub fine_blocks : IsGeometry s → AllByRecursion (CanBeLaid s) (laid_blocks s (finite.entries volumes))
    fine_blocks g =
        all_flat_map (CanBeLaid s) blocks_in (finite.entries volumes)
        (all_from (λ e. AllByRecursion (CanBeLaid s) (blocks_in e)) (finite.entries volumes)
        (λ e h. fine_volume s g e.0 e.1 (volume_at e.0 e.1 (held_entry volumes e h))))

pub each_can_be_laid : EachCanBeLaid
each_can_be_laid s volumes g each = fine_blocks s volumes each g

pub all_apart : AllApart
all_apart s volumes = apart_blocks s volumes
