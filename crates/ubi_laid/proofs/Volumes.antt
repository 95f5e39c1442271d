-- The eraseblocks of one volume.
use Rattle.ubi_laid.proofs.Prelude.{◌≡◌, ℕ, ◌^◌, ◌<◌, ◌≤◌, List, length, map, refl, sym, subst, arith, FinMap, AllByRecursion, range_with_len, nat_cmp, IfSome, Option, check_from-lt, half_pad, reserved_within, usable_some, crc_of, IsGeometry, Sizes, data_pad, usable, VolumeRecord, pieces_few, share_full, share_most, share_some, Fits, IsVolume, pieces, share, Content, Volume, Laid, damaged_block, dynamic_block, static_blocks, static_part, volume_blocks, CanBeLaid}
use Rattle.std.specs.FinMap as finite
use Rattle.ubi_volume.specs.declared.content.Content.TheVariants as content
use Rattle.ubi_laid.proofs.Headers.{IsPart, IsUsers, dynamic_fits, dynamic_sound, static_fits, static_sound, user_known, user_placed}
use Rattle.ubi_laid.proofs.Lists.{Holds, all_map, held_entry, range_holds}

-- what holds of each piece of a static text, or of each LEB that is kept of a dynamic volume
all_static : (P : Laid → Type 0) (pad size vol : ℕ) (text : List ℕ)
    → ((lnum : ℕ) → lnum < pieces size (length text) → P (static_part pad size vol text lnum))
    → AllByRecursion P (static_blocks pad size vol text)
all_static P pad size vol text h =
    let used : ℕ = pieces size (length text) in
    all_map P (static_part pad size vol text) (range_with_len 0 used)
    (λ lnum at. let below = (range_holds 0 used lnum at).1 in h lnum (omega arith))

all_dynamic : (P : Laid → Type 0) (pad vol : ℕ) (lebs : FinMap nat_cmp (List ℕ))
    → ((e : ℕ × List ℕ) → Holds (finite.entries lebs) e → P (dynamic_block pad vol e))
    → AllByRecursion P (map (dynamic_block pad vol) (finite.entries lebs))
all_dynamic P pad vol lebs h = all_map P (dynamic_block pad vol) (finite.entries lebs) h

module _ (s : Sizes) (vol : ℕ) (r : VolumeRecord) where
  -- they are its own
  pub own_blocks : (c : Content) → AllByRecursion (λ (l : Laid). l.header.vol_id ≡ vol) (volume_blocks s vol r c)
  own_blocks content.Updating = tt
  own_blocks content.Damaged = (refl, tt)
  own_blocks (content.Static text) = all_static (λ (l : Laid). l.header.vol_id ≡ vol) (data_pad s r)
      (usable s r) vol text (λ lnum below. refl)
  own_blocks (content.Dynamic lebs) = all_dynamic (λ (l : Laid). l.header.vol_id ≡ vol) (data_pad s r) vol lebs
      (λ e at. refl)

  -- with the compatibility of a user's volume
  pub plain_volume : (c : Content) → AllByRecursion (λ (l : Laid). l.header.compat ≡ 0) (volume_blocks s vol r c)
  plain_volume content.Updating = tt
  plain_volume content.Damaged = (refl, tt)
  plain_volume (content.Static text) = all_static (λ (l : Laid). l.header.compat ≡ 0) (data_pad s r)
      (usable s r) vol text (λ lnum below. refl)
  plain_volume (content.Dynamic lebs) = all_dynamic (λ (l : Laid). l.header.compat ≡ 0) (data_pad s r) vol lebs
      (λ e at. refl)

  -- their headers are like its record
  abbrev pub IsLike : Laid → Type 0
  IsLike l = (l.header.kind ≡ r.kind) × (l.header.data_pad ≡ data_pad s r)

  pub like_blocks : (c : Content) → Fits s r c → AllByRecursion IsLike (volume_blocks s vol r c)
  like_blocks content.Updating fits = tt
  like_blocks content.Damaged fits = ((sym fits.1, refl), tt)
  like_blocks (content.Static text) fits = all_static IsLike (data_pad s r) (usable s r) vol text
      (λ lnum below. (sym fits.1, refl))
  like_blocks (content.Dynamic lebs) fits = all_dynamic IsLike (data_pad s r) vol lebs (λ e at. (sym fits.1, refl))

module _ (s : Sizes) (g : IsGeometry s) (vol : ℕ) (v : Volume) (is : IsVolume s vol v) where
  abbrev pad : ℕ
  pad = data_pad s v.entry

  abbrev size : ℕ
  size = usable s v.entry

  slot_small : vol < 128
  slot_small = let l = is.slot in omega arith

  size_some : 1 ≤ size
  size_some = usable_some s v.entry is.sound

  users : (lnum : ℕ) → lnum < 2 ^ 31 → IsUsers s pad vol lnum
  users lnum below = record {
    slot = slot_small;
    number = below;
    half = half_pad s v.entry is.sound g;
    wide = omega (arith, g.peb_to);
  }

  fine_dynamic : (lebs : FinMap nat_cmp (List ℕ)) → Fits s v.entry (content.Dynamic lebs) → (e : ℕ × List ℕ)
      → Holds (finite.entries lebs) e
      → CanBeLaid s (dynamic_block pad vol e)
  fine_dynamic lebs fits e at =
      let kept : List ℕ → Type 0 = λ text. (e.0 < v.entry.reserved) × (length text ≡ size) in
      let held : (e.0 < v.entry.reserved) × (length e.1 ≡ size) =
      subst (λ (o : Option (List ℕ)). IfSome o kept) (held_entry lebs e at) (fits.2 e.0) in
      let below = held.0 in
      let whole = held.1 in
      let wide = reserved_within s v.entry is.sound in
      let u = users e.0 (omega arith) in
      record {
        room = omega (arith, g.leb);
        fits = dynamic_fits s pad vol e.0 u;
        sound = dynamic_sound s pad vol e.0 u;
        known = user_known vol slot_small;
        placed = user_placed (dynamic_block pad vol e).header slot_small;
        number = refl;
        original = refl;
      }

  fine_static : (text : List ℕ) → Fits s v.entry (content.Static text) → (lnum : ℕ) → lnum < pieces size (length text)
      → CanBeLaid s (static_part pad size vol text lnum)
  fine_static text fits lnum below =
      let used : ℕ = pieces size (length text) in
      let held : List ℕ = share size text lnum in
      let few : used ≤ v.entry.reserved = pieces_few size size_some (length text) v.entry.reserved fits.2 in
      let wide = reserved_within s v.entry is.sound in
      let most : length held ≤ size = share_most size size_some text lnum in
      let u = users lnum (omega arith) in
      let part : IsPart s pad lnum (length held) used = record {
        some = share_some size size_some text lnum below;
        most = most;
        below = below;
        few = omega arith;
        full = share_full size size_some text lnum;
      } in
      record {
        room = omega (arith, g.leb);
        fits = static_fits s pad vol lnum u (length held) used (crc_of held) part
            (check_from-lt 0xFFFFFFFF held (omega arith));
        sound = static_sound s pad vol lnum u (length held) used (crc_of held) part;
        known = user_known vol slot_small;
        placed = user_placed (static_part pad size vol text lnum).header slot_small;
        number = refl;
        original = refl;
      }

  fine_damaged : CanBeLaid s (damaged_block pad vol)
  fine_damaged =
      let u = users 0 (omega arith) in
      let part : IsPart s pad 0 1 1 = record {
        some = omega arith;
        most = size_some;
        below = omega arith;
        few = omega arith;
        full = λ l. absurd (omega arith);
      } in
      record {
        room = omega (arith, g.leb);
        fits = static_fits s pad vol 0 u 1 1 0 part (omega arith);
        sound = static_sound s pad vol 0 u 1 1 0 part;
        known = user_known vol slot_small;
        placed = user_placed (damaged_block pad vol).header slot_small;
        number = refl;
        original = refl;
      }

  fine_by : (c : Content) → Fits s v.entry c → AllByRecursion (CanBeLaid s) (volume_blocks s vol v.entry c)
  fine_by content.Updating fits = tt
  fine_by content.Damaged fits = (fine_damaged, tt)
  fine_by (content.Static text) fits = all_static (CanBeLaid s) pad size vol text (fine_static text fits)
  fine_by (content.Dynamic lebs) fits = all_dynamic (CanBeLaid s) pad vol lebs (fine_dynamic lebs fits)

  -- each can be laid out
  pub fine_volume : AllByRecursion (CanBeLaid s) (volume_blocks s vol v.entry v.content)
  fine_volume = fine_by v.content is.fits
