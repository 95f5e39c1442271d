-- The normal image of what is built from parts, by their pieces.
use Rattle.ubi_compose.proofs.Prelude.{◌≡◌, ◌==◌, ℕ, zero, suc, ◌+◌, ◌<◌, ◌≤◌, Bool, true, false, cond, List, [], ◌++◌, length, refl, ap, sym, ◌∙◌, subst, arith, None, Option, Some, flat_map, option_map, unwrap_or, FinMap, range_with_len, option_map_or, nat_cmp, flat_map-map, is_blank, IsGeometry, slots, data_pad, rec_bytes, rec_fault, usable, VolKind, table_bytes, item_without_blank, lebs_without_blank, without_blank, pieces, records_of, Volume, same_range, get_without_blank, is_kept, HaveMeaning, Parts, Reaches, built, content_of, item_of, items_of, lebs_of, pieces_of, text_of, composed, spare, laid_blocks, dynamic_block, laid_bytes, new_ec, static_part, volume_blocks, part_at, table_of, Part, Device, built_piece, built_pieces, piece_of_kind, spares_bytes, first_volumes, image_bytes, piece_bytes, tables_bytes, record_of, not, leb_there, leb_within, text_size, entries_by_number, find-map, flat_map-flat_map, get_made}
use Rattle.std.specs.Prelude.{replicate}
use Rattle.std.specs.FinMap as finite
use Rattle.ubi_media.specs.declared.vid.VolKind.TheVariants as kind
use Rattle.ubi_laid.proofs.PartContents.{leb_of}
use Rattle.ubi_compose.proofs.ListedParts.{found_part, listed_at, part_slot, part_sound, reached}
use Rattle.ubi_compose.proofs.PiecesOfParts.{dynamic_written, static_written}
use Rattle.ubi_compose.proofs.Puts.{composed_pieces}

-- what is kept was there before
kept_some : (b : Bool) (o : Option (List ℕ)) (x : List ℕ) → cond b o None ≡ Some x → o ≡ Some x
kept_some true o x e = e
kept_some false o x e = absurd (cc)

-- the eraseblocks of the volume of a part
module _ (ps : Parts) (bytes : List ℕ) (p : Part) where
  abbrev d : Device
  d = record { geometry = ps.sizes; image_seq = ps.image_seq }

  abbrev size : ℕ
  size = usable ps.sizes p.entry

  abbrev text : List ℕ
  text = text_of bytes p

  abbrev n : ℕ
  n = pieces size (length text)

  abbrev pub kept : FinMap nat_cmp (List ℕ)
  kept = lebs_without_blank (lebs_of size text)

  abbrev laid_leb : ℕ × List ℕ → List ℕ
  laid_leb e = laid_bytes ps.sizes (new_ec ps.image_seq) (dynamic_block (data_pad ps.sizes p.entry) p.id e)

  pub within : (lnum : ℕ) (x : List ℕ) → finite.get kept lnum ≡ Some x → lnum < n
  within lnum x e = leb_within size text lnum x
      (kept_some (is_kept (lebs_of size text) lnum) (finite.get (lebs_of size text) lnum) x
      (sym (get_without_blank (lebs_of size text) lnum) ∙ e))

  by_test : (lnum : ℕ) (x : List ℕ) (b : Bool)
      → option_map_or (λ (y : List ℕ). laid_leb (lnum, y)) (cond (not b) (Some x) None) []
      ≡ cond b [] (laid_leb (lnum, x))
  by_test lnum x true = refl
  by_test lnum x false = refl

  module _ (g : IsGeometry ps.sizes) (sound : rec_fault ps.sizes p.entry ≡ None) (reaches : p.start + p.len ≤ length bytes) where
    leb_is : (lnum : ℕ) → lnum < n → option_map_or (λ (y : List ℕ). laid_leb (lnum, y)) (finite.get kept lnum) []
        ≡ piece_bytes d (piece_of_kind kind.Dynamic ps.sizes p lnum) bytes
    leb_is lnum below =
        ap (λ o. option_map_or (λ (y : List ℕ). laid_leb (lnum, y)) o []) (get_without_blank (lebs_of size text) lnum)
        ∙ ap (λ o. option_map_or (λ (y : List ℕ). laid_leb (lnum, y)) (cond (not (is_blank (unwrap_or o []))) o None) [])
        (leb_there size text lnum below)
        ∙ by_test lnum (leb_of size text lnum) (is_blank (leb_of size text lnum))
        ∙ sym (dynamic_written ps g p sound bytes reaches lnum below)

    of_kind : (k : VolKind)
        → flat_map (laid_bytes ps.sizes (new_ec ps.image_seq))
        (volume_blocks ps.sizes p.id p.entry (without_blank (content_of k size text)))
        ≡ flat_map (λ lnum. piece_bytes d (piece_of_kind k ps.sizes p lnum) bytes) (range_with_len 0 n)
    of_kind kind.Static = flat_map-map (laid_bytes ps.sizes (new_ec ps.image_seq))
        (static_part (data_pad ps.sizes p.entry) size p.id text) (range_with_len 0 n)
        ∙ same_range _ _ 0 n (λ lnum low high. sym (static_written ps g p sound bytes reaches lnum (omega arith)))
    of_kind kind.Dynamic =
        flat_map-map (laid_bytes ps.sizes (new_ec ps.image_seq)) (dynamic_block (data_pad ps.sizes p.entry) p.id)
        (finite.entries kept)
        ∙ entries_by_number laid_leb kept n within
        ∙ same_range _ _ 0 n (λ lnum low high. leb_is lnum (omega arith))

    pub part_is : flat_map (laid_bytes ps.sizes (new_ec ps.image_seq))
        (volume_blocks ps.sizes p.id p.entry (without_blank (content_of p.entry.kind size text)))
        ≡ flat_map (λ lnum. piece_bytes d (built_piece ps.sizes p lnum) bytes) (range_with_len 0 (pieces_of ps.sizes p))
    part_is = of_kind p.entry.kind
        ∙ ap (λ len. flat_map (λ lnum. piece_bytes d (built_piece ps.sizes p lnum) bytes)
        (range_with_len 0 (pieces size len))) (text_size bytes p reaches)

-- what is built, by number
module _ (ps : Parts) (bytes : List ℕ) where
  abbrev pub volume_in : Part → Volume
  volume_in p = (item_without_blank (item_of ps.sizes bytes p)).1

  as_volume : (o : Option Part)
      → option_map (λ (e : ℕ × Volume). e.1) (option_map item_without_blank (option_map (item_of ps.sizes bytes) o))
      ≡ option_map volume_in o
  as_volume None = refl
  as_volume (Some p) = refl

  pub built_at : (id : ℕ) → finite.get (built ps bytes).volumes id ≡ option_map volume_in (part_at ps id)
  built_at id =
      get_made item_without_blank (items_of ps.sizes bytes ps.of) id
      ∙ ap (λ o. option_map (λ (e : ℕ × Volume). e.1) (option_map item_without_blank o))
      (find-map (item_of ps.sizes bytes) (λ e. e.0 == id) ps.of)
      ∙ as_volume (part_at ps id)

  as_entry : (o : Option Part) → option_map (λ (v : Volume). v.entry) (option_map volume_in o)
      ≡ option_map (λ (p : Part). p.entry) o
  as_entry None = refl
  as_entry (Some p) = refl

  -- the table
  pub table_is : table_of ps ≡ table_bytes (records_of (built ps bytes))
  table_is = sym (same_range _ _ 0 (slots ps.sizes) (λ slot low high. ap (rec_bytes ps.sizes)
      (record_of (built ps bytes) slot ∙ ap (option_map (λ (v : Volume). v.entry)) (built_at slot)
      ∙ as_entry (part_at ps slot))))

  -- what is built at a number is the volume of a part
  pub built_part : (id : ℕ) (v : Volume) → finite.get (built ps bytes).volumes id ≡ Some v
      → (p : Part) × (part_at ps id ≡ Some p) × (volume_in p ≡ v)
  built_part id v e = by (part_at ps id) refl
    where
      from : option_map volume_in (part_at ps id) ≡ Some v
      from = sym (built_at id) ∙ e

      by : (o : Option Part) → part_at ps id ≡ o → (p : Part) × (part_at ps id ≡ Some p) × (volume_in p ≡ v)
      by None f = absurd (let g = sym from ∙ ap (option_map volume_in) f in cc)
      by (Some p) f = (p, f, (let g = sym (ap (option_map volume_in) f) ∙ from in cc))

  module _ (h : HaveMeaning ps) (reaches : Reaches (length bytes) ps.of) where
    abbrev blocks_in : ℕ × Volume → List ℕ
    blocks_in e = flat_map (laid_bytes ps.sizes (new_ec ps.image_seq))
        (volume_blocks ps.sizes e.0 e.1.entry e.1.content)

    below : (id : ℕ) (v : Volume) → finite.get (built ps bytes).volumes id ≡ Some v → id < slots ps.sizes
    below id v e =
        let of = built_part id v e in
        let found = found_part ps.of id of.0 of.1 in
        let at = listed_at ps.of of.0 found.0 in
        subst (λ n. n < slots ps.sizes) found.1 (part_slot ps h at.0 of.0 at.1)

    abbrev of : Device
    of = record { geometry = ps.sizes; image_seq = ps.image_seq }

    -- what is written of the volume of a part
    abbrev part_bytes : Option Part → List ℕ
    part_bytes o = flat_map
        (λ lnum. option_map_or (λ q. piece_bytes of q bytes) (option_map (λ p. built_piece ps.sizes p lnum) o) [])
        (range_with_len 0 (option_map_or (pieces_of ps.sizes) o 0))

    numbered_is : (id : ℕ) (o : Option Part) → part_at ps id ≡ o
        → option_map_or (λ v. blocks_in (id, v)) (option_map volume_in o) [] ≡ part_bytes o
    numbered_is id None e = refl
    numbered_is id (Some p) e =
        let found = found_part ps.of id p e in
        let at = listed_at ps.of p found.0 in
        ap (λ n. blocks_in (n, volume_in p)) (sym found.1)
        ∙ part_is ps bytes p h.sizes (part_sound ps h at.0 p at.1) (reached (length bytes) ps.of at.0 p reaches at.1)

    volumes_are : flat_map (laid_bytes ps.sizes (new_ec ps.image_seq))
        (laid_blocks ps.sizes (finite.entries (built ps bytes).volumes))
        ≡ first_volumes of (built_pieces ps) (slots ps.sizes) bytes
    volumes_are =
        flat_map-flat_map (laid_bytes ps.sizes (new_ec ps.image_seq))
        (λ (v : ℕ × Volume). volume_blocks ps.sizes v.0 v.1.entry v.1.content)
        (finite.entries (built ps bytes).volumes)
        ∙ entries_by_number blocks_in (built ps bytes).volumes (slots ps.sizes) below
        ∙ same_range _ _ 0 (slots ps.sizes) (λ id low high.
        ap (λ o. option_map_or (λ v. blocks_in (id, v)) o []) (built_at id) ∙ numbered_is id (part_at ps id) refl)

    spares_are : (x : List ℕ) (a n : ℕ) → flat_map (λ _. x) (range_with_len a n) ≡ flat_map (λ b. b) (replicate n x)
    spares_are x a zero = refl
    spares_are x a (suc n) = ap (λ r. x ++ r) (spares_are x (a + 1) n)

    -- all of it
    pub image_is : (table : List ℕ) → table ≡ table_of ps → (spares : ℕ)
        → image_bytes of table (built_pieces ps) spares bytes ≡ composed (built ps bytes) spares
    image_is table given spares =
        let tables = λ (t : List ℕ). tables_bytes of t bytes in
        let text = table_bytes (records_of (built ps bytes)) in
        let volumes = flat_map (laid_bytes ps.sizes (new_ec ps.image_seq))
        (laid_blocks ps.sizes (finite.entries (built ps bytes).volumes)) in
        ap (λ t. (tables t ++ first_volumes of (built_pieces ps) (slots ps.sizes) bytes) ++ spares_bytes of spares bytes)
        (given ∙ table_is)
        ∙ ap (λ vs. (tables text ++ vs) ++ spares_bytes of spares bytes) (sym volumes_are)
        ∙ ap (λ r. (tables text ++ volumes) ++ r) (spares_are (spare ps.sizes ps.image_seq) 0 spares)
        ∙ composed_pieces (built ps bytes) spares
