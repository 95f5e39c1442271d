-- The pieces of parts: each stands at its number, lies in the source, and is named by its part.
use Rattle.ubi_compose.proofs.Prelude.{◌≡◌, ℕ, ◌+◌, ◌*◌, ◌<◌, ◌≤◌, refl, ap, sym, ◌∙◌, subst, arith, Contains, None, Option, Some, option_map, option_map_or, same_Some, reserved_within, usable, usable_some, Sizes, VolKind, piece_begins, share_len, HaveMeaning, Parts, pieces_of, HasParts, part_at, built_piece, built_pieces, pieces_few, Part, Piece, IsFirstFrom, IsReadIn, IsReadOf, LiesIn, part_header}
use Rattle.ubi_media.specs.declared.vid.VolKind.TheVariants as kind
use Rattle.ubi_compose.proofs.ListedParts.{IsReadablePart, part_readable}

-- its header has its number, and its volume's
numbers : (k : VolKind) (s : Sizes) (p : Part) (lnum len : ℕ)
    → ((part_header k s p lnum len).lnum ≡ lnum) × ((part_header k s p lnum len).vol_id ≡ p.id)
numbers kind.Static s p lnum len = (refl, refl)
numbers kind.Dynamic s p lnum len = (refl, refl)

module _ (ps : Parts) (h : HaveMeaning ps) (id : ℕ) (p : Part) (is : part_at ps id ≡ Some p) (n : ℕ)
    (inside : n < pieces_of ps.sizes p) where
  abbrev size : ℕ
  size = usable ps.sizes p.entry

  pub first_built : (source : ℕ) → HasParts source ps.of → (q : Piece) → q ≡ built_piece ps.sizes p n
      → IsFirstFrom (built_pieces ps) id n q
  first_built source has q e =
      let r : IsReadablePart ps source p = part_readable ps h source has id p is in
      let number : q.header.lnum ≡ n = ap (λ (x : Piece). x.header.lnum) e
      ∙ (numbers p.entry.kind ps.sizes p n (share_len size p.len n)).0 in
      let count : (built_pieces ps).count id ≡ pieces_of ps.sizes p =
      ap (λ o. option_map_or (pieces_of ps.sizes) o 0) is in
      let few = pieces_few size (usable_some ps.sizes p.entry r.sound) p.len p.entry.reserved r.fits in
      let wide = reserved_within ps.sizes p.entry r.sound in
      record {
        low = omega (arith, number);
        inside = omega (arith, number, count, inside);
        few = omega (arith, count, few, wide);
        there = ap (λ o. option_map (λ p. built_piece ps.sizes p q.header.lnum) o) is
            ∙ ap (λ l. Some (built_piece ps.sizes p l)) number ∙ ap Some (sym e);
        none = λ lnum low high. absurd (omega (arith, number, low, high));
      }

  begins : (source : ℕ) → HasParts source ps.of → (n * size < p.len) × (p.start + p.len ≤ source)
  begins source has =
      let r : IsReadablePart ps source p = part_readable ps h source has id p is in
      (piece_begins size (usable_some ps.sizes p.entry r.sound) p.len n inside, r.reaches)

  pub built_lies : (q : Piece) → q ≡ built_piece ps.sizes p n → (source : ℕ) → HasParts source ps.of
      → LiesIn ps.sizes source q
  built_lies q e source has =
      let b = begins source has in
      let low = b.0 in
      let high = b.1 in
      subst (LiesIn ps.sizes source) (sym e) (record { fits = omega arith; within = omega (arith, low, high) })

  -- a read of it that failed began in the bytes of its part
  pub built_read : (source : ℕ) → HasParts source ps.of → (q : Piece) → q ≡ built_piece ps.sizes p n
      → (at number : ℕ) → IsReadOf ps.sizes q.origin q.header at number
      → (number ≡ p.id) × (p.start ≤ at) × (at < p.start + p.len)
  built_read source has q e at number read =
      let here = subst (λ (x : Piece). IsReadOf ps.sizes x.origin x.header at number) e read in
      let low = (begins source has).0 in
      let place = here.1 in (
        here.0 ∙ (numbers p.entry.kind ps.sizes p n (share_len size p.len n)).1,
        omega (arith, place),
        omega (arith, place, low),
      )

-- which is one of those listed
pub read_part : (ps : Parts) (h : HaveMeaning ps) (source : ℕ) → HasParts source ps.of → (at number : ℕ)
    → IsReadIn ps.sizes (built_pieces ps) at number
    → (p : Part) × Contains ps.of p × (number ≡ p.id) × (p.start ≤ at) × (at < p.start + p.len)
read_part ps h source has at number r = by (part_at ps r.0) refl
  where
    by : (o : Option Part) → part_at ps r.0 ≡ o
        → (p : Part) × Contains ps.of p × (number ≡ p.id) × (p.start ≤ at) × (at < p.start + p.len)
    by None e = absurd (let g = sym (ap (option_map (λ p. built_piece ps.sizes p r.1)) e) ∙ r.4 in cc)
    by (Some p) e =
        let same : built_piece ps.sizes p r.1 ≡ r.2 =
        same_Some _ _ (sym (ap (option_map (λ p. built_piece ps.sizes p r.1)) e) ∙ r.4) in
        let inside : r.1 < pieces_of ps.sizes p =
        subst (λ n. r.1 < n) (ap (λ o. option_map_or (pieces_of ps.sizes) o 0) e) r.3 in
        let is = built_read ps h r.0 p e r.1 inside source has r.2 (sym same) at number r.5 in
        (p, (part_readable ps h source has r.0 p e).listed, is.0, is.1, is.2)
