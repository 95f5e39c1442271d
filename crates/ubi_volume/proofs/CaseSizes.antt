-- The case and size of what the volumes of a source read.
use Rattle.ubi_volume.proofs.Prelude.{◌≡◌, ℕ, suc, ◌+◌, ◌-◌, ◌*◌, ◌%◌, ◌<◌, ◌≤◌, inl, inr, false, List, [], ◌∷◌, ◌++◌, length, take, slice_range, refl, ap, sym, ◌∙◌, arith, length-append, Option, Some, None, flat_map, min, option_map, slice_index, div-add-mod, mod-lt, mul-le, cases_order, same_Some, crc_of, Sizes, leb_size, usable, VolumeRecord, VidHeader, NoFault, block, leb, NoMember, Wins, member, Found, IsScan, blocks_of, length-first_chunks, data_of_read, Records, NoMismatch, CaseIs, PieceSizeIs, SizeIsRead, ContentIs, PieceIs, UsedIs, StaticReads, piece, pieces, case_of, Content}
use Rattle.std.specs.FinMap as finite
use Rattle.ubi_media.specs.declared.vid.VolKind.TheVariants as kind
use Rattle.ubi_volume.specs.declared.content.Content.TheVariants as content
use Rattle.ubi_volume.specs.declared.places.PlaceContent.TheVariants as place
use Rattle.ubi_volume.proofs.Alike.{full_piece, short_piece}
use Rattle.ubi_volume.proofs.SomeContent.{AreLebs, some_content}
use Rattle.ubi_volume.proofs.Static.{damaged_is, piece_checked, piece_unchecked, read_more, read_none, static_is, used_by}
use Rattle.ubi_volume.proofs.Winners.{found_wins, no_some}

-- what is read of a winner
module _ (s : Sizes) (bytes : List ℕ) (found : Found) (scan : IsScan s (blocks_of s bytes) found) (vol lnum p : ℕ)
    (won : finite.get found.winners (vol, lnum) ≡ Some p) where
  wins : Wins s (blocks_of s bytes) (vol, lnum) p
  wins = found_wins s (blocks_of s bytes) found scan (vol, lnum) p won

  pub used_is : (h : VidHeader) → Some h ≡ member s (block (blocks_of s bytes) p)
      → UsedIs s (blocks_of s bytes) vol h.used_ebs
  used_is h e = inr (lnum, p, wins, used_by s (blocks_of s bytes) p h (sym e))

  module _ (used : ℕ) (h : VidHeader) (e : Some h ≡ member s (block (blocks_of s bytes) p)) (text : List ℕ) (size : ℕ)
      (long : length text ≡ size)
      (read : text ≡ slice_range (leb s (block (blocks_of s bytes) p)) 0 (min h.data_size (leb_size s))) where
    whole : text ≡ take h.data_size (leb s (block (blocks_of s bytes) p))
    whole = data_of_read s bytes text p h.data_size (rw (length-first_chunks s.peb_size _ bytes) at wins.member.inside)
        read

    pub held_checked : h.used_ebs ≡ used → crc_of text ≡ h.data_crc → PieceIs s (blocks_of s bytes) vol used lnum (Some text)
    held_checked u right = piece_checked s (blocks_of s bytes) scan.clean vol used lnum p h text wins (sym e) whole u right

    pub held_unchecked : ((h.used_ebs ≡ used) × (crc_of text ≡ h.data_crc) → ⊥)
        → PieceIs s (blocks_of s bytes) vol used lnum None
    held_unchecked other = piece_unchecked s (blocks_of s bytes) scan.clean vol used lnum p h text wins (sym e) whole other

-- the pieces read so far
module _ (s : Sizes) (bs : List (List ℕ)) (vol used : ℕ) where
  pub size_none : SizeIsRead s bs vol used 0 0
  size_none = ([], read_none s bs vol used, refl)

  pub size_more : (n size more : ℕ) → SizeIsRead s bs vol used n size → PieceSizeIs s bs vol used n (Some more)
      → SizeIsRead s bs vol used (n + 1) (size + more)
  size_more n size more h k = by_text k.0 k.1 k.2
    where
      by_text : (text : Option (List ℕ)) → PieceIs s bs vol used n text → Some more ≡ option_map length text
          → SizeIsRead s bs vol used (n + 1) (size + more)
      by_text None is e = absurd (no_some more (sym e))
      by_text (Some text) is e =
          let long : more ≡ length text = same_Some more (length text) e in (
            h.0 ++ text,
            read_more s bs vol used n h.0 text h.1 is,
            (let both = length-append h.0 text in let old = h.2 in omega (arith, both, old, long)),
          )

  pub no_piece : (n : ℕ) → PieceSizeIs s bs vol used n None → PieceIs s bs vol used n None
  no_piece n k = by_text k.0 k.1 k.2
    where
      by_text : (text : Option (List ℕ)) → PieceIs s bs vol used n text → None ≡ option_map length text
          → PieceIs s bs vol used n None
      by_text None is e = is
      by_text (Some text) is e = absurd (no_some (length text) e)

-- pieces of a size but for the last, and how many of them a text has
module _ (f : ℕ → List ℕ) (size : ℕ) (some : 1 ≤ size) where
  length-full : (ps : List ℕ)
      → ((l : ℕ) → l < length ps → (1 ≤ length (f (slice_index ps l))) × (length (f (slice_index ps l)) ≤ size))
      → ((l : ℕ) → l + 1 < length ps → length (f (slice_index ps l)) ≡ size)
      → (length (flat_map f ps) ≤ length ps * size) × (length ps * size < length (flat_map f ps) + size)
  length-full [] each full = (omega arith, omega arith)
  length-full (p ∷ []) each full =
      let one = each 0 (omega arith) in
      let both = length-append (f p) [] in
      (omega (arith, one, both), omega (arith, one, both))
  length-full (p ∷ q ∷ ps) each full =
      let first : length (f p) ≡ size = full 0 (omega arith) in
      let rest = length-full (q ∷ ps) (λ l b. each (suc l) (omega arith)) (λ l b. full (suc l) (omega arith)) in
      let both = length-append (f p) (flat_map f (q ∷ ps)) in
      (omega (arith, first, rest, both), omega (arith, first, rest, both))

pub pieces_are : (size t n : ℕ) → 1 ≤ size → t ≤ n * size → n * size < t + size → pieces size t ≡ n
pieces_are size t n some most least =
    let whole = div-add-mod (t + (size - 1)) size in
    let rest : (t + (size - 1)) % size < size = mod-lt (t + (size - 1)) (omega arith) in
    let turned : size * pieces size t ≡ pieces size t * size = omega arith in
    elim (cases_order (pieces size t) n) [
      | inl same ↦ same
      | inr (inl less) ↦
          let next : (pieces size t + 1) * size ≤ n * size = mul-le (pieces size t + 1) size n size (omega arith)
          (omega arith) in
          let grown : (pieces size t + 1) * size ≡ pieces size t * size + size = omega arith in
          absurd (omega (arith, whole, rest, turned, next, grown))
      | inr (inr more) ↦
          let next : (n + 1) * size ≤ pieces size t * size = mul-le (n + 1) size (pieces size t) size (omega arith)
          (omega arith) in
          let grown : (n + 1) * size ≡ n * size + size = omega arith in
          absurd (omega (arith, whole, rest, turned, next, grown))
    ]

-- the case of a volume
module _ (s : Sizes) (bs : List (List ℕ)) (vol : ℕ) (r : VolumeRecord) where
  pub damaged_case : r.marker ≡ false → r.kind ≡ kind.Static → ((text : List ℕ) → StaticReads s bs vol r text → ⊥)
      → CaseIs s bs vol r place.Damaged
  damaged_case unmarked static none = (content.Damaged, damaged_is s bs vol r unmarked static none, refl)

  dynamic_only : r.marker ≡ false → r.kind ≡ kind.Dynamic → (c : Content) → ContentIs s bs vol r c
      → place.Dynamic ≡ case_of s r c
  dynamic_only unmarked dynamic content.Updating is = absurd (let m = is.fits in cc)
  dynamic_only unmarked dynamic content.Damaged is = absurd (let k = is.fits.1 in cc)
  dynamic_only unmarked dynamic (content.Static text) is = absurd (let k = is.fits.1 in cc)
  dynamic_only unmarked dynamic (content.Dynamic lebs) is = refl

  module _ (clean : NoFault s bs) (whole : AreLebs s bs) (t : Records) (alike : NoMismatch s bs t)
      (recorded : finite.get t.of vol ≡ Some r) (unmarked : r.marker ≡ false) where
    pub dynamic_case : r.kind ≡ kind.Dynamic → CaseIs s bs vol r place.Dynamic
    dynamic_case dynamic = let c = some_content s bs clean vol r whole t alike recorded in
        (c.0, c.1, dynamic_only unmarked dynamic c.0 c.1)

    pub static_case : r.kind ≡ kind.Static → 1 ≤ usable s r → (used size : ℕ) → SizeIsRead s bs vol used used size
        → used ≤ r.reserved → ((lnum : ℕ) → used ≤ lnum → NoMember s bs (vol, lnum))
        → CaseIs s bs vol r (place.Static used size)
    static_case static some used size h few none =
        let short = short_piece s bs t alike vol r recorded unmarked static in
        let a = h.1 in
        let count = a.count in
        let facts : (l : ℕ) → l < length a.ps → (1 ≤ length (piece s bs (slice_index a.ps l)))
        × (l + 1 < used → length (piece s bs (slice_index a.ps l)) ≡ usable s r) =
        λ l b.
        let p = slice_index a.ps l in
        let inside : l < used = omega arith in
        let w = a.win l inside in
        let k = a.pieces l inside in
        let f = full_piece s bs t alike vol r recorded unmarked static l p k.0 w k.1 (whole p w.member.inside) in
        (f.0, λ more. f.1 (let e = k.2 in omega arith)) in
        let sum = length-full (piece s bs) (usable s r) some a.ps
        (λ l b. ((facts l b).0, short l (slice_index a.ps l) (a.win l (omega arith))))
        (λ l b. (facts l (omega arith)).1 (omega arith)) in
        let long : length h.0 ≡ length (flat_map (piece s bs) a.ps) = ap length a.joined in
        let scaled : length a.ps * usable s r ≡ used * usable s r = ap (λ n. n * usable s r) count in
        let lebs : pieces (usable s r) (length h.0) ≡ used = pieces_are (usable s r) (length h.0) used some
        (omega (arith, sum, long, scaled)) (omega (arith, sum, long, scaled)) in (
          content.Static h.0,
          static_is s bs vol r unmarked static used h.0 a few none short,
          ap (λ n. place.Static n size) (sym lebs) ∙ ap (place.Static (pieces (usable s r) (length h.0))) h.2,
        )
