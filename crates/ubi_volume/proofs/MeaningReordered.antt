-- The eraseblocks in another order: they are accepted with the same meaning.
use Rattle.ubi_volume.proofs.Prelude.{◌≡◌, ℕ, suc, ◌<◌, inl, inr, List, [], ◌∷◌, ◌++◌, length, map, take, refl, ap, ap₂, sym, ◌∙◌, subst, arith, Option, Some, None, flat_map, slice_index, swap, IsPermutation, option_map_or, get_or-map, length-map, IsPermutation-keeps, Sizes, usable, VolumeRecord, VidHeader, NoFault, Image, IsWholeImage, eraseblocks, leb, Wins, is_right, member, IsMoved, clean_to, inside_of, moved_back, no_member_to, same_back, seq_to, swapped, trade, wins_to, Records, table_to, Accepts, AcceptsBlocks, IsMismatched, Means, SlotMeans, HoldContents, IsPiece, LebReads, StaticReads, VolumeReads, piece, Meant, Content, Volume}
use Rattle.ubi_volume.specs.declared.content.Content.TheVariants as content

module _ (z : Sizes) (bs cs : List (List ℕ)) (to : ℕ → ℕ) (h : IsMoved bs cs to) where
  -- what a LEB reads
  leb_to : (vol : ℕ) (r : VolumeRecord) (lnum : ℕ) (text : List ℕ) → LebReads z bs vol r lnum text
      → LebReads z cs vol r lnum text
  leb_to vol r lnum text (inl k) = inl (
    to k.0,
    wins_to z bs cs to h (vol, lnum) k.0 k.1,
    k.2 ∙ ap (λ b. take (usable z r) (leb z b)) (sym (same_back z bs cs to h k.0 k.1.member.inside)),
  )
  leb_to vol r lnum text (inr k) = inr (no_member_to z bs cs to h (vol, lnum) k.0, k.1)

  -- the pieces of a static text
  piece_to : (p : ℕ) → p < length bs → piece z cs (to p) ≡ piece z bs p
  piece_to p i = ap (λ (b : List ℕ). take (option_map_or (λ (k : VidHeader). k.data_size) (member z b) 0) (leb z b))
      (same_back z bs cs to h p i)

  is_piece_to : (u p : ℕ) → p < length bs → IsPiece z bs u p → IsPiece z cs u (to p)
  is_piece_to u p i k =
      let e = same_back z bs cs to h p i in
      (k.0, ap (member z) e ∙ k.1, k.2, ap (λ b. is_right z b k.0) e ∙ k.3)

  pieces_to : (ps : List ℕ) → ((l : ℕ) → l < length ps → slice_index ps l < length bs)
      → flat_map (piece z cs) (map to ps) ≡ flat_map (piece z bs) ps
  pieces_to [] all = refl
  pieces_to (p ∷ ps) all = ap₂ (λ x y. x ++ y) (piece_to p (all 0 (omega arith)))
      (pieces_to ps (λ l i. all (suc l) (omega arith)))

  whole_to : (vol : ℕ) (r : VolumeRecord) (ps : List ℕ) → HoldContents z bs vol r ps → HoldContents z cs vol r (map to ps)
  whole_to vol r ps a =
      let size : length (map to ps) ≡ length ps = length-map ps to in
      let n = a.some in
      let w = a.within in
      let at : (l : ℕ) → l < length ps → to (slice_index ps l) ≡ slice_index (map to ps) l =
      λ l i. sym (get_or-map to ps l 0 0 i) in
      record {
        some = omega arith;
        within = omega arith;
        win = λ l i.
            (let j : l < length ps = omega arith in
            subst (Wins z cs (vol, l)) (at l j) (wins_to z bs cs to h (vol, l) (slice_index ps l) (a.win l j)));
        no_other = λ l i. no_member_to z bs cs to h (vol, l) (a.no_other l (omega arith));
        pieces = λ l i.
            (let j : l < length ps = omega arith in
            let k : IsPiece z cs (length ps) (to (slice_index ps l)) =
            is_piece_to (length ps) (slice_index ps l) (a.win l j).member.inside (a.pieces l j) in
            subst (λ (u : ℕ). IsPiece z cs u (slice_index (map to ps) l)) (sym size)
            (subst (IsPiece z cs (length ps)) (at l j) k));
      }

  static_to : (vol : ℕ) (r : VolumeRecord) (text : List ℕ) → StaticReads z bs vol r text → StaticReads z cs vol r text
  static_to vol r text (inl k) = inl ((λ l. no_member_to z bs cs to h (vol, l) (k.0 l)), k.1)
  static_to vol r text (inr k) = inr (
    map to k.0,
    whole_to vol r k.0 k.1,
    k.2 ∙ sym (pieces_to k.0 (λ l i. (k.1.win l i).member.inside)),
  )

module _ (z : Sizes) (bs cs : List (List ℕ)) (to : ℕ → ℕ) (h : IsMoved bs cs to) where
  -- what a volume reads
  volume_to : (vol : ℕ) (r : VolumeRecord) (c : Content) → VolumeReads z bs vol r c → VolumeReads z cs vol r c
  volume_to vol r content.Updating k = k
  volume_to vol r (content.Dynamic lebs) k = (k.0, k.1, λ l i. leb_to z bs cs to h vol r l _ (k.2 l i))
  volume_to vol r (content.Static text) k = (k.0, k.1, static_to z bs cs to h vol r text k.2)
  volume_to vol r content.Damaged k =
      (k.0, k.1, λ text d. k.2 text (static_to z cs bs to (moved_back z bs cs to h) vol r text d))

  slot_to : (id : ℕ) (o : Option VolumeRecord) (v : Option Volume) → SlotMeans z bs id o v → SlotMeans z cs id o v
  slot_to id None None k = k
  slot_to id (Some r) (Some v) k = (k.0, volume_to id r v.content k.1)
  slot_to id None (Some v) k = k
  slot_to id (Some r) None k = k

  means_to : (t : Records) (m : Meant) → NoFault z bs → Means z bs t m → Means z cs t m
  means_to t m clean k = record {
    sizes = k.sizes;
    image_seq = k.image_seq ∙ sym (seq_to z bs cs to h clean);
    meaning = k.meaning;
    slots = λ id. slot_to id _ _ (k.slots id);
  }

  -- an eraseblock that is unlike the record of its volume
  mismatch_of : (t : Records) (p : ℕ) → IsMismatched z cs t p → IsMismatched z bs t (to p)
  mismatch_of t p m =
      let c = m.2 in
      let w = wins_to z cs bs to (moved_back z bs cs to h) (c.vol, c.lnum) p c.wins in
      let e = h.same p (inside_of z bs cs to h p c.wins.member.inside) in (
        m.0,
        m.1,
        record { vol = c.vol; lnum = c.lnum; wins = w; recorded = c.recorded; within = c.within },
        m.3,
        ap (member z) (sym e) ∙ m.4,
        m.5,
      )

  accepts_to : (m : Meant) → AcceptsBlocks z bs m → AcceptsBlocks z cs m
  accepts_to m a = record {
    clean = clean_to z bs cs to h a.clean;
    records = a.records;
    table = table_to z bs cs to h a.records a.table;
    alike = λ p k. a.alike (to p) (mismatch_of a.records p k);
    means = means_to a.records m a.clean a.means;
  }

pub blocks_in_any_order : (s : Sizes) (bs cs : List (List ℕ)) (m : Meant) → IsPermutation bs cs → AcceptsBlocks s bs m
    → AcceptsBlocks s cs m
blocks_in_any_order s bs cs m moved a =
    IsPermutation-keeps bs (λ x. AcceptsBlocks s x m) a
    (λ l i j b c k. accepts_to s l (swap l i j) (trade i j) (swapped l i j b c) m k) cs moved

pub reorder : (image other : Image) (m : Meant) → other.sizes ≡ image.sizes → IsWholeImage other
    → IsPermutation (eraseblocks image) (eraseblocks other) → Accepts image m → Accepts other m
reorder image other m same whole moved a = record {
  whole = whole;
  accepted = subst (λ s. AcceptsBlocks s (eraseblocks other) m) (sym same)
      (blocks_in_any_order image.sizes (eraseblocks image) (eraseblocks other) m moved a.accepted);
}
