-- What eraseblocks mean depends on the winners of the LEBs that count, and on the image sequence number: if these stay,
-- so does the meaning.
use Rattle.ubi_change.proofs.Prelude.{◌≡◌, ℕ, suc, ◌<◌, inl, inr, List, [], ◌∷◌, ◌++◌, length, take, refl, ap, ap₂, sym, ◌∙◌, subst, arith, Option, Some, None, flat_map, slice_index, option_map_or, Sizes, usable, VolumeRecord, VidHeader, Static, NoFault, block, leb, Leb, NoMember, Wins, is_right, layout, member, image_seq, Wins-unique, winner_or_none, Records, CopyIs, copy_of, AllBlank, Decides, IsTable, CopyRead, AcceptsBlocks, IsWithin, NoMismatch, Means, SlotMeans, HoldContents, IsPiece, LebReads, StaticReads, VolumeReads, piece, Meant, Content, Volume}
use Rattle.std.specs.FinMap as finite
use Rattle.ubi_table.specs.declared.copy.CopyRead.TheVariants as copy
use Rattle.ubi_volume.specs.declared.content.Content.TheVariants as content

-- a LEB keeps its winner with that eraseblock, or goes on having no member
pub record KeepsLeb (s : Sizes) (bs cs : List (List ℕ)) (of : Leb) : Type 0 where
  pub winner : (p : ℕ) → Wins s bs of p → Wins s cs of p × (block cs p ≡ block bs p)
  pub none : NoMember s bs of → NoMember s cs of

static_within : (r : VolumeRecord) (lnum : ℕ) → r.kind ≡ Static → IsWithin r lnum
static_within r lnum e d = let k = e in absurd (cc)

module _ (s : Sizes) (bs cs : List (List ℕ)) where
  -- what is kept one way is kept the other way, where nothing is at fault
  pub kept_back : NoFault s cs → (of : Leb) → KeepsLeb s bs cs of → KeepsLeb s cs bs of
  kept_back clean of k = record {
    winner = λ p w. elim (winner_or_none s bs of) [
      | inl none ↦ absurd (k.none none p w.member)
      | inr old ↦
          let now = k.winner old.0 old.1 in
          let same : old.0 ≡ p = Wins-unique s cs of old.0 p clean now.0 w in
          (subst (Wins s bs of) same old.1, subst (λ (q : ℕ). block bs q ≡ block cs q) same (sym now.1))
    ];
    none = λ none. elim (winner_or_none s bs of) [
      | inl still ↦ still
      | inr old ↦ absurd (none old.0 (k.winner old.0 old.1).0.member)
    ];
  }

  -- the table
  held_kept : (c : ℕ) (what : CopyRead) → KeepsLeb s bs cs (layout, c)
      → (p : ℕ) × Wins s bs (layout, c) p × (copy_of s (leb s (block bs p)) ≡ what)
      → (p : ℕ) × Wins s cs (layout, c) p × (copy_of s (leb s (block cs p)) ≡ what)
  held_kept c what k h = let w = k.winner h.0 h.1 in (h.0, w.0, ap (λ b. copy_of s (leb s b)) w.1 ∙ h.2)

  copy_kept : (c : ℕ) (what : CopyRead) → KeepsLeb s bs cs (layout, c) → CopyIs s bs c what → CopyIs s cs c what
  copy_kept c copy.Absent k none = k.none none
  copy_kept c copy.Corrupt k h = held_kept c copy.Corrupt k h
  copy_kept c (copy.Faulty i f) k h = held_kept c (copy.Faulty i f) k h
  copy_kept c (copy.Twice i j) k h = held_kept c (copy.Twice i j) k h
  copy_kept c (copy.Good t) k h = held_kept c (copy.Good t) k h

  pub decides_kept : ((c : ℕ) → KeepsLeb s bs cs (layout, c)) → (c : ℕ) (what : CopyRead) → Decides s bs c what
      → Decides s cs c what
  decides_kept k c what d = record {
    is = copy_kept c what (k c) d.is;
    can = d.can;
    before = elim d.before [ inl e ↦ inl e | inr e ↦ inr (e.0, e.1, copy_kept 0 e.1 (k 0) e.2, e.3) ];
  }

  pub table_kept : ((c : ℕ) → KeepsLeb s bs cs (layout, c)) → (AllBlank s bs → ⊥) → (t : Records) → IsTable s bs t
      → IsTable s cs t
  table_kept k used t (inl e) = absurd (used e.0)
  table_kept k used t (inr e) = inr (e.0, decides_kept k e.0 (copy.Good t) e.1, e.2)

  -- what volumes read
  pub leb_kept : (vol : ℕ) (r : VolumeRecord) (lnum : ℕ) (text : List ℕ) → KeepsLeb s bs cs (vol, lnum)
      → LebReads s bs vol r lnum text → LebReads s cs vol r lnum text
  leb_kept vol r lnum text k (inl h) = let w = k.winner h.0 h.1 in
      inl (h.0, w.0, h.2 ∙ ap (λ b. take (usable s r) (leb s b)) (sym w.1))
  leb_kept vol r lnum text k (inr h) = inr (k.none h.0, h.1)

  piece_kept : (p : ℕ) → block cs p ≡ block bs p → piece s cs p ≡ piece s bs p
  piece_kept p e = ap (λ (b : List ℕ). take (option_map_or (λ (h : VidHeader). h.data_size) (member s b) 0) (leb s b)) e

  is_piece_kept : (u p : ℕ) → block cs p ≡ block bs p → IsPiece s bs u p → IsPiece s cs u p
  is_piece_kept u p e h = (h.0, ap (member s) e ∙ h.1, h.2, ap (λ b. is_right s b h.0) e ∙ h.3)

  pieces_kept : (ps : List ℕ) → ((l : ℕ) → l < length ps → block cs (slice_index ps l) ≡ block bs (slice_index ps l))
      → flat_map (piece s cs) ps ≡ flat_map (piece s bs) ps
  pieces_kept [] all = refl
  pieces_kept (p ∷ ps) all = ap₂ (λ x y. x ++ y) (piece_kept p (all 0 (omega arith)))
      (pieces_kept ps (λ l i. all (suc l) (omega arith)))

  whole_kept : (vol : ℕ) (r : VolumeRecord) (ps : List ℕ) → ((l : ℕ) → KeepsLeb s bs cs (vol, l))
      → HoldContents s bs vol r ps → HoldContents s cs vol r ps
  whole_kept vol r ps k a = record {
    some = a.some;
    within = a.within;
    win = λ l i. ((k l).winner (slice_index ps l) (a.win l i)).0;
    no_other = λ l i. (k l).none (a.no_other l i);
    pieces = λ l i. is_piece_kept (length ps) (slice_index ps l) ((k l).winner (slice_index ps l) (a.win l i)).1
        (a.pieces l i);
  }

  pub static_kept : (vol : ℕ) (r : VolumeRecord) (text : List ℕ) → ((l : ℕ) → KeepsLeb s bs cs (vol, l))
      → StaticReads s bs vol r text → StaticReads s cs vol r text
  static_kept vol r text k (inl h) = inl ((λ l. (k l).none (h.0 l)), h.1)
  static_kept vol r text k (inr h) =
      inr (
        h.0,
        whole_kept vol r h.0 k h.1,
        h.2
            ∙ sym (pieces_kept h.0 (λ l i. ((k l).winner (slice_index h.0 l) (h.1.win l i)).1)),
      )

  -- the LEBs that a volume with this record reads
  abbrev pub KeepsVolume : ℕ → VolumeRecord → Type 0
  KeepsVolume vol r = (lnum : ℕ) → IsWithin r lnum → KeepsLeb s bs cs (vol, lnum)

  -- those of each volume of a table
  abbrev pub KeepsVolumes : Records → Type 0
  KeepsVolumes t = (vol : ℕ) (r : VolumeRecord) → finite.get t.of vol ≡ Some r → KeepsVolume vol r

module _ (s : Sizes) (bs cs : List (List ℕ)) (clean : NoFault s cs) where
  pub volume_kept : (vol : ℕ) (r : VolumeRecord) (c : Content) → KeepsVolume s bs cs vol r → VolumeReads s bs vol r c
      → VolumeReads s cs vol r c
  volume_kept vol r content.Updating k h = h
  volume_kept vol r (content.Dynamic lebs) k h = (h.0, h.1, λ l i. leb_kept s bs cs vol r l _ (k l (λ _. i)) (h.2 l i))
  volume_kept vol r (content.Static text) k h =
      (h.0, h.1, static_kept s bs cs vol r text (λ l. k l (static_within r l h.1)) h.2)
  volume_kept vol r content.Damaged k h = (
    h.0,
    h.1,
    λ text d. h.2 text
        (static_kept s cs bs vol r text (λ l. kept_back s bs cs clean (vol, l) (k l (static_within r l h.1))) d),
  )

  pub slot_kept : (id : ℕ) (o : Option VolumeRecord) (v : Option Volume)
      → ((r : VolumeRecord) → o ≡ Some r → KeepsVolume s bs cs id r) → SlotMeans s bs id o v → SlotMeans s cs id o v
  slot_kept id None None k h = h
  slot_kept id (Some r) (Some v) k h = (h.0, volume_kept id r v.content (k r refl) h.1)
  slot_kept id None (Some v) k h = h
  slot_kept id (Some r) None k h = h

  pub means_kept : (t : Records) (m : Meant) → image_seq s cs ≡ image_seq s bs → KeepsVolumes s bs cs t → Means s bs t m
      → Means s cs t m
  means_kept t m same k h = record {
    sizes = h.sizes;
    image_seq = h.image_seq ∙ sym same;
    meaning = h.meaning;
    slots = λ id. slot_kept id _ _ (k id) (h.slots id);
  }

  -- a winner that is unlike its record was so before
  pub alike_kept : (t : Records) → KeepsVolumes s bs cs t → NoMismatch s bs t → NoMismatch s cs t
  alike_kept t k alike p m =
      let c = m.2 in
      let w = (kept_back s bs cs clean (c.vol, c.lnum) (k c.vol m.0 c.recorded c.lnum c.within)).winner p c.wins in
      alike p (
        m.0,
        m.1,
        record { vol = c.vol; lnum = c.lnum; wins = w.0; recorded = c.recorded; within = c.within },
        m.3,
        ap (member s) w.1 ∙ m.4,
        m.5,
      )

  -- eraseblocks that keep the image sequence number and the winners of all LEBs that count are accepted with the same
  -- meaning
  pub accepts_kept : (m : Meant) (a : AcceptsBlocks s bs m) → (AllBlank s bs → ⊥) → image_seq s cs ≡ image_seq s bs
      → ((c : ℕ) → KeepsLeb s bs cs (layout, c)) → KeepsVolumes s bs cs a.records → AcceptsBlocks s cs m
  accepts_kept m a used same copies volumes = record {
    clean = clean;
    records = a.records;
    table = table_kept s bs cs copies used a.records a.table;
    alike = alike_kept a.records volumes a.alike;
    means = means_kept a.records m same volumes a.means;
  }
