-- An image has at most one meaning, and isn't refused if it has one.
use Rattle.ubi_volume.proofs.Prelude.{◌≡◌, ◌≢◌, ℕ, ◌<◌, ◌≤◌, inl, inr, List, length, take, refl, ap, sym, ◌∙◌, subst, arith, Option, Some, None, IfSome, unwrap_or, slice_index, flat_map, nat_cmp_total, nat_cmp-IsAntisymmetric, same_number_lists, cases_order, cases_lt, blank, Sizes, usable, VolumeRecord, Refusal, Image, IsWholeImage, IsSizeFault, eraseblocks, block, leb, NoMember, NoFault, Wins-unique, Records, table_unique, never_table_and_fault, AcceptsBlocks, RefusesBlocks, Accepts, Refuses, NoMismatch, IsVolumeFault, SlotMeans, Means, LebReads, HoldContents, StaticReads, VolumeReads, piece, Meant, Fits, KeepsNoBlank, IsVolume, Content, Volume}
use Rattle.std.specs.FinMap as finite
use Rattle.ubi_media.specs.declared.refusal.Refusal.TheVariants as refusal
use Rattle.ubi_volume.specs.declared.content.Content.TheVariants as content

-- texts that aren't blank are kept alike where they are read alike
pub kept_alike : (size : ℕ) (o p : Option (List ℕ)) → IfSome o (λ text. text ≢ blank size)
    → IfSome p (λ text. text ≢ blank size) → unwrap_or o (blank size) ≡ unwrap_or p (blank size) → o ≡ p
kept_alike size None None a b e = refl
kept_alike size None (Some y) a b e = absurd (b (sym e))
kept_alike size (Some x) None a b e = absurd (a e)
kept_alike size (Some x) (Some y) a b e = ap Some e

pub outside : (n l size : ℕ) (o : Option (List ℕ)) → n ≤ l → IfSome o (λ text. (l < n) × (length text ≡ size))
    → o ≡ None
outside n l size None h a = refl
outside n l size (Some x) h a = let k = a.0 in absurd (omega arith)

module _ (s : Sizes) (bs : List (List ℕ)) (clean : NoFault s bs) (vol : ℕ) (r : VolumeRecord) where
  leb_unique : (lnum : ℕ) (x y : List ℕ) → LebReads s bs vol r lnum x → LebReads s bs vol r lnum y → x ≡ y
  leb_unique lnum x y (inl a) (inl b) =
      a.2 ∙ ap (λ p. take (usable s r) (leb s (block bs p))) (Wins-unique s bs (vol, lnum) a.0 b.0 clean a.1 b.1)
      ∙ sym b.2
  leb_unique lnum x y (inl a) (inr b) = absurd (b.0 a.0 a.1.member)
  leb_unique lnum x y (inr a) (inl b) = absurd (a.0 b.0 b.1.member)
  leb_unique lnum x y (inr a) (inr b) = a.1 ∙ sym b.1

  no_more : (ps qs : List ℕ) → HoldContents s bs vol r ps → HoldContents s bs vol r qs → length ps < length qs → ⊥
  no_more ps qs a b h = a.no_other (length ps) (omega arith) (slice_index qs (length ps)) (b.win (length ps) h).member

  whole_unique : (ps qs : List ℕ) → HoldContents s bs vol r ps → HoldContents s bs vol r qs → ps ≡ qs
  whole_unique ps qs a b =
      let same : length ps ≡ length qs = elim (cases_order (length ps) (length qs)) [
        | inl e ↦ e
        | inr t ↦ elim t [ inl h ↦ absurd (no_more ps qs a b h) | inr h ↦ absurd (no_more qs ps b a h) ]
      ] in
      same_number_lists ps qs same
      (λ l h. Wins-unique s bs (vol, l) (slice_index ps l) (slice_index qs l) clean (a.win l h)
      (b.win l (omega arith)))

  none_and_whole : (ps : List ℕ) → ((lnum : ℕ) → NoMember s bs (vol, lnum)) → HoldContents s bs vol r ps → ⊥
  none_and_whole ps none a = let n = a.some in none 0 (slice_index ps 0) (a.win 0 (omega arith)).member

  static_unique : (x y : List ℕ) → StaticReads s bs vol r x → StaticReads s bs vol r y → x ≡ y
  static_unique x y (inl a) (inl b) = a.1 ∙ sym b.1
  static_unique x y (inl a) (inr b) = absurd (none_and_whole b.0 a.0 b.1)
  static_unique x y (inr a) (inl b) = absurd (none_and_whole a.0 b.0 a.1)
  static_unique x y (inr a) (inr b) = a.2 ∙ ap (flat_map (piece s bs)) (whole_unique a.0 b.0 a.1 b.1) ∙ sym b.2

  pub reads_unique : (x y : Content) → VolumeReads s bs vol r x → VolumeReads s bs vol r y → Fits s r x → Fits s r y
      → KeepsNoBlank s r x → KeepsNoBlank s r y → x ≡ y
  reads_unique content.Updating content.Updating h k f g u v = refl
  reads_unique content.Updating content.Damaged h k f g u v = let e = k.0 in absurd (cc)
  reads_unique content.Updating (content.Static y) h k f g u v = let e = k.0 in absurd (cc)
  reads_unique content.Updating (content.Dynamic y) h k f g u v = let e = k.0 in absurd (cc)
  reads_unique content.Damaged content.Updating h k f g u v = let e = h.0 in absurd (cc)
  reads_unique content.Damaged content.Damaged h k f g u v = refl
  reads_unique content.Damaged (content.Static y) h k f g u v = absurd (h.2 y k.2)
  reads_unique content.Damaged (content.Dynamic y) h k f g u v = let e = h.1 in let d = k.1 in absurd (cc)
  reads_unique (content.Static x) content.Updating h k f g u v = let e = h.0 in absurd (cc)
  reads_unique (content.Static x) content.Damaged h k f g u v = absurd (k.2 x h.2)
  reads_unique (content.Static x) (content.Static y) h k f g u v = ap content.Static (static_unique x y h.2 k.2)
  reads_unique (content.Static x) (content.Dynamic y) h k f g u v = let e = h.1 in let d = k.1 in absurd (cc)
  reads_unique (content.Dynamic x) content.Updating h k f g u v = let e = h.0 in absurd (cc)
  reads_unique (content.Dynamic x) content.Damaged h k f g u v = let e = h.1 in let d = k.1 in absurd (cc)
  reads_unique (content.Dynamic x) (content.Static y) h k f g u v = let e = h.1 in let d = k.1 in absurd (cc)
  reads_unique (content.Dynamic x) (content.Dynamic y) h k f g u v =
      ap content.Dynamic (finite.same_map nat_cmp_total nat_cmp-IsAntisymmetric x y (λ l. elim (cases_lt l r.reserved) [
        | inl i ↦ kept_alike (usable s r) (finite.get x l) (finite.get y l) (u l) (v l)
            (leb_unique l _ _ (h.2 l i) (k.2 l i))
        | inr i ↦ outside r.reserved l (usable s r) (finite.get x l) i (f.2 l)
            ∙ sym (outside r.reserved l (usable s r) (finite.get y l) i (g.2 l))
      ]))

module _ (s : Sizes) (bs : List (List ℕ)) (clean : NoFault s bs) where
  slot_unique : (id : ℕ) (o : Option VolumeRecord) (x y : Option Volume) → SlotMeans s bs id o x → SlotMeans s bs id o y
      → IfSome x (IsVolume s id) → IfSome y (IsVolume s id) → x ≡ y
  slot_unique id None None None h k a b = refl
  slot_unique id None None (Some w) h k a b = absurd k
  slot_unique id None (Some v) y h k a b = absurd h
  slot_unique id (Some r) None y h k a b = absurd h
  slot_unique id (Some r) (Some v) None h k a b = absurd k
  slot_unique id (Some r) (Some v) (Some w) h k a b =
      let e : v.entry ≡ w.entry = h.0 ∙ sym k.0 in
      let c : v.content ≡ w.content = reads_unique s bs clean id r v.content w.content h.1 k.1
      (subst (λ q. Fits s q v.content) h.0 a.fits) (subst (λ q. Fits s q w.content) k.0 b.fits)
      (subst (λ q. KeepsNoBlank s q v.content) h.0 a.kept) (subst (λ q. KeepsNoBlank s q w.content) k.0 b.kept) in
      ap Some (λ i. record { entry = e i; content = c i })

  means_unique : (t : Records) (m n : Meant) → Means s bs t m → Means s bs t n → m ≡ n
  means_unique t m n a b =
      let e : m.sizes ≡ n.sizes = a.sizes ∙ sym b.sizes in
      let f : m.volumes ≡ n.volumes = finite.same_map nat_cmp_total nat_cmp-IsAntisymmetric m.volumes n.volumes (λ id.
      slot_unique id (finite.get t.of id) (finite.get m.volumes id) (finite.get n.volumes id) (a.slots id) (b.slots id)
      (subst (λ z. IfSome (finite.get m.volumes id) (IsVolume z id)) a.sizes (a.meaning.each id))
      (subst (λ z. IfSome (finite.get n.volumes id) (IsVolume z id)) b.sizes (b.meaning.each id))) in
      let g : m.image_seq ≡ n.image_seq = a.image_seq ∙ sym b.image_seq in
      λ i. record { sizes = e i; image_seq = g i; volumes = f i }

pub blocks-unique : (s : Sizes) (bs : List (List ℕ)) (m n : Meant) → AcceptsBlocks s bs m → AcceptsBlocks s bs n → m ≡ n
blocks-unique s bs m n a b =
    means_unique s bs a.clean b.records m n
    (subst (λ t. Means s bs t m) (table_unique s bs a.clean a.records b.records a.table b.table) a.means) b.means

pub Accepts-unique : (image : Image) (m n : Meant) → Accepts image m → Accepts image n → m ≡ n
Accepts-unique image m n a b = blocks-unique image.sizes (eraseblocks image) m n a.accepted b.accepted

pub no_size_fault : (image : Image) (c : Refusal) → IsWholeImage image → IsSizeFault image c → ⊥
no_size_fault image refusal.Length w h = elim h.1 [ inl e ↦ (let n = w.some in omega arith) | inr e ↦ e w.cut ]
no_size_fault image refusal.TooMany w h = let n = w.fits in omega arith
no_size_fault image _ w h = h

no_volume_fault : (s : Sizes) (bs : List (List ℕ)) (t : Records) (c : Refusal) → NoMismatch s bs t
    → IsVolumeFault s bs t c → ⊥
no_volume_fault s bs t (refusal.Mismatch p) none h = none p h.0
no_volume_fault s bs t _ none h = h

blocks_or_refused : (s : Sizes) (bs : List (List ℕ)) (m : Meant) (c : Refusal) → AcceptsBlocks s bs m
    → RefusesBlocks s bs c → ⊥
blocks_or_refused s bs m c a (inl h) = a.clean h.at c h.inside h.fault.stands
blocks_or_refused s bs m c a (inr (inl h)) = never_table_and_fault s bs a.clean a.records c a.table h.1
blocks_or_refused s bs m c a (inr (inr h)) =
    no_volume_fault s bs h.1 c (subst (NoMismatch s bs) (table_unique s bs a.clean a.records h.1 a.table h.2) a.alike)
    h.3

pub never_accepted_and_refused : (image : Image) (m : Meant) (c : Refusal) → Accepts image m → Refuses image c → ⊥
never_accepted_and_refused image m c a (inl h) = no_size_fault image c a.whole h
never_accepted_and_refused image m c a (inr h) = blocks_or_refused image.sizes (eraseblocks image) m c a.accepted h.1
