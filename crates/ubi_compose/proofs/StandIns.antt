-- Volumes are judged by what stands in for their bytes as they would be by the bytes.
use Rattle.ubi_compose.proofs.Prelude.{◌≡◌, ℕ, ◌+◌, ◌*◌, ◌<◌, ◌≤◌, ◌&&◌, Bool, true, false, cond, List, [], ◌∷◌, length, map, refl, ap, sym, ◌∙◌, subst, arith, inl, inr, None, Option, Some, fold, is_none, nat_lt, slice_get, IfSome, nat_cmp, nat_tests, Sizes, rec_fault, usable, RecFault, VolumeRecord, VolKind, usable_some, IsBefore, IsFirstMade, IsItem, NoCause, Stands, cause_rank, Fits, Content, Volume, MeaningCause, Reaches, content_of, items_of, text_of, empty_of, is_long_part, stand_in, stand_in_item, Part, not, content_fits, long_misfits, text_size}
use Rattle.std.specs.FinMap as finite
use Rattle.ubi_media.specs.declared.vid.VolKind.TheVariants as kind
use Rattle.ubi_volume.specs.declared.content.Content.TheVariants as content
use Rattle.ubi_volume.specs.declared.errors.MeaningCause.TheVariants as cause
use Rattle.ubi_compose.proofs.ListedParts.{item_at, item_from, reached}

-- a record allows no bytes exactly where it hasn't the marker
module _ (s : Sizes) (r : VolumeRecord) where
  empty_fits : (k : VolKind) → r.kind ≡ k → r.marker ≡ false → Fits s r (empty_of k)
  empty_fits kind.Static is clear = (clear, is, omega arith)
  empty_fits kind.Dynamic is clear = (
    clear,
    is,
    λ lnum.
        subst (λ (o : Option (List ℕ)). IfSome o (λ text. (lnum < r.reserved) × (length text ≡ usable s r)))
        (sym (finite.get-empty nat_cmp lnum)) tt,
  )

  empty_clear : (k : VolKind) → Fits s r (empty_of k) → r.marker ≡ false
  empty_clear kind.Static fits = fits.0
  empty_clear kind.Dynamic fits = fits.0

  pub content_clear : (k : VolKind) (size : ℕ) (text : List ℕ) → Fits s r (content_of k size text) → r.marker ≡ false
  content_clear kind.Static size text fits = fits.0
  content_clear kind.Dynamic size text fits = fits.0

-- what stands in fits exactly where the bytes do
module _ (s : Sizes) (p : Part) (sound : rec_fault s p.entry ≡ None) (text : List ℕ) (size : length text ≡ p.len) where
  abbrev r : VolumeRecord
  r = p.entry

  some : 1 ≤ usable s r
  some = usable_some s r sound

  long_is : is_long_part s p ≡ nat_lt (r.reserved * usable s r) p.len
  long_is = ap (λ o. is_none o && nat_lt (r.reserved * usable s r) p.len) sound

  past : is_long_part s p ≡ true → r.reserved * usable s r < length text
  past e = let t = sym long_is ∙ e in rw size (above t)
    where
      above : nat_lt (r.reserved * usable s r) p.len ≡ true → r.reserved * usable s r < p.len
      above t = grind (arith, nat_tests)

  within : is_long_part s p ≡ false → length text ≤ r.reserved * usable s r
  within e = let t = sym long_is ∙ e in rw size (below t)
    where
      below : nat_lt (r.reserved * usable s r) p.len ≡ false → p.len ≤ r.reserved * usable s r
      below t = grind (arith, nat_tests)

  -- by whether it is long, and whether the record has the marker
  abbrev chosen : Bool → Bool → Content
  chosen long marked = cond (long && not marked) content.Updating (empty_of r.kind)

  bytes_then : (long marked : Bool) → is_long_part s p ≡ long → r.marker ≡ marked → Fits s r (chosen long marked)
      → Fits s r (content_of r.kind (usable s r) text)
  bytes_then true false e m fits = absurd (let f = sym m ∙ fits in cc)
  bytes_then true true e m fits = absurd (let f = sym m ∙ empty_clear s r r.kind fits in cc)
  bytes_then false true e m fits = absurd (let f = sym m ∙ empty_clear s r r.kind fits in cc)
  bytes_then false false e m fits = content_fits s r some text r.kind refl m (within e)

  stand_then : (long marked : Bool) → is_long_part s p ≡ long → r.marker ≡ marked
      → Fits s r (content_of r.kind (usable s r) text) → Fits s r (chosen long marked)
  stand_then true false e m fits = absurd (long_misfits s r some text r.kind (past e) fits)
  stand_then true true e m fits = absurd (let f = sym m ∙ content_clear s r r.kind (usable s r) text fits in cc)
  stand_then false true e m fits = absurd (let f = sym m ∙ content_clear s r r.kind (usable s r) text fits in cc)
  stand_then false false e m fits = empty_fits s r r.kind refl m

  pub bytes_fit : Fits s r (stand_in s p) → Fits s r (content_of r.kind (usable s r) text)
  bytes_fit fits = bytes_then (is_long_part s p) r.marker refl refl fits

  pub stand_in_fits : Fits s r (content_of r.kind (usable s r) text) → Fits s r (stand_in s p)
  stand_in_fits fits = stand_then (is_long_part s p) r.marker refl refl fits

-- volumes of the same parts, whose numbers and records are those of the parts
module _ (s : Sizes) (parts : List Part) (content other : Part → Content) where
  abbrev volume : (Part → Content) → Part → ℕ × Volume
  volume c p = (p.id, record { entry = p.entry; content = c p })

  abbrev items : (Part → Content) → List (ℕ × Volume)
  items c = map (volume c) parts

  same_sum : (ps : List Part) (n : ℕ) → fold (λ k (e : ℕ × Volume). k + e.1.entry.reserved) n (map (volume content) ps)
      ≡ fold (λ k (e : ℕ × Volume). k + e.1.entry.reserved) n (map (volume other) ps)
  same_sum [] n = refl
  same_sum (p ∷ ps) n = same_sum ps (n + p.entry.reserved)

  -- the one cause that depends on a content
  abbrev MisfitOf : MeaningCause → Part → Type 0
  MisfitOf (cause.ContentRange i) p = (slice_get parts i ≡ Some p) × (Fits s p.entry (content p) → ⊥)
  MisfitOf _ p = ⊥

  -- it stands of the other too
  abbrev pub IsMisfit : MeaningCause → Type 0
  IsMisfit c = (p : Part) → MisfitOf c p → Fits s p.entry (other p) → ⊥

  moved : (i : ℕ) (e : ℕ × Volume) → IsItem (items content) i e
      → (p : Part) × (slice_get parts i ≡ Some p) × (volume content p ≡ e)
  moved i e at = item_from (volume content) parts i e at

  there : (i : ℕ) (p : Part) → slice_get parts i ≡ Some p → IsItem (items other) i (volume other p)
  there i p at = item_at (volume other) parts i p at

  pub stands_so : (c : MeaningCause) → IsMisfit c → Stands s (items content) c → Stands s (items other) c
  stands_so (cause.IdRange i) misfit h =
      let m = moved i h.0 h.1 in
      let id : h.0.0 ≡ m.0.id = ap (λ (e : ℕ × Volume). e.0) (sym m.2) in
      (volume other m.0, there i m.0 m.1, (let le = h.2 in omega arith))
  stands_so (cause.SameId i) misfit h =
      let m = moved i h.1 h.3 in
      let n = moved h.0 h.2 h.4 in (
        h.0,
        volume other m.0,
        volume other n.0,
        there i m.0 m.1,
        there h.0 n.0 n.1,
        h.5,
        ap (λ (e : ℕ × Volume). e.0) n.2 ∙ h.6 ∙ ap (λ (e : ℕ × Volume). e.0) (sym m.2),
      )
  stands_so (cause.Record i fault) misfit h =
      let m = moved i h.0 h.1 in
      (volume other m.0, there i m.0 m.1, ap (λ (e : ℕ × Volume). rec_fault s e.1.entry) m.2 ∙ h.2)
  stands_so (cause.SameName i j) misfit h =
      let m = moved i h.0 h.2 in
      let n = moved j h.1 h.3 in (
        volume other m.0,
        volume other n.0,
        there i m.0 m.1,
        there j n.0 n.1,
        h.4,
        ap (λ (e : ℕ × Volume). e.1.entry.name) n.2 ∙ h.5 ∙ ap (λ (e : ℕ × Volume). e.1.entry.name) (sym m.2),
      )
  stands_so cause.NoSpace misfit h = subst (λ n. s.pebs < 2 + n) (same_sum parts 0) h
  stands_so (cause.ContentRange i) misfit h =
      let m = moved i h.0 h.1 in
      let misfits = subst (λ (e : ℕ × Volume). Fits s e.1.entry e.1.content → ⊥) (sym m.2) h.2 in
      (volume other m.0, there i m.0 m.1, misfit m.0 (m.1, misfits))

module _ (s : Sizes) (parts : List Part) (bytes : List ℕ) (reaches : Reaches (length bytes) parts) where
  abbrev standing : List (ℕ × Volume)
  standing = map (stand_in_item s) parts

  abbrev having : List (ℕ × Volume)
  having = items_of s bytes parts

  abbrev text_in : Part → Content
  text_in p = content_of p.entry.kind (usable s p.entry) (text_of bytes p)

  -- where no record before breaks a rule, each is sound
  sound_at : (i : ℕ) (p : Part) → slice_get parts i ≡ Some p
      → ((f : RecFault) → Stands s standing (cause.Record i f) → ⊥) → rec_fault s p.entry ≡ None
  sound_at i p at free = by (rec_fault s p.entry) refl
    where
      by : (o : Option RecFault) → rec_fault s p.entry ≡ o → o ≡ None
      by None e = refl
      by (Some f) e = absurd (free f (stand_in_item s p, item_at (stand_in_item s) parts i p at, e))

  abbrev NoFaultAt : MeaningCause → Type 0
  NoFaultAt (cause.ContentRange i) = (f : RecFault) → Stands s standing (cause.Record i f) → ⊥
  NoFaultAt _ = Unit {0}

  misfit_bytes : (c : MeaningCause) → NoFaultAt c → IsMisfit s parts (stand_in s) text_in c
  misfit_bytes (cause.ContentRange i) free p m = λ fits.
      let sound = sound_at i p m.0 free in
      m.1 (stand_in_fits s p sound (text_of bytes p)
      (text_size bytes p (reached (length bytes) parts i p reaches m.0)) fits)
  misfit_bytes _ free p m = absurd m

  misfit_stand : (c : MeaningCause) → NoFaultAt c → IsMisfit s parts text_in (stand_in s) c
  misfit_stand (cause.ContentRange i) free p m = λ fits.
      let sound = sound_at i p m.0 free in
      m.1 (bytes_fit s p sound (text_of bytes p)
      (text_size bytes p (reached (length bytes) parts i p reaches m.0)) fits)
  misfit_stand _ free p m = absurd m

  stands_here : (c : MeaningCause) → NoFaultAt c → Stands s standing c → Stands s having c
  stands_here c free = stands_so s parts (stand_in s) text_in c (misfit_bytes c free)

  stands_there : (c : MeaningCause) → NoFaultAt c → Stands s having c → Stands s standing c
  stands_there c free = stands_so s parts text_in (stand_in s) c (misfit_stand c free)

  -- no cause stands
  pub none_of_bytes : NoCause s standing → NoCause s having
  none_of_bytes none c stands = none c (stands_there c (no_fault c) stands)
    where
      no_fault : (c : MeaningCause) → NoFaultAt c
      no_fault (cause.ContentRange i) = λ f. none (cause.Record i f)
      no_fault _ = tt

  -- the first cause is the same
  pub first_of_bytes : (c : MeaningCause) → IsFirstMade s standing c → IsFirstMade s having c
  first_of_bytes c h = record {
    stands = stands_here c (here c h) h.stands;
    first = λ d before stands. h.first d before (stands_there d (earlier d before) stands);
  }
    where
      here : (c : MeaningCause) → IsFirstMade s standing c → NoFaultAt c
      here (cause.ContentRange i) h = λ f. h.first (cause.Record i f) (inl (omega arith))
      here _ h = tt

      most : (d : MeaningCause) → cause_rank d ≤ 6
      most (cause.ContentRange i) = omega arith
      most _ = omega arith

      last : (i : ℕ) → IsBefore (cause.ContentRange i) c → 6 ≤ cause_rank c
      last i (inl l) = absurd (let m = most c in omega (arith, l, m))
      last i (inr e) = (let same = e.0 in omega (arith, same))

      earlier : (d : MeaningCause) → IsBefore d c → NoFaultAt d
      earlier (cause.ContentRange i) before = λ f. h.first (cause.Record i f)
          (inl (let l = last i before in omega (arith, l)))
      earlier _ before = tt
