-- Attaching an image gives one value.
use Rattle.ubi_volume.proofs.Prelude.{◌≡◌, ℕ, ◌<◌, List, ap, arith, refl, subst, sym, ◌∙◌, Sizes, Image, block, ec, eraseblocks, vid, Leb, Wins, layout, Found, blank_sort, corrupt_sort, dropped_sort, each_alike, free_sort, garbage_sort, one_leb, one_scan, sort_at, sort_of_member, Records, AreBlockStates, IsAttached, IsOutside, BlockStateIs, AttachValue, Meant, records_of, BlockState}
use Rattle.ubi_volume.specs.declared.attached.BlockState.TheVariants as state
use Rattle.ubi_volume.proofs.OneMeaning.{Accepts-unique}

-- the sort of a state, by the two headers of its eraseblock
abbrev sort_of : BlockState → ℕ
sort_of state.Blank = 0
sort_of state.Free = 1
sort_of state.Garbage = 2
sort_of state.Corrupt = 3
sort_of state.Dropped = 4
sort_of state.Orphan = 5
sort_of state.Table = 5
sort_of state.Used = 5
sort_of state.Stale = 5

module _ (s : Sizes) (bs : List (List ℕ)) (t : Records) where
  sorted : (p : ℕ) (a : BlockState) → BlockStateIs s bs t p a → sort_at s bs p ≡ sort_of a
  sorted p state.Blank h = blank_sort (ec s (block bs p)) (vid s (block bs p)) h
  sorted p state.Free h = free_sort (ec s (block bs p)) (vid s (block bs p)) h.0 h.1
  sorted p state.Garbage h = garbage_sort (ec s (block bs p)) (vid s (block bs p)) h.0 h.1
  sorted p state.Corrupt h = corrupt_sort (ec s (block bs p)) (vid s (block bs p)) h.0 h.1
  sorted p state.Dropped h = dropped_sort (ec s (block bs p)) (vid s (block bs p)) h.0 h.1
  sorted p state.Orphan h = sort_of_member s bs h.0 p h.1
  sorted p state.Table h = sort_of_member s bs (layout, h.0) p h.1.member
  sorted p state.Used h = sort_of_member s bs h.0 p h.1.member
  sorted p state.Stale h = sort_of_member s bs h.0 p h.1

  orphan_table : (p : ℕ) → BlockStateIs s bs t p state.Orphan → BlockStateIs s bs t p state.Table → ⊥
  orphan_table p h k =
      let low : layout < 128 = subst (λ (x : Leb). x.0 < 128) (one_leb s bs p h.0 (layout, k.0) h.1 k.1.member) h.2.0 in
      omega (arith, low)

  orphan_used : (p : ℕ) → BlockStateIs s bs t p state.Orphan → BlockStateIs s bs t p state.Used → ⊥
  orphan_used p h k = k.3 (subst (IsOutside t) (one_leb s bs p h.0 k.0 h.1 k.1.member) h.2)

  orphan_stale : (p : ℕ) → BlockStateIs s bs t p state.Orphan → BlockStateIs s bs t p state.Stale → ⊥
  orphan_stale p h k = k.3 (subst (IsOutside t) (one_leb s bs p h.0 k.0 h.1 k.1) h.2)

  table_used : (p : ℕ) → BlockStateIs s bs t p state.Table → BlockStateIs s bs t p state.Used → ⊥
  table_used p h k = k.2 (ap (λ (x : Leb). x.0) (one_leb s bs p k.0 (layout, h.0) k.1.member h.1.member))

  table_stale : (p : ℕ) → BlockStateIs s bs t p state.Table → BlockStateIs s bs t p state.Stale → ⊥
  table_stale p h k = k.2 (subst (λ (x : Leb). Wins s bs x p) (one_leb s bs p (layout, h.0) k.0 h.1.member k.1) h.1)

  used_stale : (p : ℕ) → BlockStateIs s bs t p state.Used → BlockStateIs s bs t p state.Stale → ⊥
  used_stale p h k = k.2 (subst (λ (x : Leb). Wins s bs x p) (one_leb s bs p h.0 k.0 h.1.member k.1) h.1)

  same_state : (p : ℕ) (a b : BlockState) → BlockStateIs s bs t p a → BlockStateIs s bs t p b → sort_of a ≡ sort_of b → a ≡ b
  same_state p state.Blank state.Blank h k e = refl
  same_state p state.Free state.Free h k e = refl
  same_state p state.Garbage state.Garbage h k e = refl
  same_state p state.Corrupt state.Corrupt h k e = refl
  same_state p state.Dropped state.Dropped h k e = refl
  same_state p state.Orphan state.Orphan h k e = refl
  same_state p state.Table state.Table h k e = refl
  same_state p state.Used state.Used h k e = refl
  same_state p state.Stale state.Stale h k e = refl
  same_state p state.Orphan state.Table h k e = absurd (orphan_table p h k)
  same_state p state.Table state.Orphan h k e = absurd (orphan_table p k h)
  same_state p state.Orphan state.Used h k e = absurd (orphan_used p h k)
  same_state p state.Used state.Orphan h k e = absurd (orphan_used p k h)
  same_state p state.Orphan state.Stale h k e = absurd (orphan_stale p h k)
  same_state p state.Stale state.Orphan h k e = absurd (orphan_stale p k h)
  same_state p state.Table state.Used h k e = absurd (table_used p h k)
  same_state p state.Used state.Table h k e = absurd (table_used p k h)
  same_state p state.Table state.Stale h k e = absurd (table_stale p h k)
  same_state p state.Stale state.Table h k e = absurd (table_stale p k h)
  same_state p state.Used state.Stale h k e = absurd (used_stale p h k)
  same_state p state.Stale state.Used h k e = absurd (used_stale p k h)
  same_state p a b h k e = absurd (omega (arith, e))

  one_state : (p : ℕ) (a b : BlockState) → BlockStateIs s bs t p a → BlockStateIs s bs t p b → a ≡ b
  one_state p a b h k = same_state p a b h k (sym (sorted p a h) ∙ sorted p b k)

  same_states : (xs ys : List BlockState) → AreBlockStates s bs t xs → AreBlockStates s bs t ys → xs ≡ ys
  same_states xs ys h k = each_alike (BlockStateIs s bs t) one_state xs ys (h.0 ∙ sym k.0) h.1 k.1

pub one_attached : (image : Image) (a b : AttachValue) → IsAttached image a → IsAttached image b → a ≡ b
one_attached image a b h k =
    let meant : a.meaning ≡ b.meaning = Accepts-unique image a.meaning b.meaning h.accepted k.accepted in
    let states : AreBlockStates image.sizes (eraseblocks image) (records_of b.meaning) a.states =
    subst (λ (m : Meant). AreBlockStates image.sizes (eraseblocks image) (records_of m) a.states) meant h.states in
    ap (λ (m : Meant). record a { meaning = m }) meant
    ∙ ap (λ (f : Found). record a { meaning = b.meaning; scan = f })
    (one_scan image.sizes (eraseblocks image) a.scan b.scan h.scan k.scan)
    ∙ ap (λ (xs : List BlockState). record b { states = xs })
    (same_states image.sizes (eraseblocks image) (records_of b.meaning) a.states b.states states k.states)
