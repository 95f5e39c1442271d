-- A file shows an image that some of its bytes show, if no header stands before or behind these.
use Rattle.ubi_detect.proofs.Prelude.{◌≡◌, ℕ, ◌+◌, ◌-◌, ◌*◌, ◌/◌, ◌%◌, ◌<◌, ◌≤◌, List, length, inl, inr, ap, sym, ◌∙◌, arith, IsTrue, Some, none-some, within_or_past, slots, record_size, key_at, key_in, step, layout_sizes, HoldsPart, LiesAt, moved, all_are, block_at, is_blank_at, number_at, Group, Key, AreHeadersOf, HoldsTable, HoldsTables, NoHeaderOutside, ShowsImage, ShownAmongOthers}
use Rattle.ubi_detect.proofs.PartReads.{same_all, same_number}
use Rattle.ubi_detect.proofs.PartTold.{without_same}
use Rattle.ubi_detect.proofs.RowKeys.{row_index, row_says}
use Rattle.ubi_detect.proofs.RowPlaces.{block_whole, unit_size}
use Rattle.ubi_detect.proofs.ShownSizes.{own_geometry, some_bytes, whole_units}
use Rattle.ubi_detect.proofs.Surveyed.{inner_range}

module _ (file : List ℕ) (at : ℕ) (part : List ℕ) (g : Group) (page : ℕ) (shows : ShowsImage part g page) (lies : LiesAt file at part)
    (none : NoHeaderOutside file at (length part)) where
  abbrev are : AreHeadersOf part g
  are = shows.headers

  some : 1 ≤ g.size
  some = some_bytes part g page shows

  units : g.size % step ≡ 0
  units = whole_units part g page shows

  unit : step ≤ g.size
  unit = unit_size part g are some units

  inside : (i : ℕ) → i < g.count → block_at g i + g.size ≤ length part
  inside = block_whole part g are some units

  same_key_at : (p : ℕ) → p + 64 ≤ length part → key_at file (at + p) ≡ key_at part p
  same_key_at p few = ap key_in (inner_range file part at p 64 lies.bytes few)

  further : (i : ℕ) → block_at (moved at g) i ≡ at + block_at g i
  further i = omega arith

  key_there : (i : ℕ) (k : Key) → i < g.count → key_at part (block_at g i) ≡ Some k → key_at file (block_at (moved at g) i) ≡ Some k
  key_there i k below here =
      let w = inside i below in
      let s = unit in
      ap (key_at file) (further i) ∙ same_key_at (block_at g i) (omega (arith, w, s)) ∙ here

  -- a header of the file is one of these bytes
  only_inside : (u : ℕ) (k : Key) → u * step + step ≤ length file → key_at file (u * step) ≡ Some k → at ≤ u * step
      → u * step + step ≤ at + length part → (i : ℕ) × (i < g.count) × (u * step ≡ block_at (moved at g) i)
  only_inside u k all here low high =
      let l = lies.unit in
      let v : (u - at / step) * step ≡ u * step - at = omega (arith, l, low) in
      let place : at + (u - at / step) * step ≡ u * step = omega (arith, v, low) in
      let few : (u - at / step) * step + step ≤ length part = omega (arith, place, high) in
      let found = are.only (u - at / step) k few (sym (same_key_at ((u - at / step) * step) few) ∙ ap (key_at file) place ∙ here) in
      (found.0, found.1, sym place ∙ ap (λ p. at + p) found.2 ∙ sym (further found.0))

  only_there : (u : ℕ) (k : Key) → u * step + step ≤ length file → key_at file (u * step) ≡ Some k
      → (i : ℕ) × (i < g.count) × (u * step ≡ block_at (moved at g) i)
  only_there u k all here = elim (within_or_past at (u * step)) [
    | inl low ↦ elim (within_or_past (u * step + step) (at + length part)) [
      | inl high ↦ only_inside u k all here low high
      | inr past ↦ absurd (none-some k (sym (none u all (inr past)) ∙ here))
    ]
    | inr before ↦ absurd (none-some k (sym (none u all (inl before)) ∙ here))
  ]

  headers_there : AreHeadersOf file (moved at g)
  headers_there = record {
    two = are.two;
    unit = (let u = are.unit in let l = lies.unit in omega (arith, u, l));
    last = (let last = are.last in omega (arith, last));
    whole = (let w = are.whole in let i = lies.inside in omega (arith, w, i));
    each = λ i below. let h = are.each i below in (h.0, key_there i h.0 below h.1, h.2);
    named = (let h = are.named in (h.0, h.1, key_there h.0 g.key h.1 h.2));
    only = only_there;
  }

  number_there : (p x : ℕ) → p + x + 4 ≤ length part → number_at file (at + p + x) ≡ number_at part (p + x)
  number_there p x few =
      let place : at + p + x ≡ at + (p + x) = omega arith in
      ap (number_at file) place ∙ same_number file part at lies (p + x) few

  -- an eraseblock holds the same table there
  table_there : (i lnum : ℕ) → i < g.count → HoldsTable part (layout_sizes g.size g.key.offsets page) (block_at g i) lnum
      → HoldsTable file (layout_sizes g.size g.key.offsets page) (block_at (moved at g) i) lnum
  table_there i lnum below holds =
      let p = block_at g i in
      let w = inside i below in
      let from = (own_geometry part g page shows).data_from in
      let leb = (own_geometry part g page shows).leb in
      let vid = g.key.offsets.vid_offset in
      let record_at = g.key.offsets.data_offset + record_size * (slots (layout_sizes g.size g.key.offsets page) - 1) in
      let next : at + p + vid + 8 ≡ at + p + (vid + 8) = omega arith in
      let also : p + vid + 8 ≡ p + (vid + 8) = omega arith in
      let later : at + p + vid + 12 ≡ at + p + (vid + 12) = omega arith in
      let likewise : p + vid + 12 ≡ p + (vid + 12) = omega arith in
      let end : at + p + record_at ≡ at + (p + record_at) = omega arith in
      let e = further i in
      record {
        magic = ap (λ b. number_at file (b + vid)) e ∙ number_there p vid (omega (arith, w, from, leb)) ∙ holds.magic;
        volume = ap (λ b. number_at file (b + vid + 8)) e ∙ ap (number_at file) next ∙ number_there p (vid + 8) (omega (arith, w, from, leb))
            ∙ sym (ap (number_at part) also) ∙ holds.volume;
        leb = ap (λ b. number_at file (b + vid + 12)) e ∙ ap (number_at file) later ∙ number_there p (vid + 12) (omega (arith, w, from, leb))
            ∙ sym (ap (number_at part) likewise) ∙ holds.leb;
        last = ap (λ b. is_blank_at file (b + record_at)) e ∙ ap (is_blank_at file) end
            ∙ same_all file part at lies 0xFF 64 (p + record_at) (omega (arith, w, leb)) ∙ holds.last;
      }

  tables_there : HoldsTables file (moved at g) (layout_sizes g.size g.key.offsets page)
  tables_there =
      let t = shows.tables in
      record {
        index = t.index;
        inside = t.inside;
        lnum = t.lnum;
        other = t.other;
        unlike = t.unlike;
        first = table_there t.index t.lnum (let i = t.inside in omega (arith, i)) t.first;
        second = table_there (t.index + 1) t.other t.inside t.second;
      }

  holds_part : HoldsPart file at part g
  holds_part =
      let most = (own_geometry part g page shows).peb_to in
      record {
        lies = lies;
        index = row_index part g are some units most;
        says = row_says part g are some units most;
        whole = are.whole;
      }

  blank_there : (i : ℕ) × (i < g.count) × IsTrue (all_are 0xFF 16 file (block_at (moved at g) i + (g.size - 16)))
  blank_there =
      let b = shows.blank in
      let w = inside b.0 b.1 in
      let s = unit in
      let place : block_at (moved at g) b.0 + (g.size - 16) ≡ at + (block_at g b.0 + (g.size - 16)) = omega arith in (
        b.0,
        b.1,
        ap (all_are 0xFF 16 file) place ∙ same_all file part at lies 0xFF 16 (block_at g b.0 + (g.size - 16)) (omega (arith, w, s)) ∙ b.2,
      )

  shown_there : ShowsImage file (moved at g) page
  shown_there = record {
    headers = headers_there;
    sizes = shows.sizes;
    data_offset = shows.data_offset;
    tables = tables_there;
    blank = blank_there;
    seen = shows.seen;
    without = without_same file at part g holds_part ∙ shows.without;
  }

pub shown_among_others : ShownAmongOthers
shown_among_others file at part g page shows lies none = shown_there file at part g page shows lies none
