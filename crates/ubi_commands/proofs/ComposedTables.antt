-- The first two eraseblocks of what is composed hold the two copies of its table, and a spare one ends blank.
use Rattle.ubi_commands.proofs.Prelude.{◌≡◌, ℕ, ◌+◌, ◌*◌, ◌<◌, ◌≤◌, true, false, zero, suc, List, [], ◌++◌, length, get_or, take, drop, refl, ap, sym, ◌∙◌, arith, Some, None, map, list_all, ForSome, ne_eqb, IsGeometry, Sizes, slots, rec_fault, VolumeRecord, IsMeaning, Meant, records_of, records_are, composed, ◌-◌, ◌/◌, ◌%◌, slice_range, replicate, range_with_len, list_all_at, drop_at, get_or-append_right, get_or-replicate, length-map, length-take-le, take_at, big_number, big_number-reads_back, ec_bytes, offsets_in, blank, field, leb_size, rec_front, record_size, empty_record, rec_bytes, vid_bytes, vid_magic, fields_from, length-empty_record, reserved_within, length-rec_front, block, layout, filled-is, HoldsTable, layout_sizes, all_are, number_at, inner_range, table_bytes, length-table_bytes, pieces_more, CanBeLaid, Laid, spare, laid_bytes, layout_block, new_ec, normal_blocks, fine_normal, Option}
use Rattle.std.proofs.Common.{length-append}
use Rattle.std.specs.FinMap as finite
use Rattle.std.specs.Prelude.{◌==◌, flat_map}
use Rattle.ubi_scan.proofs.FilledWithBlanks.{behind}
use Rattle.ubi_scan.proofs.Parts as parts
use Rattle.ubi_commands.proofs.ComposedBlocks.{block_count, lies, lies_inside, own_blocks, sized, spare_is}
use Rattle.ubi_commands.proofs.HeldBlocks.{all_here, number_here}

-- what a slot holds isn't blank, and has the size of a record
record_length : (s : Sizes) (o : Option VolumeRecord) → ForSome o (λ r. rec_fault s r ≡ None) → length (rec_bytes s o) ≡ 172
unfolding rec_bytes
record_length s None sound = length-empty_record
record_length s (Some r) sound = length-append (rec_front s r) _ ∙ ap (λ n. n + 4) (length-rec_front s r (sound r refl))

not_blank : (s : Sizes) (o : Option VolumeRecord) → ForSome o (λ r. rec_fault s r ≡ None)
    → list_all (λ x. x == 0xFF) (take 64 (rec_bytes s o)) ≡ false
unfolding rec_bytes empty_record
not_blank s None sound = refl
not_blank s (Some r) sound =
    let few = reserved_within s r (sound r refl) in
    let bytes = take 64 (rec_bytes s (Some r)) in
    let all = record_length s (Some r) sound in
    let size = length-take-le 64 (rec_bytes s (Some r)) (omega (arith, all)) in
    let first : (get_or bytes 0 0 == 0xFF) ≡ false = ne_eqb (r.reserved / 16777216 % 256) 255 (λ e. omega (arith, few, e)) in
    list_all_at (λ x. x == 0xFF) bytes 0 0 (omega (arith, size)) first

module _ (m : Meant) (g : IsGeometry m.sizes) (is : IsMeaning m) where
  -- a copy of the table
  layout_fine : (c : ℕ) → c < 2 → CanBeLaid m.sizes (layout_block m c)
  layout_fine zero few = (fine_normal m g is).0
  layout_fine (suc zero) few = (fine_normal m g is).1.0
  layout_fine (suc (suc c)) few = absurd (omega (arith, few))

  layout_at : (spares c : ℕ) → c < 2 → block (own_blocks m g is spares) c ≡ laid_bytes m.sizes (new_ec m.image_seq) (layout_block m c)
  layout_at spares zero few = refl
  layout_at spares (suc zero) few = refl
  layout_at spares (suc (suc c)) few = absurd (omega (arith, few))

  module _ (c : ℕ) (few : c < 2) where
    abbrev s : Sizes
    s = m.sizes

    abbrev b : List ℕ
    b = laid_bytes m.sizes (new_ec m.image_seq) (layout_block m c)

    abbrev head : List ℕ
    head = vid_bytes (layout_block m c).header

    abbrev text : List ℕ
    text = table_bytes (records_of m)

    one : CanBeLaid m.sizes (layout_block m c)
    one = layout_fine c few

    size_is : length b ≡ s.peb_size
    size_is = parts.length-laid s g (ec_bytes s (new_ec m.image_seq)) head refl refl text one.room

    -- its header
    head_size : length head ≡ 64
    head_size = refl

    head_there : slice_range b s.vid_offset (s.vid_offset + 64) ≡ head
    head_there = parts.vid-laid s g (ec_bytes s (new_ec m.image_seq)) head refl refl text one.room

    head_field : (y : ℕ) → y + 4 ≤ 64 → field 4 (s.vid_offset + y) b ≡ field 4 y head
    head_field y inside =
        let n = head_size in
        ap (big_number 4) (inner_range b head s.vid_offset y 4 (ap (λ k. slice_range b s.vid_offset (s.vid_offset + k)) n ∙ head_there) (omega (arith, n, inside)))

    magic_is : field 4 0 head ≡ vid_magic
    magic_is = refl

    volume_is : field 4 8 head ≡ layout
    unfolding fields_from
    volume_is = big_number-reads_back 4 layout [] (omega arith)

    lnum_is : field 4 12 head ≡ c
    unfolding fields_from
    lnum_is = big_number-reads_back 4 c [] (omega (arith, few))

    -- its last record
    abbrev slot_bytes : ℕ → List ℕ
    slot_bytes slot = rec_bytes m.sizes (finite.get (records_of m).of slot)

    abbrev k : ℕ
    k = slots m.sizes - 1

    some_slots : 1 ≤ slots m.sizes
    some_slots = omega (arith, g.leb)

    sound_at : (slot : ℕ) → ForSome (finite.get (records_of m).of slot) (λ r. rec_fault m.sizes r ≡ None)
    sound_at slot r e = (records_are m is).sound slot r e

    text_length : length text ≡ slots m.sizes * record_size
    text_length = length-table_bytes (records_of m) (records_are m is)

    text_is : text ≡ flat_map slot_bytes (range_with_len 0 k) ++ slot_bytes k
    text_is =
        let some = some_slots in
        let e : slots m.sizes ≡ k + 1 = omega (arith, some) in
        ap (λ n. flat_map slot_bytes (range_with_len 0 n)) e ∙ pieces_more slot_bytes 0 k k (omega arith)

    front_length : length (flat_map slot_bytes (range_with_len 0 k)) ≡ record_size * k
    front_length =
        let all = text_length in
        let last = record_length m.sizes (finite.get (records_of m).of k) (sound_at k) in
        let both = ap length text_is ∙ length-append (flat_map slot_bytes (range_with_len 0 k)) (slot_bytes k) in
        let some = some_slots in
        omega (arith, all, last, both, some)

    text_there : slice_range b s.data_offset (s.data_offset + length text) ≡ text
    text_there =
        let n : s.data_offset + length text - s.data_offset ≡ length text = omega arith in
        let rest = blank (s.peb_size - (s.data_offset + length text)) in
        ap (λ j. take j (drop s.data_offset b)) n
        ∙ ap (take (length text)) (parts.leb-laid s g (ec_bytes s (new_ec m.image_seq)) head refl refl text one.room)
        ∙ take_at text rest (length text) refl

    last_there : slice_range b (s.data_offset + record_size * k) (s.data_offset + record_size * k + 64) ≡ take 64 (slot_bytes k)
    last_there =
        let all = text_length in
        let some = some_slots in
        let count : record_size * k + 64 - record_size * k ≡ 64 = omega arith in
        inner_range b text s.data_offset (record_size * k) 64 text_there (omega (arith, all, some))
        ∙ ap (λ j. take j (drop (record_size * k) text)) count
        ∙ ap (λ x. take 64 (drop (record_size * k) x)) text_is
        ∙ ap (take 64) (drop_at (flat_map slot_bytes (range_with_len 0 k)) (slot_bytes k) (record_size * k) front_length)

    -- it ends blank, if its LEB has room behind the table
    end_there : record_size * slots m.sizes + 16 ≤ leb_size m.sizes → slice_range b (s.peb_size - 16) (s.peb_size - 16 + 16) ≡ blank 16
    end_there more =
        let front = parts.headers s g (ec_bytes s (new_ec m.image_seq)) head refl refl in
        let all = text_length in
        let size = length-append front text in
        let from = parts.length-headers s g (ec_bytes s (new_ec m.image_seq)) head refl refl in
        ap (λ x. slice_range x (s.peb_size - 16) (s.peb_size - 16 + 16)) (filled-is s.peb_size (front ++ text))
        ∙ behind (front ++ text) (s.peb_size - length (front ++ text)) (s.peb_size - 16) 16
        (omega (arith, size, from, all, more)) (omega (arith, size, from, all, more, g.leb))

    module _ (file : List ℕ) (at : ℕ) (here : slice_range file at (at + length b) ≡ b) (inside : at + length b ≤ length file) where
      holds_table : HoldsTable file (layout_sizes s.peb_size (offsets_in s) s.page) at c
      holds_table =
          let size = size_is in
          let none : s.vid_offset + 0 ≡ s.vid_offset = omega arith in
          let next : at + s.vid_offset + 8 ≡ at + (s.vid_offset + 8) = omega arith in
          let later : at + s.vid_offset + 12 ≡ at + (s.vid_offset + 12) = omega arith in
          let all = text_length in
          let room = one.room in
          let some = some_slots in
          record {
            magic = number_here file b at here inside s.vid_offset (omega (arith, size, g.data_from, g.leb))
                ∙ ap (λ x. field 4 x b) (sym none) ∙ head_field 0 (omega arith) ∙ magic_is;
            volume = ap (number_at file) next ∙ number_here file b at here inside (s.vid_offset + 8) (omega (arith, size, g.data_from, g.leb))
                ∙ head_field 8 (omega arith) ∙ volume_is;
            leb = ap (number_at file) later ∙ number_here file b at here inside (s.vid_offset + 12) (omega (arith, size, g.data_from, g.leb))
                ∙ head_field 12 (omega arith) ∙ lnum_is;
            last = all_here file b at here inside 0xFF 64 (s.data_offset + record_size * k) (omega (arith, size, all, room, some))
                ∙ ap (list_all (λ x. x == 0xFF)) last_there ∙ not_blank m.sizes (finite.get (records_of m).of k) (sound_at k);
          }

  module _ (spares : ℕ) where
    pub table_in : (c : ℕ) → c < 2 → HoldsTable (composed m spares) (layout_sizes m.sizes.peb_size (offsets_in m.sizes) m.sizes.page) (c * m.sizes.peb_size) c
    table_in c few =
        let n = block_count m g is spares in
        let below : c < length (own_blocks m g is spares) = omega (arith, n, few) in
        let e = layout_at spares c few in
        let file = composed m spares in
        let at = c * m.sizes.peb_size in
        holds_table c few file at
        (ap (λ x. slice_range file at (at + length x)) (sym e) ∙ lies m g is spares c below ∙ e)
        (let i = lies_inside m g is spares c below in let l = ap length e in omega (arith, i, l))

    -- so do the first two eraseblocks
    pub blank_table : record_size * slots m.sizes + 16 ≤ leb_size m.sizes
        → all_are 0xFF 16 (composed m spares) (0 * m.sizes.peb_size + (m.sizes.peb_size - 16)) ≡ true
    blank_table more =
        let few : 0 < 2 = omega arith in
        let n = block_count m g is spares in
        let below : 0 < length (own_blocks m g is spares) = omega (arith, n) in
        let whole = sized m g is spares 0 below in
        all_here (composed m spares) (block (own_blocks m g is spares) 0) (0 * m.sizes.peb_size) (lies m g is spares 0 below)
        (lies_inside m g is spares 0 below) 0xFF 16 (m.sizes.peb_size - 16) (omega (arith, whole, g.data_from, g.vid_from, g.leb))
        ∙ ap (list_all (λ y. y == 0xFF)) (end_there 0 few more)

    -- the last eraseblock is a spare one
    pub blank_end : (p : ℕ) → 1 ≤ spares → p + 1 ≡ length (normal_blocks m) + spares
        → all_are 0xFF 16 (composed m spares) (p * m.sizes.peb_size + (m.sizes.peb_size - 16)) ≡ true
    blank_end p some last =
        let s = m.sizes in
        let n = block_count m g is spares in
        let below : p < length (own_blocks m g is spares) = omega (arith, n, last) in
        let front = map (laid_bytes s (new_ec m.image_seq)) (normal_blocks m) in
        let many : length front ≡ length (normal_blocks m) = length-map (normal_blocks m) (laid_bytes s (new_ec m.image_seq)) in
        let is_spare : block (own_blocks m g is spares) p ≡ spare s m.image_seq =
        get_or-append_right front (replicate spares (spare s m.image_seq)) (length (normal_blocks m)) p [] many (omega (arith, last, some))
        ∙ get_or-replicate spares (p - length (normal_blocks m)) (spare s m.image_seq) [] (omega (arith, last, some)) in
        let e = is_spare ∙ spare_is s g m.image_seq in
        let b = block (own_blocks m g is spares) p in
        let size : length (ec_bytes s (new_ec m.image_seq)) ≡ 64 = refl in
        let whole : length b ≡ s.peb_size = sized m g is spares p below in
        let end : s.peb_size - 16 + 16 ≤ length b = omega (arith, whole, g.data_from, g.vid_from, g.leb) in
        all_here (composed m spares) b (p * s.peb_size) (lies m g is spares p below) (lies_inside m g is spares p below)
        0xFF 16 (s.peb_size - 16) end
        ∙ ap (λ x. list_all (λ y. y == 0xFF) (slice_range x (s.peb_size - 16) (s.peb_size - 16 + 16))) e
        ∙ ap (list_all (λ y. y == 0xFF)) (behind (ec_bytes s (new_ec m.image_seq)) (s.peb_size - 64) (s.peb_size - 16) 16
        (omega (arith, size, g.data_from, g.vid_from, g.leb)) (omega (arith, size, g.data_from, g.vid_from, g.leb)))
