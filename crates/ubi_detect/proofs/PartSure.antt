-- The size of an image in a file is sure if it is in the image's own bytes.
use Rattle.ubi_detect.proofs.Prelude.{◌≡◌, ℕ, ◌+◌, ◌-◌, ◌*◌, ◌/◌, ◌%◌, ◌≤◌, Bool, true, false, List, length, refl, ap, sym, ◌∙◌, arith, All, ◌==◌, ◌&&◌, ◌||◌, nat_le, nat_lt, not, mul-div-le, mul-le-mul_right, and_parts, leb-true, slots, record_size, vid_magic, step, layout, HoldsPart, SureOfPart, moved, count_starts, all_are, are_no_parts, copy_at, end_in, ends_blank, goes_on, has_room, have_copies, holds_table, is_blank_at, is_filled, is_hole, is_prime, is_seen, is_start, is_sure, is_whole_size, looked_at, may_be_parts, may_be_size, meet_in, meets, number_at, says_so, some_ends_blank, some_inner, some_part, some_start, tables_meet, plain_ways, put, ways, Group, Way, are_no_halves, blocks, is_borne_out, is_even}
use Rattle.ubi_detect.proofs.OnePlain.{next_mul}
use Rattle.ubi_detect.proofs.PartPlaces.{first_or_behind, size_of_unit}
use Rattle.ubi_detect.proofs.PartReads.{all_same, any_each, any_same, le_moved, lt_moved, same_all, same_blocks, same_count, same_number, same_some, same_start}
use Rattle.ubi_detect.proofs.PartWays.{Fits, plain_ways_fit, record_inside, vid_inside, ways_fit}

module _ (file : List ℕ) (at : ℕ) (part : List ℕ) (g : Group) (holds : HoldsPart file at part g) where
  unit : step ≤ g.size
  unit = size_of_unit part holds.index g holds.says

  order : g.first ≤ g.last
  order = first_or_behind part holds.index g holds.says

  -- one of the eraseblocks passes a test there if one passes it in its own bytes
  pub some_same : (t u : ℕ → Bool) → ((p : ℕ) → p + g.size ≤ length part → t (at + p) ≡ u p) → some_start file (moved at g) t ≡ some_start part g u
  some_same t u agree = same_some file part at holds.lies g unit order holds.whole t u agree

  -- and as many do
  pub count_of_same : (t u : ℕ → Bool) → ((p : ℕ) → p + g.size ≤ length part → t (at + p) ≡ u p)
      → count_starts file (moved at g) t ≡ count_starts part g u
  count_of_same t u agree = same_count file part at holds.lies g unit order holds.whole t u agree

  -- where it ends
  ends_same : (b : ℕ) → b + 16 ≤ g.size → (p : ℕ) → p + g.size ≤ length part
      → ends_blank file (moved at g) b (at + p) ≡ ends_blank part g b p
  ends_same b few p inside =
      let place : at + p + g.size - (b + 16) ≡ at + (p + g.size - (b + 16)) = omega (arith, few) in
      ap (all_are 0xFF 16 file) place ∙ same_all file part at holds.lies 0xFF 16 (p + g.size - (b + 16)) (omega (arith, few, inside))

  some_ends_same : some_ends_blank file (moved at g) ≡ some_ends_blank part g
  some_ends_same =
      let ws = ways g.size g.key.offsets in
      ap (λ b. b || end_in file (moved at g) ws)
      (some_same (ends_blank file (moved at g) 0) (ends_blank part g 0) (ends_same 0 (let s = unit in omega (arith, s))))
      ∙ ap (λ b. some_start part g (ends_blank part g 0) || b)
      (any_each (Fits g.size) (λ w. some_start file (moved at g) (ends_blank file (moved at g) w.oob)) (λ w. some_start part g (ends_blank part g w.oob))
      (λ w fits. some_same (ends_blank file (moved at g) w.oob) (ends_blank part g w.oob) (ends_same w.oob fits.end)) ws
      (ways_fit g.size g.key.offsets))

  -- what stands in it
  pub number_same : (p x : ℕ) → x + 4 ≤ g.size → p + g.size ≤ length part → number_at file (at + p + x) ≡ number_at part (p + x)
  number_same p x few inside =
      let place : at + p + x ≡ at + (p + x) = omega arith in
      ap (number_at file) place ∙ same_number file part at holds.lies (p + x) (omega (arith, few, inside))

  module _ (w : Way) (fits : Fits g.size w) where
    abbrev vid : ℕ
    vid = put w w.geometry.vid_offset

    abbrev rec : ℕ
    rec = put w (w.geometry.data_offset + record_size * (slots w.geometry - 1))

    table_same : (p : ℕ) → p + g.size ≤ length part → holds_table file w (at + p) ≡ holds_table part w p
    table_same p inside =
        let few = vid_inside g.size w fits in
        let last = record_inside g.size w fits in
        let next : at + p + vid + 8 ≡ at + p + (vid + 8) = omega arith in
        let here : p + (vid + 8) ≡ p + vid + 8 = omega arith in
        let place : at + p + rec ≡ at + (p + rec) = omega arith in
        ap (λ n. (n == vid_magic) && (number_at file (at + p + vid + 8) == layout) && not (is_blank_at file (at + p + rec)))
        (number_same p vid (omega (arith, few)) inside)
        ∙ ap (λ n. (number_at part (p + vid) == vid_magic) && (n == layout) && not (is_blank_at file (at + p + rec)))
        (ap (number_at file) next ∙ number_same p (vid + 8) (omega (arith, few)) inside ∙ ap (number_at part) here)
        ∙ ap (λ b. (number_at part (p + vid) == vid_magic) && (number_at part (p + vid + 8) == layout) && not b)
        (ap (is_blank_at file) place ∙ same_all file part at holds.lies 0xFF 64 (p + rec) (omega (arith, last, inside)))

    copy_same : (p : ℕ) → p + g.size ≤ length part → copy_at file w (at + p) ≡ copy_at part w p
    copy_same p inside = let few = vid_inside g.size w fits in number_same p (vid + 12) (omega (arith, few)) inside

    copies_same : (p next : ℕ) → p + g.size ≤ length part → next + g.size ≤ length part
        → have_copies file w (at + p) (at + next) ≡ have_copies part w p next
    copies_same p next inside also =
        ap (λ b. b && holds_table file w (at + next) && not (copy_at file w (at + p) == copy_at file w (at + next))) (table_same p inside)
        ∙ ap (λ b. holds_table part w p && b && not (copy_at file w (at + p) == copy_at file w (at + next))) (table_same next also)
        ∙ ap (λ n. holds_table part w p && holds_table part w next && not (n == copy_at file w (at + next))) (copy_same p inside)
        ∙ ap (λ n. holds_table part w p && holds_table part w next && not (copy_at part w p == n)) (copy_same next also)

    meets_by : (p : ℕ) → p + g.size ≤ length part → (b : Bool) → nat_le (p + g.size) g.last ≡ b
        → nat_le (at + (p + g.size)) (at + g.last) && is_start file (moved at g) (at + (p + g.size))
        && have_copies file w (at + p) (at + (p + g.size)) ≡ meets part g w p
    meets_by p inside false e =
        ap (λ c. c && is_start file (moved at g) (at + (p + g.size)) && have_copies file w (at + p) (at + (p + g.size)))
        (le_moved at (p + g.size) g.last ∙ e)
        ∙ sym (ap (λ c. c && is_start part g (p + g.size) && have_copies part w p (p + g.size)) e)
    meets_by p inside true e =
        let less = leb-true (p + g.size) g.last e in
        let whole = holds.whole in
        let s = unit in
        let also : p + g.size + g.size ≤ length part = omega (arith, less, whole) in
        ap (λ c. c && is_start file (moved at g) (at + (p + g.size)) && have_copies file w (at + p) (at + (p + g.size)))
        (le_moved at (p + g.size) g.last)
        ∙ ap (λ c. nat_le (p + g.size) g.last && c && have_copies file w (at + p) (at + (p + g.size)))
        (same_start file part at holds.lies g unit order holds.whole (p + g.size) (omega (arith, also, s)))
        ∙ ap (λ c. nat_le (p + g.size) g.last && is_start part g (p + g.size) && c) (copies_same p (p + g.size) inside also)

    meets_same : (p : ℕ) → p + g.size ≤ length part → meets file (moved at g) w (at + p) ≡ meets part g w p
    meets_same p inside =
        let place : at + p + g.size ≡ at + (p + g.size) = omega arith in
        ap (λ n. nat_le n (at + g.last) && is_start file (moved at g) n && have_copies file w (at + p) n) place
        ∙ meets_by p inside (nat_le (p + g.size) g.last) refl

  meet_same : (ws : List Way) → All (Fits g.size) ws → meet_in file (moved at g) ws ≡ meet_in part g ws
  meet_same ws all =
      any_each (Fits g.size) (λ w. some_start file (moved at g) (meets file (moved at g) w)) (λ w. some_start part g (meets part g w))
      (λ w fits. some_same (meets file (moved at g) w) (meets part g w) (meets_same w fits)) ws all

  tables_same : tables_meet file (moved at g) ≡ tables_meet part g
  tables_same =
      let plain = plain_ways g.size g.key.offsets in
      let with = ways g.size g.key.offsets in
      ap (λ b. b || meet_in file (moved at g) with) (meet_same plain (plain_ways_fit g.size g.key.offsets))
      ∙ ap (λ b. meet_in part g plain || b) (meet_same with (ways_fit g.size g.key.offsets))

  -- what stands where parts of it would begin
  filled_same : (x : ℕ) → x + 64 ≤ length part → is_filled file (at + x) ≡ is_filled part x
  filled_same x inside =
      ap (λ b. not (b || all_are 0 64 file (at + x))) (same_all file part at holds.lies 0xFF 64 x inside)
      ∙ ap (λ b. not (all_are 0xFF 64 part x || b)) (same_all file part at holds.lies 0 64 x inside)

  before_same : (x : ℕ) → 16 ≤ x → x ≤ length part → all_are 0xFF 16 file (at + x - 16) ≡ all_are 0xFF 16 part (x - 16)
  before_same x some inside =
      let place : at + x - 16 ≡ at + (x - 16) = omega (arith, some) in
      ap (all_are 0xFF 16 file) place ∙ same_all file part at holds.lies 0xFF 16 (x - 16) (omega (arith, some, inside))

  goes_same : (n x : ℕ) → 16 ≤ x → x + n ≤ length part → goes_on n file (at + x) ≡ goes_on n part x
  goes_same n x some inside =
      ap (λ b. not (b || all_are 0 n file (at + x)) && not (all_are 0xFF 16 file (at + x - 16))) (same_all file part at holds.lies 0xFF n x inside)
      ∙ ap (λ b. not (all_are 0xFF n part x || b) && not (all_are 0xFF 16 file (at + x - 16))) (same_all file part at holds.lies 0 n x inside)
      ∙ ap (λ b. not (all_are 0xFF n part x || all_are 0 n part x) && not b) (before_same x some (omega (arith, inside)))

  hole_same : (x : ℕ) → 16 ≤ x → x + 64 ≤ length part → is_hole file (at + x) ≡ is_hole part x
  hole_same x some inside =
      ap (λ b. b && all_are 0xFF 16 file (at + x - 16)) (filled_same x inside)
      ∙ ap (λ b. is_filled part x && b) (before_same x some (omega (arith, inside)))

  module _ (d : ℕ) (may : may_be_parts g.key.offsets g.size d ≡ true) where
    abbrev e : ℕ
    e = g.size / d

    room : 64 ≤ g.size / d
    room =
        let both = and_parts ((g.size % (d * step) == 0) && has_room g.key.offsets (g.size / d)) (is_prime d) may in
        let has = and_parts (g.size % (d * step) == 0) (has_room g.key.offsets (g.size / d)) both.0 in
        let few = leb-true (g.key.offsets.data_offset + 64) (g.size / d) has.1 in omega (arith, few)

    inner_same : (t u : ℕ → Bool) → ((x : ℕ) → 16 ≤ x → x + g.size / d ≤ length part → t (at + x) ≡ u x) → (p : ℕ) → p + g.size ≤ length part
        → some_inner (at + g.last) g.size d t (at + p) ≡ some_inner g.last g.size d u p
    inner_same t u agree p inside =
        ap (λ b. b && some_part g.size d t (at + p)) (lt_moved at p g.last)
        ∙ ap (λ b. nat_lt p g.last && b)
        (any_same (λ j. t (at + p + (j + 1) * (g.size / d))) (λ j. u (p + (j + 1) * (g.size / d))) (d - 1) (λ j below.
        let place : at + p + (j + 1) * (g.size / d) ≡ at + (p + (j + 1) * (g.size / d)) = omega arith in
        let more : (j + 1 + 1) * (g.size / d) ≤ d * (g.size / d) = mul-le-mul_right (g.size / d) (omega (arith, below)) in
        let least : 1 * (g.size / d) ≤ (j + 1) * (g.size / d) = mul-le-mul_right (g.size / d) (omega arith) in
        let next = next_mul (j + 1) (g.size / d) in
        let all = mul-div-le g.size d in
        let r = room in
        ap t place ∙ agree (p + (j + 1) * (g.size / d)) (omega (arith, least, r)) (omega (arith, more, next, all, inside))))

    no_parts_same : are_no_parts file (moved at g) d ≡ are_no_parts part g d
    no_parts_same =
        let here = some_inner (at + g.last) g.size d in
        let own = some_inner g.last g.size d in
        let n = looked_at (g.size / d) in
        ap (λ b. b && not (some_start file (moved at g) (here (is_hole file))))
        (some_same (here (goes_on n file)) (own (goes_on n part))
        (inner_same (goes_on n file) (goes_on n part) (λ x from inside. goes_same n x from (omega (arith, inside)))))
        ∙ ap (λ b. some_start part g (own (goes_on n part)) && not b)
        (some_same (here (is_hole file)) (own (is_hole part))
        (inner_same (is_hole file) (is_hole part) (λ x from inside. let r = room in hole_same x from (omega (arith, inside, r)))))

  parts_by : (d : ℕ) (b : Bool) → may_be_parts g.key.offsets g.size d ≡ b
      → not (may_be_parts g.key.offsets g.size d) || are_no_parts file (moved at g) d
      ≡ not (may_be_parts g.key.offsets g.size d) || are_no_parts part g d
  parts_by d true e = ap (λ c. not (may_be_parts g.key.offsets g.size d) || c) (no_parts_same d e)
  parts_by d false e = ap (λ c. not c || are_no_parts file (moved at g) d) e ∙ sym (ap (λ c. not c || are_no_parts part g d) e)

  whole_size_same : is_whole_size file (moved at g) ≡ is_whole_size part g
  whole_size_same = all_same _ _ (g.size / step) (λ i below. parts_by (i + 2) (may_be_parts g.key.offsets g.size (i + 2)) refl)

  -- whether its eraseblocks are no halves, by how many they are, and how many of those with even numbers start with a header
  abbrev no_halves_by : ℕ → ℕ → Bool
  no_halves_by n even = (g.count == n) || not (nat_lt (4 * even) ((n + 1) / 2) || nat_lt (4 * (g.count - even)) (n / 2))

  even_same : (p : ℕ) → p + g.size ≤ length part → is_even (moved at g) (at + p) ≡ is_even g p
  even_same p inside = let e : at + p - (at + g.first) ≡ p - g.first = omega arith in ap (λ x. x / g.size % 2 == 0) e

  no_halves_same : are_no_halves file (moved at g) ≡ are_no_halves part g
  no_halves_same =
      ap (λ n. no_halves_by n (count_starts file (moved at g) (is_even (moved at g))))
      (same_blocks file part at holds.lies g unit order holds.whole)
      ∙ ap (no_halves_by (blocks g)) (count_of_same (is_even (moved at g)) (is_even g) even_same)

  says_same : says_so file (moved at g) ≡ says_so part g
  says_same =
      ap (λ b. b && (tables_meet file (moved at g) || (nat_le 3 g.count && is_whole_size file (moved at g)))) some_ends_same
      ∙ ap (λ b. some_ends_blank part g && (b || (nat_le 3 g.count && is_whole_size file (moved at g)))) tables_same
      ∙ ap (λ b. some_ends_blank part g && (tables_meet part g || (nat_le 3 g.count && b))) whole_size_same

  sure_same : is_sure file (moved at g) ≡ is_sure part g
  sure_same =
      ap (λ n. (has_room g.key.offsets g.size && nat_lt n (2 * g.count) && is_seen g) && is_borne_out file (moved at g))
      (same_blocks file part at holds.lies g unit order holds.whole)
      ∙ ap (λ b. may_be_size g && (b && says_so file (moved at g))) no_halves_same
      ∙ ap (λ b. may_be_size g && (are_no_halves part g && b)) says_same

pub sure_of_part : SureOfPart
sure_of_part file at part g holds = sure_same file at part g holds
