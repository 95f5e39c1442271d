-- Listed eraseblocks whose bytes read 0xFF are Blank.
use Rattle.ubi_calls.proofs.Prelude.{◌≡◌, ◌∙◌, ℕ, ◌+◌, ◌-◌, ◌*◌, ◌/◌, ◌<◌, ◌≤◌, Bool, List, ap, arith, cond, drop, length, sym, take, true, div-mul-add, get_or-drop, get_or-replicate, get_or-take, length-drop, length-first_chunks, length-replicate, length-take-le, same_lists, Sizes, IsGeometry, blank, blank_ec, block, blocks_of, ec, ec_reading, image_of, is_listed, of_blocks, part_of_block, get_or-masked, length-masked, masked, Avoided, ReadBlank, slice_range, get_or, le_refl, div-mul-le_self, mul-le}
use Rattle.ubi_media.specs.declared.ec.EcRead.TheVariants as ec_read

module _ (s : Sizes) (g : IsGeometry s) (marks : List Bool) (bytes : List ℕ) where
  abbrev size : ℕ
  size = s.peb_size

  abbrev all : List ℕ
  all = masked size marks bytes

  module _ (p : ℕ) (inside : p < length all / size) (listed : is_listed marks p ≡ true) where
    enough : p * size + size ≤ length all
    enough =
        let whole = div-mul-le_self (length all) size in
        let next : (p + 1) * size ≤ length all / size * size = mul-le (p + 1) size (length all / size) size (omega (arith, inside)) (le_refl size) in
        omega (arith, whole, next)

    abbrev front : List ℕ
    front = take 64 (drop (p * size) all)

    length-front : length front ≡ 64
    length-front = length-take-le 64 (drop (p * size) all) (let n = length-drop (p * size) all in omega (arith, n, enough, g.peb_from, g.page_from))

    -- its header's bytes are 0xFF
    all_ones : front ≡ blank 64
    all_ones = same_lists front (blank 64) (length-front ∙ sym (length-replicate {A = ℕ} 64 0xFF))
        (λ k d l.
        let few : k < 64 = omega (arith, l, length-front) in
        get_or-take 64 (drop (p * size) all) k d few
        ∙ get_or-drop (p * size) all k d
        ∙ get_or-masked size marks bytes (p * size + k) d (let n = length-masked size marks bytes in omega (arith, n, enough, few, g.peb_from, g.page_from))
        ∙ ap (λ q. cond (is_listed marks q) 0xFF (get_or bytes (p * size + k) d)) (div-mul-add p size k (omega (arith, few, g.peb_from, g.page_from)))
        ∙ ap (λ b. cond b 0xFF (get_or bytes (p * size + k) d)) listed
        ∙ sym (get_or-replicate 64 k 0xFF d few))

    front_is : take 64 (block (blocks_of s all) p) ≡ front
    front_is =
        sym (part_of_block s all p 0 64 inside (omega (arith, g.peb_from, g.page_from)))
        ∙ ap (λ a. slice_range all a (a + 64)) (let e : p * size + 0 ≡ p * size = omega arith in e)
        ∙ ap (λ k. take k (drop (p * size) all)) (let e : p * size + 64 - p * size ≡ 64 = omega arith in e)

    reads_blank : ec s (block (blocks_of s all) p) ≡ ec_read.Blank
    reads_blank = ap (ec_reading s) (front_is ∙ all_ones) ∙ blank_ec s

-- so a plan that avoids them finds nothing there
pub none_held : (s : Sizes) → IsGeometry s → (av : Avoided) (bytes : List ℕ) → of_blocks ReadBlank (image_of s (masked s.peb_size av.marks bytes)) av
none_held s g av bytes p l listed =
    let all = masked s.peb_size av.marks bytes in
    let count = length-first_chunks s.peb_size (length all / s.peb_size) all in
    reads_blank s g av.marks bytes p (omega (arith, l, count)) listed
