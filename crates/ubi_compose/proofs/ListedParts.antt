-- The parts of volumes that have a meaning together.
use Rattle.ubi_compose.proofs.Prelude.{◌≡◌, ◌==◌, ℕ, zero, suc, ◌+◌, ◌*◌, ◌^◌, ◌<◌, ◌≤◌, true, false, cond, List, [], ◌∷◌, get_or, length, map, refl, ap, sym, ◌∙◌, subst, arith, inl, inr, Contains, None, Option, Some, find, fold, slice_get, sum_by, nat_tests, sum_by-cons, get_or_from_slice_get, slice_get-get_or, slice_get-map, slice_get_within, same_Some, blank, slots, rec_fault, usable, RecFault, within_or_past, usable_some, length-blank, IsItem, NoCause, Volume, pieces_few, HaveMeaning, Parts, Reaches, item_of, items_of, most_blocks, pieces_of, text_of, HasParts, part_at, Part, long_misfits, text_size}
use Rattle.std.specs.Option.{option_map}
use Rattle.ubi_volume.specs.declared.errors.MeaningCause.TheVariants as cause

-- a part whose record breaks no rule, whose volume holds its bytes, and whose bytes a source of a size has
pub record IsReadablePart (ps : Parts) (size : ℕ) (p : Part) : Type 0 where
  pub listed : Contains ps.of p
  pub sound : rec_fault ps.sizes p.entry ≡ None
  pub fits : p.len ≤ p.entry.reserved * usable ps.sizes p.entry
  pub narrow : size < 2 ^ 64
  pub reaches : p.start + p.len ≤ size

-- the part that is found by a number is listed, and has it
pub found_part : (parts : List Part) (id : ℕ) (p : Part) → find (λ p. p.id == id) parts ≡ Some p
    → Contains parts p × (p.id ≡ id)
found_part [] id p e = absurd (cc)
found_part (x ∷ xs) id p e =
    elim (x.id == id) as (λ b. (x.id == id) ≡ b → cond b (Some x) (find (λ (y : Part). y.id == id) xs) ≡ Some p
    → Contains (x ∷ xs) p × (p.id ≡ id)) [
      | true ↦ λ t f. ((0, omega arith, same_Some x p f), ap (λ (y : Part). y.id) (sym (same_Some x p f)) ∙ same t)
      | false ↦ λ t f. (let r = found_part xs id p f in ((suc r.0.0, (let b = r.0.1 in omega arith), r.0.2), r.1))
    ] refl e
  where
    same : (x.id == id) ≡ true → x.id ≡ id
    same t = grind (arith, nat_tests)

-- a listed part stands at a place
pub listed_at : (parts : List Part) (p : Part) → Contains parts p → (i : ℕ) × (slice_get parts i ≡ Some p)
listed_at parts p at = (at.0, slice_get-get_or parts at.0 p at.1 ∙ ap Some at.2)

-- and the one at an index at it
pub listed_here : (parts xs : List Part) (i : ℕ) (p : Part) → xs ≡ parts → i < length xs → p ≡ get_or xs i p
    → (slice_get parts i ≡ Some p) × (i < length parts)
listed_here parts xs i p same inside is =
    let here : i < length parts = subst (λ xs. i < length xs) same inside in
    (slice_get-get_or parts i p here ∙ ap Some (sym (is ∙ ap (λ xs. get_or xs i p) same)), here)

pub item_at : (f : Part → ℕ × Volume) (parts : List Part) (i : ℕ) (p : Part) → slice_get parts i ≡ Some p
    → IsItem (map f parts) i (f p)
item_at f parts i p at = slice_get-map f parts i ∙ ap (option_map f) at

pub item_from : (f : Part → ℕ × Volume) (parts : List Part) (i : ℕ) (e : ℕ × Volume) → IsItem (map f parts) i e
    → (p : Part) × (slice_get parts i ≡ Some p) × (f p ≡ e)
item_from f parts i e at = by (slice_get parts i) refl
  where
    from : option_map f (slice_get parts i) ≡ Some e
    from = sym (slice_get-map f parts i) ∙ at

    by : (o : Option Part) → slice_get parts i ≡ o → (p : Part) × (slice_get parts i ≡ Some p) × (f p ≡ e)
    by None g = absurd (let h = sym from ∙ ap (option_map f) g in cc)
    by (Some p) g = (p, g, same_Some (f p) e (sym (ap (option_map f) g) ∙ from))

-- a source that has the bytes of all parts has those of each
pub reached : (size : ℕ) (parts : List Part) (i : ℕ) (p : Part) → Reaches size parts → slice_get parts i ≡ Some p
    → p.start + p.len ≤ size
reached size parts i p all at =
    subst (λ (x : Part). x.start + x.len ≤ size) (get_or_from_slice_get parts i p p at)
    (all i p (slice_get_within parts i p at))

-- a size for which a source has the bytes of all
abbrev pub enough : List Part → ℕ
enough [] = 0
enough (p ∷ ps) = p.start + p.len + enough ps

pub enough_reaches : (parts : List Part) (size : ℕ) → enough parts ≤ size → Reaches size parts
enough_reaches [] size h k d below = absurd (omega arith)
enough_reaches (p ∷ ps) size h zero d below = omega arith
enough_reaches (p ∷ ps) size h (suc k) d below = enough_reaches ps size (omega arith) k d (omega arith)

module _ (ps : Parts) (h : HaveMeaning ps) where
  abbrev bytes : List ℕ
  bytes = blank (enough ps.of)

  reach : Reaches (length bytes) ps.of
  reach = enough_reaches ps.of (length bytes) (let n = length-blank (enough ps.of) in omega (arith, n))

  none : NoCause ps.sizes (items_of ps.sizes bytes ps.of)
  none = h.none bytes reach

  module _ (i : ℕ) (p : Part) (at : slice_get ps.of i ≡ Some p) where
    here : IsItem (items_of ps.sizes bytes ps.of) i (item_of ps.sizes bytes p)
    here = item_at (item_of ps.sizes bytes) ps.of i p at

    -- its record breaks no rule
    pub part_sound : rec_fault ps.sizes p.entry ≡ None
    part_sound = by (rec_fault ps.sizes p.entry) refl
      where
        by : (o : Option RecFault) → rec_fault ps.sizes p.entry ≡ o → o ≡ None
        by None e = refl
        by (Some f) e = absurd (none (cause.Record i f) (item_of ps.sizes bytes p, here, e))

    -- its volume holds its bytes
    pub part_fits : p.len ≤ p.entry.reserved * usable ps.sizes p.entry
    part_fits = elim (within_or_past p.len (p.entry.reserved * usable ps.sizes p.entry)) [
      | inl few ↦ few
      | inr long ↦ absurd (none (cause.ContentRange i) (
        item_of ps.sizes bytes p,
        here,
        long_misfits ps.sizes p.entry (usable_some ps.sizes p.entry part_sound) (text_of bytes p) p.entry.kind
            (let n = text_size bytes p (reached (length bytes) ps.of i p reach at) in omega (arith, n, long)),
      ))
    ]

    -- its number is one of a slot
    pub part_slot : p.id < slots ps.sizes
    part_slot = elim (within_or_past (slots ps.sizes) p.id) [
      | inl past ↦ absurd (none (cause.IdRange i) (item_of ps.sizes bytes p, here, past))
      | inr below ↦ below
    ]

    -- no more pieces than what is reserved
    pub part_few : pieces_of ps.sizes p ≤ p.entry.reserved
    part_few = pieces_few (usable ps.sizes p.entry)
        (usable_some ps.sizes p.entry part_sound) p.len p.entry.reserved part_fits

  -- a part whose bytes a source has can be read
  pub part_readable : (size : ℕ) → HasParts size ps.of → (id : ℕ) (p : Part) → part_at ps id ≡ Some p
      → IsReadablePart ps size p
  part_readable size has id p e =
      let found = found_part ps.of id p e in
      let at = listed_at ps.of p found.0 in
      record {
        listed = found.0;
        sound = part_sound at.0 p at.1;
        fits = part_fits at.0 p at.1;
        narrow = has.narrow;
        reaches = reached size ps.of at.0 p has.reaches at.1;
      }

  -- the reserved eraseblocks have room on the device
  reserved_sum : (parts : List Part) (n : ℕ)
      → fold (λ k (e : ℕ × Volume). k + e.1.entry.reserved) n (items_of ps.sizes bytes parts)
      ≡ fold (λ k (p : Part). k + p.entry.reserved) n parts
  reserved_sum [] n = refl
  reserved_sum (p ∷ parts) n = reserved_sum parts (n + p.entry.reserved)

  pub reserved_room : 2 + sum_by (λ (p : Part). p.entry.reserved) ps.of ≤ ps.sizes.pebs
  reserved_room = elim (within_or_past (2 + sum_by (λ (p : Part). p.entry.reserved) ps.of) ps.sizes.pebs) [
    | inl few ↦ few
    | inr more ↦ absurd (none cause.NoSpace
        (subst (λ n. ps.sizes.pebs < 2 + n) (sym (reserved_sum ps.of 0)) more))
  ]

  -- and so have the pieces of all
  few_pieces : (parts : List Part) → ((i : ℕ) (p : Part) → slice_get parts i ≡ Some p
      → pieces_of ps.sizes p ≤ p.entry.reserved)
      → sum_by (pieces_of ps.sizes) parts ≤ sum_by (λ (p : Part). p.entry.reserved) parts
  few_pieces [] each = omega arith
  few_pieces (p ∷ parts) each =
      let one = each 0 p refl in
      let rest = few_pieces parts (λ i q at. each (suc i) q at) in
      let pieces = sum_by-cons (pieces_of ps.sizes) p parts in
      let reserved = sum_by-cons (λ (p : Part). p.entry.reserved) p parts in
      omega (arith, one, rest, pieces, reserved)

  pub few_blocks : most_blocks ps ≤ ps.sizes.pebs
  few_blocks =
      let few = few_pieces ps.of (λ i p at. part_few i p at) in
      let room = reserved_room in
      omega (arith, few, room)
