-- Numbers of bytes that the words of a command give.
use Rattle.ubi_commands.proofs.Prelude.{◌≡◌, ◌&&◌, ◌∷◌, [], Bool, List, Some, ap, false, not, refl, sym, true, true≢false, ℕ, is_some, list_all, option_and_then, option_map, option_map_or, same_Some, both, Row, Text, first_of, bytes_within, most_bytes, AsksNumbers, AsksPart, HasBytes, MayHaveBytes, FilePart, Numbers, gives_bytes, gives_no_geometry, gives_part, gives_sizes, gives_word, most_number, None, Option}
use Rattle.std.proofs.Common.{codes}

module _ (largest : ℕ) (rows : List Row) (id : Text) where
  -- words that give a number of bytes give something, and that is one
  pub bytes_are_text : (n : ℕ) → HasBytes largest rows id n → gives_word rows id ≡ true
  bytes_are_text n has = go (first_of id rows) has
    where
      go : (o : Option Text) → option_and_then (bytes_within largest) o ≡ Some n → is_some o ≡ true
      go None e = absurd (cc)
      go (Some t) e = refl

  pub bytes_pass : (n : ℕ) → HasBytes largest rows id n → gives_bytes largest rows id ≡ true
  bytes_pass n has = go (first_of id rows) has
    where
      go : (o : Option Text) → option_and_then (bytes_within largest) o ≡ Some n
          → option_map_or (λ word. is_some (bytes_within largest word)) o true ≡ true
      go None e = refl
      go (Some t) e = ap is_some e

  pub maybe_bytes_pass : (number : Option ℕ) → MayHaveBytes largest rows id number → gives_bytes largest rows id ≡ true
  maybe_bytes_pass number has = go (first_of id rows) number has
    where
      go : (o : Option Text) (number : Option ℕ) → option_map (bytes_within largest) o ≡ option_map Some number
          → option_map_or (λ word. is_some (bytes_within largest word)) o true ≡ true
      go None number e = refl
      go (Some t) None e = absurd (cc)
      go (Some t) (Some n) e = ap is_some (same_Some _ _ e)

  -- and so is nothing
  pub nothing_passes : not (gives_word rows id) ≡ true → gives_bytes largest rows id ≡ true
  nothing_passes none = go (first_of id rows) none
    where
      go : (o : Option Text) → not (is_some o) ≡ true → option_map_or (λ word. is_some (bytes_within largest word)) o true ≡ true
      go None e = refl
      go (Some t) e = absurd (true≢false (sym e))

  -- what they give is one where that is known
  pub bytes_of_text : gives_word rows id ≡ true → gives_bytes largest rows id ≡ true → (n : ℕ) × HasBytes largest rows id n
  bytes_of_text some passes = go (first_of id rows) some passes
    where
      by : (m : Option ℕ) → is_some m ≡ true → (n : ℕ) × (m ≡ Some n)
      by None e = absurd (true≢false (sym e))
      by (Some n) e = (n, refl)

      go : (o : Option Text) → is_some o ≡ true → option_map_or (λ word. is_some (bytes_within largest word)) o true ≡ true
          → (n : ℕ) × (option_and_then (bytes_within largest) o ≡ Some n)
      go None some passes = absurd (true≢false (sym some))
      go (Some t) some passes = by (bytes_within largest t) passes

  pub bytes_in : gives_bytes largest rows id ≡ true → (number : Option ℕ) × MayHaveBytes largest rows id number
  bytes_in passes = go (first_of id rows) passes
    where
      by : (m : Option ℕ) → is_some m ≡ true → (number : Option ℕ) × (Some m ≡ option_map Some number)
      by None e = absurd (true≢false (sym e))
      by (Some n) e = (Some n, refl)

      go : (o : Option Text) → option_map_or (λ word. is_some (bytes_within largest word)) o true ≡ true
          → (number : Option ℕ) × (option_map (bytes_within largest) o ≡ option_map Some number)
      go None passes = (None, refl)
      go (Some t) passes = by (bytes_within largest t) passes

-- ---- what is given for the options of a geometry and of a part

and_true : (a b : Bool) → a ≡ true → b ≡ true → (a && b) ≡ true
and_true true b is h = h
and_true false b is h = absurd (true≢false (sym is))

pub each_of_four : (p : Text → Bool) (a b c d : Text) → p a ≡ true → p b ≡ true → p c ≡ true → p d ≡ true
    → list_all p (a ∷ b ∷ c ∷ d ∷ []) ≡ true
each_of_four p a b c d h i j k = and_true _ _ h (and_true _ _ i (and_true _ _ j (and_true _ _ k refl)))

pub each_of_two : (p : Text → Bool) (a b : Text) → p a ≡ true → p b ≡ true → list_all p (a ∷ b ∷ []) ≡ true
each_of_two p a b h i = and_true _ _ h (and_true _ _ i refl)

-- the sizes and offsets of a geometry
pub numbers_pass : (rows : List Row) (n : Numbers) → AsksNumbers rows n → gives_sizes rows ≡ true
numbers_pass rows n asks =
    each_of_four (gives_bytes most_number rows) (codes "peb") (codes "page") (codes "vid") (codes "data")
    (bytes_pass most_number rows (codes "peb") n.peb_size asks.0) (bytes_pass most_number rows (codes "page") n.page asks.1)
    (maybe_bytes_pass most_number rows (codes "vid") n.vid_offset asks.2)
    (maybe_bytes_pass most_number rows (codes "data") n.data_offset asks.3)

-- the place of a part, and its length
pub part_passes : (rows : List Row) (p : FilePart) → AsksPart rows p → gives_part rows ≡ true
part_passes rows p asks =
    each_of_two (gives_bytes most_bytes rows) (codes "start") (codes "length")
    (maybe_bytes_pass most_bytes rows (codes "start") asks.0 asks.1) (maybe_bytes_pass most_bytes rows (codes "length") p.length asks.3)

-- words that say nothing about a geometry give no size, no offset and no out-of-band bytes
pub no_geometry_passes : (rows : List Row) → gives_no_geometry rows ≡ true
    → (gives_sizes rows ≡ true) × (gives_bytes most_number rows (codes "oob") ≡ true)
no_geometry_passes rows none =
    let oob = both _ _ none in
    let data_at = both _ _ oob.0 in
    let vid = both _ _ data_at.0 in
    let sizes = both _ _ vid.0 in (
      each_of_four (gives_bytes most_number rows) (codes "peb") (codes "page") (codes "vid") (codes "data")
          (nothing_passes most_number rows (codes "peb") sizes.0) (nothing_passes most_number rows (codes "page") sizes.1)
          (nothing_passes most_number rows (codes "vid") vid.1) (nothing_passes most_number rows (codes "data") data_at.1),
      nothing_passes most_number rows (codes "oob") oob.1,
    )
