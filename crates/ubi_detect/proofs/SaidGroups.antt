-- The group that the headers of a file say.
use Rattle.ubi_detect.proofs.Prelude.{◌≡◌, ◌≢◌, ℕ, ◌/◌, ◌<◌, ◌≤◌, true, List, [], ◌∷◌, length, inl, inr, refl, ap, sym, ◌∙◌, arith, list_any, IsFalse, map, and_from, eq-eqb, or_left, true≢false, length-map, IsUndetected, IsWholeGroup, NonePlain, IsImage, heads_of, key_count, keys_of, most_keys, same_key, step, is_sure, Group, Head, Key, AreGroups, IsWithin, LiesIn}
use Rattle.ubi_detect.specs.declared.detect.Undetected.TheVariants as cause
use Rattle.ubi_detect.proofs.NewGroups.{any_key}

pub same_itself : (k : Key) → same_key k k ≡ true
same_itself k =
    and_from _ _
    (and_from _ _ (eq-eqb k.offsets.vid_offset k.offsets.vid_offset refl) (eq-eqb k.offsets.data_offset k.offsets.data_offset refl))
    (eq-eqb k.image_seq k.image_seq refl)

no_keys : (heads : List Head) → keys_of heads ≡ [] → heads ≡ []
no_keys [] e = refl
no_keys (h ∷ heads) e = absurd (true≢false (
    sym (any_key h.key (h ∷ heads) ∙ or_left (same_key h.key h.key) (list_any (λ g. same_key h.key g.key) heads) (same_itself h.key))
    ∙ ap (list_any (same_key h.key)) e))

no_map : (gs : List Group) → map (λ g. g.key) gs ≡ [] → length gs ≡ 0
no_map gs e = sym (length-map gs (λ (g : Group). g.key)) ∙ ap length e

module _ (heads : List Head) (gs : List Group) (are : AreGroups heads gs) where
  -- where there is no group there is no header, and the other way round
  pub no_heads : gs ≡ [] → heads ≡ []
  no_heads e = no_keys heads (sym are.keys ∙ ap (map (λ g. g.key)) e)

  pub some_heads : 1 ≤ length gs → heads ≢ []
  some_heads some e = let n = no_map gs (are.keys ∙ ap keys_of e) in omega (arith, some, n)

-- the group of an image lies in its file
pub lies_in : (n : ℕ) (g : Group) → IsWithin (n / step) g → (1 ≤ g.size) × (g.size ≤ 16777216) × (2 ≤ g.count) → LiesIn n g
lies_in n g within size = record {
  from = size.0;
  to = size.1;
  order = within.order;
  last = (let some = size.2 in let l = within.last (omega (arith, some)) in omega (arith, l));
}

-- an image has headers
pub image_heads : (heads : List Head) (j : ℕ) (g : Group) → IsImage heads j g → heads ≢ []
image_heads heads j g is e = let n = ap (λ hs. length (keys_of hs)) e in let i = is.says.inside in omega (arith, n, i)

-- and so has a file of too many keys
pub many_heads : (bytes : List ℕ) → most_keys < key_count bytes → heads_of bytes ≢ []
many_heads bytes many e = let n = ap (λ hs. length (keys_of hs)) e in omega (arith, n, many)

-- which is refused for them
pub too_many : (bytes : List ℕ) → NonePlain bytes → most_keys < key_count bytes → IsUndetected bytes cause.NoSize
too_many bytes none many = (many_heads bytes many, none, inl many)

-- a whole image of which the size isn't sure is refused for it
pub not_sure : (bytes : List ℕ) (g : Group) → IsWholeGroup bytes g → IsFalse (is_sure bytes g) → IsUndetected bytes cause.NoSize
not_sure bytes g is fails = (image_heads (heads_of bytes) is.index g is.image, is.none, inr (inr (g, is, fails)))
