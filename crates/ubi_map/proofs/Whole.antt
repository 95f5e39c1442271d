-- The JSON of eraseblocks has no float.
use Rattle.ubi_map.proofs.Prelude.{◌≡◌, ℕ, List, [], ◌∷◌, false, map, refl, string, items_of, has_float, items_have_float, Sizes, Refusal, Seen, refusal_data, ListedVolume, listed_whole, refused_page_data, surveyed_data}

texts_whole : (texts : List (List ℕ)) → items_have_float (items_of (map string texts)) ≡ false
texts_whole [] = refl
texts_whole (t ∷ ts) = texts_whole ts

pub surveyed_whole : (s : Sizes) (texts : List (List ℕ)) (a : Seen) (volumes : List ListedVolume)
    → has_float (surveyed_data s texts a volumes) ≡ false
surveyed_whole s texts a volumes = rw (texts_whole texts, listed_whole s volumes) refl

pub refused_whole : (s : Sizes) (texts : List (List ℕ)) (letters : List ℕ) (c : Refusal) → has_float (refusal_data c) ≡ false
    → has_float (refused_page_data s texts letters c) ≡ false
refused_whole s texts letters c whole = rw (texts_whole texts, whole) refl
