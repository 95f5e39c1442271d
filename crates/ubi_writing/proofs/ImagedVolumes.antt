-- The volumes of a config's sections, one after the other.
use Rattle.ubi_writing.proofs.Prelude.{All-contains_itself, Bool, Contains, Contents, Files, IsUnread, List, None, Numbers, Option, Outcome, Sizes, Some, [], all_append, ap, append-nil, append_assoc, ap₂, arith, false, fold-append, get_or, image_path, is_some, length, map, map-append, not, option_map_or, refl, string_bytes, subst, sum_by, sum_by-append, sym, true, ℕ, ◌++◌, ◌+◌, ◌<◌, ◌∙◌, ◌∷◌, ◌≡◌, Section, Imaged, IsImaged, IsUnimaged, image_len, section_path, with_section, IsImagedBy, IsVolumeOf, NewVolume}
use Rattle.ubi_writing.specs.Contents as contents
use Rattle.ubi_writing.specs.declared.config_volumes.Image.{Image}

module _ (d : Files) (s : Sizes) (config : List ℕ) where
  pub none_imaged : (c : Contents) (before : List (Option (List ℕ))) → IsImagedBy d s config [] c c before before
  none_imaged c before = record {
    imaged = [];
    are = record { named = refl; held = tt };
    asks = refl;
    volumes = refl;
    total = omega arith;
    held = sym (append-nil before);
    paths = sym (append-nil (map string_bytes c.paths.items));
  }

  pub one_imaged : (xs : List Section) (x : Section) (v : Image) (len : ℕ) (held : Option (List ℕ)) (first c later : Contents)
      (start before after : List (Option (List ℕ))) → IsImagedBy d s config xs first c start before → IsVolumeOf d s config x v len held
      → later.asks ≡ c.asks → later.volumes.items ≡ c.volumes.items ++ record { entry = v.entry; start = c.total; len = len } ∷ []
      → later.total ≡ c.total + len
      → later.paths.items ≡ c.paths.items ++ v.path ∷ [] → after ≡ before ++ held ∷ [] → IsImagedBy d s config (xs ++ x ∷ []) first later start after
  one_imaged xs x v len held first c later start before after so_far is asks volumes total paths more =
      let g : Imaged = record { section = x; len = is.given; entry = v.entry; held = held } in
      let gs = so_far.imaged in
      let imaged : IsImaged d s config g = record { image = is.image; record_is = is.record_is } in
      let size : len ≡ image_len g = is.size in
      record {
        imaged = gs ++ g ∷ [];
        are = record {
          named = map-append (λ (y : Imaged). y.section) gs (g ∷ []) ∙ ap (λ (ys : List Section). ys ++ x ∷ []) so_far.are.named;
          held = all_append (IsImaged d s config) gs (g ∷ []) so_far.are.held (imaged, tt);
        };
        asks = asks ∙ so_far.asks;
        volumes =
            rw (volumes, total, size) (ap (λ (y : List NewVolume × ℕ). with_section y g) so_far.volumes)
            ∙ sym (fold-append with_section (first.volumes.items, first.total) gs (g ∷ []));
        total =
            (let sums = sum_by-append image_len gs (g ∷ []) in
            let before_is = so_far.total in
            let one : sum_by image_len (g ∷ []) ≡ image_len g = omega arith in
            omega (arith, sums, before_is, total, size, one));
        held =
            more ∙ ap (λ (ys : List (Option (List ℕ))). ys ++ held ∷ []) so_far.held
            ∙ append_assoc start (map (λ (y : Imaged). y.held) gs) (held ∷ [])
            ∙ ap (λ (ys : List (Option (List ℕ))). start ++ ys) (sym (map-append (λ (y : Imaged). y.held) gs (g ∷ [])));
        paths =
            ap (map string_bytes) paths ∙ map-append string_bytes c.paths.items (v.path ∷ [])
            ∙ ap₂ (λ (ys zs : List (List ℕ)). ys ++ zs) so_far.paths (ap (λ (p : List ℕ). p ∷ []) is.path)
            ∙ append_assoc (map string_bytes first.paths.items) (map (section_path config) xs) (section_path config x ∷ [])
            ∙ ap (λ (ys : List (List ℕ)). map string_bytes first.paths.items ++ ys) (sym (map-append (section_path config) xs (x ∷ [])));
      }

-- a file that can't be read is that of the section
pub image_unread : (d : Files) (numbers : Numbers) (config : List ℕ) (x : Section) (path : List ℕ) → path ≡ section_path config x
    → (none : Bool) → is_some x.image ≡ not none → none ≡ false → (o : Outcome) → IsUnread numbers path o → IsUnimaged d numbers config x o
image_unread d numbers config x path named none is some o h = by x.image refl
  where
    by : (i : Option (List ℕ)) → x.image ≡ i → IsUnimaged d numbers config x o
    by None same = absurd (let e : ◌≡◌ {A = Bool} false true = ap is_some (sym same) ∙ is ∙ ap not some in cc)
    by (Some i) same =
        contents.no_image i same
        (subst (λ (p : List ℕ). IsUnread numbers p o) (named ∙ ap (λ (y : Option (List ℕ)). option_map_or (image_path config) y config) same) h)

-- what holds of a section holds of one of all
pub of_section : (xs : List Section) (i : ℕ) (x : Section) → i < length xs → get_or xs i x ≡ x → (P : Section → Outcome → Type 0) (o : Outcome)
    → P x o → (y : Section) × Contains xs y × P y o
of_section xs i x inside here P o h = (x, subst (Contains xs) here (All-contains_itself xs i x inside), h)
