-- All that is asked of volumes, by words and by the sections of a config, or why it isn't known.
use Rattle.ubi_writing.proofs.Prelude.{Ask, AskedEdits, Bor, Contains, Contents, Files, Filled, Gives, Global, Imaged, IsAllAsked, IsFilledBy, IsImagedBy, IsTextOf, IsUnaskedBy, IsUnfilled, IsUnimaged, IsUnread, List, None, Numbers, Option, Outcome, Sizes, Some, Update, Vec, [], ap, append-nil, ap₂, arith, fold, map, no_contents, refl, says, section_path, sizes_of, string_bytes, subst, sym, value_in, with_section, ℕ, ◌++◌, ◌∙◌, ◌∷◌, ◌≡◌, first_config_fault, sections_of, ConfigCause, Section, config_line, NewVolume, IsConfigOf, IsFaultyLine, OfConfig, OfContents, config_path}
use Rattle.ubi_writing.specs.Contents as contents
use Rattle.ubi_writing.specs.inner.Filling as filling

-- the line of the first fault of a text
pub faulty_line : (text : List ℕ) (n : ℕ) (c : ConfigCause) → first_config_fault text ≡ Some (n, c) → (o : Outcome)
    → Gives o (says (config_line n c) 1) → IsFaultyLine text o
faulty_line text n c fault o gives = (n, c, fault, gives)

module _ (d : Files) (numbers : Numbers) (u : Update) where
  abbrev s : Sizes
  s = sizes_of numbers

  -- by words alone
  pub words_asked : u.config ≡ None → (c : Contents) (bytes : List (Option (List ℕ))) → IsFilledBy d s u u.contents.now c bytes → IsAllAsked d numbers u c bytes
  words_asked none c bytes by = record {
    sections = [];
    config = rw none refl;
    filled = by.filled;
    are = by.are;
    imaged = [];
    are_imaged = record { named = refl; held = tt };
    asks = ap (λ (x : List Ask × ℕ). x.0) by.asks;
    volumes = by.volumes;
    total = (let is = by.total in omega (arith, is));
    held = by.held ∙ sym (append-nil (map (λ f. f.held) by.filled));
    paths =
        by.paths
        ∙ sym (rw none (append-nil (map (λ w. value_in w.now) u.contents.now ++ []) ∙ append-nil (map (λ w. value_in w.now) u.contents.now)));
  }

  pub words_unasked : u.config ≡ None → (o : Outcome) → IsUnfilled numbers u.contents.now o → IsUnaskedBy d numbers u o
  words_unasked none o h = filling.by_word [] (rw none refl) h

  -- and by the sections of a config
  module _ (path : Bor (List ℕ)) (given : u.config ≡ Some path) where
    named : config_path u.config ≡ path.now
    named = rw given refl

    pub config_is : (text : List ℕ) → IsTextOf d path.now text → first_config_fault text ≡ None → IsConfigOf d u.config (sections_of text)
    config_is text of none = rw given (text, of, none, refl)

    pub config_unread : (o : Outcome) → IsUnread numbers path.now o → IsUnaskedBy d numbers u o
    config_unread o h = filling.by_config (contents.unread_config path given h)

    pub config_faulty : (text : List ℕ) → IsTextOf d path.now text → (o : Outcome) → IsFaultyLine text o → IsUnaskedBy d numbers u o
    config_faulty text of o h = filling.by_config (contents.faulty_config path text given of h)

    module _ (xs : List Section) (config : IsConfigOf d u.config xs) where
      pub word_unasked : (o : Outcome) → IsUnfilled numbers u.contents.now o → IsUnaskedBy d numbers u o
      word_unasked o h = filling.by_word xs config h

      pub section_unasked : (o : Outcome) → (x : Section) × Contains xs x × IsUnimaged d numbers path.now x o → IsUnaskedBy d numbers u o
      section_unasked o h =
          filling.by_section xs config h.0 h.1 (subst (λ (p : List ℕ). IsUnimaged d numbers p h.0 o) (sym named) h.2)

      pub all_are : (before later last : Contents) (bytes more : List (Option (List ℕ))) → IsFilledBy d s u u.contents.now before bytes
          → IsImagedBy d s path.now xs before later bytes more → last.asks ≡ later.asks → last.volumes ≡ later.volumes → last.total ≡ later.total
          → map string_bytes last.paths.items ≡ map string_bytes later.paths.items ++ path.now ∷ [] → IsAllAsked d numbers u last more
      all_are before later last bytes more by then asks volumes total paths = record {
        sections = xs;
        config = config;
        filled = by.filled;
        are = by.are;
        imaged = then.imaged;
        are_imaged = rw named then.are;
        asks = ap (λ (x : Vec Ask Global). x.items) (asks ∙ then.asks) ∙ ap (λ (x : List Ask × ℕ). x.0) by.asks;
        volumes =
            ap (λ (x : Vec NewVolume Global). x.items) volumes ∙ ap (λ (x : List NewVolume × ℕ). x.0) then.volumes
            ∙ ap₂ (λ (vs : List NewVolume) (n : ℕ). (fold with_section (vs, n) then.imaged).0) by.volumes (ap (λ (x : List Ask × ℕ). x.1) by.asks);
        total = (let a = by.total in let b = then.total in omega (arith, a, b, total));
        held = then.held ∙ ap (λ (ys : List (Option (List ℕ))). ys ++ map (λ g. g.held) then.imaged) by.held;
        paths =
            paths ∙ ap (λ (ps : List (List ℕ)). ps ++ path.now ∷ []) then.paths
            ∙ ap (λ (ps : List (List ℕ)). ps ++ map (section_path path.now) xs ++ path.now ∷ []) by.paths
            ∙ sym (rw given refl);
      }

-- why it isn't known what is asked for is what is answered
pub unasked_told : (d : Files) (numbers : Numbers) (u : Update) (answers : List Section → List Filled → List Imaged → List ℕ → Outcome → Type 0)
    (o : Outcome) → IsUnaskedBy d numbers u o
    → OfConfig d numbers u.config (λ xs. OfContents d numbers u.contents.now (config_path u.config) xs (answers xs)) o
unasked_told d numbers u answers o (filling.by_config h) = contents.no_sections h
unasked_told d numbers u answers o (filling.by_word xs config h) = contents.sections xs config (contents.no_contents h)
unasked_told d numbers u answers o (filling.by_section xs config x at h) = contents.sections xs config (contents.no_volume x at h)

-- what is asked for is the same if its parts are
pub same_edits : (asks asks_too : List Ask) (volumes volumes_too : List NewVolume) (paths paths_too : List (List ℕ)) → asks ≡ asks_too
    → volumes ≡ volumes_too → paths ≡ paths_too
    → ◌≡◌ {A = AskedEdits} (record { asks = asks; volumes = volumes; paths = paths }) (record { asks = asks_too; volumes = volumes_too; paths = paths_too })
same_edits asks asks_too volumes volumes_too paths paths_too a b c = rw (a, b, c) refl
