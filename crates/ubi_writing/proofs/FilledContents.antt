-- The files that are to be contents of volumes, one after the other.
use Rattle.ubi_writing.proofs.Prelude.{All-contains_itself, Ask, Bor, Contents, Files, Filled, Global, IfSome, IsFilled, IsFilledBy, IsUnfilled, IsUnread, List, Numbers, Option, Outcome, Sizes, Update, Vec, [], all_append, ap, arith, fold-append, get_or, known_by, length, map, map-append, named_asks, refl, string_bytes, subst, sum_by, sum_by-append, sym, told, value_in, with_contents, ℕ, ◌++◌, ◌+◌, ◌<◌, ◌∙◌, ◌∷◌, ◌≡◌, IsOpenedAt, NewVolume}
use Rattle.ubi_writing.specs.declared.asks.Ask.TheVariants as ask

module _ (d : Files) (s : Sizes) (u : Update) where
  pub none_filled : (c : Contents) (bytes : List (Option (List ℕ))) → c.asks.items ≡ named_asks u → c.volumes.items ≡ [] → c.total ≡ 0 → c.paths.items ≡ [] → bytes ≡ []
      → IsFilledBy d s u [] c bytes
  none_filled c bytes asks volumes total paths none = record {
    filled = [];
    are = record { named = refl; held = tt };
    asks = rw (asks, total) refl;
    volumes = volumes;
    total = total;
    held = none;
    paths = ap (map string_bytes) paths;
  }

  pub one_filled : (words : List (Bor (List ℕ))) (word path : Bor (List ℕ)) (len : ℕ) (bytes : Option (List ℕ)) (c later : Contents)
      (before after : List (Option (List ℕ))) → IsFilledBy d s u words c before → IsOpenedAt d s path.now len bytes → path.now ≡ value_in word.now
      → later.asks.items ≡ c.asks.items ++ ask.Contents word c.total len ∷ [] → later.volumes ≡ c.volumes → later.total ≡ c.total + len
      → map string_bytes later.paths.items ≡ map string_bytes c.paths.items ++ path.now ∷ [] → after ≡ before ++ bytes ∷ [] → IsFilledBy d s u (words ++ word ∷ []) later after
  one_filled words word path len bytes c later before after so_far opened named asks volumes total paths is =
      let f : Filled = record { word = word; len = len; held = bytes } in
      let fs = so_far.filled in
      let filled : IsFilled d s f = subst (λ (p : List ℕ). IsOpenedAt d s p len bytes) named opened in
      record {
        filled = fs ++ f ∷ [];
        are = record {
          named = map-append (λ (x : Filled). x.word) fs (f ∷ []) ∙ ap (λ (ws : List (Bor (List ℕ))). ws ++ word ∷ []) so_far.are.named;
          held = all_append (IsFilled d s) fs (f ∷ []) so_far.are.held (filled, tt);
        };
        asks =
            rw (asks, total) (ap (λ (x : List Ask × ℕ). with_contents x f) so_far.asks)
            ∙ sym (fold-append with_contents (named_asks u, 0) fs (f ∷ []));
        volumes = ap (λ (vs : Vec NewVolume Global). vs.items) volumes ∙ so_far.volumes;
        total =
            total ∙ ap (λ n. n + len) so_far.total
            ∙ (let one : sum_by (λ (x : Filled). x.len) fs + len ≡ sum_by (λ (x : Filled). x.len) fs + sum_by (λ (x : Filled). x.len) (f ∷ []) =
            omega arith in one)
            ∙ sym (sum_by-append (λ (x : Filled). x.len) fs (f ∷ []));
        held =
            is ∙ ap (λ (xs : List (Option (List ℕ))). xs ++ bytes ∷ []) so_far.held
            ∙ sym (map-append (λ (x : Filled). x.held) fs (f ∷ []));
        paths =
            paths ∙ ap (λ (ps : List (List ℕ)). ps ++ path.now ∷ []) so_far.paths
            ∙ ap (λ (p : List ℕ). map (λ w. value_in w.now) words ++ p ∷ []) named
            ∙ sym (map-append (λ (w : Bor (List ℕ)). value_in w.now) words (word ∷ []));
      }

-- a file that can't be read is that of a word
pub unread_word : (numbers : Numbers) (words : List (Bor (List ℕ))) (i : ℕ) (d : Bor (List ℕ)) (path : List ℕ) → i < length words
    → path ≡ value_in (get_or words i d).now → (o : Outcome) → IsUnread numbers path o → IsUnfilled numbers words o
unread_word numbers words i d path inside named o h =
    (get_or words i d, All-contains_itself words i d inside, subst (λ (p : List ℕ). IsUnread numbers p o) named h)

-- what files are promised to hold agrees with what was read of them
pub promise_kept : (told held : Option (List ℕ)) (len size : ℕ) (reads : List (ℕ × List ℕ)) → told ≡ held → len ≡ size
    → IfSome told (known_by len reads) → IfSome held (known_by size reads)
promise_kept told held len size reads same long h =
    subst (λ (x : Option (List ℕ)). IfSome x (known_by size reads)) same (subst (λ n. IfSome told (known_by n reads)) long h)
