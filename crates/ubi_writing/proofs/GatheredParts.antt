-- What the sections of a config give.
use Rattle.ubi_writing.proofs.Prelude.{◌≡◌, ℕ, ◌+◌, ◌<◌, ◌^◌, List, [], ◌∷◌, ◌++◌, get_or, length, map, take, zero, suc, ap, arith, refl, subst, sym, ◌∙◌, map-append, take_more, filter_map-append, sum_by-append, AllByRecursion, cons_option, Contains, IfSome, MatchOption, Option, option_map, sum_by, unwrap_or, Sizes, Section, all_append, Part, AreBesideOut, ArePartsOf, IsNoVolume, IsSized, IsUngathered, IsUnreadLine, Sized, image_path, image_paths, len_of, section_part, Files, AreSoFar, IsFoundFile, Outcome, IsSectionPart, sum_cons, as_list, None}
use Rattle.std.specs.Prelude.{◌≢◌, Some}

-- an element stays in a longer list
behind_option : {X : Type 0} (o : Option X) (xs : List X) (x : X) → Contains xs x → Contains (cons_option o xs) x
behind_option None xs x at = at
behind_option (Some y) xs x (k, inside, is) = (suc k, omega (arith, inside), is)

in_front : {X : Type 0} (o : Option X) (xs : List X) (x : X) → o ≡ Some x → Contains (cons_option o xs) x
in_front o xs x is = subst (λ (p : Option _). Contains (cons_option p xs) x) (sym is) (0, omega arith, refl)

-- the path of an image file that a section names is among those of all
path_named : (config : List ℕ) (xs : List Section) (k : ℕ) (x : Section) (image : List ℕ) → k < length xs → get_or xs k x ≡ x
    → x.image ≡ Some image → Contains (image_paths config xs) (image_path config image)
path_named config [] k x image inside here is = absurd (omega (arith, inside))
path_named config (y ∷ ys) zero x image inside here is =
    in_front (option_map (image_path config) y.image) (image_paths config ys) (image_path config image)
    (ap (λ (z : Section). option_map (image_path config) z.image) here ∙ ap (option_map (image_path config)) is)
path_named config (y ∷ ys) (suc k) x image inside here is =
    behind_option (option_map (image_path config) y.image) (image_paths config ys) (image_path config image)
    (path_named config ys k x image (omega (arith, inside)) here is)

-- one volume more
pub parts_more : (s : Sizes) (start : ℕ) (es : List Sized) (ps : List Part) (e : Sized) (p : Part) → ArePartsOf s start es ps
    → IsSectionPart s (start + sum_by len_of es) e p → ArePartsOf s start (es ++ e ∷ []) (ps ++ p ∷ [])
parts_more s start [] [] e p are is =
    let begins : start + 0 ≡ start = omega arith in
    (is.0, is.1, subst (λ (k : ℕ). p ≡ section_part k e is.0) begins is.2, tt)
parts_more s start (x ∷ es) (q ∷ ps) e p are is =
    let one = sum_cons len_of x es in
    let begins : start + sum_by len_of (x ∷ es) ≡ (start + len_of x) + sum_by len_of es = omega (arith, one) in
    (are.0, are.1, are.2, parts_more s (start + len_of x) es ps e p are.3 (subst (λ (k : ℕ). IsSectionPart s k e p) begins is))
parts_more s start [] (q ∷ ps) e p are is = absurd are
parts_more s start (x ∷ es) [] e p are is = absurd are

-- the length of a file that was found is that of the section's
abbrev file_len : Option (Option (List ℕ) × ℕ) → Option ℕ
file_len file = option_map (λ f. f.1) file

sized_by : (d : Files) (config : List ℕ) (x : Section) (o : Outcome) (file : Option (Option (List ℕ) × ℕ)) → IsFoundFile d config x o file
    → IsSized d config (x, file_len file)
sized_by d config x o file = by_image x.image
  where
    by_image : (image : Option (List ℕ))
        → MatchOption image ((file ≡ None) × IsUnreadLine config o) (λ image. (held : Option (List ℕ)) × (n : ℕ) × (file ≡ Some (held, n))
        × (held ≡ d.holds (image_path config image)) × IfSome held (λ all. length all ≡ n) × IsUnreadLine (image_path config image) o)
        → MatchOption image (file_len file ≡ None) (λ image. (n : ℕ) × (file_len file ≡ Some n) × IfSome (d.holds (image_path config image)) (λ all. length all ≡ n))
    by_image None h = ap file_len h.0
    by_image (Some image) h =
        (h.1, ap file_len h.2, subst (λ (held : Option (List ℕ)). IfSome held (λ all. length all ≡ h.1)) h.3 h.4)

-- what the files hold that were found
held_more : (d : Files) (config : List ℕ) (x : Section) (o : Outcome) (file : Option (Option (List ℕ) × ℕ)) → IsFoundFile d config x o file
    → as_list (option_map (λ (f : Option (List ℕ) × ℕ). f.0) file) ≡ map d.holds (image_paths config (x ∷ []))
held_more d config x o file = by_image x.image
  where
    by_image : (image : Option (List ℕ))
        → MatchOption image ((file ≡ None) × IsUnreadLine config o) (λ image. (held : Option (List ℕ)) × (n : ℕ) × (file ≡ Some (held, n))
        × (held ≡ d.holds (image_path config image)) × IfSome held (λ all. length all ≡ n) × IsUnreadLine (image_path config image) o)
        → as_list (option_map (λ (f : Option (List ℕ) × ℕ). f.0) file) ≡ map d.holds (cons_option (option_map (image_path config) image) [])
    by_image None h = ap (λ (f : Option (Option (List ℕ) × ℕ)). as_list (option_map (λ (g : Option (List ℕ) × ℕ). g.0) f)) h.0
    by_image (Some image) h =
        ap (λ (f : Option (Option (List ℕ) × ℕ)). as_list (option_map (λ (g : Option (List ℕ) × ℕ). g.0) f)) h.2
        ∙ ap (λ (y : Option (List ℕ)). y ∷ []) h.3

-- one section more
module _ (d : Files) (s : Sizes) (config : List ℕ) where
  pub none_gathered : AreSoFar d s config [] [] [] 0
  none_gathered = record {
    gathered = record { sized = []; sections = refl; sizes = tt; parts = tt; held = refl };
    total = refl;
  }

  pub one_gathered : (xs : List Section) (ps : List Part) (held : List (Option (List ℕ))) (total : ℕ) (x : Section) (p : Part) (o : Outcome)
      (file : Option (Option (List ℕ) × ℕ)) → AreSoFar d s config xs ps held total → IsFoundFile d config x o file
      → IsSectionPart s total (x, option_map (λ f. f.1) file) p
      → AreSoFar d s config (xs ++ x ∷ []) (ps ++ p ∷ []) (held ++ as_list (option_map (λ (f : Option (List ℕ) × ℕ). f.0) file)) (total + p.len)
  one_gathered xs ps held total x p o file before found is =
      let g = before.gathered in
      let e : Sized = (x, file_len file) in
      let here : IsSectionPart s (0 + sum_by len_of g.sized) e p =
      subst (λ (k : ℕ). IsSectionPart s k e p) (before.total ∙ (let zeroed : sum_by len_of g.sized ≡ 0 + sum_by len_of g.sized = omega arith in zeroed)) is in
      let len : p.len ≡ len_of e = ap (λ (q : Part). q.len) is.2 in
      record {
        gathered = record {
          sized = g.sized ++ e ∷ [];
          sections = map-append (λ (f : Sized). f.0) g.sized (e ∷ []) ∙ ap (λ (ys : List Section). ys ++ x ∷ []) g.sections;
          sizes = all_append (IsSized d config) g.sized (e ∷ []) g.sizes (sized_by d config x o file found, tt);
          parts = parts_more s 0 g.sized ps e p g.parts here;
          held = ap (λ (ys : List (Option (List ℕ))). ys ++ as_list (option_map (λ (f : Option (List ℕ) × ℕ). f.0) file)) g.held
              ∙ ap (λ (ys : List (Option (List ℕ))). map d.holds (image_paths config xs) ++ ys) (held_more d config x o file found)
              ∙ sym (map-append d.holds (image_paths config xs) (image_paths config (x ∷ [])))
              ∙ ap (map d.holds) (sym (filter_map-append (λ (y : Section). option_map (image_path config) y.image) xs (x ∷ [])));
        };
        total = ap (λ (k : ℕ). k + p.len) before.total ∙ ap (λ (k : ℕ). sum_by len_of g.sized + k) (len ∙ (let one : len_of e ≡ sum_by len_of (e ∷ []) = omega arith in one))
            ∙ sym (sum_by-append len_of g.sized (e ∷ []));
      }

-- no file of one section more is the output
pub one_apart : (config out : List ℕ) (x : Section) (image : List ℕ) → x.image ≡ Some image → image_path config image ≢ out
    → AreBesideOut config out (x ∷ [])
one_apart config out x image is apart =
    subst (λ (o : Option (List ℕ)). AllByRecursion (λ path. path ≢ out) (cons_option (option_map (image_path config) o) [])) (sym is) (apart, tt)

pub next_apart : (config out : List ℕ) (xs : List Section) (i : ℕ) (x : Section) → i < length xs → get_or xs i x ≡ x
    → AreBesideOut config out (take i xs) → AreBesideOut config out (x ∷ []) → AreBesideOut config out (take (i + 1) xs)
next_apart config out xs i x inside here before one =
    let more : take (i + 1) xs ≡ take i xs ++ x ∷ [] =
    take_more xs i x inside ∙ ap (λ (y : Section). take i xs ++ y ∷ []) here in
    subst (AreBesideOut config out) (sym more)
    (subst (AllByRecursion (λ path. path ≢ out))
    (sym (filter_map-append (λ (y : Section). option_map (image_path config) y.image) (take i xs) (x ∷ [])))
    (all_append (λ path. path ≢ out) (image_paths config (take i xs)) (image_paths config (x ∷ [])) before one))

-- the line of a file that was found names it, or the config
pub unread_named : (d : Files) (config : List ℕ) (xs : List Section) (k : ℕ) (x : Section) (o : Outcome) (file : Option (Option (List ℕ) × ℕ))
    → k < length xs → get_or xs k x ≡ x → IsFoundFile d config x o file
    → (path : List ℕ) × Contains (config ∷ image_paths config xs) path × IsUnreadLine path o
unread_named d config xs k x o file inside here = by_image x.image refl
  where
    by_image : (image : Option (List ℕ)) → x.image ≡ image
        → MatchOption image ((file ≡ None) × IsUnreadLine config o) (λ image. (held : Option (List ℕ)) × (n : ℕ) × (file ≡ Some (held, n))
        × (held ≡ d.holds (image_path config image)) × IfSome held (λ all. length all ≡ n) × IsUnreadLine (image_path config image) o)
        → (path : List ℕ) × Contains (config ∷ image_paths config xs) path × IsUnreadLine path o
    by_image None is h = (config, (0, omega arith, refl), h.1)
    by_image (Some image) is h =
        let at = path_named config xs k x image inside here is in
        let place = at.1 in
        (image_path config image, (suc at.0, omega (arith, place), at.2), h.5)

-- a file that has bytes is one that the section names
pub unread_file : (d : Files) (config : List ℕ) (x : Section) (o : Outcome) (file : Option (Option (List ℕ) × ℕ)) → IsFoundFile d config x o file
    → 0 < unwrap_or (option_map (λ (f : Option (List ℕ) × ℕ). f.1) file) 0
    → (image : List ℕ) × (x.image ≡ Some image) × IsUnreadLine (image_path config image) o
unread_file d config x o file = by_image x.image refl
  where
    by_image : (image : Option (List ℕ)) → x.image ≡ image
        → MatchOption image ((file ≡ None) × IsUnreadLine config o) (λ image. (held : Option (List ℕ)) × (n : ℕ) × (file ≡ Some (held, n))
        × (held ≡ d.holds (image_path config image)) × IfSome held (λ all. length all ≡ n) × IsUnreadLine (image_path config image) o)
        → 0 < unwrap_or (option_map (λ (f : Option (List ℕ) × ℕ). f.1) file) 0
        → (image : List ℕ) × (x.image ≡ Some image) × IsUnreadLine (image_path config image) o
    by_image None is h some =
        let nothing : unwrap_or (option_map (λ (f : Option (List ℕ) × ℕ). f.1) file) 0 ≡ 0 =
        ap (λ (f : Option (Option (List ℕ) × ℕ)). unwrap_or (option_map (λ (g : Option (List ℕ) × ℕ). g.1) f) 0) h.0 in
        absurd (omega (arith, some, nothing))
    by_image (Some image) is h some = (image, is, h.5)

-- sections stop at the first that comes to no volume
pub stops_at : (d : Files) (s : Sizes) (config : List ℕ) (xs : List Section) (i : ℕ) (x : Section) (ps : List Part)
    (held : List (Option (List ℕ))) (total : ℕ) (o : Outcome) → i < length xs → get_or xs i x ≡ x
    → AreSoFar d s config (take i xs) ps held total → IsNoVolume d s config x o → IsUngathered d s config xs o
stops_at d s config xs i x ps held total o inside here before none =
    record { at = i; inside = inside; parts = ps; held = held; before = before.gathered; first = (x, here, none) }

-- the sum over an element, if there is one
pub listed_sum : {X : Type 0} (f : X → ℕ) (o : Option X) → sum_by f (as_list o) ≡ unwrap_or (option_map f o) 0
listed_sum f None = refl
listed_sum f (Some x) = omega arith

-- a sum that isn't below a limit, with a first number that is, has a second one
pub has_second : (a b : ℕ) → (a + b < 2 ^ 64 → ⊥) → a < 2 ^ 64 → 0 < b
has_second a zero over first = absurd (over (omega (arith, first)))
has_second a (suc b) over first = omega arith

module _ {F : Type 0} (bytes : F → Option (List ℕ)) (len : F → ℕ) where
  -- what a file holds, and how many bytes it has, where there is one
  abbrev found_in : Option F → Option (Option (List ℕ) × ℕ)
  found_in o = option_map (λ f. (bytes f, len f)) o

  len_found : (o : Option F) → option_map len o ≡ option_map (λ (f : Option (List ℕ) × ℕ). f.1) (found_in o)
  len_found None = refl
  len_found (Some f) = refl

  held_found : (o : Option F) → as_list (option_map (λ (f : Option (List ℕ) × ℕ). f.0) (found_in o)) ≡ map bytes (as_list o)
  held_found None = refl
  held_found (Some f) = refl

  pub sized_found : (d : Files) (config : List ℕ) (x : Section) (o : Outcome) (file : Option F) → IsFoundFile d config x o (found_in file)
      → IsSized d config (x, option_map len file)
  sized_found d config x o file found =
      subst (λ (n : Option ℕ). IsSized d config (x, n)) (sym (len_found file)) (sized_by d config x o (found_in file) found)

  pub next_gathered : (d : Files) (s : Sizes) (config : List ℕ) (xs : List Section) (i : ℕ) (x : Section) (ps : List Part) (fs : List F)
      (total : ℕ) (p : Part) (o : Outcome) (file : Option F) → i < length xs → get_or xs i x ≡ x
      → AreSoFar d s config (take i xs) ps (map bytes fs) total → IsFoundFile d config x o (found_in file)
      → IsSectionPart s total (x, option_map len file) p
      → AreSoFar d s config (take (i + 1) xs) (ps ++ p ∷ []) (map bytes (fs ++ as_list file)) (total + p.len)
  next_gathered d s config xs i x ps fs total p o file inside here before found is =
      let more : take (i + 1) xs ≡ take i xs ++ x ∷ [] =
      take_more xs i x inside ∙ ap (λ (y : Section). take i xs ++ y ∷ []) here in
      let held : map bytes (fs ++ as_list file) ≡ map bytes fs ++ as_list (option_map (λ (f : Option (List ℕ) × ℕ). f.0) (found_in file)) =
      map-append bytes fs (as_list file) ∙ ap (λ (y : List (Option (List ℕ))). map bytes fs ++ y) (sym (held_found file)) in
      subst (λ (y : List Section). AreSoFar d s config y (ps ++ p ∷ []) (map bytes (fs ++ as_list file)) (total + p.len)) (sym more)
      (subst (λ (y : List (Option (List ℕ))). AreSoFar d s config (take i xs ++ x ∷ []) (ps ++ p ∷ []) y (total + p.len)) (sym held)
      (one_gathered d s config (take i xs) ps (map bytes fs) total x p o (found_in file) before found
      (subst (λ (y : Option ℕ). IsSectionPart s total (x, y) p) (len_found file) is)))

  pub next_total : (fs : List F) (total n : ℕ) (file : Option F) → total ≡ sum_by len fs → n ≡ unwrap_or (option_map len file) 0
      → total + n ≡ sum_by len (fs ++ as_list file)
  next_total fs total n file before is =
      let all = sum_by-append len fs (as_list file) in
      let one = listed_sum len file in
      omega (arith, before, is, all, one)

  pub some_found : (n : ℕ) (file : Option F) → n ≡ unwrap_or (option_map len file) 0 → 0 < n
      → 0 < unwrap_or (option_map (λ (f : Option (List ℕ) × ℕ). f.1) (found_in file)) 0
  some_found n file is some =
      let same = ap (λ (o : Option ℕ). unwrap_or o 0) (len_found file) in omega (arith, is, some, same)
