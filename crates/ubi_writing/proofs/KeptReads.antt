-- Files that were read for a plan hold what they held.
use Rattle.ubi_writing.proofs.Prelude.{All-cons, All-head, All-map, All-nil, All-tail, Bor, Files, IfSome, List, None, Option, Some, Stays, TheseStay, Update, [], map, option_map_or, section_path, subst, value_in, ℕ, ◌++◌, ◌∷◌, ◌≡◌, Section, all_reads, config_path}
use Rattle.std.specs.Prelude.{All}

module _ {X Y : Type 0} (P : Y → Type 0) (f : X → Y) where
  All-from_map : (xs : List X) → All P (map f xs) → All (λ x. P (f x)) xs
  All-from_map [] h = All-nil (λ (x : X). P (f x))
  All-from_map (x ∷ xs) h =
      All-cons (λ (y : X). P (f y)) x xs (All-head P (f x) (map f xs) h) (All-from_map xs (All-tail P (f x) (map f xs) h))

-- what holds of each of two lists, one after the other, holds of each of the one and of the other
module _ {X : Type 0} (P : X → Type 0) where
  All-left : (xs ys : List X) → All P (xs ++ ys) → All P xs
  All-left [] ys h = All-nil P
  All-left (x ∷ xs) ys h = All-cons P x xs (All-head P x (xs ++ ys) h) (All-left xs ys (All-tail P x (xs ++ ys) h))

  All-right : (xs ys : List X) → All P (xs ++ ys) → All P ys
  All-right [] ys h = h
  All-right (x ∷ xs) ys h = All-right xs ys (All-tail P x (xs ++ ys) h)

-- the files that are read for an update, if those are the paths: those that words name, and the config
module _ (d e : Files) (u : Update) (sections : List Section) (reads : List (Bor (List ℕ))) (stay : TheseStay d e reads)
    (same : map (λ p. p.now) reads ≡ all_reads u sections) where
  abbrev words : List (List ℕ)
  words = map (λ w. value_in w.now) u.contents.now

  abbrev images : List (List ℕ)
  images = map (section_path (config_path u.config)) sections

  abbrev config : List (List ℕ)
  config = option_map_or (λ p. p.now ∷ []) u.config []

  all_kept : All (Stays d e) (words ++ images ++ config)
  all_kept = subst (All (Stays d e)) same (All-map (Stays d e) (λ (p : Bor (List ℕ)). p.now) reads stay)

  pub words_kept : All (λ w. Stays d e (value_in w.now)) u.contents.now
  words_kept =
      All-from_map (Stays d e) (λ (w : Bor (List ℕ)). value_in w.now) u.contents.now
      (All-left (Stays d e) words images (All-left (Stays d e) (words ++ images) config all_kept))

  pub config_kept : IfSome u.config (λ path. Stays d e path.now)
  config_kept = by u.config (All-right (Stays d e) (words ++ images) config all_kept)
    where
      by : (o : Option (Bor (List ℕ))) → All (Stays d e) (option_map_or (λ p. p.now ∷ []) o []) → IfSome o (λ path. Stays d e path.now)
      by None h = tt
      by (Some path) h = All-head (Stays d e) path.now [] h
