-- Files that are read as one.
use Rattle.ubi_files.proofs.Prelude.{◌≡◌, ℕ, ◌+◌, ◌-◌, ◌<◌, ◌≤◌, min, List, [], ◌∷◌, ◌++◌, drop, get_or, length, map, take, zero, suc, ap, arith, refl, subst, sym, ◌∙◌, min-le_left, min-le_right, drop-append-add, drop-append-le, length-append, length-drop, length-take, length-take-le, take-append-le, take-take, sum_by-append, ForSome, None, Option, option_and_then, option_map, sum_by, StandsAt, stand_within, row_bytes, Some}

-- both are known where bytes and more are
both_known : (P : List ℕ → Type 0) (held rest : Option (List ℕ))
    → ((bytes more : List ℕ) → held ≡ Some bytes → rest ≡ Some more → P (bytes ++ more))
    → ForSome (option_and_then (λ bytes. option_map (λ more. bytes ++ more) rest) held) P
both_known P None rest f all is = absurd (cc)
both_known P (Some bytes) None f all is = absurd (cc)
both_known P (Some bytes) (Some more) f all is =
    let same : bytes ++ more ≡ all = cc in subst P same (f bytes more refl refl)

-- the sum over a list is that over its first element and the rest
pub sum_cons : {F : Type 0} (len : F → ℕ) (f : F) (fs : List F) → sum_by len (f ∷ fs) ≡ len f + sum_by len fs
sum_cons len f fs =
    let parts = sum_by-append len (f ∷ []) fs in
    let one : sum_by len (f ∷ []) ≡ len f = omega arith in
    omega (arith, parts, one)

module _ {F : Type 0} (bytes : F → Option (List ℕ)) (len : F → ℕ) (sized : (f : F) → ForSome (bytes f) (λ all. length all ≡ len f)) where
  abbrev row : List F → Option (List ℕ)
  row fs = row_bytes (map bytes fs)

  -- files in a row have as many bytes as all of them
  pub row_sized : (fs : List F) → ForSome (row fs) (λ all. length all ≡ sum_by len fs)
  row_sized [] = λ all is. let same : [] ≡ all = cc in ap length (sym same)
  row_sized (f ∷ fs) = both_known (λ all. length all ≡ sum_by len (f ∷ fs)) (bytes f) (row fs)
      (λ front behind here there.
      let a = sized f front here in
      let b = row_sized fs behind there in
      let all = sum_cons len f fs in
      length-append front behind ∙ (omega (arith, a, b, all)))

  -- what stands in a file stands in the row, behind the files before it
  pub row_stands : (fs : List F) (i : ℕ) (f : F) (at place : ℕ) (read : List ℕ) → i < length fs → get_or fs i f ≡ f
      → at ≡ sum_by len (take i fs) + place → place + length read ≤ len f → ForSome (bytes f) (λ all. StandsAt all place read)
      → ForSome (row fs) (λ all. StandsAt all at read)
  row_stands [] i f at place read inside here is fits stands = absurd (omega (arith, inside))
  row_stands (x ∷ fs) zero f at place read inside here is fits stands = both_known (λ all. StandsAt all at read) (bytes x) (row fs)
      (λ front behind known there.
      let same : bytes f ≡ Some front = ap bytes (sym here) ∙ known in
      let long : length front ≡ len f = sized f front same in
      let first : StandsAt front place read = stands front same in
      let begins : at ≡ place = omega (arith, is) in
      first
      ∙ sym (take-append-le (length read) (drop place front) behind (room front place read f long fits))
      ∙ ap (take (length read)) (sym (drop-append-le place front behind (omega (arith, long, fits))))
      ∙ ap (λ (k : ℕ). take (length read) (drop k (front ++ behind))) (sym begins))
    where
      room : (front : List ℕ) (place : ℕ) (read : List ℕ) (f : F) → length front ≡ len f → place + length read ≤ len f
          → length read ≤ length (drop place front)
      room front place read f long fits = let d = length-drop place front in omega (arith, long, fits, d)
  row_stands (x ∷ fs) (suc i) f at place read inside here is fits stands = both_known (λ all. StandsAt all at read) (bytes x) (row fs)
      (λ front behind known there.
      let long : length front ≡ len x = sized x front known in
      let far : ℕ = sum_by len (take i fs) + place in
      let rest : StandsAt behind far read =
      row_stands fs i f far place read (omega (arith, inside)) here refl fits stands behind there in
      let all = sum_cons len x (take i fs) in
      let begins : at ≡ length front + far = omega (arith, is, long, all) in
      rest
      ∙ ap (take (length read)) (sym (drop-append-add front behind far))
      ∙ ap (λ (k : ℕ). take (length read) (drop k (front ++ behind))) (sym begins))

-- what is read of a file is read of the row, as far as the file reaches
module _ {F : Type 0} (bytes : F → Option (List ℕ)) (len : F → ℕ) (sized : (f : F) → ForSome (bytes f) (λ all. length all ≡ len f)) where
  pub row_read : (fs : List F) (i : ℕ) (f : F) (at place : ℕ) (out : List ℕ) (count : ℕ) → i < length fs → get_or fs i f ≡ f
      → at ≡ sum_by len (take i fs) + place → place < len f → count ≤ length out
      → ForSome (bytes f) (λ all. StandsAt all place (take count out))
      → ForSome (row_bytes (map bytes fs)) (λ all. StandsAt all at (take (min count (len f - place)) out))
  row_read fs i f at place out count inside here is within few stands =
      let m = min count (len f - place) in
      let most = min-le_left count (len f - place) in
      let left = min-le_right count (len f - place) in
      let long : length (take m out) ≤ m = (let size = length-take m out in let first = min-le_left m (length out) in omega (arith, size, first)) in
      row_stands bytes len sized fs i f at place (take m out) inside here is (omega (arith, left, long, within))
      (λ all known.
      let front = stand_within all place (take count out) 0 m
      (let size : length (take count out) ≡ count = length-take-le count out few in omega (arith, size, most)) (stands all known) in
      let begins : place + 0 ≡ place = omega arith in
      subst (λ (k : ℕ). StandsAt all k (take m out)) begins
      (subst (λ (b : List ℕ). StandsAt all (place + 0) b) (take-take m count out most) front))
