-- Where the headers of an image stand, and where it begins and ends.
use Rattle.ubi_detect.proofs.Prelude.{◌≡◌, ℕ, ◌+◌, ◌-◌, ◌*◌, ◌/◌, ◌%◌, ◌≤◌, Bool, true, false, List, [], ◌∷◌, ◌++◌, length, slice_range, zero, suc, refl, ap, sym, subst, arith, ◌∣◌, All, option_to_list, None, Option, Some, option_map, dvd-mul_left, dvd-sub, mod-add-div', append-nil, All-cons, All-nil, All-push, le_of_dvd, EachOnGrid, GreatestSize, PlaceOnGrid, SizeOfImage, first_place, heads_of, heads_to, is_of, key_in, last_place, places, step, end_of_last, Head, Key, dvd-add, dvd_refl, mod-lt, end_of_image, start_of_image, ◌<◌, inl, inr, within_or_past}
use Rattle.ubi_detect.proofs.Grouped.{last_is, places_with, places_without}
use Rattle.ubi_detect.proofs.Surveyed.{heads_more}

-- one of the first n units begins at a place
abbrev pub IsUnit : ℕ → ℕ → Type 0
IsUnit n p = (p % step ≡ 0) × (p + step ≤ n * step)

-- places between the first of them and the last one, where the first n units begin
pub record AreBetween (n : ℕ) (ps : List ℕ) : Type 0 where
  pub each : All (λ p. (first_place ps ≤ p) × (p ≤ last_place ps)) ps
  pub below : All (IsUnit n) ps

below_more : (n : ℕ) (ps : List ℕ) → All (IsUnit n) ps → All (IsUnit (n + 1)) ps
below_more n ps all = λ k d under. let b = all k d under in (b.0, (let c = b.1 in omega (arith, c)))

-- one more behind them
between_with : (n : ℕ) (ps : List ℕ) → AreBetween n ps → AreBetween (n + 1) (ps ++ n * step ∷ [])
between_with n [] are = record {
  each = All-cons (λ p. (n * step ≤ p) × (p ≤ n * step)) (n * step) [] (omega arith, omega arith) (All-nil (λ p. (n * step ≤ p) × (p ≤ n * step)));
  below = All-cons (IsUnit (n + 1)) (n * step) [] (omega arith, omega arith) (All-nil (IsUnit (n + 1)));
}
between_with n (x ∷ xs) are =
    let last = last_is (n * step) (x ∷ xs) in
    record {
      each = All-push (λ p. (x ≤ p) × (p ≤ last_place ((x ∷ xs) ++ n * step ∷ []))) (x ∷ xs) (n * step)
          (λ k d below. let e = are.each k d below in let b = (are.below k d below).1 in (e.0, omega (arith, b, last)))
          ((let b = (are.below 0 0 (omega arith)).1 in omega (arith, b)), omega (arith, last));
      below = All-push (IsUnit (n + 1)) (x ∷ xs) (n * step) (below_more n (x ∷ xs) are.below) (omega arith, omega arith);
    }

between_same : (n : ℕ) (ps : List ℕ) → AreBetween n ps → AreBetween (n + 1) ps
between_same n ps are = record { each = are.each; below = below_more n ps are.below }

module _ (bytes : List ℕ) (k : Key) where
  abbrev pub ps : ℕ → List ℕ
  ps n = places (heads_to bytes n) k

  next : (n : ℕ) (b : Bool) (h : Head) → h.place ≡ n * step → is_of k h.key ≡ b → AreBetween n (ps n)
      → AreBetween (n + 1) (places (heads_to bytes n ++ h ∷ []) k)
  next n true h place e are =
      let P : List ℕ → Type 0 = λ qs. AreBetween (n + 1) qs in
      subst P (sym (places_with (heads_to bytes n) h k e)) (subst P (ap (λ p. ps n ++ p ∷ []) (sym place)) (between_with n (ps n) are))
  next n false h place e are =
      let P : List ℕ → Type 0 = λ qs. AreBetween (n + 1) qs in
      subst P (sym (places_without (heads_to bytes n) h k e)) (between_same n (ps n) are)

  more : (n : ℕ) (o : Option Key) → AreBetween n (ps n)
      → AreBetween (n + 1) (places (heads_to bytes n ++ option_to_list (option_map (λ l. record { place = n * step; key = l }) o)) k)
  more n None are = let P : List Head → Type 0 = λ hs. AreBetween (n + 1) (places hs k) in
      subst P (sym (append-nil (heads_to bytes n))) (between_same n (ps n) are)
  more n (Some l) are = next n (is_of k l) (record { place = n * step; key = l }) refl refl are

  pub between : (n : ℕ) → AreBetween n (ps n)
  between zero = record { each = All-nil _; below = All-nil _ }
  between (suc n) =
      let e : suc n ≡ n + 1 = omega arith in
      let P : ℕ → Type 0 = λ m. AreBetween m (ps m) in
      let Q : List Head → Type 0 = λ hs. AreBetween (n + 1) (places hs k) in
      subst P (sym e) (subst Q (sym (heads_more bytes n)) (more n (key_in (slice_range bytes (n * step) (n * step + 64))) (between n)))

-- each header of an image stands from the first one to the last one, at a multiple of its size from the first
pub each_on_grid : EachOnGrid
each_on_grid bytes j p g image has =
    let group = image.says.group in
    let are = between bytes g.key (length bytes / step) in
    let P : ℕ → Type 0 = λ x. (first_place (places (heads_of bytes) g.key) ≤ x) × (x ≤ last_place (places (heads_of bytes) g.key)) in
    let Q : ℕ → Type 0 = λ x. g.size ∣ (x - first_place (places (heads_of bytes) g.key)) in
    let all = subst P has.2 (are.each has.0 p has.1) in
    let divides = subst Q has.2 (group.size.divides has.0 p has.1) in
    let R : ℕ → Type 0 = λ x. g.size ∣ (p - x) in
    let first = group.first in
    let last = group.last in
    (omega (arith, first, all), omega (arith, last, all), subst R (sym first) divides)

-- no greater size says so
pub greatest_size : GreatestSize
greatest_size bytes j q g image divides =
    let from = image.says.from in le_of_dvd (omega (arith, from)) (image.says.group.size.greatest q divides)

-- where all distances are multiples of q, and two headers stand q apart, the size is q
pub size_of_image : SizeOfImage
size_of_image bytes j q p g image from divides one other =
    let here = each_on_grid bytes j p g image one in
    let there = each_on_grid bytes j (p + q) g image other in
    let low = here.0 in
    let same : p + q - g.first - (p - g.first) ≡ q = omega (arith, low) in
    let P : ℕ → Type 0 = λ x. g.size ∣ x in
    let few = le_of_dvd from (subst P same (dvd-sub g.size there.2 here.2)) in
    let most = greatest_size bytes j q g image divides in
    omega (arith, few, most)

module _ (q : ℕ) (some : 1 ≤ q) where
  -- what is left of a number is less, and the rest of it is whole multiples
  left_over : (n : ℕ) → (n % q < q) × (n % q ≤ n) × (q ∣ (n - n % q))
  left_over n =
      let split = mod-add-div' n q in
      let less : n % q < q = mod-lt n (omega arith) in
      let same : n / q * q ≡ n - n % q = omega (arith, split) in
      let P : ℕ → Type 0 = λ x. q ∣ x in
      (less, omega (arith, split), subst P same (dvd-mul_left q (n / q)))

  -- and a multiple that isn't more is within them
  multiple_within : (a n : ℕ) → q ∣ a → a ≤ n → a ≤ n - n % q
  multiple_within a n divides few = elim (within_or_past a (n - n % q)) [
    | inl within ↦ within
    | inr past ↦ (let left = left_over n in
        let step = le_of_dvd (let some : 0 < a - (n - n % q) = omega (arith, past) in some) (dvd-sub q divides left.2) in
        let less = left.0 in
        absurd (omega (arith, step, less, few, past)))
  ]

-- the place of an image is all whole eraseblocks on its grid
pub place_on_grid : PlaceOnGrid
place_on_grid bytes g some order whole grid =
    let n = length bytes in
    let s = start_of_image g in
    let q = g.size in
    let P : ℕ → Type 0 = λ x. q ∣ x in
    let from = left_over q some g.first in
    let to = left_over q some (n - s) in
    let low : s ≤ g.first = from.1 in
    let few : (n - s) % q ≤ n - s = to.1 in
    let less : (n - s) % q < q = to.0 in
    let one : g.last - g.first + (g.first - s) ≡ g.last - s = omega (arith, order, low) in
    let two : g.last - s + q ≡ end_of_last g - s = omega (arith, order, low) in
    let spans : q ∣ (end_of_last g - s) = subst P two (dvd-add q (subst P one (dvd-add q grid from.2)) (dvd_refl q)) in
    let within = multiple_within q some (end_of_last g - s) (n - s) spans (omega (arith, whole)) in
    let end : end_of_image bytes g - s ≡ n - s - (n - s) % q = omega (arith, few) in
    let rest : end_of_image bytes g - s - (end_of_last g - s) ≡ end_of_image bytes g - end_of_last g = omega (arith, low, order) in (
      from.0,
      low,
      from.2,
      omega (arith, within, few, low, order, whole),
      subst P rest (dvd-sub q (subst P (sym end) to.2) spans),
      omega arith,
      omega (arith, less, few, low, order, whole),
    )
