-- A normal image fits the device: a volume has no more eraseblocks than it reserves.
use Rattle.ubi_compose.proofs.Prelude.{take-append-drop, ◌≡◌, ℕ, ◌+◌, ◌<◌, ◌≤◌, List, [], ◌∷◌, ◌++◌, drop, length, map, take, sym, ap, ◌∙◌, subst, arith, IfSome, Option, flat_map, fold, FinMap, AllByRecursion, nat_cmp, length-map, flat_map-append, length-map-range_with_len, Sizes, data_pad, usable, usable_some, Fits, IsMeaning, IsVolume, Meant, pieces, Content, Volume, HasRoom, laid_blocks, dynamic_block, normal_blocks, static_part, volume_blocks, reserved_some, pieces_few, volume_is, all_from, held_entry, Rises, entries_rise}
use Rattle.std.specs.FinMap as finite
use Rattle.std.proofs.lemmas.List.{length-append}
use Rattle.ubi_volume.specs.declared.content.Content.TheVariants as content

-- numbers that rise, from k on and below n, are no more than those between
pub few_rising : {X : Type 0} (key : X → ℕ) (xs : List X) (k n : ℕ) → k ≤ n → Rises key xs
    → AllByRecursion (λ x. k ≤ key x) xs
    → AllByRecursion (λ x. key x < n) xs → k + length xs ≤ n
few_rising key [] k n h rises from below = omega arith
few_rising {X = X} key (x ∷ xs) k n h rises from below =
    let first = from.0 in
    let last = below.0 in
    let rest = few_rising key xs (key x + 1) n (omega arith) rises.1 (above xs rises.0) below.1 in
    omega arith
  where
    above : (ys : List X) → AllByRecursion (λ y. key x < key y) ys → AllByRecursion (λ y. key x + 1 ≤ key y) ys
    above [] h = tt
    above (y ∷ ys) h = ((let l = h.0 in omega arith), above ys h.1)

few_lebs : (lebs : FinMap nat_cmp (List ℕ)) (n size : ℕ)
    → ((lnum : ℕ) → IfSome (finite.get lebs lnum) (λ text. (lnum < n) × (length text ≡ size)))
    → length (finite.entries lebs) ≤ n
few_lebs lebs n size h =
    let es = finite.entries lebs in
    let below : AllByRecursion (λ (e : ℕ × List ℕ). e.0 < n) es = all_from (λ (e : ℕ × List ℕ). e.0 < n) es (λ e at.
    (subst (λ (o : Option (List ℕ)). IfSome o (λ text. (e.0 < n) × (length text ≡ size))) (held_entry lebs e at)
    (h e.0)).0) in
    let from : AllByRecursion (λ (e : ℕ × List ℕ). 0 ≤ e.0) es =
    all_from (λ (e : ℕ × List ℕ). 0 ≤ e.0) es (λ e at. omega arith) in
    let few = few_rising (λ (e : ℕ × List ℕ). e.0) es 0 n (omega arith)
    (entries_rise es (finite.entries_sorted lebs)) from below in
    omega arith

few_by : (s : Sizes) (vol : ℕ) (v : Volume) → IsVolume s vol v → (c : Content) → Fits s v.entry c
    → length (volume_blocks s vol v.entry c) ≤ v.entry.reserved
few_by s vol v is content.Updating fits = omega arith
few_by s vol v is content.Damaged fits = reserved_some s v.entry is.sound
few_by s vol v is (content.Static text) fits =
    let size : ℕ = usable s v.entry in
    let used : ℕ = pieces size (length text) in
    let n : length (volume_blocks s vol v.entry (content.Static text)) ≡ used =
    length-map-range_with_len (static_part (data_pad s v.entry) size vol text) 0 used in
    omega (arith, n, pieces_few size (usable_some s v.entry is.sound) (length text) v.entry.reserved fits.2)
few_by s vol v is (content.Dynamic lebs) fits =
    let n : length (volume_blocks s vol v.entry (content.Dynamic lebs)) ≡ length (finite.entries lebs) =
    length-map (finite.entries lebs) (dynamic_block (data_pad s v.entry) vol) in
    omega (arith, n, few_lebs lebs v.entry.reserved (usable s v.entry) fits.2)

few_all : (s : Sizes) (es : List (ℕ × Volume)) (n : ℕ)
    → AllByRecursion (λ (e : ℕ × Volume). length (volume_blocks s e.0 e.1.entry e.1.content) ≤ e.1.entry.reserved) es
    → n + length (laid_blocks s es) ≤ fold (λ k (v : Volume). k + v.entry.reserved) n (map (λ (e : ℕ × Volume). e.1) es)
few_all s [] n h = omega arith
few_all s (e ∷ es) n h =
    let own = volume_blocks s e.0 e.1.entry e.1.content in
    let first : length own ≤ e.1.entry.reserved = h.0 in
    let sum : ℕ = fold (λ k (v : Volume). k + v.entry.reserved) (n + e.1.entry.reserved)
    (map (λ (e : ℕ × Volume). e.1) es) in
    let rest : n + e.1.entry.reserved + length (laid_blocks s es) ≤ sum = few_all s es (n + e.1.entry.reserved) h.1 in
    let both : length (own ++ laid_blocks s es) ≡ length own + length (laid_blocks s es) =
    length-append own (laid_blocks s es) in
    omega arith

-- as many as there are in front are no more
prefix_few : (s : Sizes) (es : List (ℕ × Volume)) (i : ℕ) → length (laid_blocks s (take i es)) ≤ length (laid_blocks s es)
prefix_few s es i =
    let f = λ (e : ℕ × Volume). volume_blocks s e.0 e.1.entry e.1.content in
    let cut : laid_blocks s es ≡ laid_blocks s (take i es) ++ laid_blocks s (drop i es) =
    ap (flat_map f) (sym (take-append-drop i es)) ∙ flat_map-append f (take i es) (drop i es) in
    let both = ap length cut ∙ length-append (laid_blocks s (take i es)) (laid_blocks s (drop i es)) in
    omega arith

pub normal_fits : (m : Meant) → IsMeaning m → HasRoom m 0
normal_fits m is =
    let es = finite.entries m.volumes in
    let each =
    all_from (λ (e : ℕ × Volume). length (volume_blocks m.sizes e.0 e.1.entry e.1.content) ≤ e.1.entry.reserved) es
    (λ e at.
    let v = volume_is m is e.0 e.1 (held_entry m.volumes e at) in
    few_by m.sizes e.0 e.1 v e.1.content v.fits) in
    let few = few_all m.sizes es 0 each in
    let room = is.space in
    omega arith

-- the eraseblocks of the first volumes fit it too
pub first_fit : (m : Meant) → IsMeaning m → (i : ℕ)
    → 2 + length (laid_blocks m.sizes (take i (finite.entries m.volumes))) ≤ m.sizes.pebs
first_fit m is i =
    let all : length (normal_blocks m) + 0 ≤ m.sizes.pebs = normal_fits m is in
    let few = prefix_few m.sizes (finite.entries m.volumes) i in
    omega arith
