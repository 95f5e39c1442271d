-- What volumes that are built read.
use Rattle.ubi_compose.proofs.Prelude.{◌≡◌, ◌==◌, ℕ, zero, suc, ◌+◌, ◌-◌, ◌*◌, ◌<◌, ◌≤◌, inl, inr, Bool, true, false, cond, List, [], ◌∷◌, ◌++◌, append-nil, length, length-drop, length-take-le, take, drop, refl, ap, sym, ◌∙◌, arith, zero-add, Contains, Err, None, Ok, Option, Some, find, flat_map, option_map, slice_get, unwrap_or, FinMap, nat_cmp, range_with_len, option_map_or, drop-append-add, take-append-add, cases_order, drop-append-le, drop_all, take-append-le, take-replicate, take_all, same_Some, mul-le, blank, filled, is_blank, usable, VolKind, within_or_past, usable_some, drop_blank, filled-is, filled-none, length-filled, at_itself, pieces_more, lebs_without_blank, without_blank, pieces, share, leb_text, lebs_text, read_volume, volume_read, Volume, blank_text, same_range, pieces_suffice, share_more, share_most, get_without_blank, is_kept, HaveMeaning, Parts, Reaches, built, content_of, item_of, lebs_of, text_of, text_read, part_at, Part, not, leb_there, leb_within, text_size}
use Rattle.std.specs.FinMap as finite
use Rattle.ubi_media.specs.declared.vid.VolKind.TheVariants as kind
use Rattle.ubi_volume.specs.declared.errors.MeaningCause.TheVariants as cause
use Rattle.ubi_volume.specs.declared.errors.ReadError.TheVariants as error
use Rattle.ubi_laid.proofs.PartContents.{leb_of}
use Rattle.ubi_compose.proofs.BuiltVolumes.{built_at, volume_in}
use Rattle.ubi_compose.proofs.ListedParts.{found_part, item_at, listed_at, part_fits, part_sound, reached}

take_none : (n : ℕ) → take {A = ℕ} n [] ≡ []
take_none zero = refl
take_none (suc n) = refl

-- the shares of a text, in order, are the text
shares : (size : ℕ) (text : List ℕ) (n : ℕ) → flat_map (share size text) (range_with_len 0 n) ≡ take (n * size) text
shares size text zero = let none : 0 * size ≡ 0 = omega arith in ap (λ n. take n text) (sym none)
shares size text (suc n) =
    let next : suc n ≡ n + 1 = omega arith in
    ap (λ k. flat_map (share size text) (range_with_len 0 k)) next
    ∙ pieces_more (share size text) 0 n n (zero-add n)
    ∙ ap (λ x. x ++ share size text n) (shares size text n) ∙ share_more size text n
    ∙ ap (λ k. take (k * size) text) (sym next)

-- the first bytes of a text with 0xFF behind it
take_filled : (size m : ℕ) (xs : List ℕ) → size ≤ length xs + m → take size (xs ++ blank m) ≡ filled size (take size xs)
take_filled size m xs room = elim (within_or_past size (length xs)) [
  | inl few ↦
      let long : length (take size xs) ≡ size = length-take-le size xs few in
      let none : size - length (take size xs) ≡ 0 = omega (arith, long) in
      take-append-le size xs (blank m) few ∙ sym (append-nil (take size xs))
      ∙ ap (λ n. take size xs ++ blank n) (sym none) ∙ sym (filled-is size (take size xs))
  | inr short ↦
      let rest : ℕ = size - length xs in
      let all : size ≡ length xs + rest = omega arith in
      let whole : take size xs ≡ xs = take_all size xs (omega arith) in
      ap (λ n. take n (xs ++ blank m)) all ∙ take-append-add xs (blank m) rest
      ∙ ap (λ x. xs ++ x) (take-replicate rest m 255 (omega arith))
      ∙ sym (filled-is size xs) ∙ ap (filled size) (sym whole)
]

module _ (size reserved : ℕ) (some : 1 ≤ size) (text : List ℕ) (fits : length text ≤ reserved * size) where
  abbrev all : List ℕ
  all = filled (reserved * size) text

  -- a LEB of all that is reserved is the piece, and 0xFF behind it
  leb_is : (lnum : ℕ) → lnum < reserved → share size all lnum ≡ filled size (share size text lnum)
  leb_is lnum below =
      let m : ℕ = reserved * size - length text in
      let k : ℕ = lnum * size in
      let within : (lnum + 1) * size ≤ reserved * size = mul-le (lnum + 1) size reserved size (omega arith)
      (omega arith) in
      let next : (lnum + 1) * size ≡ k + size = omega arith in
      ap (λ xs. take size (drop k xs)) (filled-is (reserved * size) text)
      ∙ elim (within_or_past k (length text)) as
      (λ _. take size (drop k (text ++ blank m)) ≡ filled size (take size (drop k text))) [
        | inl few ↦ ap (take size) (drop-append-le k text (blank m) few)
            ∙ take_filled size m (drop k text) (let n = length-drop k text in omega (arith, n, within, next, few))
        | inr past ↦ behind m k refl past within next
      ]
    where
      behind : (m k : ℕ) → m ≡ reserved * size - length text → length text < k → (lnum + 1) * size ≤ reserved * size
          → (lnum + 1) * size ≡ k + size → take size (drop k (text ++ blank m)) ≡ filled size (take size (drop k text))
      behind m k is past within next =
          let j : ℕ = k - length text in
          let at : k ≡ length text + j = omega arith in
          ap (λ n. take size (drop n (text ++ blank m))) at ∙ ap (take size) (drop-append-add text (blank m) j)
          ∙ ap (take size) (drop_blank j m) ∙ take-replicate size (m - j) 255 (omega (arith, is, past, within, next))
          ∙ sym (filled-none size) ∙ ap (filled size) (sym (take_none size))
          ∙ ap (λ xs. filled size (take size xs)) (sym (drop_all k text (omega arith)))

  abbrev made : FinMap nat_cmp (List ℕ)
  made = lebs_of size text

  kept_read : (lnum : ℕ) (b : Bool) → is_blank (leb_of size text lnum) ≡ b
      → unwrap_or (cond (not b) (Some (leb_of size text lnum)) None) (blank size) ≡ leb_of size text lnum
  kept_read lnum true e = sym (blank_text (leb_of size text lnum) size e
      (length-filled size (share size text lnum) (share_most size some text lnum)))
  kept_read lnum false e = refl

  none_there : (lnum : ℕ) → pieces size (length text) ≤ lnum → finite.get made lnum ≡ None
  none_there lnum past = by (finite.get made lnum) refl
    where
      by : (o : Option (List ℕ)) → finite.get made lnum ≡ o → o ≡ None
      by None e = refl
      by (Some x) e = absurd (let l = leb_within size text lnum x e in omega (arith, l, past))

  reads_leb : (lnum : ℕ) → lnum < reserved → leb_text size (finite.get (lebs_without_blank made) lnum)
      ≡ share size all lnum
  reads_leb lnum below =
      ap (leb_text size) (get_without_blank made lnum)
      ∙ elim (within_or_past (pieces size (length text)) lnum) as
      (λ _. leb_text size (cond (is_kept made lnum) (finite.get made lnum) None)
      ≡ filled size (share size text lnum)) [
        | inl past ↦
            let none : share size text lnum ≡ [] =
            ap (take size) (drop_all (lnum * size) text (let suffice = pieces_suffice size some (length text) in
            let more = mul-le (pieces size (length text)) size lnum size past (omega arith) in
            omega (arith, suffice, more)))
            ∙ take_none size in
            ap (λ o. leb_text size (cond (not (is_blank (unwrap_or o []))) o None)) (none_there lnum past)
            ∙ sym (filled-none size) ∙ ap (filled size) (sym none)
        | inr there ↦
            ap (λ o. leb_text size (cond (not (is_blank (unwrap_or o []))) o None)) (leb_there size text lnum there)
            ∙ kept_read lnum (is_blank (leb_of size text lnum)) refl
      ]
      ∙ sym (leb_is lnum below)

  pub reads_all : lebs_text size (lebs_without_blank made) reserved ≡ all
  reads_all =
      same_range (λ lnum. leb_text size (finite.get (lebs_without_blank made) lnum)) (share size all) 0 reserved
      (λ lnum low high. reads_leb lnum (omega arith))
      ∙ shares size all reserved
      ∙ take_all (reserved * size) all (let n = length-filled (reserved * size) text fits in omega (arith, n))

-- a listed part is the one that is found by its number
pub some_part : (xs : List Part) (i : ℕ) (p : Part) → slice_get xs i ≡ Some p → find (λ q. q.id == p.id) xs ≡ None → ⊥
some_part [] i p at none = absurd (cc)
some_part (x ∷ xs) zero p at none =
    let same : x.id ≡ p.id = ap (λ (q : Part). q.id) (same_Some x p at) in
    let test : (x.id == p.id) ≡ true = ap (λ n. n == p.id) same ∙ at_itself p.id in
    let e = sym none ∙ ap (λ b. cond b (Some x) (find (λ (q : Part). q.id == p.id) xs)) test in cc
some_part (x ∷ xs) (suc i) p at none =
    elim (x.id == p.id) as (λ b. (x.id == p.id) ≡ b → ⊥) [
      | true ↦ λ t. (let e = sym none ∙ ap (λ b. cond b (Some x) (find (λ (q : Part). q.id == p.id) xs)) t in cc)
      | false ↦ λ t. some_part xs i p at
          (sym (ap (λ b. cond b (Some x) (find (λ (q : Part). q.id == p.id) xs)) t) ∙ none)
    ] refl

module _ (ps : Parts) (bytes : List ℕ) (p : Part) (h : HaveMeaning ps) (reaches : Reaches (length bytes) ps.of)
    (listed : Contains ps.of p) where
  here : (i : ℕ) × (slice_get ps.of i ≡ Some p)
  here = listed_at ps.of p listed

  found : part_at ps p.id ≡ Some p
  found = by (part_at ps p.id) refl
    where
      by : (o : Option Part) → part_at ps p.id ≡ o → o ≡ Some p
      by None e = absurd (some_part ps.of here.0 p here.1 e)
      by (Some q) e =
          let of = found_part ps.of p.id q e in
          let at = listed_at ps.of q of.0 in
          let none = h.none bytes reaches in
          let item = item_at (item_of ps.sizes bytes) ps.of in
          elim (cases_order here.0 at.0) as (λ _. Some q ≡ Some p) [
            | inl place ↦ sym at.1 ∙ ap (slice_get ps.of) (sym place) ∙ here.1
            | inr other ↦ elim other [
              | inl l ↦ absurd (none (cause.SameId at.0) (
                here.0,
                item_of ps.sizes bytes q,
                item_of ps.sizes bytes p,
                item at.0 q at.1,
                item here.0 p here.1,
                l,
                sym of.1,
              ))
              | inr l ↦ absurd (none (cause.SameId here.0) (
                at.0,
                item_of ps.sizes bytes p,
                item_of ps.sizes bytes q,
                item here.0 p here.1,
                item at.0 q at.1,
                l,
                of.1,
              ))
            ]
          ]

  size_of : length (text_of bytes p) ≡ p.len
  size_of = text_size bytes p (reached (length bytes) ps.of here.0 p reaches here.1)

  reads : (k : VolKind) → volume_read ps.sizes p.entry
      (without_blank (content_of k (usable ps.sizes p.entry) (text_of bytes p)))
      ≡ Ok (text_read k (p.entry.reserved * usable ps.sizes p.entry) (text_of bytes p))
  reads kind.Static = refl
  reads kind.Dynamic = ap Ok (reads_all (usable ps.sizes p.entry) p.entry.reserved
      (usable_some ps.sizes p.entry (part_sound ps h here.0 p here.1)) (text_of bytes p)
      (let few = part_fits ps h here.0 p here.1 in let n = size_of in omega (arith, few, n)))

  pub built_reads : read_volume (built ps bytes) p.id
      ≡ Ok (text_read p.entry.kind (p.entry.reserved * usable ps.sizes p.entry) (text_of bytes p))
  built_reads =
      ap (λ o. option_map_or (λ (v : Volume). volume_read ps.sizes v.entry v.content) o (Err error.NoVolume))
      (built_at ps bytes p.id ∙ ap (option_map (volume_in ps bytes)) found) ∙ reads p.entry.kind
