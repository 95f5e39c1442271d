-- Each file is plainly an image, or it isn't.
use Rattle.ubi_detect.proofs.Prelude.{◌≡◌, ℕ, ◌+◌, ◌-◌, ◌*◌, ◌/◌, ◌%◌, ◌≤◌, ◌⊎◌, Bool, true, false, List, length, zero, suc, inl, inr, refl, ap, sym, ◌∙◌, subst, arith, IsFalse, None, Option, Some, min, le-div_iff_mul-le, mod-add-div', true≢false, below_or_last, below_same_or_above, greatest_size, is_of, key_at, step, NonePlain, IsPlain, IsSurelyPlain, has_inner_start, is_sure, Group, Key, AreJoined, IsFirstHead, IsJoined, IsPlainSize, NoHeads, NoneJoined, NoneOwns, NotPlain}
use Rattle.ubi_detect.proofs.JoinedKeys.{is_owned, joined_first, joined_more, none_joined, none_there, owns, owns_itself}
use Rattle.ubi_detect.proofs.OnePlain.{none_alone, none_plain, none_sure, none_surely}
use Rattle.ubi_detect.proofs.PlainGroups.{has_first, no_group, plain_group}
use Rattle.ubi_detect.proofs.PlainSizes.{no_second, not_alone, not_whole, plain_size_is}

-- a header stands in one of n units, or none does
module _ (bytes : List ℕ) (from : ℕ) where
  abbrev Found : ℕ → Type 0
  Found n = ((u : ℕ) × IsFirstHead bytes from (from + n) u) ⊎ NoHeads bytes from (from + n)

  found_at : (n : ℕ) (o : Option Key) → key_at bytes ((from + n) * step) ≡ o → NoHeads bytes from (from + n) → Found (suc n)
  found_at n (Some l) e none =
      inl (from + n, record { low = omega arith; high = omega arith; has = (l, e); before = none })
  found_at n None e none =
      inr (λ u low high. elim (below_or_last u (from + n) (omega (arith, high))) [
        | inl less ↦ none u low less
        | inr same ↦ ap (λ v. key_at bytes (v * step)) same ∙ e
      ])

  found_in : (n : ℕ) → Found n
  found_in zero = inr (λ u low high. absurd (omega (arith, low, high)))
  found_in (suc n) = elim (found_in n) [
    | inl found ↦ (let is = found.1 in let h = is.high in
        inl (found.0, record { low = is.low; high = omega (arith, h); has = is.has; before = is.before }))
    | inr none ↦ found_at n (key_at bytes ((from + n) * step)) refl none
  ]

  found_to : (to : ℕ) → from ≤ to → ((u : ℕ) × IsFirstHead bytes from to u) ⊎ NoHeads bytes from to
  found_to to low =
      let P : ℕ → Type 0 = λ m. ((u : ℕ) × IsFirstHead bytes from m u) ⊎ NoHeads bytes from m in
      let e : from + (to - from) ≡ to = omega (arith, low) in subst P e (found_in (to - from))

-- two headers are of one group, or of none
none_owns : (k l : Key) → IsFalse (is_of k l) → IsFalse (is_of l k) → NoneOwns k l
none_owns k l e f m mine yours =
    let a = owns m k mine in
    let b = owns m l yours in
    let vid = sym a.vid ∙ b.vid in
    let content = sym a.content ∙ b.content in
    elim b.seq [
      | inr none ↦ true≢false (sym (is_owned k l (record { vid = vid; content = content; seq = inr none })) ∙ e)
      | inl same ↦ elim a.seq [
        | inl also ↦ true≢false (sym (is_owned k l (record { vid = vid; content = content; seq = inl (same ∙ sym also) })) ∙ e)
        | inr none ↦ true≢false (sym (is_owned l k (record { vid = sym vid; content = sym content; seq = inr none })) ∙ f)
      ]
    ]

join_by : (k l : Key) (b c : Bool) → is_of k l ≡ b → is_of l k ≡ c → ((j : Key) × IsJoined k l j) ⊎ NoneOwns k l
join_by k l true c e f = inl (k, record { one = owns_itself k; other = e; is = inl refl })
join_by k l false true e f = inl (l, record { one = f; other = owns_itself l; is = inr refl })
join_by k l false false e f = inr (none_owns k l e f)

-- the headers of so many eraseblocks are of one group, or of none
module _ (bytes : List ℕ) (q : ℕ) where
  abbrev Joined : ℕ → Type 0
  Joined n = ((k : Key) × AreJoined bytes q n k) ⊎ NoneJoined bytes q n

  later : (n : ℕ) → NoneJoined bytes q n → NoneJoined bytes q (n + 1)
  later n none m all = none m (λ i below. all i (omega (arith, below)))

  joined_next : (n : ℕ) (k : Key) → AreJoined bytes q n k → (o : Option Key) → key_at bytes (n * q) ≡ o → Joined (n + 1)
  joined_next n k are None e = inr (none_there bytes q n (n + 1) (omega arith) e)
  joined_next n k are (Some l) e = elim (join_by k l (is_of k l) (is_of l k) refl refl) [
    | inl joined ↦ inl (joined.0, joined_more bytes q n k l are e joined.0 joined.1)
    | inr none ↦ inr (none_joined bytes q n k l are e (n + 1) (omega arith) none)
  ]

  joined_in : (first : Key) → key_at bytes 0 ≡ Some first → (n : ℕ) → Joined (n + 1)
  joined_in first e zero = inl (first, joined_first bytes q first e)
  joined_in first e (suc n) = elim (joined_in first e n) [
    | inl are ↦ (let P : ℕ → Type 0 = λ m. Joined (m + 1) in
        let same : n + 1 ≡ suc n = omega arith in subst P same (joined_next (n + 1) are.0 are.1 (key_at bytes ((n + 1) * q)) refl))
    | inr none ↦ (let P : ℕ → Type 0 = λ m. Joined (m + 1) in
        let same : n + 1 ≡ suc n = omega arith in subst P same (inr (later (n + 1) none)))
  ]

  joined_to : (first : Key) → key_at bytes 0 ≡ Some first → (n : ℕ) → 1 ≤ n → Joined n
  joined_to first e n some =
      let same : n - 1 + 1 ≡ n = omega (arith, some) in subst Joined same (joined_in first e (n - 1))

module _ (bytes : List ℕ) where
  abbrev Plain : Type 0
  Plain = ((g : Group) × IsPlain bytes g) ⊎ NotPlain bytes

  abbrev most : ℕ
  most = min (length bytes / 2) greatest_size / step + 1

  by_size : (first : Key) → key_at bytes 0 ≡ Some first → (q : ℕ) → IsPlainSize bytes q → Plain
  by_size first e q is =
      let from = is.from in
      let two = is.two in
      let whole = is.whole in
      let d = mod-add-div' (length bytes) q in
      elim (joined_to bytes q first e (length bytes / q) ((le-div_iff_mul-le (is.from)).1 (let e : 1 * q ≡ q = omega arith in omega (arith, e, two, whole, from)))) [
        | inl are ↦ inl (_, plain_group bytes (length bytes) q refl is are.0 are.1)
        | inr none ↦ inr (no_group bytes (length bytes) q refl is none)
      ]

  by_second : (first : Key) → key_at bytes 0 ≡ Some first → (u : ℕ) → IsFirstHead bytes 1 most u → Plain
  by_second first e u is = elim (below_same_or_above (length bytes % (u * step)) 0) [
    | inl less ↦ absurd (omega (arith, less))
    | inr w ↦ elim w [
      | inl whole ↦ elim (found_to bytes (u + 1) (2 * u) (let l = is.low in omega (arith, l))) [
        | inl other ↦ inr (not_alone bytes u most is other.0 other.1)
        | inr none ↦ by_size first e (u * step) (plain_size_is bytes u most is whole (omega arith) none)
      ]
      | inr more ↦ inr (not_whole bytes u most is (λ f. omega (arith, more, f)))
    ]
  ]

  by_first : (o : Option Key) → key_at bytes 0 ≡ o → Plain
  by_first None e = inr (has_first bytes e)
  by_first (Some first) e = elim (found_to bytes 1 most (omega arith)) [
    | inl found ↦ by_second first e found.0 found.1
    | inr none ↦ inr (λ g plain. no_second bytes g plain most (omega arith) none)
  ]

  plain_or_not : Plain
  plain_or_not = by_first (key_at bytes 0) refl

  surely_by : (g : Group) → IsPlain bytes g → (b c : Bool) → has_inner_start bytes g ≡ b → is_sure bytes g ≡ c
      → ((f : Group) × IsSurelyPlain bytes f) ⊎ NonePlain bytes
  surely_by g plain true c e f = inr (none_surely bytes (none_alone bytes g plain e))
  surely_by g plain false true e f = inl (g, record { plain = plain; alone = e; sure = f })
  surely_by g plain false false e f = inr (none_sure bytes g plain f)

  pub surely_or_not : ((f : Group) × IsSurelyPlain bytes f) ⊎ NonePlain bytes
  surely_or_not = elim plain_or_not [
    | inl plain ↦ surely_by plain.0 plain.1 (has_inner_start bytes plain.0) (is_sure bytes plain.0) refl refl
    | inr none ↦ inr (none_surely bytes (none_plain bytes none))
  ]
