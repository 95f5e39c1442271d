-- The group that speaks for the most bytes is that of the image.
use Rattle.ubi_detect.proofs.Prelude.{◌≡◌, ℕ, ◌+◌, ◌-◌, ◌*◌, ◌<◌, ◌≤◌, ◌⊎◌, Bool, true, false, List, length, inl, inr, refl, ap, sym, ◌∙◌, subst, arith, All, list_all, ◌&&◌, ◌||◌, ◌==◌, IfSome, IsFalse, IsTrue, MatchOption, None, Option, Some, nat_lt, not, slice_index_or, and_cases, and_from, and_parts, le-leb, leb-true, ltb-false, ltb-true, true≢false, get_or-map, list_all-map, dvd_antisymm, below_or_last, below_same_or_above, IsGroup, IsImage, IsSpacing, Says, greatest_size, no_key, spoken, keys_of, places, same_offsets, speaks, Group, Head, Key, AreGroups, IsBestOf, IsWithin, NoneSays, says_size, speaks_among, speaks_for_more}
use Rattle.ubi_detect.proofs.AddedGroups.{no_group}
use Rattle.ubi_detect.proofs.MoreKeys.{as_many_keys}

and_true : (b : Bool) → (b && true) ≡ b
and_true true = refl
and_true false = refl

module _ (gs : List Group) (n : ℕ) (inside : n < length gs) (g : Group) (is : (d : Group) → slice_index_or gs n d ≡ g) where
  -- a group that says a size, and speaks for more bytes than the best one before it
  pub best_taken : (best : Option Group) → MatchOption best (NoneSays gs n) (IsBestOf gs n) → IsTrue (says_size gs g) → IsTrue (speaks_for_more g best)
      → IsBestOf gs (n + 1) g
  best_taken None none says more = record {
    index = n;
    inside = omega arith;
    is = is;
    says = says;
    most = λ k d below here. elim (below_or_last k n below) [
      | inl less ↦ absurd (true≢false (sym here ∙ none k d less))
      | inr same ↦ inr (ap (λ j. spoken (slice_index_or gs j d)) same ∙ ap spoken (is d), omega (arith, same))
    ];
  }
  best_taken (Some f) best says more = record {
    index = n;
    inside = omega arith;
    is = is;
    says = says;
    most = λ k d below here. elim (below_or_last k n below) [
      | inl less ↦ inl (let w = ltb-true (spoken f) (spoken g) more in elim (best.most k d less here) [
        | inl lower ↦ omega (arith, lower, w)
        | inr even ↦ (let e = even.0 in omega (arith, e, w))
      ])
      | inr same ↦ inr (ap (λ j. spoken (slice_index_or gs j d)) same ∙ ap spoken (is d), omega (arith, same))
    ];
  }

  -- one that doesn't leaves the best one
  none_kept : NoneSays gs n → IsFalse (says_size gs g) → NoneSays gs (n + 1)
  none_kept none fails = λ k d below. elim (below_or_last k n below) [
    | inl less ↦ none k d less
    | inr same ↦ ap (λ j. says_size gs (slice_index_or gs j d)) same ∙ ap (says_size gs) (is d) ∙ fails
  ]

  best_kept : (f : Group) → IsBestOf gs n f → IsFalse (says_size gs g) ⊎ IsFalse (nat_lt (spoken f) (spoken g)) → IsBestOf gs (n + 1) f
  best_kept f best fails = record {
    index = best.index;
    inside = (let i = best.inside in omega (arith, i));
    is = best.is;
    says = best.says;
    most = λ k d below here. elim (below_or_last k n below) [
      | inl less ↦ best.most k d less here
      | inr same ↦ (let e : slice_index_or gs k d ≡ g = ap (λ j. slice_index_or gs j d) same ∙ is d in elim fails [
        | inl quiet ↦ absurd (true≢false (sym here ∙ ap (says_size gs) e ∙ quiet))
        | inr less ↦ (let w = ltb-false (spoken f) (spoken g) less in let s = ap spoken e in let i = best.inside in
            elim (below_same_or_above (spoken (slice_index_or gs k d)) (spoken f)) [
              | inl under ↦ inl under
              | inr v ↦ elim v [ inl even ↦ inr (even, omega (arith, i, same)) | inr over ↦ absurd (omega (arith, over, w, s)) ]
            ])
      ])
    ];
  }

  pub stays_best : (best : Option Group) → MatchOption best (NoneSays gs n) (IsBestOf gs n) → IsFalse (says_size gs g && speaks_for_more g best)
      → MatchOption best (NoneSays gs (n + 1)) (IsBestOf gs (n + 1))
  stays_best None none fails = none_kept none (sym (and_true (says_size gs g)) ∙ fails)
  stays_best (Some f) best fails = best_kept f best (and_cases (says_size gs g) (nat_lt (spoken f) (spoken g)) fails)

-- a group is one value by its key
module _ (heads : List Head) (f g : Group) (one : IsGroup heads f) (two : IsGroup heads g) (same : f.key ≡ g.key) where
  pub same_count : f.count ≡ g.count
  same_count = one.count ∙ ap (λ k. length (places heads k)) same ∙ sym two.count

  pub same_size : f.size ≡ g.size
  same_size =
      let P : Key → Type 0 = λ k. IsSpacing (places heads k) f.size in
      let here = subst P same one.size in
      dvd_antisymm (two.size.greatest f.size here.divides) (here.greatest g.size two.size.divides)

  pub same_spoken : spoken f ≡ spoken g
  same_spoken = ap (λ n. (n - 1) * f.size) same_count ∙ ap (λ n. (g.count - 1) * n) same_size

module _ (heads : List Head) (gs : List Group) (are : AreGroups heads gs) where
  key_is : (k : ℕ) → k < length gs → (slice_index_or gs k no_group).key ≡ slice_index_or (keys_of heads) k no_key
  key_is k below = sym (get_or-map (λ g. g.key) gs k no_group no_key below) ∙ ap (λ ks. slice_index_or ks k no_key) are.keys

  speaks_is : (k : Key) → speaks_among gs k ≡ speaks (keys_of heads) k
  speaks_is k =
      ap (λ b. not (k.image_seq == 0) || b) (sym (list_all-map (λ l. not (same_offsets k l) || (l.image_seq == 0)) (λ g. g.key) gs)
      ∙ ap (list_all (λ l. not (same_offsets k l) || (l.image_seq == 0))) are.keys)

  -- a group that says a size does so by the test of it
  module _ (i : ℕ) (f : Group) (says : Says heads i f) where
    inside : i < length gs
    inside = let e = says.inside in let m = as_many_keys heads gs are in omega (arith, e, m)

    abbrev pub there : Group
    there = slice_index_or gs i no_group

    here : IsGroup heads there
    here = are.each i no_group inside

    same_key : f.key ≡ there.key
    same_key = says.key ∙ sym (key_is i inside)

    pub same_bytes : spoken f ≡ spoken there
    same_bytes = same_spoken heads f there says.group here same_key

    pub says_there : IsTrue (says_size gs there)
    says_there =
        let count = same_count heads f there says.group here same_key in
        let size = same_size heads f there says.group here same_key in
        let two = says.two in
        let from = says.from in
        let to = says.to in
        and_from _ _
        (and_from _ _
        (and_from _ _ (le-leb 2 there.count (omega (arith, count, two))) (le-leb 1 there.size (omega (arith, size, from))))
        (le-leb there.size greatest_size (omega (arith, size, to))))
        (speaks_is there.key ∙ ap (speaks (keys_of heads)) (sym same_key) ∙ says.speaks)

  -- where none does, the headers say no image
  pub no_image : NoneSays gs (length gs) → (j : ℕ) (g : Group) → IsImage heads j g → ⊥
  no_image none j g image =
      true≢false (sym (says_there j g image.says) ∙ none j no_group (inside j g image.says))

  -- and the best one that does is that of the image
  pub best_image : (g : Group) → IsBestOf gs (length gs) g → (j : ℕ) × IsImage heads j g
  best_image g best =
      let e = best.is no_group in
      let all = and_parts _ _ best.says in
      let sizes = and_parts _ _ all.0 in
      let least = and_parts _ _ sizes.0 in
      let P : Group → Type 0 = λ f. IsGroup heads f in
      let at = best.inside in (
        best.index,
        record {
          says = record {
            inside = (let m = as_many_keys heads gs are in omega (arith, at, m));
            key = sym (ap (λ f. f.key) e) ∙ key_is best.index at;
            group = subst P e (are.each best.index no_group at);
            speaks = sym (speaks_is g.key) ∙ all.1;
            two = leb-true 2 g.count least.0;
            from = leb-true 1 g.size least.1;
            to = leb-true g.size greatest_size sizes.1;
          };
          most = λ i f says. let same = same_bytes i f says in
              elim (best.most i no_group (inside i f says) (says_there i f says)) [
                | inl less ↦ inl (omega (arith, less, same))
                | inr even ↦ inr (same ∙ even.0, even.1)
              ];
        },
      )

  pub image_of : (n : ℕ) (best : Option Group) → n ≡ length gs → MatchOption best (NoneSays gs n) (IsBestOf gs n)
      → MatchOption best ((j : ℕ) (g : Group) → IsImage heads j g → ⊥) (λ g. (j : ℕ) × IsImage heads j g)
  image_of n None e none = let P : ℕ → Type 0 = λ m. NoneSays gs m in no_image (subst P e none)
  image_of n (Some g) e best = let P : ℕ → Type 0 = λ m. IsBestOf gs m g in best_image g (subst P e best)

-- what holds of each group, and what is asked of one that says a size, holds of the best one
pub best_within : (gs : List Group) (n m : ℕ) (best : Option Group) → m ≤ length gs → MatchOption best (NoneSays gs m) (IsBestOf gs m)
    → All (IsWithin n) gs → IfSome best (IsWithin n)
best_within gs n m None e none all = tt
best_within gs n m (Some g) e best all =
    let P : Group → Type 0 = λ f. IsWithin n f in
    let at = best.inside in subst P (best.is no_group) (all best.index no_group (omega (arith, at, e)))

pub best_size : (gs : List Group) (m : ℕ) (best : Option Group) → MatchOption best (NoneSays gs m) (IsBestOf gs m)
    → IfSome best (λ g. (1 ≤ g.size) × (g.size ≤ greatest_size) × (2 ≤ g.count))
best_size gs m None none = tt
best_size gs m (Some g) best =
    let all = and_parts _ _ best.says in
    let sizes = and_parts _ _ all.0 in
    let least = and_parts _ _ sizes.0 in
    (leb-true 1 g.size least.1, leb-true g.size greatest_size sizes.1, leb-true 2 g.count least.0)
