-- Headers form groups, and say an image or none.
use Rattle.ubi_detect.proofs.Prelude.{◌≡◌, ℕ, ◌+◌, ◌-◌, ◌*◌, ◌/◌, ◌%◌, ◌<◌, ◌≤◌, ◌⊎◌, Bool, true, false, List, [], ◌∷◌, ◌++◌, length, slice_range, zero, suc, inl, inr, refl, ap, sym, ◌∙◌, subst, arith, IsGcd, option_to_list, ◌&&◌, IsFalse, MatchOption, None, Option, Some, option_map, slice_index_or, mod-lt, and_parts, true≢false, append-nil, get_or_default, All-nil, IsGcd-from_mod, IsGcd-from_zero, dvd-zero, below_same_or_above, IsGroup, IsImage, heads_of, heads_to, is_of, key_in, step, Group, Head, Key, AreAdded, AreGroups, AreReady, IsAdded, IsBestOf, NoneSays, first_with, group_with, has_key, says_size, unnumbered, speaks_for_more}
use Rattle.ubi_detect.proofs.AddedGroups.{groups_more, no_group, ready, ready_with}
use Rattle.ubi_detect.proofs.BestGroup.{best_taken, image_of, stays_best}
use Rattle.ubi_detect.proofs.NewGroups.{group_of_none, group_of_unnumbered}
use Rattle.ubi_detect.proofs.Surveyed.{heads_more}

-- two numbers have a greatest common divisor
gcd_by : (n a b : ℕ) → b ≤ n → (g : ℕ) × IsGcd a b g
gcd_by zero a b few = (a, IsGcd-from_zero a b (omega (arith, few)))
gcd_by (suc n) a b few = elim (below_same_or_above b 0) [
  | inl less ↦ absurd (omega (arith, less))
  | inr w ↦ elim w [
    | inl none ↦ (a, IsGcd-from_zero a b none)
    | inr some ↦ (let less : a % b < b = mod-lt a some in
        let more = gcd_by n b (a % b) (omega (arith, less, few)) in (more.0, IsGcd-from_mod a b more.0 more.1))
  ]
]

-- a header can be added to a group
added_by : (h : Head) (g : Group) (b : Bool) → is_of g.key h.key ≡ b → (f : Group) × IsAdded h g f
added_by h g false e = (
  g,
  record {
    key = refl;
    other = λ other. refl;
    count = λ is. absurd (true≢false (sym is ∙ e));
    first = λ is. absurd (true≢false (sym is ∙ e));
    last = λ is. absurd (true≢false (sym is ∙ e));
    size = λ is. absurd (true≢false (sym is ∙ e));
  },
)
added_by h g true e =
    let d = gcd_by (h.place - first_with h.place g) g.size (h.place - first_with h.place g) (omega arith) in (
      record { key = g.key; first = first_with h.place g; last = h.place; count = g.count + 1; size = d.0 },
      record {
        key = refl;
        other = λ other. absurd (true≢false (sym e ∙ other));
        count = λ is. refl;
        first = λ is. refl;
        last = λ is. refl;
        size = λ is. d.1;
      },
    )

-- and to each of some groups
each_added : (h : Head) (gs : List Group) → (fs : List Group) × AreAdded h gs fs
each_added h [] = ([], record { many = refl; each = λ i d below. absurd (omega (arith, below)) })
each_added h (g ∷ gs) =
    let f = added_by h g (is_of g.key h.key) refl in
    let rest = each_added h gs in
    (f.0 ∷ rest.0, record { many = ap suc rest.1.many; each = each_at h g f.0 f.1 gs rest.0 rest.1 })
  where
    each_at : (h : Head) (g f : Group) → IsAdded h g f → (gs fs : List Group) → AreAdded h gs fs → (i : ℕ) (d : Group)
        → i < length (g ∷ gs) → IsAdded h (slice_index_or (g ∷ gs) i d) (slice_index_or (f ∷ fs) i d)
    each_at h g f here gs fs rest zero d below = here
    each_at h g f here gs fs rest (suc i) d below = rest.each i d (omega (arith, below))

module _ (heads : List Head) (h : Head) (gs : List Group) (are : AreGroups heads gs) where
  ready_by : (o : Option Group) → group_with gs (unnumbered h.key) ≡ o → IsFalse (has_key gs h.key)
      → (fs : List Group) × AreReady heads h.key fs
  ready_by (Some g) e none = (_, ready_with heads h.key gs are (record g { key = h.key }) none refl (group_of_unnumbered heads gs h.key are none g e))
  ready_by None e none =
      let empty : Group = record { key = h.key; first = 0; last = 0; count = 0; size = 0 } in
      let is : IsGroup [] empty = record {
        first = refl;
        last = refl;
        count = refl;
        size = record { divides = All-nil _; greatest = λ r d. dvd-zero r };
      } in
      (_, ready_with heads h.key gs are empty none refl (group_of_none heads gs h.key are none empty refl is e))

  ready_if : (b : Bool) → has_key gs h.key ≡ b → (fs : List Group) × AreReady heads h.key fs
  ready_if true e = (gs, ready heads h.key gs are e)
  ready_if false e = ready_by (group_with gs (unnumbered h.key)) refl e

  grouped_more : (fs : List Group) × AreGroups (heads ++ h ∷ []) fs
  grouped_more =
      let r = ready_if (has_key gs h.key) refl in
      let a = each_added h r.0 in (a.0, groups_more heads h r.0 a.0 a.1 r.1)

module _ (bytes : List ℕ) where
  more : (n : ℕ) (o : Option Key) → (gs : List Group) → AreGroups (heads_to bytes n) gs
      → (fs : List Group) × AreGroups (heads_to bytes n ++ option_to_list (option_map (λ l. record { place = n * step; key = l }) o)) fs
  more n None gs are = let P : List Head → Type 0 = λ hs. (fs : List Group) × AreGroups hs fs in
      subst P (sym (append-nil (heads_to bytes n))) (gs, are)
  more n (Some l) gs are = grouped_more (heads_to bytes n) (record { place = n * step; key = l }) gs are

  groups_to : (n : ℕ) → (gs : List Group) × AreGroups (heads_to bytes n) gs
  groups_to zero = ([], record { keys = refl; each = All-nil _ })
  groups_to (suc n) =
      let e : suc n ≡ n + 1 = omega arith in
      let P : ℕ → Type 0 = λ m. (gs : List Group) × AreGroups (heads_to bytes m) gs in
      let Q : List Head → Type 0 = λ hs. (gs : List Group) × AreGroups hs gs in
      let before = groups_to n in
      subst P (sym e) (subst Q (sym (heads_more bytes n))
      (more n (key_in (slice_range bytes (n * step) (n * step + 64))) before.0 before.1))

module _ (gs : List Group) where
  abbrev Best : ℕ → Type 0
  Best n = (o : Option Group) × MatchOption o (NoneSays gs n) (IsBestOf gs n)

  best_by : (n : ℕ) (inside : n < length gs) (o : Option Group) → MatchOption o (NoneSays gs n) (IsBestOf gs n) → (b : Bool)
      → (says_size gs (slice_index_or gs n no_group) && speaks_for_more (slice_index_or gs n no_group) o) ≡ b → Best (n + 1)
  best_by n inside o best true e =
      let both = and_parts _ _ e in (
        Some (slice_index_or gs n no_group),
        best_taken gs n inside (slice_index_or gs n no_group) (λ d. get_or_default gs n d no_group inside) o best both.0 both.1,
      )
  best_by n inside o best false e =
      (o, stays_best gs n inside (slice_index_or gs n no_group) (λ d. get_or_default gs n d no_group inside) o best e)

  best_to : (n : ℕ) → n ≤ length gs → Best n
  best_to zero few = (None, λ k d below. absurd (omega (arith, below)))
  best_to (suc n) few =
      let b = best_to n (omega (arith, few)) in
      let e : n + 1 ≡ suc n = omega arith in
      subst Best e (best_by n (omega (arith, few)) b.0 b.1 _ refl)

-- the headers of a file say an image, or none
pub image_or_none : (bytes : List ℕ) → ((g : Group) × (j : ℕ) × IsImage (heads_of bytes) j g) ⊎ ((j : ℕ) (g : Group) → IsImage (heads_of bytes) j g → ⊥)
image_or_none bytes =
    let gs = groups_to bytes (length bytes / step) in
    let best = best_to gs.0 (length gs.0) (omega arith) in
    by_best best.0 (image_of (heads_of bytes) gs.0 gs.1 (length gs.0) best.0 refl best.1)
  where
    by_best : (o : Option Group) → MatchOption o ((j : ℕ) (g : Group) → IsImage (heads_of bytes) j g → ⊥) (λ g. (j : ℕ) × IsImage (heads_of bytes) j g)
        → ((g : Group) × (j : ℕ) × IsImage (heads_of bytes) j g) ⊎ ((j : ℕ) (g : Group) → IsImage (heads_of bytes) j g → ⊥)
    by_best None none = inr none
    by_best (Some g) is = inl (g, is.0, is.1)
