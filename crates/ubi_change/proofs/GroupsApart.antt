-- A group of steps that takes another eraseblock than p, and gives up another, leaves p as it is.
use Rattle.ubi_change.proofs.Prelude.{base_of, ◌≡◌, ◌≢◌, ◌⊎◌, inl, inr, ℕ, ◌+◌, ◌<◌, ◌≤◌, List, [], ◌∷◌, ◌++◌, ◌-◌, ap₂, length, length-append, map, zero, suc, below_same_or_above, take, ap, sym, ◌∙◌, subst, arith, Some, same_Some, get_or, slice_get, slice_get-get_or, Sizes, Step, Site, Laying, UpdatePlan, FitsUpdate, IsApart, block_cut, header_at, in_order, piece_bytes, plan_groups, trimmed}
use Rattle.ubi_change.proofs.AllGroups.{in_order_more}
use Rattle.ubi_change.proofs.GroupPlaces.{first_at, lay_at, second_at}
use Rattle.ubi_change.proofs.CutBlocks.{cut_both, each_first, untouched}
use Rattle.ubi_change.proofs.StepsOn.{EachOn, copy_each, lay_each}

module _ (s : Sizes) (size : ℕ) (p : UpdatePlan) (fits : FitsUpdate s size p) (contents : List ℕ) (k q : ℕ) (apart : IsApart p k q) where
  abbrev ls : List Laying
  ls = p.layings.items

  abbrev ts : List Site
  ts = p.sites.items

  abbrev Elsewhere : List Step → Type 0
  Elsewhere = EachOn (λ t. t ≢ q)

  -- the eraseblock that is taken
  taken : (t : Site) → k < length ts → (get_or ts k t).pnum ≢ q
  taken t inside = apart.site (get_or ts k t) (slice_get-get_or ts k t inside)

  enough : length ls + 2 ≤ length ts
  enough = fits.enough

  laid_elsewhere : (d : Laying) (t : Site) (group : List Step) → k < length ls → slice_get (plan_groups s p contents) k ≡ Some group → Elsewhere group
  laid_elsewhere d t group inside is =
      let same = same_Some _ group (sym (lay_at s (base_of p) contents p.pages.items p.holders 0 ls ts k d t inside (omega (arith, enough))) ∙ is) in
      subst Elsewhere same
      (lay_each (λ x. x ≢ q) s (base_of p) (get_or ts k t) (header_at s (base_of p) contents (0 + k) (get_or ls k d).piece)
      (trimmed s (piece_bytes s contents (get_or ls k d).piece)) (taken t (omega (arith, inside, enough))))

  first_elsewhere : (t : Site) (group : List Step) → k ≡ length ls → slice_get (plan_groups s p contents) k ≡ Some group → Elsewhere group
  first_elsewhere t group here is =
      let at = ap (slice_get (plan_groups s p contents)) here ∙ first_at s (base_of p) contents p.pages.items p.holders ls ts t enough in
      let same = same_Some _ group (sym at ∙ is) in
      subst Elsewhere same
      (copy_each (λ x. x ≢ q) s (base_of p) (get_or ts (length ls) t) _ p.pages.items p.holders.first p.holders.first.ec
      (subst (λ n. (get_or ts n t).pnum ≢ q) here (taken t (omega (arith, here, enough)))) (apart.first (omega (arith, here))))

  second_elsewhere : (t : Site) (group : List Step) → k ≡ length ls + 1 → slice_get (plan_groups s p contents) k ≡ Some group → Elsewhere group
  second_elsewhere t group here is =
      let at = second_at s (base_of p) contents p.pages.items p.holders ls ts k t here enough in
      let same = same_Some _ group (sym at ∙ is) in
      subst Elsewhere same
      (copy_each (λ x. x ≢ q) s (base_of p) (get_or ts k t) _ p.pages.items p.holders.second p.holders.second.ec
      (taken t (omega (arith, here, enough))) (apart.second (omega (arith, here))))

  some_of : {A : Type 0} (xs : List A) → 0 < length xs → A
  some_of [] l = absurd (omega arith)
  some_of (x ∷ xs) l = x

  -- after one group more of a plan, of which the first n steps are carried out
  pub group_apart : (group : List Step) → k < length ls + 2 → slice_get (plan_groups s p contents) k ≡ Some group → (n : ℕ) (b : List ℕ)
      → block_cut s q (take n group) b ≡ b
  group_apart group inside is n b = untouched s q (take n group) (each_first (λ x. x ≢ q) n group elsewhere) b
    where
      t : Site
      t = some_of ts (omega (arith, enough))

      elsewhere : Elsewhere group
      elsewhere = by (below_same_or_above k (length ls))
        where
          by : (k < length ls) ⊎ (k ≡ length ls) ⊎ (length ls < k) → Elsewhere group
          by (inl below) = laid_elsewhere (some_of ls (omega (arith, below))) t group below is
          by (inr (inl here)) = first_elsewhere t group here is
          by (inr (inr above)) = second_elsewhere t group (omega (arith, above, inside)) is

list_head : {A : Type 0} {x y : A} {xs ys : List A} → x ∷ xs ≡ y ∷ ys → x ≡ y
list_head e = cc

list_tail : {A : Type 0} {x y : A} {xs ys : List A} → x ∷ xs ≡ y ∷ ys → xs ≡ ys
list_tail e = cc

-- how many steps a group has, by the counts of all
pub counted_group : (gs : List (List Step)) (counts : List ℕ) → counts ≡ map length gs → (k d : ℕ) (group : List Step) → k < length counts
    → slice_get gs k ≡ Some group → get_or counts k d ≡ length group
counted_group [] counts are k d group inside is = absurd (cc)
counted_group (x ∷ xs) [] are k d group inside is = absurd (omega arith)
counted_group (x ∷ xs) (n ∷ ns) are zero d group inside is = list_head are ∙ ap length (same_Some x group is)
counted_group (x ∷ xs) (n ∷ ns) are (suc k) d group inside is = counted_group xs ns (list_tail are) k d group (omega arith) is

-- one group more of a plan, of which the first n steps are carried out on an eraseblock
module _ (s : Sizes) (p : UpdatePlan) (contents : List ℕ) (k q n left : ℕ) (group : List Step) (inside : k < length (plan_groups s p contents))
    (is : slice_get (plan_groups s p contents) k ≡ Some group) (so_far : left ≡ n - length (in_order (take k (plan_groups s p contents)))) where
  abbrev before : List Step
  before = in_order (take k (plan_groups s p contents))

  more : before ++ group ≡ in_order (take (k + 1) (plan_groups s p contents))
  more = in_order_more (plan_groups s p contents) k group inside is

  pub left_less : (count : ℕ) → count ≡ length group → left - count ≡ n - length (in_order (take (k + 1) (plan_groups s p contents)))
  left_less count same =
      let both : length (in_order (take (k + 1) (plan_groups s p contents))) ≡ length before + length group =
      ap length (sym more) ∙ length-append before group in
      omega (arith, both, same, so_far)

  pub carried_more : (b now later : List ℕ) → now ≡ block_cut s q (take n before) b → later ≡ block_cut s q (take left group) now
      → later ≡ block_cut s q (take n (in_order (take (k + 1) (plan_groups s p contents)))) b
  carried_more b now later done is_later =
      is_later
      ∙ ap₂ (λ m (x : List ℕ). block_cut s q (take m group) x) so_far done
      ∙ sym (cut_both s q n before group b)
      ∙ ap (λ (xs : List Step). block_cut s q (take n xs) b) more
