-- What is left of LEBs if those that are 0xFF throughout are dropped.
use Rattle.ubi_volume.proofs.Prelude.{◌≡◌, ℕ, Bool, cond, not, List, [], ◌++◌, ◌+◌, ◌<◌, length, filter, get_or, set, take, drop, map, refl, ap, sym, ◌∙◌, None, Option, Some, unwrap_or, BTreeMap, eq_by_cmp_equiv, nat_cmp_total, FinMap, nat_cmp-IsAntisymmetric, keys_of, lookup, eq_by_cmp, nat_cmp, map_over_more, lookup-filter-values, option_filter, IsDistinct-from_sorted, is_blank, get_tree, Items, item_without_blank, lebs_without_blank, without_blank, Content, Volume}
use Rattle.std.specs.BTreeMap as tree
use Rattle.std.specs.FinMap as finite

abbrev pub LebMap : Type 0
LebMap = FinMap nat_cmp (List ℕ)

-- the test that a LEB passes
abbrev pub is_kept : LebMap → ℕ → Bool
is_kept lebs lnum = not (is_blank (unwrap_or (finite.get lebs lnum) []))

-- what is left at a number
pub get_without_blank : (lebs : LebMap) (q : ℕ)
    → finite.get (lebs_without_blank lebs) q ≡ cond (is_kept lebs q) (finite.get lebs q) None
get_without_blank lebs q = finite.get-retain_keys lebs (is_kept lebs) q
    (λ x e. ap (is_kept lebs) (sym (nat_cmp-IsAntisymmetric q x e)))

filtered : (o : Option (List ℕ)) → option_filter (λ text. not (is_blank text)) o
    ≡ cond (not (is_blank (unwrap_or o []))) o None
filtered None = refl
filtered (Some text) = refl

-- a map with those of a map that aren't blank
pub tree_without_blank : (m n : BTreeMap ℕ (List ℕ)) → tree.IsOrdered nat_cmp m
    → n.entries ≡ filter (λ e. not (is_blank e.1)) m.entries
    → finite.from_entries {R = nat_cmp} n.entries ≡ lebs_without_blank (finite.from_entries m.entries)
tree_without_blank m n ordered e = finite.same_map nat_cmp_total nat_cmp-IsAntisymmetric _ _ (λ q.
    get_tree nat_cmp_total n q
    ∙ ap (lookup (eq_by_cmp nat_cmp q)) e
    ∙ lookup-filter-values (eq_by_cmp_equiv nat_cmp_total) (λ text. not (is_blank text)) q m.entries
    (IsDistinct-from_sorted nat_cmp (keys_of m.entries) ordered)
    ∙ filtered (lookup (eq_by_cmp nat_cmp q) m.entries)
    ∙ ap (λ o. cond (not (is_blank (unwrap_or o []))) o None) (sym (get_tree nat_cmp_total m q))
    ∙ sym (get_without_blank (finite.from_entries m.entries) q))

-- a loop that drops them from each item in turn
pub item_dropped : (xs ys : Items) (i : ℕ) (d : ℕ × Volume) (content : Content) → i < length xs
    → ys ≡ map item_without_blank (take i xs) ++ drop i xs
    → d ≡ get_or ys i d → content ≡ without_blank (get_or ys i d).1.content
    → set ys i ((get_or ys i d).0, record { entry = (get_or ys i d).1.entry; content = content })
    ≡ map item_without_blank (take (i + 1) xs) ++ drop (i + 1) xs
item_dropped xs ys i d content l so is e =
    ap (λ (c : Content). set ys i ((get_or ys i d).0, record { entry = (get_or ys i d).1.entry; content = c })) e
    ∙ map_over_more item_without_blank xs ys i (get_or ys i d) l so (ap (get_or ys i) is)
