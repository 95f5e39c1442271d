-- What is built is a meaning, and its normal image fits the device if all pieces do.
use Rattle.ubi_compose.proofs.Prelude.{◌≡◌, ℕ, ◌+◌, ◌≤◌, true, false, Bool, inl, inr, List, [], ◌∷◌, length, map, refl, ap, sym, ◌∙◌, subst, arith, IfSome, None, Option, Some, slice_get, sum_by, nat_cmp_total, put, by_order, nat_cmp, Equal, Greater, cases_order, sum_by-cons, same_Some, blank, leb_size, usable, usable_some, length-blank, no_entries, IsItem, NoCause, item_without_blank, HasDistinctNames, IsMeaning, IsVolume, Volume, fits_without_blank, keeps_no_blank, HaveMeaning, Parts, Reaches, built, content_of, item_of, items_of, text_of, table_of, Part, content_fits, text_size}
use Rattle.std.specs.declared.cmp.Ordering.TheVariants.{Less}
use Rattle.std.specs.FinMap as finite
use Rattle.ubi_volume.specs.declared.errors.MeaningCause.TheVariants as cause
use Rattle.ubi_compose.proofs.BuiltVolumes.{built_part, table_is, volume_in}
use Rattle.ubi_compose.proofs.ListedParts.{enough, enough_reaches, found_part, item_at, listed_at, part_fits, part_slot, part_sound, reached, reserved_room}
use Rattle.ubi_compose.proofs.StandIns.{content_clear}
use Rattle.ubi_compose.proofs.Table.{table_fits}

-- a sum over the entries of a map that is made of a list is no more than that over the list
module _ {X : Type 0} (f : ℕ × X → ℕ) (same : (k l : ℕ) (x : X) → f (k, x) ≡ f (l, x)) where
  sum_put : (k : ℕ) (v : X) (es : List (ℕ × X)) → sum_by f (put nat_cmp k v es) ≤ f (k, v) + sum_by f es
  sum_put k v [] = let e = sum_by-cons f (k, v) [] in omega (arith, e)
  sum_put k v (e ∷ es) =
      let all = sum_by-cons f e es in
      elim (nat_cmp k e.0) as (λ o. sum_by f (by_order o ((k, v) ∷ e ∷ es) ((e.0, v) ∷ es) (e ∷ put nat_cmp k v es))
      ≤ f (k, v) + sum_by f (e ∷ es)) [
        | Less ↦ (let n = sum_by-cons f (k, v) (e ∷ es) in omega (arith, n))
        | Equal ↦ (let n = sum_by-cons f (e.0, v) es in let s = same e.0 k v in omega (arith, n, s, all))
        | Greater ↦ (let n = sum_by-cons f e (put nat_cmp k v es) in let r = sum_put k v es in omega (arith, n, r, all))
      ]

  pub sum_made : (es : List (ℕ × X)) → sum_by f (finite.entries (finite.from_entries {R = nat_cmp} es)) ≤ sum_by f es
  sum_made [] = let e = ap (sum_by f) no_entries in omega (arith, e)
  sum_made (e ∷ es) =
      let is = ap (sum_by f) (finite.entries-insert nat_cmp_total (finite.from_entries {R = nat_cmp} es) e.0 e.1) in
      let more = sum_put e.0 e.1 (finite.entries (finite.from_entries {R = nat_cmp} es)) in
      let rest = sum_made es in
      let all = sum_by-cons f e es in
      omega (arith, is, more, rest, all)

module _ (ps : Parts) (h : HaveMeaning ps) (bytes : List ℕ) (reaches : Reaches (length bytes) ps.of) where
  none : NoCause ps.sizes (items_of ps.sizes bytes ps.of)
  none = h.none bytes reaches

  here : (i : ℕ) (p : Part) → slice_get ps.of i ≡ Some p
      → IsItem (items_of ps.sizes bytes ps.of) i (item_of ps.sizes bytes p)
  here i p at = item_at (item_of ps.sizes bytes) ps.of i p at

  -- no record has the update marker
  part_clear : (i : ℕ) (p : Part) → slice_get ps.of i ≡ Some p → p.entry.marker ≡ false
  part_clear i p at = by p.entry.marker refl
    where
      by : (b : Bool) → p.entry.marker ≡ b → b ≡ false
      by false e = refl
      by true e = absurd (none (cause.ContentRange i) (
        item_of ps.sizes bytes p,
        here i p at,
        λ fits.
            let clear = content_clear ps.sizes p.entry p.entry.kind (usable ps.sizes p.entry) (text_of bytes p) fits in
            let wrong = sym e ∙ clear in cc,
      ))

  volume_is : (i : ℕ) (p : Part) → slice_get ps.of i ≡ Some p → IsVolume ps.sizes p.id (volume_in ps bytes p)
  volume_is i p at =
      let sound = part_sound ps h i p at in
      let size = text_size bytes p (reached (length bytes) ps.of i p reaches at) in
      record {
        slot = part_slot ps h i p at;
        sound = sound;
        fits = fits_without_blank ps.sizes p.entry (content_of p.entry.kind (usable ps.sizes p.entry) (text_of bytes p))
            (content_fits ps.sizes p.entry (usable_some ps.sizes p.entry sound) (text_of bytes p) p.entry.kind refl
            (part_clear i p at) (let few = part_fits ps h i p at in omega (arith, few, size)));
        kept = keeps_no_blank ps.sizes p.entry (content_of p.entry.kind (usable ps.sizes p.entry) (text_of bytes p));
      }

  each : (id : ℕ) (o : Option Volume) → finite.get (built ps bytes).volumes id ≡ o → IfSome o (IsVolume ps.sizes id)
  each id None e = tt
  each id (Some v) e =
      let of = built_part ps bytes id v e in
      let found = found_part ps.of id of.0 of.1 in
      let at = listed_at ps.of of.0 found.0 in
      subst (IsVolume ps.sizes id) of.2
      (subst (λ n. IsVolume ps.sizes n (volume_in ps bytes of.0)) found.1 (volume_is at.0 of.0 at.1))

  names : HasDistinctNames (built ps bytes).volumes
  names i j v w e f same =
      let p = built_part ps bytes i v e in
      let q = built_part ps bytes j w f in
      let of_p = found_part ps.of i p.0 p.1 in
      let of_q = found_part ps.of j q.0 q.1 in
      let a = listed_at ps.of p.0 of_p.0 in
      let b = listed_at ps.of q.0 of_q.0 in
      let alike : p.0.entry.name ≡ q.0.entry.name = ap (λ (z : Volume). z.entry.name) p.2 ∙ same
      ∙ sym (ap (λ (z : Volume). z.entry.name) q.2) in
      let one = elim (cases_order a.0 b.0) as (λ _. p.0 ≡ q.0) [
        | inl place ↦ same_Some p.0 q.0 (sym a.1 ∙ ap (slice_get ps.of) place ∙ b.1)
        | inr other ↦ elim other [
          | inl l ↦ absurd (none (cause.SameName b.0 a.0)
              (item_of ps.sizes bytes q.0, item_of ps.sizes bytes p.0, here b.0 q.0 b.1, here a.0 p.0 a.1, l, alike))
          | inr l ↦ absurd (none (cause.SameName a.0 b.0) (
            item_of ps.sizes bytes p.0,
            item_of ps.sizes bytes q.0,
            here a.0 p.0 a.1,
            here b.0 q.0 b.1,
            l,
            sym alike,
          ))
        ]
      ] in
      sym of_p.1 ∙ ap (λ (z : Part). z.id) one ∙ of_q.1

  abbrev reserved : ℕ × Volume → ℕ
  reserved e = e.1.entry.reserved

  sum_values : (es : List (ℕ × Volume)) → sum_by (λ (v : Volume). v.entry.reserved) (map (λ (e : ℕ × Volume). e.1) es)
      ≡ sum_by reserved es
  sum_values [] = refl
  sum_values (e ∷ es) = sum_by-cons (λ (v : Volume). v.entry.reserved) e.1 (map (λ (e : ℕ × Volume). e.1) es)
      ∙ ap (λ n. e.1.entry.reserved + n) (sum_values es) ∙ sym (sum_by-cons reserved e es)

  sum_parts : (parts : List Part)
      → sum_by reserved (map item_without_blank (items_of ps.sizes bytes parts))
      ≡ sum_by (λ (p : Part). p.entry.reserved) parts
  sum_parts [] = refl
  sum_parts (p ∷ parts) =
      sum_by-cons reserved (item_without_blank (item_of ps.sizes bytes p))
      (map item_without_blank (items_of ps.sizes bytes parts))
      ∙ ap (λ n. p.entry.reserved + n) (sum_parts parts) ∙ sym (sum_by-cons (λ (p : Part). p.entry.reserved) p parts)

  pub built_meaning : IsMeaning (built ps bytes)
  built_meaning = record {
    image_seq = h.image_seq;
    each = λ id. each id (finite.get (built ps bytes).volumes id) refl;
    names = names;
    space = (let all = sum_values (finite.entries (built ps bytes).volumes) in
        let made = sum_made reserved (λ k l x. refl) (map item_without_blank (items_of ps.sizes bytes ps.of)) in
        let parts = sum_parts ps.of in
        let room = reserved_room ps h in
        omega (arith, all, made, parts, room));
  }

-- the table of a recipe has room in a LEB
pub table_room : (ps : Parts) → HaveMeaning ps → length (table_of ps) ≤ leb_size ps.sizes
table_room ps h =
    let bytes = blank (enough ps.of) in
    let reach = enough_reaches ps.of (length bytes) (let n = length-blank (enough ps.of) in omega (arith, n)) in
    let fits = table_fits (built ps bytes) (built_meaning ps h bytes reach) h.sizes in
    let same = ap length (table_is ps bytes) in
    omega (arith, fits, same)
