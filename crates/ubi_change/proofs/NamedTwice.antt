-- Two records of one name: which `twice` tells, and that there are none if it tells none.
use Rattle.ubi_change.proofs.Prelude.{◌≡◌, ◌≢◌, ℕ, zero, suc, ◌<◌, Bool, true, false, cond, List, [], ◌∷◌, refl, ap, sym, ◌∙◌, None, Option, Some, find, option_map_or, same_Some, same_text, same_bytes, nat_cmp, nat_cmp_total, FinMap, VolumeRecord, Entry, Holds, all_at, Rises, entry_place, slice_get-get_or, get_or_from_slice_get, found_passes, none_passes, bytes_Decides, twice, slice_get_within, entries_rise, once_first, first_named}
use Rattle.std.specs.FinMap as finite

found_holds : (p : Entry → Bool) (es : List Entry) (e : Entry) → find p es ≡ Some e → Holds es e
found_holds p [] e h = absurd (cc)
found_holds p (x ∷ es) e h = by (p x) h (found_holds p es e)
  where
    by : (b : Bool) → cond b (Some x) (find p es) ≡ Some e → (find p es ≡ Some e → Holds es e) → Holds (x ∷ es) e
    by true k rest = (zero, k)
    by false k rest = let r = rest k in (suc r.0, r.1)

-- what `twice` tells stands in the list, in this order
pub record AreTwice (es : List Entry) (i j : ℕ) : Type 0 where
  pub first : Entry
  pub next : Entry
  pub held : Holds es first
  pub there : Holds es next
  pub i_is : first.0 ≡ i
  pub j_is : next.0 ≡ j
  pub less : first.0 < next.0
  pub same : first.1.name ≡ next.1.name

pub twice_are : (es : List Entry) → Rises (λ (e : Entry). e.0) es → (i j : ℕ) → twice es ≡ Some (i, j) → AreTwice es i j
twice_are [] rise i j e = absurd (cc)
twice_are (x ∷ es) rise i j e = by (first_named x.1.name es) refl e (twice_are es rise.1 i j)
  where
    by : (o : Option Entry) → first_named x.1.name es ≡ o → option_map_or (λ (next : Entry). Some (x.0, next.0)) o (twice es) ≡ Some (i, j)
        → (twice es ≡ Some (i, j) → AreTwice es i j) → AreTwice (x ∷ es) i j
    by None f k rest =
        let r = rest k in
        record {
          first = r.first;
          next = r.next;
          held = (suc r.held.0, r.held.1);
          there = (suc r.there.0, r.there.1);
          i_is = r.i_is;
          j_is = r.j_is;
          less = r.less;
          same = r.same;
        }
    by (Some next) f k rest =
        let at = found_holds (λ other. same_bytes x.1.name other.1.name) es next f in
        let two : ◌≡◌ {A = ℕ × ℕ} (x.0, next.0) (i, j) = same_Some (x.0, next.0) (i, j) k in
        record {
          first = x;
          next = next;
          held = (zero, refl);
          there = (suc at.0, at.1);
          i_is = ap (λ (q : ℕ × ℕ). q.0) two;
          j_is = ap (λ (q : ℕ × ℕ). q.1) two;
          less = all_at (λ (y : Entry). x.0 < y.0) es at.0 next rise.0 at.1;
          same = same_text x.1.name next.1.name (sym (found_passes (λ other. same_bytes x.1.name other.1.name) es next f));
        }

pub twice_in : (of : FinMap nat_cmp VolumeRecord) (i j : ℕ) → twice (finite.entries of) ≡ Some (i, j) → AreTwice (finite.entries of) i j
twice_in of i j e = twice_are (finite.entries of) (entries_rise (finite.entries of) (finite.entries_sorted of)) i j e

-- if it tells none, no two have one name
differ : (x f : Entry) (es : List Entry) → first_named x.1.name es ≡ None → Holds es f → x.1.name ≡ f.1.name → ⊥
differ x f es none h same =
    let fails = none_passes (λ (other : Entry). same_bytes x.1.name other.1.name) es none h.0 f (slice_get_within es h.0 f h.1) in
    let is : same_bytes x.1.name f.1.name ≡ false =
    ap (λ (y : Entry). same_bytes x.1.name y.1.name) (sym (get_or_from_slice_get es h.0 f f h.1)) ∙ fails in
    let yes : same_bytes x.1.name f.1.name ≡ true = (bytes_Decides x.1.name f.1.name).1 same in
    let both : ◌≡◌ {A = Bool} true false = sym yes ∙ is in
    absurd (cc)

no_two : (es : List Entry) → twice es ≡ None → (e f : Entry) → Holds es e → Holds es f → e.0 ≢ f.0 → e.1.name ≡ f.1.name → ⊥
no_two [] none e f (k, at) h apart same = absurd (cc)
no_two (x ∷ es) none e f (zero, at) (zero, h) apart same =
    apart (ap (λ (y : Entry). y.0) (sym (same_Some x e at) ∙ same_Some x f h))
no_two (x ∷ es) none e f (zero, at) (suc k, h) apart same =
    differ x f es (once_first x es none).0 (k, h) (ap (λ (y : Entry). y.1.name) (same_Some x e at) ∙ same)
no_two (x ∷ es) none e f (suc k, at) (zero, h) apart same =
    differ x e es (once_first x es none).0 (k, at) (ap (λ (y : Entry). y.1.name) (same_Some x f h) ∙ sym same)
no_two (x ∷ es) none e f (suc k, at) (suc l, h) apart same =
    no_two es (once_first x es none).1 e f (k, at) (l, h) apart same

entry_held : (of : FinMap nat_cmp VolumeRecord) (i : ℕ) (r : VolumeRecord) → finite.get of i ≡ Some r → Holds (finite.entries of) (i, r)
entry_held of i r e =
    let h = entry_place (finite.entries of) i r
    (finite.get-from_entries nat_cmp_total (finite.entries of) i ∙ sym (finite.get-entries of i) ∙ e) in
    (h.0, slice_get-get_or (finite.entries of) h.0 (i, r) h.1 ∙ ap Some h.2)

pub once_in : (of : FinMap nat_cmp VolumeRecord) → twice (finite.entries of) ≡ None → (i j : ℕ) (r q : VolumeRecord) → finite.get of i ≡ Some r
    → finite.get of j ≡ Some q → i ≢ j → r.name ≡ q.name → ⊥
once_in of none i j r q e f apart same =
    no_two (finite.entries of) none (i, r) (j, q) (entry_held of i r e) (entry_held of j q f) apart same
