-- Which causes don't apply once some are passed.
use Rattle.ubi_change.proofs.Prelude.{◌≡◌, ℕ, ◌+◌, ◌<◌, ◌≤◌, ◌⊎◌, inl, inr, Bool, List, length, arith, None, Option, Some, Sizes, entries, Records, space, twice, first_edit_fault, news_of, autoresized_twice, edited_parts, edited_records, free_slots, RecordsStand, update_rank, Edit, UpdateRefusal}
use Rattle.ubi_change.specs.declared.errors.UpdateRefusal.TheVariants as refusal

clash : {X : Type 0} (o : Option X) (x : X) → o ≡ None → o ≡ Some x → ⊥
clash None x e f = (let g = f in absurd (cc))
clash (Some y) x e f = (let g = e in absurd (cc))

module _ (s : Sizes) (used : ℕ → ℕ → Bool) (whole : Edit → Bool) (t : Records) (room : ℕ) (es : List Edit) where
  abbrev n : Records
  n = edited_records used t es

  -- no cause below k applies
  pub record Passed (k : ℕ) : Type 0 where
    pub edits : 1 < k → first_edit_fault s used whole 0 t es ≡ None
    pub names : 2 < k → twice (entries n.of) ≡ None
    pub slots : 3 < k → length (news_of es) ≤ length (free_slots used t)
    pub space : 4 < k → (space n ≤ space t) ⊎ (space n + 2 ≤ room)
    pub alone : 5 < k → autoresized_twice (edited_parts used t es) (entries n.of) ≡ None

  pub none_below : (k : ℕ) → Passed k → (d : UpdateRefusal) → update_rank d < k → RecordsStand s used whole t room es d → ⊥
  none_below k p (refusal.Attach c) l st = st
  none_below k p (refusal.Edit i f) l st = clash (first_edit_fault s used whole 0 t es) (i, f) (p.edits l) st
  none_below k p (refusal.SameName i j) l st = clash (twice (entries n.of)) (i, j) (p.names l) st
  none_below k p (refusal.NoSlot a b) l st = (let e = p.slots l in omega (arith, e, st.0, st.1, st.2))
  none_below k p (refusal.NoSpace a b) l st = elim (p.space l) [
    | inl few ↦ omega (arith, few, st.2)
    | inr fits ↦ omega (arith, fits, st.0, st.1, st.3)
  ]
  none_below k p (refusal.Autoresize i j) l st = clash (autoresized_twice (edited_parts used t es) (entries n.of)) (i, j) (p.alone l) st
  none_below k p refusal.NeedsRepair l st = st
  none_below k p (refusal.WeakCheck i) l st = st
  none_below k p refusal.Exhausted l st = st
  none_below k p (refusal.NoFree a b) l st = st
  none_below k p refusal.Memory l st = st

-- there are nine places
pub rank_within : (d : UpdateRefusal) → update_rank d < 10
rank_within (refusal.Attach c) = omega arith
rank_within (refusal.Edit i f) = omega arith
rank_within (refusal.SameName i j) = omega arith
rank_within (refusal.NoSlot a b) = omega arith
rank_within (refusal.NoSpace a b) = omega arith
rank_within (refusal.Autoresize i j) = omega arith
rank_within refusal.NeedsRepair = omega arith
rank_within (refusal.WeakCheck i) = omega arith
rank_within refusal.Exhausted = omega arith
rank_within (refusal.NoFree a b) = omega arith
rank_within refusal.Memory = omega arith
