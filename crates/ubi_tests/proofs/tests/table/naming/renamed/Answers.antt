use Rattle.std.proofs.Common.{◌≡◌, ℕ, ◌==◌, ◌&&◌, Bool, true, false, not, List, find, refl, ap, sym, ◌∙◌, subst}
use Rattle.std.specs.Prelude.{None}
use Rattle.std.specs.Cmp.{nat_cmp_total, unsigned_Decides}
use Rattle.std.specs.FinMap as finite
use Rattle.std.proofs.lemmas.Slice.Eq.{slice_eq-Decides}
use Rattle.ubi_media.specs.Fields.{same_bytes}
use Rattle.ubi_media.proofs.First.{none_passes}
use Rattle.ubi_scan.proofs.Entries.{entry_place}
use Rattle.ubi_scan.proofs.Keys.{at_other}
use Rattle.ubi_table.specs.Named.{IsFreeName}
use Rattle.ubi_table.specs.Records.{Records}
use Rattle.ubi_table.proofs.Names.{Entry}
use Rattle.ubi_tests.proofs.tests.table.naming.renamed.Goals as goal

module _ (t : Records) (id : ℕ) (name : List ℕ) where
  abbrev is_other : Entry → Bool
  is_other e = not (e.0 == id) && same_bytes e.1.name name

  none_other : find is_other (finite.entries t.of) ≡ None → IsFreeName t id name
  none_other h slot r apart there same =
      let place = entry_place (finite.entries t.of) slot r
      (finite.get-from_entries nat_cmp_total (finite.entries t.of) slot ∙ sym (finite.get-entries t.of slot) ∙ there) in
      let fails : is_other (slot, r) ≡ false = subst (λ (x : Entry). is_other x ≡ false) place.2
      (none_passes is_other (finite.entries t.of) h place.0 (slot, r) place.1) in
      let passes : is_other (slot, r) ≡ true = ap (λ b. not b && same_bytes r.name name) (at_other slot id apart)
      ∙ (slice_eq-Decides unsigned_Decides r.name name (same_bytes r.name name) refl).1 same in
      let both : ◌≡◌ {A = Bool} true false = sym passes ∙ fails in
      absurd (cc)

-- src/tests/table/naming.rt
pub renamed-requires-clause-free : goal.renamed-requires-clause-free
renamed-requires-clause-free c =
    let t = c.args.table.now in
    none_other t c.args.id c.in-Some.name (sym (c.in-None.ensures
    ∙ ap (λ (es : List Entry). find (is_other t c.args.id c.in-Some.name) es) c.entries.ensures.value))
