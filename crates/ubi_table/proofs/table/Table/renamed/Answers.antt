use Rattle.ubi_table.proofs.Prelude.{◌≡◌, List, take, ap, sym, ◌∙◌, subst, arith, from_entries, take_all, Sizes, AreKept}
use Rattle.std.specs.FinMap as finite
use Rattle.ubi_table.proofs.NamedTable.{named, named_entries, named_kept, some_record}
use Rattle.ubi_table.proofs.Names.{Entry}
use Rattle.ubi_table.proofs.table.Table.renamed.Goals as goal

pub of-requires : goal.of-requires
of-requires c =
    let t = c.args.self.now in
    let r = some_record (finite.get t.of c.args.id) c.requires.there in
    let es = c.entries-entry-items.result.now in
    let all : take c.loop-entry.entry-index es ≡ finite.entries t.of =
    take_all c.loop-entry.entry-index es (omega arith) ∙ c.entries-entry-items.ensures.value in
    let made : c.loop-entry.records.items ≡ named c.args.id c.args.name.now (finite.entries t.of) =
    c.loop-entry.invariant ∙ ap (named c.args.id c.args.name.now) all in
    subst (λ (xs : List Entry). AreKept c.geometry.result xs) (sym made)
    (subst (λ (z : Sizes). AreKept z (named c.args.id c.args.name.now (finite.entries t.of)))
    (sym c.geometry.ensures.value)
    (named_kept c.args.id c.args.name.now t r.0 r.1 c.as_bytes.ensures.limits c.geometry.ensures.table
    c.requires.free))

pub returns : goal.returns
returns c =
    let t = c.args.self.now in
    let r = some_record (finite.get t.of c.args.id) c.requires.there in
    let es = c.entries-entry-items.result.now in
    let all : take c.loop-entry.entry-index es ≡ finite.entries t.of =
    take_all c.loop-entry.entry-index es (omega arith) ∙ c.entries-entry-items.ensures.value in
    let made : c.loop-entry.records.items ≡ named c.args.id c.args.name.now (finite.entries t.of) =
    c.loop-entry.invariant ∙ ap (named c.args.id c.args.name.now) all in
    c.of.ensures
    ∙ ap (λ (z : Sizes). record { sizes = z; of = from_entries c.loop-entry.records.items }) c.geometry.ensures.value
    ∙ ap (λ (xs : List Entry). record { sizes = t.sizes; of = from_entries xs }) made
    ∙ named_entries c.args.id c.args.name.now t r.0 r.1
