-- The steps that rewrite the table program the pages of an eraseblock in ascending order between two erases.
use Rattle.ubi_change.proofs.Prelude.{◌≢◌, ℕ, inl, inr, List, Option, sym, subst, arith, cases_eq, Sizes, AttachValue, ec_at}
use Rattle.ubi_change.proofs.HeadersKept.{KeepAll, copy_keeps, keep-append}
use Rattle.ubi_change.proofs.PagesRise.{InOrder, copy_order}
use Rattle.ubi_change.proofs.StepsApart.{AllOff, copy_on, off-append, on_off, order_any, order_skip, release_on}
use Rattle.ubi_change.proofs.TableAttached as table
use Rattle.ubi_change.proofs.TableAttached.{Rewriting}

module _ (r : Rewriting) where
  abbrev s : Sizes
  s = table.s r

  abbrev bs : List (List ℕ)
  bs = table.bs r

  abbrev a : AttachValue
  a = table.a r

  off_copy0 : (p : ℕ) → p ≢ table.b0 r → p ≢ table.old0 r → AllOff p (table.steps0 r)
  off_copy0 p one two =
      off-append p (table.written0 r) (table.rel0 r)
      (on_off s (table.b0 r) p (table.written0 r) (copy_on s r.geometry bs a (table.b0 r) (table.header0 r) (table.new r)) one)
      (on_off s (table.old0 r) p (table.rel0 r) (release_on s r.geometry bs a (table.old0 r) (ec_at s bs (table.old0 r))) two)

  off_copy1 : (p : ℕ) → p ≢ table.b1 r → p ≢ table.old1 r → AllOff p (table.steps1 r)
  off_copy1 p one two =
      off-append p (table.written1 r) (table.rel1 r)
      (on_off s (table.b1 r) p (table.written1 r) (copy_on s r.geometry bs a (table.b1 r) (table.header1 r) (table.new r)) one)
      (on_off s (table.old1 r) p (table.rel1 r) (release_on s r.geometry bs a (table.old1 r) (ec_at s bs (table.old1 r))) two)

  -- they touch nothing but these four
  pub table_off : (p : ℕ) → p ≢ table.b0 r → p ≢ table.old0 r → p ≢ table.b1 r → p ≢ table.old1 r → AllOff p (table.steps r)
  table_off p one two three four =
      off-append p (table.steps0 r) (table.steps1 r) (off_copy0 p one two) (off_copy1 p three four)

  pub table_order : (p : ℕ) → InOrder p 0 (table.steps r)
  table_order p =
      let new = table.new r in
      let now0 = ec_at s bs (table.old0 r) in
      let now1 = ec_at s bs (table.old1 r) in
      elim (cases_eq p (table.b1 r)) [
        | inl same ↦ subst (λ (q : ℕ). InOrder q 0 (table.steps r)) (sym same)
            (order_skip (table.b1 r) 0 (table.steps0 r) (table.steps1 r)
            (off_copy0 (table.b1 r) (table.spares_apart r) (λ z. table.old0_b1 r (sym z)))
            (copy_order s r.geometry bs a (table.b1 r) (table.b1 r) 0 (table.header1 r) new (table.old1 r) now1
            (λ _. omega arith)))
        | inr apart ↦ order_any p 0 (table.steps0 r) (table.steps1 r)
            (copy_order s r.geometry bs a p (table.b0 r) 0 (table.header0 r) new (table.old0 r) now0 (λ _. omega arith))
            (λ m. copy_order s r.geometry bs a p (table.b1 r) m (table.header1 r) new (table.old1 r) now1
            (λ same. absurd (apart (sym same))))
      ]

  pub table_keeps : (last : Option ℕ) → KeepAll s last (table.os r) (table.steps r)
  table_keeps last =
      keep-append s last (table.os r) (table.steps0 r) (table.steps1 r)
      (copy_keeps s r.geometry bs a last (table.os r) (table.b0 r) (table.inside0 r) (table.made0 r).2.size (table.header0 r)
      (table.made0 r).2.ready (table.new r) (table.old0 r) (ec_at s bs (table.old0 r)))
      (λ l. copy_keeps s r.geometry bs a l (table.cs r) (table.b1 r) (table.inside1 r) (table.made1 r).2.size
      (table.header1 r) (table.made1 r).2.ready (table.new r) (table.old1 r) (ec_at s bs (table.old1 r)))
