-- The plan of a commit touches only the eraseblocks that hold the copies of the table, and as many of the first that may be taken
-- as it needs. So it touches nothing that it avoids.
use Rattle.ubi_change.proofs.Prelude.{ℕ, suc, ◌+◌, ◌<◌, ◌≤◌, List, [], ◌∷◌, ◌++◌, length, take, refl, sym, subst, arith, Contains, Sizes, Image, eraseblocks, of_blocks, Wins, layout, records_of, IsAttached, Avoided, Avoids, ReadBlank, TouchesOnly, avoiding, AttachValue, ec_at, holder, taken, takeable, Step, Laid, lay, lay_all, numbered, table_plan, trimmed}
use Rattle.ubi_change.proofs.AvoidedKept.{avoids_each, takeable_may, winner_may}
use Rattle.ubi_change.proofs.CommitAttached as commit
use Rattle.ubi_change.proofs.CommitAttached.{Committing}
use Rattle.ubi_change.proofs.TableAttached as table
use Rattle.ubi_change.proofs.Touched.{TouchAll, copy_touches, in_front, touch-append, touch_all, written_touches}

-- what a commit may touch: the holders, and the first n that may be taken
abbrev pub for_commit : Sizes → List (List ℕ) → AttachValue → ℕ → List ℕ
for_commit s bs a n = holder s bs a 0 ∷ holder s bs a 1 ∷ take n (takeable s bs a.states)

module _ (c : Committing) where
  abbrev s : Sizes
  s = commit.s c

  abbrev bs : List (List ℕ)
  bs = commit.bs c

  abbrev a : AttachValue
  a = commit.a c

  abbrev needs : ℕ
  needs = length c.laid + 2

  abbrev ps : List ℕ
  ps = for_commit s bs a needs

  enough : needs ≤ length (takeable s bs a.states)
  enough = c.enough

  taken_touched : (n : ℕ) → n < needs → Contains ps (taken s bs a n)
  taken_touched n l =
      let k = in_front needs n (takeable s bs a.states) (holder s bs a 1) l (let e = enough in omega arith) in
      (suc k.0, (let m = k.1 in omega arith), k.2)

  lays_touch : (ls : List Laid) (k : ℕ) → k + length ls ≤ needs → TouchAll ps (lay_all s bs a k ls)
  lays_touch [] k l = tt
  lays_touch (x ∷ ls) k l =
      touch-append ps (lay s bs a k x) (lay_all s bs a (k + 1) ls)
      (written_touches s bs a ps (taken s bs a k) (numbered s bs a k x) (trimmed s x.text) (taken_touched k (omega arith)))
      (lays_touch ls (k + 1) (omega arith))

  table_touches : TouchAll ps (table.steps (commit.w c))
  table_touches =
      let r = commit.w c in
      touch-append ps (table.steps0 r) (table.steps1 r)
      (copy_touches s bs a ps (table.b0 r) (table.header0 r) (table.new r) (table.old0 r) (ec_at s bs (table.old0 r))
      (taken_touched (length c.laid) (omega arith)) (0, omega arith, refl))
      (copy_touches s bs a ps (table.b1 r) (table.header1 r) (table.new r) (table.old1 r) (ec_at s bs (table.old1 r))
      (taken_touched (length c.laid + 1) (omega arith)) (1, omega arith, refl))

  pub commit_touches : TouchesOnly ps (lay_all s bs a 0 c.laid ++ table_plan s bs a (length c.laid) (commit.n c))
  commit_touches =
      subst (TouchesOnly ps) (sym (commit.plan-is c))
      (touch_all ps (commit.steps c)
      (touch-append ps (commit.lays c) (table.steps (commit.w c)) (lays_touch c.laid 0 (omega arith)) table_touches))

-- what a plan avoids it doesn't touch
pub commit_avoids : (image : Image) (av : Avoided) (from : AttachValue) (att : IsAttached image from)
    (blank : of_blocks ReadBlank image av) (n : ℕ) (steps : List Step)
    → ((k : ℕ) → k < 2 → of_blocks Wins image (layout, k) (of_blocks holder image (avoiding av from) k))
    → TouchesOnly (of_blocks for_commit image (avoiding av from) n) steps → of_blocks Avoids image av steps
commit_avoids image av from att blank n steps held touches =
    let s = image.sizes in
    let bs = eraseblocks image in
    let a = avoiding av from in
    avoids_each s bs av (for_commit s bs a n) steps touches (
      winner_may s bs av (records_of from.meaning) (layout, 0) (holder s bs a 0) blank (held 0 (omega arith)),
      (
        winner_may s bs av (records_of from.meaning) (layout, 1) (holder s bs a 1) blank (held 1 (omega arith)),
        takeable_may image av from att blank n,
      ),
    )
