-- The steps that rewrite the table erase what held a copy once the new one is good, and count each erase.
use Rattle.ubi_change.proofs.Prelude.{◌≡◌, ℕ, zero, suc, ◌+◌, ◌%◌, ◌<◌, ◌≤◌, false, List, ◌++◌, append_assoc, length, refl, ap, sym, subst, ◌∙◌, arith, length-append, fold-append, count_by, filled, set, Sizes, CopyIs, AttachValue, records_of, erases, Erases, holder, prepare, ready_bytes, blocks_after, step_done, ec_at, stays, Step}
use Rattle.ubi_table.specs.declared.copy.CopyRead.TheVariants as copy
use Rattle.ubi_change.proofs.CountsErases.{AllCounted, ec_after, erases-append, erases_none, next_due, release_counted, written_counted}
use Rattle.ubi_change.proofs.GivenUp.{erased_behind, step_before, step_behind, whole_by}
use Rattle.ubi_change.proofs.Premises.{next_counter}
use Rattle.ubi_change.proofs.Runs.{after-back, after-front, done}
use Rattle.ubi_change.proofs.StepsApart.{copy_on, release_on}
use Rattle.ubi_change.proofs.TableAttached as table
use Rattle.ubi_change.proofs.TableAttached.{Rewriting}
use Rattle.ubi_change.proofs.TablePages.{pages_paged, pages_room}

module _ (r : Rewriting) where
  abbrev s : Sizes
  s = table.s r

  abbrev bs : List (List ℕ)
  bs = table.bs r

  abbrev os : List (List ℕ)
  os = table.os r

  abbrev a : AttachValue
  a = table.a r

  abbrev new : List ℕ
  new = table.new r

  abbrev b0 : ℕ
  b0 = table.b0 r

  abbrev b1 : ℕ
  b1 = table.b1 r

  abbrev old0 : ℕ
  old0 = table.old0 r

  abbrev old1 : ℕ
  old1 = table.old1 r

  abbrev steps : List Step
  steps = table.steps r

  abbrev written0 : List Step
  written0 = table.written0 r

  abbrev written1 : List Step
  written1 = table.written1 r

  abbrev steps0 : List Step
  steps0 = table.steps0 r

  abbrev rel0 : List Step
  rel0 = table.rel0 r

  abbrev rel1 : List Step
  rel1 = table.rel1 r

  paged : length new % s.page ≡ 0
  paged = pages_paged s r.geometry (records_of (table.n r)) (table.size r)

  -- what is given up, by when
  abbrev pub GivesUp : ℕ → ℕ → Type 0
  GivesUp c p = (k : ℕ) × (k ≤ length steps) × Erases steps k p
      × CopyIs s (blocks_after s os steps k) c (copy.Good (records_of (table.n r)))

  gives_first : stays s bs old0 (ec_at s bs old0) ≡ false → GivesUp 0 old0
  gives_first fresh =
      let by = whole_by s bs a b0 (table.header0 r) new paged in
      let few : length written0 ≤ length steps0 = (let n = length-append written0 rel0 in omega arith) in
      let half = (table.first r).from (length written0) by few in (
        length written0,
        (let n = length-append steps0 (table.steps1 r) in omega arith),
        step_before steps0 (table.steps1 r) (length written0) _
            (erased_behind s bs a written0 old0 (ec_at s bs old0) fresh),
        subst (λ (z : List (List ℕ)). CopyIs s z 0 (copy.Good (records_of (table.n r))))
            (sym (after-front s os steps0 (table.steps1 r) (length written0) few))
            (b0, half.wins_first, half.good),
      )

  gives_second : stays s bs old1 (ec_at s bs old1) ≡ false → GivesUp 1 old1
  gives_second fresh =
      let by = whole_by s bs a b1 (table.header1 r) new paged in
      let few : length written1 ≤ length (table.steps1 r) = (let n = length-append written1 rel1 in omega arith) in (
        length steps0 + length written1,
        (let n = length-append steps0 (table.steps1 r) in omega arith),
        step_behind steps0 (table.steps1 r) (length steps0 + length written1) (length written1) refl
            ∙ erased_behind s bs a written1 old1 (ec_at s bs old1) fresh,
        subst (λ (z : List (List ℕ)). CopyIs s z 1 (copy.Good (records_of (table.n r))))
            (sym (after-back s os steps0 (table.steps1 r) (length written1)))
            ((table.second r).from (length written1) by few).both.1,
      )

  pub table_gives_up : (c : ℕ) → c < 2 → stays s bs (holder s bs a c) (ec_at s bs (holder s bs a c)) ≡ false
      → GivesUp c (holder s bs a c)
  table_gives_up zero l fresh = gives_first fresh
  table_gives_up (suc zero) l fresh = gives_second fresh
  table_gives_up (suc (suc c)) l fresh = absurd (omega arith)

  -- what is counted, behind steps that never erased these four
  module _ (front : List Step) (all : AllCounted s r.geometry bs a front) (is : done s bs front ≡ os)
      (none_b0 : count_by (erases b0) front ≡ 0) (none_b1 : count_by (erases b1) front ≡ 0)
      (none_old0 : count_by (erases old0) front ≡ 0) (none_old1 : count_by (erases old1) front ≡ 0) where
    pub table_counts : AllCounted s r.geometry bs a (front ++ steps)
    table_counts =
        let g = r.geometry in
        let room = pages_room s g (records_of (table.n r)) (table.size r) in
        let made0 = table.made0 r in
        let made1 = table.made1 r in
        let on0 = copy_on s g bs a b0 (table.header0 r) new in
        let on1 = copy_on s g bs a b1 (table.header1 r) new in
        let out0 = release_on s g bs a old0 (ec_at s bs old0) in
        let size = r.filling.size in
        let old0_inside : old0 < length bs = (let l = (table.wins0 r).member.inside in omega arith) in
        let old1_inside : old1 < length bs = (let l = (table.wins1 r).member.inside in omega arith) in
        let ready0 : done s (done s bs front) (prepare s bs a b0)
        ≡ set (done s bs front) b0 (filled s.peb_size (ready_bytes s bs a b0)) =
        subst (λ (z : List (List ℕ)). done s z (prepare s bs a b0) ≡ set z b0 (filled s.peb_size (ready_bytes s bs a b0)))
        (sym is) made0.2.ready in
        let first : AllCounted s g bs a (front ++ written0) =
        written_counted s g bs a front all b0 (table.may0 r).0 none_b0 made0.0 made0.1 made0.2.size made0.2.reads ready0
        (table.header0 r) new paged room in
        let fresh0 : count_by (erases old0) (front ++ written0) ≡ 0 =
        (let j = erases-append old0 front written0 in
        let x = erases_none s b0 old0 written0 on0 (table.old0_b0 r) in
        omega arith) in
        let half : AllCounted s g bs a (front ++ steps0) =
        subst (AllCounted s g bs a) (append_assoc front written0 rel0)
        (release_counted s g bs a (front ++ written0) old0 (ec_at s bs old0) first old0_inside
        (next_counter s bs a (table.few r) (table.narrow r) old0)
        (next_due s g bs a old0 ∙ ap (λ n. ec_after s g bs a old0 (suc n)) (sym fresh0))) in
        let never : count_by (erases b1) (front ++ steps0) ≡ 0 =
        (let i = erases-append b1 front steps0 in
        let k = erases-append b1 written0 rel0 in
        let x = erases_none s b0 b1 written0 on0 (table.spares_apart r) in
        let y = erases_none s old0 b1 rel0 out0 (λ z. table.old0_b1 r (sym z)) in
        omega arith) in
        let between : done s bs (front ++ steps0) ≡ table.cs r =
        fold-append (step_done s) bs front steps0 ∙ ap (λ (z : List (List ℕ)). done s z steps0) is in
        let ready1 : done s (done s bs (front ++ steps0)) (prepare s bs a b1)
        ≡ set (done s bs (front ++ steps0)) b1 (filled s.peb_size (ready_bytes s bs a b1)) =
        subst (λ (z : List (List ℕ)). done s z (prepare s bs a b1) ≡ set z b1 (filled s.peb_size (ready_bytes s bs a b1)))
        (sym between) made1.2.ready in
        let second : AllCounted s g bs a (front ++ steps0 ++ written1) =
        written_counted s g bs a (front ++ steps0) half b1 (table.may1 r).0 never made1.0 made1.1 made1.2.size made1.2.reads
        ready1 (table.header1 r) new paged room in
        let fresh1 : count_by (erases old1) (front ++ steps0 ++ written1) ≡ 0 =
        (let i = erases-append old1 front steps0 in
        let j = erases-append old1 (front ++ steps0) written1 in
        let k = erases-append old1 written0 rel0 in
        let x = erases_none s b0 old1 written0 on0 (table.old1_b0 r) in
        let y = erases_none s old0 old1 rel0 out0 (table.holders_apart r) in
        let z = erases_none s b1 old1 written1 on1 (table.old1_b1 r) in
        omega arith) in
        let last : AllCounted s g bs a (front ++ steps0 ++ written1 ++ rel1) =
        release_counted s g bs a (front ++ steps0 ++ written1) old1 (ec_at s bs old1) second old1_inside
        (next_counter s bs a (table.few r) (table.narrow r) old1)
        (next_due s g bs a old1 ∙ ap (λ n. ec_after s g bs a old1 (suc n)) (sym fresh1)) in
        subst (AllCounted s g bs a)
        (append_assoc (front ++ steps0) written1 rel1 ∙ append_assoc front steps0 (table.steps1 r)) last
