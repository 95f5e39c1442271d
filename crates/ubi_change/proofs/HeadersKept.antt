-- A program of page 0 comes right after an erase, or keeps the bytes of the erase-counter header as they stand.
use Rattle.ubi_change.proofs.Prelude.{◌≡◌, ℕ, zero, suc, ◌+◌, ◌-◌, ◌*◌, ◌/◌, ◌%◌, ◌<◌, ◌≤◌, ◌⊎◌, inl, inr, true, cond, List, [], ◌∷◌, ◌++◌, append_assoc, length, map, set, take, refl, ap, sym, ◌∙◌, subst, arith, get_or-set_same, None, Option, Some, nat_lt, slice_get, enumerate_from, option_map_or, first_chunks, div-add-mod, mod-lt, nat_tests, take_at, same_Some, blank, filled, IsGeometry, Sizes, vid_bytes, EcHeader, VidHeader, block, ec_area, filled-by, filled-is, AttachValue, ComesFirst, Programs, blank_header, copy_header, leb_header, vid_page, atomic_copy, mapped_plan, mount, plan_of, prepare, program_header, program_text, ready_bytes, ready_ec, release, renew, taken, unmapped_plan, blocks_after, step_done, ec_at, is_clean, stays, pages_of, Step}
use Rattle.std.specs.FinMap as finite
use Rattle.ubi_change.specs.declared.step.Step.TheVariants as step
use Rattle.ubi_change.proofs.Attached as attached
use Rattle.ubi_change.proofs.PagePlaces.{vid_before}
use Rattle.ubi_change.proofs.PlanFits.{length-done}
use Rattle.ubi_change.proofs.Runs.{done}
use Rattle.ubi_change.proofs.Attached.{Changing}
use Rattle.ubi_change.proofs.Runs.{if_renewed}

no_program : (p q a : ℕ) (xs : List ℕ) → step.Erase q ≡ step.Program p a xs → ⊥
no_program p q a xs e = cc

not_here : (p : ℕ) → None ≡ Some p → ⊥
not_here p e = cc

module _ (s : Sizes) where
  -- each program of page 0, where the step before the first erases this eraseblock, or none
  abbrev pub KeepAll : Option ℕ → List (List ℕ) → List Step → Type 0
  KeepAll last bs [] = Unit {0}
  KeepAll last bs (step.Erase q ∷ xs) = KeepAll (Some q) (step_done s bs (step.Erase q)) xs
  KeepAll last bs (step.Program q b ys ∷ xs) =
      (b ≡ 0 → (last ≡ Some q) ⊎ (ec_area ys ≡ ec_area (block bs q)))
      × KeepAll None (step_done s bs (step.Program q b ys)) xs

  pub keep-append : (last : Option ℕ) (bs : List (List ℕ)) (xs ys : List Step) → KeepAll last bs xs
      → ((l : Option ℕ) → KeepAll l (done s bs xs) ys) → KeepAll last bs (xs ++ ys)
  keep-append last bs [] ys a b = b last
  keep-append last bs (step.Erase q ∷ xs) ys a b = keep-append (Some q) (step_done s bs (step.Erase q)) xs ys a b
  keep-append last bs (step.Program q page bytes ∷ xs) ys a b =
      (a.0, keep-append None (step_done s bs (step.Program q page bytes)) xs ys a.1 b)

  abbrev Kept : Option ℕ → List (List ℕ) → List Step → ℕ → ℕ → List ℕ → Type 0
  Kept last bs steps k p bytes = (((k ≡ 0) × (last ≡ Some p)) ⊎ ComesFirst steps k p)
      ⊎ (ec_area bytes ≡ ec_area (block (blocks_after s bs steps k) p))

  -- the step before the next
  one_back : (x : Step) (xs : List Step) (j p : ℕ) → ComesFirst xs j p → ComesFirst (x ∷ xs) (suc j) p
  one_back x xs zero p h = absurd (let l = h.0 in omega arith)
  one_back x xs (suc j) p h =
      let back : suc (suc j) - 1 ≡ suc j = omega arith in
      let same : j ≡ suc j - 1 = omega arith in
      (omega arith, ap (λ n. slice_get (x ∷ xs) n) back ∙ ap (λ n. slice_get xs n) same ∙ h.1)

  kept_at : (last : Option ℕ) (bs : List (List ℕ)) (steps : List Step) → KeepAll last bs steps
      → (k p : ℕ) (bytes : List ℕ) → Programs steps k p 0 bytes → Kept last bs steps k p bytes
  kept_at last bs [] a k p bytes at = absurd (cc)
  kept_at last bs (step.Erase q ∷ xs) a zero p bytes at = absurd (no_program p q 0 bytes (same_Some _ _ at))
  kept_at last bs (step.Program q page ys ∷ xs) a zero p bytes at =
      let same : step.Program q page ys ≡ step.Program p 0 bytes = same_Some _ _ at in
      let e : q ≡ p = cc in
      let f : page ≡ 0 = cc in
      let i : ys ≡ bytes = cc in
      elim (a.0 f) [
        | inl h ↦ inl (inl (refl, h ∙ ap (λ (n : ℕ). Some n) e))
        | inr h ↦ inr (ap ec_area (sym i) ∙ h ∙ ap (λ n. ec_area (block bs n)) e)
      ]
  kept_at last bs (step.Erase q ∷ xs) a (suc j) p bytes at =
      elim (kept_at (Some q) (step_done s bs (step.Erase q)) xs a j p bytes at) [
        | inr h ↦ inr h
        | inl f ↦ elim f [
          | inl h ↦
              let z = h.0 in
              let back : suc j - 1 ≡ 0 = omega arith in
              inl (inr (
                omega arith,
                ap (λ n. slice_get (step.Erase q ∷ xs) n) back
                    ∙ ap (λ n. Some (step.Erase n)) (same_Some q p h.1),
              ))
          | inr h ↦ inl (inr (one_back (step.Erase q) xs j p h))
        ]
      ]
  kept_at last bs (step.Program q page ys ∷ xs) a (suc j) p bytes at =
      elim (kept_at None (step_done s bs (step.Program q page ys)) xs a.1 j p bytes at) [
        | inr h ↦ inr h
        | inl f ↦ elim f [
          | inl h ↦ absurd (not_here p h.1)
          | inr h ↦ inl (inr (one_back (step.Program q page ys) xs j p h))
        ]
      ]

  pub keeps_all : (bs : List (List ℕ)) (steps : List Step) → KeepAll None bs steps → (k p : ℕ) (bytes : List ℕ)
      → Programs steps k p 0 bytes
      → ComesFirst steps k p ⊎ (ec_area bytes ≡ ec_area (block (blocks_after s bs steps k) p))
  keeps_all bs steps a k p bytes at = elim (kept_at None bs steps a k p bytes at) [
    | inr h ↦ inr h
    | inl f ↦ elim f [
      | inl h ↦ absurd (not_here p h.1)
      | inr h ↦ inl h
    ]
  ]

  renew_keeps : (last : Option ℕ) (bs : List (List ℕ)) (p : ℕ) (e : EcHeader) → KeepAll last bs (renew s p e)
  renew_keeps last bs p e = ((λ _. inl refl), tt)

  pages_keep : (last : Option ℕ) (bs : List (List ℕ)) (p i : ℕ) (es : List (List ℕ)) → 1 ≤ i
      → KeepAll last bs (map (λ e. step.Program p e.0 e.1) (enumerate_from i es))
  pages_keep last bs p i [] l = tt
  pages_keep last bs p i (e ∷ es) l = (
    (λ z. absurd (omega arith)),
    pages_keep None (step_done s bs (step.Program p i e)) p (i + 1) es (omega arith),
  )

less_test : (a b : ℕ) → a < b → nat_lt a b ≡ true
less_test a b l = grind (arith, nat_tests)

module _ (s : Sizes) (g : IsGeometry s) where
  front_of : (n : ℕ) (bytes : List ℕ) → length bytes ≡ 64 → ec_area (filled n bytes) ≡ bytes
  front_of n bytes size = ap (take 64) (filled-by n 64 bytes size) ∙ take_at bytes (blank (n - 64)) 64 size

  -- the page of a volume-identifier header that is page 0 starts with the erase-counter header
  page_front : (bytes : List ℕ) (h : VidHeader) → length bytes ≡ 64 → s.vid_offset / s.page ≡ 0
      → ec_area (vid_page s bytes h) ≡ bytes
  page_front bytes h size zero_page =
      let r = s.vid_offset % s.page in
      let split = div-add-mod s.vid_offset s.page in
      let none : s.page * (s.vid_offset / s.page) ≡ 0 = ap (λ q. s.page * q) zero_page ∙ omega arith in
      let less : r < s.page = mod-lt s.vid_offset (omega (arith, g.page_from)) in
      let inside : s.vid_offset < s.page = omega arith in
      let gap : List ℕ = blank (r - 64) in
      let rest : List ℕ = blank (s.page - length (filled r bytes ++ vid_bytes h)) in
      ap (λ b. take 64 (filled s.page (filled r (cond b bytes []) ++ vid_bytes h)))
      (less_test s.vid_offset s.page inside)
      ∙ ap (take 64) (filled-is s.page (filled r bytes ++ vid_bytes h)
      ∙ ap (λ x. (x ++ vid_bytes h) ++ rest) (filled-by r 64 bytes size)
      ∙ append_assoc (bytes ++ gap) (vid_bytes h) rest ∙ append_assoc bytes gap (vid_bytes h ++ rest))
      ∙ take_at bytes (gap ++ (vid_bytes h ++ rest)) 64 size

  module _ (bs : List (List ℕ)) (a : AttachValue) where
    prepare_keeps : (last : Option ℕ) (cs : List (List ℕ)) (p : ℕ) → KeepAll s last cs (prepare s bs a p)
    prepare_keeps last cs p = if_renewed (KeepAll s last cs) (is_clean s bs a.states p) tt (renew_keeps s last cs p _)

    release_keeps : (last : Option ℕ) (cs : List (List ℕ)) (p : ℕ) (now : Option EcHeader)
        → KeepAll s last cs (release s bs a p now)
    release_keeps last cs p now = if_renewed (KeepAll s last cs) (stays s bs p now) tt (renew_keeps s last cs p _)

    -- a header on an eraseblock that was made ready, and a text behind it
    module _ (last : Option ℕ) (cs : List (List ℕ)) (b : ℕ) (inside : b < length cs)
        (size : length (ready_bytes s bs a b) ≡ 64) (h : VidHeader)
        (ready : done s cs (prepare s bs a b) ≡ set cs b (filled s.peb_size (ready_bytes s bs a b))) where
      prepared : block (done s cs (prepare s bs a b)) b ≡ filled s.peb_size (ready_bytes s bs a b)
      prepared = ap (λ (z : List (List ℕ)). block z b) ready
          ∙ get_or-set_same cs b (filled s.peb_size (ready_bytes s bs a b)) [] inside

      mount_keeps : KeepAll s last cs (mount s bs a b h)
      mount_keeps =
          keep-append s last cs (prepare s bs a b) (program_header s b (ready_bytes s bs a b) h ∷ [])
          (prepare_keeps last cs b)
          (λ l. (
            (λ zero_page. inr (page_front (ready_bytes s bs a b) h size zero_page
                ∙ sym (front_of s.peb_size (ready_bytes s bs a b) size) ∙ ap ec_area (sym prepared))),
            tt,
          ))

      pub written_keeps : (new : List ℕ) → KeepAll s last cs (mount s bs a b h ++ program_text s b new)
      written_keeps new =
          let before = vid_before s g in
          keep-append s last cs (mount s bs a b h) (program_text s b new) mount_keeps
          (λ l. pages_keep s l (done s cs (mount s bs a b h)) b (s.data_offset / s.page)
          (first_chunks s.page (pages_of s new) new) (omega arith))

      pub copy_keeps : (new : List ℕ) (old : ℕ) (now : Option EcHeader)
          → KeepAll s last cs (atomic_copy s bs a b h new old now)
      copy_keeps new old now =
          keep-append s last cs (mount s bs a b h ++ program_text s b new) (release s bs a old now) (written_keeps new)
          (λ l. release_keeps l (done s cs (mount s bs a b h ++ program_text s b new)) old now)

module _ (change : Changing) where
  open change use {image, g, a, att, id, lnum, new, v}

  abbrev s : Sizes
  s = attached.s change

  abbrev bs : List (List ℕ)
  bs = attached.bs change

  mapped_keeps : (old : ℕ) → finite.get a.scan.winners (id, lnum) ≡ Some old
      → KeepAll s None bs (mapped_plan s bs a v.entry id lnum new (taken s bs a 0) old)
  mapped_keeps old found =
      let made = attached.made change old found in
      let may = attached.may change old found in
      copy_keeps s g bs a None bs (taken s bs a 0) may.0 made.2.size
      (copy_header (leb_header s v.entry id lnum) (a.scan.top_sqnum + 1) new) made.2.ready new old (ec_at s bs old)

  unmapped_keeps : finite.get a.scan.winners (id, lnum) ≡ None
      → KeepAll s None bs (unmapped_plan s bs a v.entry id lnum new (taken s bs a 0) (taken s bs a 1))
  unmapped_keeps found =
      let made0 = attached.made0 change found in
      let made1 = attached.made1 change found in
      let may0 = attached.may0 change found in
      let may1 = attached.may1 change found in
      let e0 = taken s bs a 0 in
      let b1 = taken s bs a 1 in
      let h0 = blank_header (leb_header s v.entry id lnum) (a.scan.top_sqnum + 1) in
      let h1 = copy_header (leb_header s v.entry id lnum) (a.scan.top_sqnum + 2) new in
      let rest : List Step = atomic_copy s bs a b1 h1 new e0 (ready_ec s bs a e0) in
      let left = attached.mounted_done change found in
      let ready1 = subst (λ (z : List (List ℕ)). done s z (prepare s bs a b1)
      ≡ set z b1 (filled s.peb_size (ready_bytes s bs a b1))) (sym left) made1.2.ready in
      let n = length-done s bs (mount s bs a e0 h0) in
      let b1_inside : b1 < length bs = may1.0 in
      keep-append s None bs (mount s bs a e0 h0) rest
      (mount_keeps s g bs a None bs e0 may0.0 made0.2.size h0 made0.2.ready)
      (λ l. copy_keeps s g bs a l (done s bs (mount s bs a e0 h0)) b1 (omega arith) made1.2.size h1 ready1 new e0
      (ready_ec s bs a e0))

  pub plan_keeps : (k p : ℕ) (bytes : List ℕ) → Programs (plan_of s bs a v.entry id lnum new) k p 0 bytes
      → ComesFirst (plan_of s bs a v.entry id lnum new) k p
      ⊎ (ec_area bytes ≡ ec_area (block (blocks_after s bs (plan_of s bs a v.entry id lnum new) k) p))
  plan_keeps = keeps_all s bs (plan_of s bs a v.entry id lnum new)
      (by_winner (finite.get a.scan.winners (id, lnum)) refl)
    where
      by_winner : (o : Option ℕ) → finite.get a.scan.winners (id, lnum) ≡ o
          → KeepAll s None bs (option_map_or (mapped_plan s bs a v.entry id lnum new (taken s bs a 0)) o
          (unmapped_plan s bs a v.entry id lnum new (taken s bs a 0) (taken s bs a 1)))
      by_winner (Some old) e = mapped_keeps old e
      by_winner None e = unmapped_keeps e
