-- Each step of a plan fits what those before it leave.
use Rattle.ubi_change.proofs.Prelude.{◌≡◌, ℕ, ◌+◌, ◌%◌, ◌<◌, ◌≤◌, List, [], ◌∷◌, ◌++◌, length, set, refl, ap, sym, ◌∙◌, subst, arith, length-set, get_or-set_same, None, Option, Some, option_map_or, fold-append, AreBytes, filled, IsGeometry, Sizes, vid_bytes, EcHeader, VidHeader, block, laid, found_wins, AttachValue, AllFit, blank_header, copy_header, leb_header, atomic_copy, mapped_plan, plan_of, prepare, program_header, program_text, ready_bytes, ready_ec, release, taken, unmapped_plan, step_done, ec_at, is_clean, stays, Step}
use Rattle.std.specs.FinMap as finite
use Rattle.ubi_change.proofs.Attached as attached
use Rattle.ubi_change.proofs.CopyFits.{bytes-ec, header_done, header_fits, text_fits}
use Rattle.ubi_change.proofs.Fits.{FitAll, all_fit, fit-append, renew_fits}
use Rattle.ubi_change.proofs.Runs.{done}
use Rattle.ubi_change.proofs.Torn.{pages-all}
use Rattle.ubi_change.proofs.Attached.{Changing}
use Rattle.ubi_change.proofs.Runs.{if_renewed}

module _ (s : Sizes) where
  -- steps change no number of eraseblocks
  pub length-done : (bs : List (List ℕ)) (steps : List Step) → length (done s bs steps) ≡ length bs
  length-done bs [] = refl
  length-done bs (x ∷ xs) = length-done (step_done s bs x) xs ∙ length-set bs _ _

module _ (s : Sizes) (g : IsGeometry s) (bs : List (List ℕ)) (a : AttachValue) where
  -- an eraseblock is made ready, or given up, whatever stands in the others
  prepare_fits : (cs : List (List ℕ)) (p : ℕ) → p < length cs → FitAll s cs (prepare s bs a p)
  prepare_fits cs p inside = if_renewed (FitAll s cs) (is_clean s bs a.states p) tt
      (renew_fits s g _ (bytes-ec s _) cs p inside)

  release_fits : (cs : List (List ℕ)) (p : ℕ) (now : Option EcHeader) → p < length cs
      → FitAll s cs (release s bs a p now)
  release_fits cs p now inside = if_renewed (FitAll s cs) (stays s bs p now) tt
      (renew_fits s g _ (bytes-ec s _) cs p inside)

  -- a header on an eraseblock that was made ready
  module _ (cs : List (List ℕ)) (b : ℕ) (inside : b < length cs) (bytes : List ℕ) (size : length bytes ≡ 64)
      (h : VidHeader) (small : h.compat < 256)
      (ready : done s cs (prepare s bs a b) ≡ set cs b (filled s.peb_size bytes)) where
    prepared : block (done s cs (prepare s bs a b)) b ≡ filled s.peb_size bytes
    prepared = ap (λ (z : List (List ℕ)). block z b) ready ∙ get_or-set_same cs b (filled s.peb_size bytes) [] inside

    within : b < length (done s cs (prepare s bs a b))
    within = omega (arith, length-done s cs (prepare s bs a b))

    mount_fits : FitAll s cs (prepare s bs a b ++ program_header s b bytes h ∷ [])
    mount_fits =
        fit-append s cs (prepare s bs a b) (program_header s b bytes h ∷ []) (prepare_fits cs b inside)
        (header_fits s g bytes size h small (done s cs (prepare s bs a b)) b within prepared)

    -- with a text behind it, and then another eraseblock given up
    module _ (new : List ℕ) (paged : length new % s.page ≡ 0) (room : s.data_offset + length new ≤ s.peb_size)
        (are : AreBytes new) where
      abbrev pub mount : List Step
      mount = prepare s bs a b ++ program_header s b bytes h ∷ []

      mounted : block (done s cs mount) b ≡ laid s bytes (vid_bytes h) []
      mounted =
          ap (λ (z : List (List ℕ)). block z b)
          (fold-append (step_done s) cs (prepare s bs a b) (program_header s b bytes h ∷ []))
          ∙ header_done s g bytes size h small (done s cs (prepare s bs a b)) b within prepared

      pub written_fits : FitAll s cs (mount ++ program_text s b new)
      written_fits =
          let n = length-done s cs mount in
          fit-append s cs mount (program_text s b new) mount_fits
          (text_fits s g bytes size h small (done s cs mount) b (omega (arith, n)) new (pages-all s new paged) room are
          mounted)

      pub copy_fits : (old : ℕ) (now : Option EcHeader) → old < length cs
          → FitAll s cs (mount ++ program_text s b new ++ release s bs a old now)
      copy_fits old now there =
          let m = length-done s cs (mount ++ program_text s b new) in
          fit-append s cs (mount ++ program_text s b new) (release s bs a old now) written_fits
          (release_fits (done s cs (mount ++ program_text s b new)) old now (omega (arith, m)))

module _ (change : Changing) (are : AreBytes change.new) where
  open change use {image, g, a, att, id, lnum, new, v}

  abbrev s : Sizes
  s = attached.s change

  abbrev bs : List (List ℕ)
  bs = attached.bs change

  mapped_fits : (old : ℕ) → finite.get a.scan.winners (id, lnum) ≡ Some old
      → FitAll s bs (mapped_plan s bs a v.entry id lnum new (taken s bs a 0) old)
  mapped_fits old found =
      let made = attached.made change old found in
      let may = attached.may change old found in
      copy_fits s g bs a bs (taken s bs a 0) may.0 (ready_bytes s bs a (taken s bs a 0)) made.2.size
      (copy_header (leb_header s v.entry id lnum) (a.scan.top_sqnum + 1) new) (omega arith)
      made.2.ready new (attached.paged change) (attached.room change) are old (ec_at s bs old)
      (found_wins s bs (record a.scan { top_sqnum = att.top }) att.scan (id, lnum) old found).member.inside

  unmapped_fits : finite.get a.scan.winners (id, lnum) ≡ None
      → FitAll s bs (unmapped_plan s bs a v.entry id lnum new (taken s bs a 0) (taken s bs a 1))
  unmapped_fits found =
      let made0 = attached.made0 change found in
      let made1 = attached.made1 change found in
      let may0 = attached.may0 change found in
      let may1 = attached.may1 change found in
      let e0 = taken s bs a 0 in
      let b1 = taken s bs a 1 in
      let header0 = blank_header (leb_header s v.entry id lnum) (a.scan.top_sqnum + 1) in
      let cs = attached.cs change found in
      let mount0 = prepare s bs a e0 ++ program_header s e0 (ready_bytes s bs a e0) header0 ∷ [] in
      let first : FitAll s bs mount0 = mount_fits s g bs a bs e0 may0.0 (ready_bytes s bs a e0) made0.2.size header0
      (omega arith) made0.2.ready in
      let n = length-set bs e0 (laid s (ready_bytes s bs a e0) (vid_bytes header0) []) in
      let e0_inside : e0 < length bs = may0.0 in
      let b1_inside : b1 < length bs = may1.0 in
      let second = copy_fits s g bs a cs b1 (omega arith) (ready_bytes s bs a b1) made1.2.size
      (copy_header (leb_header s v.entry id lnum) (a.scan.top_sqnum + 2) new) (omega arith)
      made1.2.ready new (attached.paged change) (attached.room change) are e0 (ready_ec s bs a e0) (omega arith) in
      let rest : List Step = atomic_copy s bs a b1
      (copy_header (leb_header s v.entry id lnum) (a.scan.top_sqnum + 2) new) new e0 (ready_ec s bs a e0) in
      fit-append s bs mount0 rest first
      (subst (λ (z : List (List ℕ)). FitAll s z rest)
      (sym (attached.mounted_done change found)) second)

  pub plan_fits : AllFit s bs (plan_of s bs a v.entry id lnum new)
  plan_fits = all_fit s bs (plan_of s bs a v.entry id lnum new) (by_winner (finite.get a.scan.winners (id, lnum)) refl)
    where
      by_winner : (o : Option ℕ) → finite.get a.scan.winners (id, lnum) ≡ o
          → FitAll s bs (option_map_or (mapped_plan s bs a v.entry id lnum new (taken s bs a 0)) o
          (unmapped_plan s bs a v.entry id lnum new (taken s bs a 0) (taken s bs a 1)))
      by_winner (Some old) e = mapped_fits old e
      by_winner None e = unmapped_fits e
