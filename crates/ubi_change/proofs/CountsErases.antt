-- Each eraseblock that a plan erases has a Valid erase-counter header at the end, which counts each erase.
use Rattle.ubi_change.proofs.Prelude.{◌≡◌, ◌≢◌, ℕ, zero, suc, ◌+◌, ◌-◌, ◌*◌, ◌/◌, ◌%◌, ◌<◌, ◌≤◌, inl, inr, Bool, true, false, cond, List, [], ◌∷◌, ◌++◌, append_assoc, append-nil, length, map, set, refl, ap, sym, ◌∙◌, subst, arith, length-set, get_or-set_same, None, Option, Some, ◌==◌, count_by, fold, enumerate_from, option_map_or, first_chunks, nat_tests, set-set, take_all, fold-append, sum_by-append, same_Some, cases_eq, ec_bytes, ec_reading, filled, IsGeometry, Sizes, vid_bytes, EcHeader, EcRead, VidHeader, block, ec, valid_ec, ec-laid, laid, found_wins, AttachValue, CountsErases, counter_after, erases, blank_header, copy_header, leb_header, next_ec, mapped_plan, mount, plan_of, prepare, program_header, program_text, ready_bytes, ready_ec, release, renew, taken, unmapped_plan, block_after, step_done, target, ec_at, is_clean, is_sole_carrier, is_worn, stays, pages_of, Step}
use Rattle.std.specs.FinMap as finite
use Rattle.ubi_media.specs.declared.ec.EcRead.TheVariants as ec_read
use Rattle.ubi_change.specs.declared.step.Step.TheVariants as step
use Rattle.ubi_change.proofs.Attached as attached
use Rattle.ubi_change.proofs.TextWritten.{length-program_text, run_text}
use Rattle.ubi_change.proofs.Laid.{header_written}
use Rattle.ubi_change.proofs.PlanFits.{length-done}
use Rattle.ubi_change.proofs.Premises.{counter_behind, neither, next_counter, valid_counter}
use Rattle.ubi_change.proofs.Renewed.{IsCounter, counter_back, counter_size, renewed}
use Rattle.ubi_change.proofs.Replaced.{block_other, block_same}
use Rattle.ubi_change.proofs.Runs.{AllOn, after-all, done, done-on, on-append, run}
use Rattle.ubi_change.proofs.Torn.{pages-all}
use Rattle.ubi_change.proofs.Written.{ec-bare}
use Rattle.ubi_change.proofs.Attached.{Changing}
use Rattle.ubi_change.proofs.Runs.{if_renewed}

-- how often lists of steps erase an eraseblock
other_test : (q p : ℕ) → p ≢ q → (q == p) ≡ false
other_test q p e = grind (arith, nat_tests)

same_test : (p : ℕ) → (p == p) ≡ true
same_test p = grind (arith, nat_tests)

pub erases-append : (p : ℕ) (xs ys : List Step)
    → count_by (erases p) (xs ++ ys) ≡ count_by (erases p) xs + count_by (erases p) ys
erases-append p xs ys = sum_by-append (λ x. cond (erases p x) 1 0) xs ys

abbrev more : ℕ → ℕ → Step → ℕ
more p n x = n + cond (erases p x) 1 0

erases_other : (q p : ℕ) (x : Step) → target x ≡ q → p ≢ q → erases p x ≡ false
erases_other q p (step.Erase r) e apart = other_test r p (λ same. apart (same ∙ e))
erases_other q p (step.Program r page bytes) e apart = refl

-- steps on an eraseblock erase no other
none_from : (s : Sizes) (q p n : ℕ) (xs : List Step) → AllOn s q xs → p ≢ q → fold (more p) n xs ≡ n
none_from s q p n [] on apart = refl
none_from s q p n (x ∷ xs) on apart =
    let same : more p n x ≡ n = ap (λ b. n + cond b 1 0) (erases_other q p x on.0 apart) ∙ omega arith in
    ap (λ k. fold (more p) k xs) same ∙ none_from s q p n xs on.1 apart

pub erases_none : (s : Sizes) (q p : ℕ) (xs : List Step) → AllOn s q xs → p ≢ q → count_by (erases p) xs ≡ 0
erases_none s q p xs on apart = none_from s q p 0 xs on apart

-- nor do programs of pages
pages_from : (p q n i : ℕ) (es : List (List ℕ))
    → fold (more p) n (map (λ e. step.Program q e.0 e.1) (enumerate_from i es)) ≡ n
pages_from p q n i [] = refl
pages_from p q n i (e ∷ es) =
    let same : more p n (step.Program q i e) ≡ n = omega arith in
    ap (λ k. fold (more p) k (map (λ e. step.Program q e.0 e.1) (enumerate_from (i + 1) es))) same
    ∙ pages_from p q n (i + 1) es

pub pages_on : (s : Sizes) (q i : ℕ) (es : List (List ℕ))
    → AllOn s q (map (λ e. step.Program q e.0 e.1) (enumerate_from i es))
pages_on s q i [] = tt
pages_on s q i (e ∷ es) = (refl, pages_on s q (i + 1) es)

renew_once : (s : Sizes) (p : ℕ) (e : EcHeader) → count_by (erases p) (renew s p e) ≡ 1
renew_once s p e = ap (λ b. 0 + cond b 1 0 + 0) (same_test p)

valid_back : (o : EcRead) (e : EcHeader) → valid_ec o ≡ Some e → o ≡ ec_read.Valid e
valid_back ec_read.Blank e h = absurd (cc)
valid_back ec_read.Corrupt e h = absurd (cc)
valid_back (ec_read.Fault f) e h = absurd (cc)
valid_back (ec_read.Valid k) e h = cc

module _ (s : Sizes) (g : IsGeometry s) (bs : List (List ℕ)) (a : AttachValue) where
  -- what the erase-counter header of an eraseblock reads after some erases
  abbrev pub ec_after : ℕ → ℕ → EcRead
  ec_after p zero = ec s (block bs p)
  ec_after p (suc n) = ec_read.Valid (record { counter = counter_after s bs a p (suc n); image_seq = a.scan.image_seq })

  -- after these steps each header counts the erases
  abbrev pub AllCounted : List Step → Type 0
  AllCounted steps = (p : ℕ) → ec s (block (done s bs steps) p) ≡ ec_after p (count_by (erases p) steps)

  pub counted : (steps : List Step) → AllCounted steps → CountsErases s bs a steps
  counted steps all p some = ap (λ (z : List (List ℕ)). ec s (block z p)) (after-all s bs steps)
      ∙ by_count (count_by (erases p) steps) (ec s (block (done s bs steps) p)) some (all p)
    where
      by_count : (n : ℕ) (r : EcRead) → 1 ≤ n → r ≡ ec_after p n
          → r ≡ ec_read.Valid (record { counter = counter_after s bs a p n; image_seq = a.scan.image_seq })
      by_count zero r l e = absurd (omega arith)
      by_count (suc n) r l e = e

  -- steps on one eraseblock that leave it with the header that is due
  counted_at : (front piece : List Step) (b : ℕ) (y : List ℕ) → AllCounted front → b < length bs → AllOn s b piece
      → done s (done s bs front) piece ≡ set (done s bs front) b y
      → ec s y ≡ ec_after b (count_by (erases b) (front ++ piece)) → AllCounted (front ++ piece)
  counted_at front piece b y all inside on leaves due p = ap (λ (z : List (List ℕ)). ec s (block z p))
      (fold-append (step_done s) bs front piece ∙ leaves) ∙ elim (cases_eq p b) [
        | inl same ↦
            ap (λ q. ec s (block (set (done s bs front) b y) q)) same
            ∙ ap (ec s) (block_same s (done s bs front) b y within) ∙ due
            ∙ ap (λ q. ec_after q (count_by (erases q) (front ++ piece))) (sym same)
        | inr apart ↦
            let none : count_by (erases p) (front ++ piece) ≡ count_by (erases p) front =
            (let k = erases-append p front piece in let z = erases_none s b p piece on apart in omega arith) in
            ap (ec s) (block_other s (done s bs front) b y within p apart) ∙ all p ∙ ap (ec_after p) (sym none)
      ]
    where
      within : b < length (done s bs front)
      within = let n = length-done s bs front in omega arith

  first_count : (o : Option EcHeader) → option_map_or (λ h. h.counter + 1) o a.scan.mean_ec
      ≡ option_map_or (λ h. h.counter + 1) o (a.scan.mean_ec + 1 - 1)
  first_count None = omega arith
  first_count (Some h) = refl

  -- an eraseblock that was made ready has the header that is due
  ready_due : (b : ℕ) (e : EcHeader) → ready_ec s bs a b ≡ Some e
      → ec_read.Valid e ≡ ec_after b (count_by (erases b) (prepare s bs a b))
  ready_due b e is = by_test (is_clean s bs a.states b) is
    where
      by_test : (t : Bool) → cond t (ec_at s bs b) (Some (next_ec a.scan (ec_at s bs b))) ≡ Some e
          → ec_read.Valid e ≡ ec_after b (count_by (erases b) (cond t [] (renew s b (next_ec a.scan (ec_at s bs b)))))
      by_test true h = sym (valid_back (ec s (block bs b)) e h)
      by_test false h =
          ap ec_read.Valid (sym (same_Some _ _ h)
          ∙ ap (λ n. record { counter = n; image_seq = a.scan.image_seq }) (first_count (ec_at s bs b)))
          ∙ ap (ec_after b) (sym (renew_once s b (next_ec a.scan (ec_at s bs b))))

  pub prepare_on : (b : ℕ) → AllOn s b (prepare s bs a b)
  prepare_on b = if_renewed (AllOn s b) (is_clean s bs a.states b) tt (refl, (refl, tt))

  pub next_due : (p : ℕ) → ec_read.Valid (next_ec a.scan (ec_at s bs p)) ≡ ec_after p 1
  next_due p = ap ec_read.Valid
      (ap (λ n. record { counter = n; image_seq = a.scan.image_seq }) (first_count (ec_at s bs p)))

  -- and so has one that is given up behind that
  again_due : (p : ℕ) → ec_read.Valid (next_ec a.scan (ready_ec s bs a p))
      ≡ ec_after p (suc (count_by (erases p) (prepare s bs a p)))
  again_due p = by_test (is_clean s bs a.states p)
    where
      second_count : (o : Option EcHeader) → option_map_or (λ h. h.counter + 1) o a.scan.mean_ec + 1
          ≡ option_map_or (λ h. h.counter + 2) o (a.scan.mean_ec + 2 - 1)
      second_count None = omega arith
      second_count (Some h) = omega arith

      by_test : (t : Bool)
          → ec_read.Valid (next_ec a.scan (cond t (ec_at s bs p) (Some (next_ec a.scan (ec_at s bs p)))))
          ≡ ec_after p (suc (count_by (erases p) (cond t [] (renew s p (next_ec a.scan (ec_at s bs p))))))
      by_test true = next_due p
      by_test false =
          ap ec_read.Valid (ap (λ n. record { counter = n; image_seq = a.scan.image_seq })
          (second_count (ec_at s bs p)))
          ∙ ap (λ n. ec_after p (suc n)) (sym (renew_once s p (next_ec a.scan (ec_at s bs p))))

  -- an eraseblock is given up
  pub release_counted : (front : List Step) (p : ℕ) (now : Option EcHeader) → AllCounted front → p < length bs
      → (is_worn now ≡ false → IsCounter (next_ec a.scan now))
      → ec_read.Valid (next_ec a.scan now) ≡ ec_after p (suc (count_by (erases p) front))
      → AllCounted (front ++ release s bs a p now)
  release_counted front p now all inside counter due = by_test (stays s bs p now) refl
    where
      by_test : (t : Bool) → stays s bs p now ≡ t → AllCounted (front ++ cond t [] (renew s p (next_ec a.scan now)))
      by_test true w = subst AllCounted (sym (append-nil front)) all
      by_test false w =
          let e = next_ec a.scan now in
          let counts = counter (neither (is_worn now) (is_sole_carrier s bs p) w).0 in
          let once : suc (count_by (erases p) front) ≡ count_by (erases p) (front ++ renew s p e) =
          (let k = erases-append p front (renew s p e) in let n = renew_once s p e in omega arith) in
          counted_at front (renew s p e) p (filled s.peb_size (ec_bytes s e)) all inside (refl, (refl, tt))
          (renewed s g e counts (done s bs front) p (let n = length-done s bs front in omega arith))
          (ec-bare s g (ec_bytes s e) e (counter_size s g e counts) (counter_back s g e counts) ∙ due
          ∙ ap (ec_after p) once)

  -- an eraseblock is made ready, and gets a header
  module _ (front : List Step) (all : AllCounted front) (b : ℕ) (inside : b < length bs)
      (never : count_by (erases b) front ≡ 0) (e : EcHeader) (is : ready_ec s bs a b ≡ Some e)
      (size : length (ready_bytes s bs a b) ≡ 64) (reads : ec_reading s (ready_bytes s bs a b) ≡ ec_read.Valid e)
      (ready : done s (done s bs front) (prepare s bs a b)
      ≡ set (done s bs front) b (filled s.peb_size (ready_bytes s bs a b))) (h : VidHeader) where
    abbrev bytes : List ℕ
    bytes = ready_bytes s bs a b

    abbrev cs : List (List ℕ)
    cs = done s bs front

    abbrev header : Step
    header = program_header s b bytes h

    abbrev part : List ℕ → List ℕ
    part text = laid s bytes (vid_bytes h) text

    within : b < length cs
    within = let n = length-done s bs front in omega arith

    mount_on : AllOn s b (mount s bs a b h)
    mount_on = on-append s b (prepare s bs a b) (header ∷ []) (prepare_on b) (refl, tt)

    mount_leaves : done s cs (mount s bs a b h) ≡ set cs b (part [])
    mount_leaves =
        let x = filled s.peb_size bytes in
        fold-append (step_done s) cs (prepare s bs a b) (header ∷ []) ∙ ap (λ z. done s z (header ∷ [])) ready
        ∙ ap (λ y. set (set cs b x) b (block_after s y header)) (get_or-set_same cs b x [] within)
        ∙ set-set cs b x (block_after s x header) ∙ ap (set cs b) (header_written s g bytes (vid_bytes h) size refl)

    mount_erases : count_by (erases b) (front ++ mount s bs a b h) ≡ count_by (erases b) (prepare s bs a b)
    mount_erases =
        let n = erases-append b front (mount s bs a b h) in
        let m = erases-append b (prepare s bs a b) (header ∷ []) in
        let z : count_by (erases b) (header ∷ []) ≡ 0 = refl in
        omega arith

    ec_part : (text : List ℕ) → s.data_offset + length text ≤ s.peb_size → ec s (part text) ≡ ec_read.Valid e
    ec_part text room = ap (ec_reading s) (ec-laid s g bytes (vid_bytes h) size refl text room) ∙ reads

    mount_counted : AllCounted (front ++ mount s bs a b h)
    mount_counted =
        counted_at front (mount s bs a b h) b (part []) all inside mount_on mount_leaves
        (ec_part [] (let l = g.leb in omega arith) ∙ ready_due b e is ∙ ap (ec_after b) (sym mount_erases))

    -- and a text
    module _ (new : List ℕ) (paged : length new % s.page ≡ 0) (room : s.data_offset + length new ≤ s.peb_size) where
      abbrev pub text : List Step
      text = program_text s b new

      text_on : AllOn s b text
      text_on = pages_on s b (s.data_offset / s.page) (first_chunks s.page (pages_of s new) new)

      written_on : AllOn s b (mount s bs a b h ++ text)
      written_on = on-append s b (mount s bs a b h) text mount_on text_on

      run_all : run s (part []) text ≡ part new
      run_all =
          let n = length-program_text s b new in
          let p = pages-all s new paged in
          ap (run s (part [])) (sym (take_all (pages_of s new) text (omega arith)))
          ∙ run_text s g bytes (vid_bytes h) size refl b new (pages_of s new) p (omega arith)
          ∙ ap part (take_all (pages_of s new * s.page) new (omega arith))

      written_leaves : done s cs (mount s bs a b h ++ text) ≡ set cs b (part new)
      written_leaves =
          fold-append (step_done s) cs (mount s bs a b h) text ∙ ap (λ z. done s z text) mount_leaves
          ∙ done-on s (set cs b (part [])) b text (omega (arith, length-set cs b (part []), within)) text_on
          ∙ ap (λ y. set (set cs b (part [])) b (run s y text)) (get_or-set_same cs b (part []) [] within)
          ∙ set-set cs b (part []) (run s (part []) text) ∙ ap (set cs b) run_all

      written_erases : count_by (erases b) (front ++ (mount s bs a b h ++ text))
          ≡ count_by (erases b) (prepare s bs a b)
      written_erases =
          let n = erases-append b front (mount s bs a b h ++ text) in
          let m = erases-append b (mount s bs a b h) text in
          let k = erases-append b front (mount s bs a b h) in
          let j = mount_erases in
          let z : count_by (erases b) text ≡ 0 = pages_from b b 0 (s.data_offset / s.page)
          (first_chunks s.page (pages_of s new) new) in
          omega arith

      pub written_counted : AllCounted (front ++ (mount s bs a b h ++ text))
      written_counted =
          counted_at front (mount s bs a b h ++ text) b (part new) all inside written_on written_leaves
          (ec_part new room ∙ ready_due b e is ∙ ap (ec_after b) (sym written_erases))

module _ (change : Changing) where
  open change use {image, g, a, att, id, lnum, new, v}

  abbrev s : Sizes
  s = attached.s change

  abbrev bs : List (List ℕ)
  bs = attached.bs change

  start : AllCounted s g bs a []
  start p = refl

  mapped_counts : (old : ℕ) → finite.get a.scan.winners (id, lnum) ≡ Some old
      → AllCounted s g bs a (mapped_plan s bs a v.entry id lnum new (taken s bs a 0) old)
  mapped_counts old found =
      let made = attached.made change old found in
      let may = attached.may change old found in
      let apart = attached.old_apart change old found in
      let b = taken s bs a 0 in
      let h = copy_header (leb_header s v.entry id lnum) (a.scan.top_sqnum + 1) new in
      let written : List Step = mount s bs a b h ++ program_text s b new in
      let all : AllCounted s g bs a written = written_counted s g bs a [] start b may.0 refl made.0 made.1 made.2.size
      made.2.reads made.2.ready h new (attached.paged change) (attached.room change) in
      let on : AllOn s b written = written_on s g bs a [] start b may.0 refl made.0 made.1 made.2.size made.2.reads
      made.2.ready h new (attached.paged change) (attached.room change) in
      let never : count_by (erases old) written ≡ 0 = erases_none s b old written on apart in
      release_counted s g bs a written old (ec_at s bs old) all
      (found_wins s bs (record a.scan { top_sqnum = att.top }) att.scan (id, lnum) old found).member.inside (next_counter s bs a (attached.few change) (attached.narrow change) old)
      (next_due s g bs a old ∙ ap (λ n. ec_after s g bs a old (suc n)) (sym never))

  unmapped_counts : finite.get a.scan.winners (id, lnum) ≡ None
      → AllCounted s g bs a (unmapped_plan s bs a v.entry id lnum new (taken s bs a 0) (taken s bs a 1))
  unmapped_counts found =
      let made0 = attached.made0 change found in
      let made1 = attached.made1 change found in
      let may0 = attached.may0 change found in
      let may1 = attached.may1 change found in
      let apart = attached.apart change found in
      let e0 = taken s bs a 0 in
      let b1 = taken s bs a 1 in
      let h0 = blank_header (leb_header s v.entry id lnum) (a.scan.top_sqnum + 1) in
      let h1 = copy_header (leb_header s v.entry id lnum) (a.scan.top_sqnum + 2) new in
      let mount0 : List Step = mount s bs a e0 h0 in
      let written : List Step = mount s bs a b1 h1 ++ program_text s b1 new in
      let all0 : AllCounted s g bs a mount0 = mount_counted s g bs a [] start e0 may0.0 refl made0.0 made0.1
      made0.2.size made0.2.reads made0.2.ready h0 in
      let on0 : AllOn s e0 mount0 = mount_on s g bs a [] start e0 may0.0 refl made0.0 made0.1 made0.2.size made0.2.reads
      made0.2.ready h0 in
      let count0 : count_by (erases e0) mount0 ≡ count_by (erases e0) (prepare s bs a e0) =
      mount_erases s g bs a [] start e0 may0.0 refl made0.0 made0.1 made0.2.size made0.2.reads made0.2.ready h0 in
      let never : count_by (erases b1) mount0 ≡ 0 = erases_none s e0 b1 mount0 on0 apart in
      let ready1 = subst (λ (z : List (List ℕ)). done s z (prepare s bs a b1)
      ≡ set z b1 (filled s.peb_size (ready_bytes s bs a b1)))
      (sym (attached.mounted_done change found))
      made1.2.ready in
      let all1 : AllCounted s g bs a (mount0 ++ written) =
      written_counted s g bs a mount0 all0 b1 may1.0 never made1.0 made1.1 made1.2.size made1.2.reads ready1 h1 new
      (attached.paged change) (attached.room change) in
      let on1 : AllOn s b1 written = written_on s g bs a mount0 all0 b1 may1.0 never made1.0 made1.1 made1.2.size
      made1.2.reads ready1 h1 new (attached.paged change) (attached.room change) in
      let count1 : count_by (erases e0) written ≡ 0 = erases_none s b1 e0 written on1 (λ same. apart (sym same)) in
      let count : count_by (erases e0) (prepare s bs a e0) ≡ count_by (erases e0) (mount0 ++ written) =
      (let k = erases-append e0 mount0 written in omega arith) in
      subst (AllCounted s g bs a) (append_assoc mount0 written (release s bs a e0 (ready_ec s bs a e0)))
      (release_counted s g bs a (mount0 ++ written) e0 (ready_ec s bs a e0) all1 may0.0
      (λ fresh. subst (λ (o : Option EcHeader). IsCounter (next_ec a.scan o)) (sym made0.1)
      (counter_behind a (attached.narrow change) made0.0 (valid_counter s (ready_bytes s bs a e0) made0.0 made0.2.reads)
      (ap is_worn (sym made0.1) ∙ fresh)))
      (again_due s g bs a e0 ∙ ap (λ n. ec_after s g bs a e0 (suc n)) count))

  pub plan_counts : CountsErases s bs a (plan_of s bs a v.entry id lnum new)
  plan_counts = counted s g bs a (plan_of s bs a v.entry id lnum new)
      (by_winner (finite.get a.scan.winners (id, lnum)) refl)
    where
      by_winner : (o : Option ℕ) → finite.get a.scan.winners (id, lnum) ≡ o
          → AllCounted s g bs a (option_map_or (mapped_plan s bs a v.entry id lnum new (taken s bs a 0)) o
          (unmapped_plan s bs a v.entry id lnum new (taken s bs a 0) (taken s bs a 1)))
      by_winner (Some old) e = mapped_counts old e
      by_winner None e = unmapped_counts e
