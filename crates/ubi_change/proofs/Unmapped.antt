-- A LEB without a winner is first mapped with a plain blank eraseblock: the meaning stays, and then it has a winner.
use Rattle.ubi_change.proofs.Prelude.{◌≡◌, ◌≢◌, ℕ, zero, suc, ◌+◌, ◌-◌, ◌/◌, ◌^◌, ◌<◌, ◌≤◌, inl, inr, true, List, [], ◌∷◌, ◌++◌, length, set, take, refl, ap, sym, ◌∙◌, subst, arith, length-set, None, Option, Some, unwrap_or, FinMap, nat_cmp, nat_tests, set-set, take-replicate, fold-append, blank, filled, Sizes, IsGeometry, leb_size, data_pad, usable, breaks, fields_from, vid_bytes, vid_fault, VidFits, EcHeader, VolumeRecord, VidHeader, leb, IsMember, Leb, NoMember, Wins, has_members, sqnum_at, Agrees, Records, AllBlank, AcceptsBlocks, IsUnlike, SlotMeans, LebReads, Meant, Volume, changed, blank_header, copy_header, leb_header, program_header, program_text, block_after, step_done, pages_needed, Step, laid, block, Bool, is_blank, drop, pages_of, MayBeHarmed, NoChance, blank_holds, first_fault}
use Rattle.std.specs.FinMap as finite
use Rattle.std.proofs.lemmas.List.{get_or-set_same}
use Rattle.ubi_volume.specs.declared.content.Content.TheVariants as content
use Rattle.ubi_change.proofs.CopyReplaced.{IsPrepared, IsRelease}
use Rattle.ubi_change.proofs.Changed.{unchanged}
use Rattle.ubi_change.proofs.Laid.{header_written}
use Rattle.ubi_change.proofs.Mapped.{IsNew, mapped, mapped_tears, used_by_volume}
use Rattle.ubi_change.proofs.Emptied.{AreBelow}
use Rattle.ubi_change.proofs.Newest.{newest_below, newest_wins, others_lose}
use Rattle.ubi_change.proofs.Mounted.{IsChanged, IsMount, mounted-records, mounted_good, recorded_by}
use Rattle.ubi_change.proofs.Runs.{AtEachCut, TurnsAt, after-all, cuts-append, done, turns-behind}
use Rattle.ubi_change.proofs.Seq.{NamedBeside}
use Rattle.ubi_change.proofs.TornBlocks.{torn_header}
use Rattle.ubi_change.proofs.TornCopy.{EitherAt, later, leb-ready}
use Rattle.ubi_change.proofs.TornRuns.{AtEachTear, TearIs, one_tear, tears-append, tears-weaken}
use Rattle.ubi_change.proofs.Vacated.{LosesAll, agrees_set, beside_set, vacated}
use Rattle.ubi_change.proofs.Written.{ec-bare, ec-part, leb-part, part-mount, seq-part, vid-bare, vid-part}

module _ (s : Sizes) (r : VolumeRecord) (id lnum sqnum : ℕ) (slot : id < 128) (number : lnum < 2 ^ 31)
    (half : data_pad s r < leb_size s / 2) (wide : leb_size s < 2 ^ 31) where
  pub blank_sound : vid_fault s (blank_header (leb_header s r id lnum) sqnum) ≡ None
  unfolding first_fault breaks fields_from
  blank_sound = grind (arith, nat_tests)

  pub blank_fits : sqnum < 2 ^ 64 → VidFits (blank_header (leb_header s r id lnum) sqnum)
  blank_fits few = record {
    vol_id = omega arith;
    lnum = omega arith;
    data_size = omega arith;
    used_ebs = omega arith;
    data_pad = omega arith;
    data_crc = omega arith;
    sqnum = few;
  }

user_known : (vol : ℕ) → vol < 128 → has_members vol ≡ true
user_known vol l = grind (arith, nat_tests)

module _ (s : Sizes) (g : IsGeometry s) (bs : List (List ℕ)) (m : Meant) (a : AcceptsBlocks s bs m) (id lnum : ℕ)
    (r : VolumeRecord) (lebs : FinMap nat_cmp (List ℕ))
    (was : finite.get m.volumes id ≡ Some (record { entry = r; content = content.Dynamic lebs })) (slot : id < 128)
    (number : lnum < 2 ^ 31) (half : data_pad s r < leb_size s / 2)
    (reserved : lnum < r.reserved) (b : ℕ) (inside : b < length bs) (seq : ℕ) (agrees : Agrees s seq bs)
    (beside : NamedBeside s seq bs b) (loses : LosesAll s bs a.records b)
    (prep : List Step) (bytes : List ℕ) (e : EcHeader) (prepared : IsPrepared s bs m b seq prep bytes e)
    (sqnum : ℕ) (few : sqnum < 2 ^ 64) (above : (of : Leb) (q : ℕ) → IsMember s bs of q → sqnum_at s bs q < sqnum)
    (none : NoMember s bs (id, lnum)) where
  abbrev of : Leb
  of = (id, lnum)

  abbrev header : VidHeader
  header = blank_header (leb_header s r id lnum) sqnum

  abbrev pub mounted : List ℕ
  mounted = laid s bytes (vid_bytes header) []

  abbrev pub then_blocks : List (List ℕ)
  then_blocks = set bs b mounted

  wide : leb_size s < 2 ^ 31
  wide = omega (arith, g.peb_to)

  room : s.data_offset + length {A = ℕ} [] ≤ s.peb_size
  room = let l = g.leb in omega arith

  pub mount : IsMount s seq bs of header mounted
  mount =
      part-mount s g bytes e prepared.size prepared.reads header
      (blank_fits s r id lnum sqnum slot number half wide few) (blank_sound s r id lnum sqnum slot number half wide)
      (user_known id slot)
      (λ k. (let far = k.0 in omega arith)) [] room seq bs of prepared.image refl above

  leb_is : leb s mounted ≡ blank (s.peb_size - (s.data_offset + 0))
  leb_is =
      leb-part s g bytes e prepared.size prepared.reads header (blank_fits s r id lnum sqnum slot number half wide few)
      (blank_sound s r id lnum sqnum slot number half wide) (user_known id slot)
      (λ k. (let far = k.0 in omega arith)) [] room

  used : AllBlank s bs → ⊥
  used = used_by_volume s bs m a id _ was

  sizes : m.sizes ≡ s
  sizes = a.means.sizes

  old_means : SlotMeans s bs id (finite.get a.records.of id)
      (Some (record { entry = r; content = content.Dynamic lebs }))
  old_means = subst (λ (o : Option Volume). SlotMeans s bs id (finite.get a.records.of id) o) was (a.means.slots id)

  recorded : finite.get a.records.of id ≡ Some r
  recorded = recorded_by s bs id (finite.get a.records.of id) _ old_means

  volume_means : SlotMeans s bs id (Some r) (Some (record { entry = r; content = content.Dynamic lebs }))
  volume_means =
      subst (λ (o : Option VolumeRecord). SlotMeans s bs id o
      (Some (record { entry = r; content = content.Dynamic lebs }))) recorded old_means

  reads_blank : unwrap_or (finite.get lebs lnum) (blank (usable m.sizes r)) ≡ blank (usable m.sizes r)
  reads_blank =
      subst (λ (z : Sizes). unwrap_or (finite.get lebs lnum) (blank (usable z r)) ≡ blank (usable z r)) (sym sizes)
      (by_reads (volume_means.1.2 lnum reserved))
    where
      by_reads : LebReads s bs id r lnum (unwrap_or (finite.get lebs lnum) (blank (usable s r)))
          → unwrap_or (finite.get lebs lnum) (blank (usable s r)) ≡ blank (usable s r)
      by_reads (inl k) = absurd (none k.0 k.1.member)
      by_reads (inr k) = k.1

  change_is : IsChanged m m id lnum r (blank (usable m.sizes r))
  change_is = unchanged m a.means.meaning id lnum r lebs was reads_blank

  reads : blank (usable m.sizes r) ≡ take (usable s r) (leb s mounted)
  reads =
      let size : usable s r ≤ s.peb_size - (s.data_offset + 0) = omega arith in
      ap (λ (z : Sizes). blank (usable z r)) sizes
      ∙ sym (ap (take (usable s r)) leb_is
      ∙ take-replicate (usable s r) (s.peb_size - (s.data_offset + 0)) 255 size)

  like : IsUnlike s r header → ⊥
  like (inl k) = k (sym volume_means.1.1)
  like (inr k) = k refl

  -- it is accepted with the same meaning, and the LEB has a winner
  pub mounted_accepted : AcceptsBlocks s then_blocks m
  mounted_accepted = mounted_good s bs b mounted inside id lnum header seq agrees mount refl m m a used beside loses
      (λ z. (let l = slot in omega arith)) r (blank (usable m.sizes r)) change_is reads like

  pub now_records : mounted_accepted.records ≡ a.records
  unfolding mounted_accepted
  now_records = mounted-records s bs b mounted inside id lnum header seq agrees mount refl m m a used beside loses
      (λ z. (let l = slot in omega arith)) r (blank (usable m.sizes r)) change_is reads like

  pub now_wins : Wins s then_blocks of b
  now_wins = newest_wins s bs b mounted inside of header seq agrees mount a.clean refl

  pub now_agrees : Agrees s seq then_blocks
  now_agrees = agrees_set s bs b mounted inside seq agrees beside mount.image

  -- what is named beside an eraseblock still is
  pub now_beside : (p : ℕ) → NamedBeside s seq bs p → NamedBeside s seq then_blocks p
  now_beside p there = beside_set s bs b mounted inside seq p there
      (λ k. seq-part s g bytes e prepared.size prepared.reads header
      (blank_fits s r id lnum sqnum slot number half wide few) (blank_sound s r id lnum sqnum slot number half wide)
      (user_known id slot)
      (λ j. (let far = j.0 in omega arith)) [] room ∙ prepared.keeps k)

  -- another eraseblock that wins nothing goes on so
  pub other_loses : (p : ℕ) → p ≢ b → LosesAll s bs a.records p → LosesAll s then_blocks a.records p
  other_loses = others_lose s bs b mounted inside of header seq agrees mount a.clean refl a.records loses

  -- the next sequence number is above all
  pub now_above : AreBelow s then_blocks (sqnum + 1)
  now_above = newest_below s bs b mounted inside of header seq agrees mount a.clean

  -- cut after any step, the meaning stays
  abbrev pub mount_steps : List Step
  mount_steps = prep ++ program_header s b bytes header ∷ []

  one_step : done s (set bs b (filled s.peb_size bytes)) (program_header s b bytes header ∷ []) ≡ then_blocks
  one_step =
      ap (λ y. set (set bs b (filled s.peb_size bytes)) b (block_after s y (program_header s b bytes header)))
      (get_or-set_same bs b (filled s.peb_size bytes) [] inside)
      ∙ set-set bs b (filled s.peb_size bytes)
      (block_after s (filled s.peb_size bytes) (program_header s b bytes header))
      ∙ ap (set bs b) (header_written s g bytes (vid_bytes header) prepared.size refl)

  header_cuts : AtEachCut s (λ x. AcceptsBlocks s x m) (done s bs prep) (program_header s b bytes header ∷ [])
  header_cuts zero l = subst (λ x. AcceptsBlocks s x m) (after-all s bs prep)
      (prepared.cuts (length prep) (omega arith))
  header_cuts (suc zero) l = subst (λ x. AcceptsBlocks s x m)
      (sym (ap (λ z. done s z (program_header s b bytes header ∷ [])) prepared.ready ∙ one_step)) mounted_accepted
  header_cuts (suc (suc k)) l = absurd (omega arith)

  pub mount_cuts : AtEachCut s (λ x. AcceptsBlocks s x m) bs mount_steps
  mount_cuts = cuts-append s (λ x. AcceptsBlocks s x m) bs prep
      (program_header s b bytes header ∷ []) prepared.cuts header_cuts

  pub mount_done : done s bs mount_steps ≡ then_blocks
  mount_done = fold-append (step_done s) bs prep (program_header s b bytes header ∷ [])
      ∙ ap (λ z. done s z (program_header s b bytes header ∷ [])) prepared.ready ∙ one_step

  -- if the power fails during any of them, it stays too
  torn_mount : (t : List ℕ) → IsMount s seq bs of header t → leb s t ≡ leb s mounted → AcceptsBlocks s (set bs b t) m
  torn_mount t k same = mounted_good s bs b t inside id lnum header seq agrees k refl m m a used beside loses
      (λ z. (let l = slot in omega arith)) r (blank (usable m.sizes r)) change_is
      (reads ∙ ap (take (usable s r)) (sym same)) like

  torn_core : (t : List ℕ)
      → ((n : ℕ) → is_blank (drop n (filled s.peb_size bytes)) ≡ true → is_blank (drop n mounted) ≡ true
      → drop n t ≡ drop n (filled s.peb_size bytes))
      → NoChance s (filled s.peb_size bytes) mounted t → AcceptsBlocks s (set bs b t) m
  torn_core t keeps n =
      let fits = blank_fits s r id lnum sqnum slot number half wide few in
      let sound = blank_sound s r id lnum sqnum slot number half wide in
      let ready = filled s.peb_size bytes in
      let start : leb s ready ≡ blank (s.peb_size - (s.data_offset + 0)) = leb-ready s g bytes prepared.size in
      let none = blank_holds (s.peb_size - (s.data_offset + 0)) in
      let same : leb s t ≡ leb s mounted =
      keeps s.data_offset (ap is_blank start ∙ none) (ap is_blank leb_is ∙ none) ∙ start ∙ sym leb_is in
      elim (torn_header s seq bs of ready mounted t n e header (ec-bare s g bytes e prepared.size prepared.reads)
      (ec-part s g bytes e prepared.size prepared.reads header fits sound (user_known id slot)
      (λ k. (let far = k.0 in omega arith)) [] room) (inl (vid-bare s g bytes e prepared.size prepared.reads))
      (vid-part s g bytes e prepared.size prepared.reads header fits sound (user_known id slot)
      (λ k. (let far = k.0 in omega arith)) [] room) prepared.image mount) [
        | inl v ↦ vacated s bs b t inside seq m a used agrees beside loses v
        | inr k ↦ torn_mount t k same
      ]

  header_tear : (t : List ℕ) → TearIs s (λ f x. AcceptsBlocks s x m) (set bs b (filled s.peb_size bytes))
      (program_header s b bytes header) t
  header_tear t harm n =
      let ready = filled s.peb_size bytes in
      let next = program_header s b bytes header in
      let here : block (set bs b ready) b ≡ ready = get_or-set_same bs b ready [] inside in
      let is : block_after s ready next ≡ mounted = header_written s g bytes (vid_bytes header) prepared.size refl in
      let l : MayBeHarmed s ready next t = subst (λ (y : List ℕ). MayBeHarmed s y next t) here harm in
      let k : NoChance s ready (block_after s ready next) t =
      subst (λ (y : List ℕ). NoChance s y (block_after s y next) t) here n in
      subst (λ x. AcceptsBlocks s x m) (sym (set-set bs b ready t))
      (torn_core t (subst (λ (y : List ℕ). (n : ℕ) → is_blank (drop n ready) ≡ true → is_blank (drop n y) ≡ true
      → drop n t ≡ drop n ready) is l)
      (subst (λ (y : List ℕ). NoChance s ready y t) is k))

  pub mount_tears : AtEachTear s (λ k f x. AcceptsBlocks s x m) bs mount_steps
  mount_tears = tears-append s (λ k f x. AcceptsBlocks s x m) bs prep (program_header s b bytes header ∷ [])
      prepared.tears
      (subst (λ (z : List (List ℕ)). AtEachTear s (λ k f x. AcceptsBlocks s x m) z (program_header s b bytes header ∷ []))
      (sym prepared.ready)
      (one_tear s (λ k f x. AcceptsBlocks s x m) (set bs b (filled s.peb_size bytes)) (program_header s b bytes header)
      header_tear))

  -- and then it is copied to another eraseblock
  module _ (new : List ℕ) (n : IsNew s r lnum new) (p : ℕ) (apart : p ≢ b) (within : p < length bs)
      (named : NamedBeside s seq bs p) (lost : LosesAll s bs a.records p)
      (next_prep : List Step) (next_bytes : List ℕ) (next_ec : EcHeader)
      (next_prepared : IsPrepared s then_blocks m p seq next_prep next_bytes next_ec)
      (many : sqnum + 1 < 2 ^ 64) (rel : List Step) (release : IsRelease s then_blocks b seq rel) where
    within_then : p < length then_blocks
    within_then = omega (arith, length-set bs b mounted)

    lost_then : LosesAll s then_blocks mounted_accepted.records p
    lost_then = subst (λ (t : Records). LosesAll s then_blocks t p) (sym now_records) (other_loses p apart lost)

    pub unmapped : TurnsAt s (λ x. AcceptsBlocks s x m) (λ x. AcceptsBlocks s x (changed m id lnum new)) bs
        (mount_steps
        ++ ((next_prep ++ program_header s p next_bytes (copy_header (leb_header s r id lnum) (sqnum + 1) new) ∷ [])
        ++ program_text s p new ++ rel))
        (length mount_steps + (length next_prep + suc (pages_needed s new)))
    unmapped =
        let steps = (next_prep ++ program_header s p next_bytes (copy_header (leb_header s r id lnum) (sqnum + 1) new)
        ∷ []) ++ program_text s p new ++ rel in
        turns-behind s (λ x. AcceptsBlocks s x m) (λ x. AcceptsBlocks s x (changed m id lnum new)) bs mount_steps steps
        (length next_prep + suc (pages_needed s new)) mount_cuts
        (subst (λ (z : List (List ℕ)). TurnsAt s (λ x. AcceptsBlocks s x m)
        (λ x. AcceptsBlocks s x (changed m id lnum new)) z steps (length next_prep + suc (pages_needed s new)))
        (sym mount_done)
        (mapped s g then_blocks m mounted_accepted id lnum r lebs was slot number half new n p within_then seq
        now_agrees (now_beside p named) lost_then next_prep next_bytes next_ec next_prepared
        (sqnum + 1) many now_above b now_wins rel release))

    pub unmapped_tears : AtEachTear s (EitherAt (λ x. AcceptsBlocks s x m) (λ x. AcceptsBlocks s x (changed m id lnum new))
        (length mount_steps + (length next_prep + suc (pages_needed s new)))
        (length mount_steps + (length next_prep + suc (pages_of s new)))) bs
        (mount_steps
        ++ ((next_prep ++ program_header s p next_bytes (copy_header (leb_header s r id lnum) (sqnum + 1) new) ∷ [])
        ++ program_text s p new ++ rel))
    unmapped_tears =
        let steps = (next_prep ++ program_header s p next_bytes (copy_header (leb_header s r id lnum) (sqnum + 1) new)
        ∷ []) ++ program_text s p new ++ rel in
        let at = length next_prep + suc (pages_needed s new) in
        let last = length next_prep + suc (pages_of s new) in
        let n = length mount_steps in
        tears-append s (R (n + at) (n + last)) bs mount_steps steps
        (tears-weaken s (λ k f x. AcceptsBlocks s x m) (R (n + at) (n + last)) bs mount_steps
        (λ k f x l y. inl (omega arith, y)) mount_tears)
        (subst (λ (z : List (List ℕ)). AtEachTear s (λ k. R (n + at) (n + last) (n + k)) z steps)
        (sym mount_done)
        (tears-weaken s (R at last) (λ k. R (n + at) (n + last) (n + k)) then_blocks steps
        (λ k f x l y. later (λ x. AcceptsBlocks s x m) (λ x. AcceptsBlocks s x (changed m id lnum new)) at last n k f x y)
        (mapped_tears s g then_blocks m mounted_accepted id lnum r lebs was slot number half new n_new p within_then seq
        now_agrees (now_beside p named) lost_then next_prep next_bytes next_ec next_prepared
        (sqnum + 1) many now_above b now_wins rel release)))
      where
        R : ℕ → ℕ → ℕ → Bool → List (List ℕ) → Type 0
        R = EitherAt (λ x. AcceptsBlocks s x m) (λ x. AcceptsBlocks s x (changed m id lnum new))

        n_new : IsNew s r lnum new
        n_new = n
