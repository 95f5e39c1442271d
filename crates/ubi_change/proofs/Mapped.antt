-- The cuts of an atomic copy of a LEB that has a winner: before the commit point the old is meant, and from it on the
-- new.
use Rattle.ubi_change.proofs.Prelude.{◌≡◌, ◌≢◌, ℕ, suc, ◌+◌, ◌-◌, ◌/◌, ◌%◌, ◌^◌, ◌<◌, ◌≤◌, inl, inr, true, List, [], ◌∷◌, ◌++◌, length, set, take, refl, ap, sym, ◌∙◌, subst, arith, length-set, None, Option, Some, FinMap, nat_cmp, nat_tests, filled, Sizes, IsGeometry, leb_size, data_pad, usable, breaks, fields_from, vid_fault, VidFits, EcHeader, VolumeRecord, VidHeader, check_from-lt, block, leb, IsMember, Leb, Wins, has_members, layout, sqnum_at, Agrees, Records, AllBlank, AcceptsBlocks, IsUnlike, IsOutside, SlotMeans, Meant, Volume, changed, copy_header, leb_header, program_header, program_text, weak_pages, pages_needed, Step, pages_of, first_fault}
use Rattle.std.specs.FinMap as finite
use Rattle.ubi_media.specs.declared.vid.VolKind.TheVariants as kind
use Rattle.ubi_volume.specs.declared.content.Content.TheVariants as content
use Rattle.ubi_change.proofs.Changed as change
use Rattle.ubi_change.proofs.Copied.{IsCopy}
use Rattle.ubi_change.specs.declared.step.Step.TheVariants as step
use Rattle.ubi_change.proofs.CopyReplaced.{IsGoodCopy, IsPrepared, IsRelease, replaced, replaced_tears}
use Rattle.ubi_change.proofs.Mounted.{IsChanged, mounted_good, recorded_by}
use Rattle.ubi_change.proofs.Newest.{old_loses}
use Rattle.ubi_change.proofs.Runs.{TurnsAt}
use Rattle.ubi_change.proofs.Seq.{NamedBeside}
use Rattle.ubi_change.proofs.TornCopy.{EitherAt, erase_torn}
use Rattle.ubi_change.proofs.TornRuns.{AtEachTear, TearIs}
use Rattle.ubi_change.proofs.Unused.{nameless_ec, nameless_loses, within_counts}
use Rattle.ubi_change.proofs.Vacated.{IsVacant, LosesAll, agrees_set, vacated}
use Rattle.ubi_change.proofs.Written.{take_filled}

-- an image with a volume has an erase-counter header
no_entry : {X : Type 0} (o : Option X) (x : X) → o ≡ None → o ≡ Some x → ⊥
no_entry o x e f = let k = e in cc

pub used_by_volume : (s : Sizes) (bs : List (List ℕ)) (m : Meant) (a : AcceptsBlocks s bs m) (id : ℕ) (v : Volume)
    → finite.get m.volumes id ≡ Some v → AllBlank s bs → ⊥
used_by_volume s bs m a id v there all =
    let means : SlotMeans s bs id (finite.get a.records.of id) (Some v) =
    subst (λ (o : Option Volume). SlotMeans s bs id (finite.get a.records.of id) o) there (a.means.slots id) in
    let recorded = recorded_by s bs id (finite.get a.records.of id) v means in
    elim a.table [
      | inl e ↦ no_entry (finite.get a.records.of id) v.entry (ap (λ (t : Records). finite.get t.of id) e.1
          ∙ finite.get-empty nat_cmp id) recorded
      | inr d ↦ (let w = d.1.is in nameless_loses s bs a.records w.0
          (nameless_ec s (block bs w.0) (all w.0 [] w.1.member.inside)) (layout, d.0) w.1)
    ]

-- the header of a copy
module _ (s : Sizes) (r : VolumeRecord) (id lnum sqnum : ℕ) (new : List ℕ) (slot : id < 128) (number : lnum < 2 ^ 31)
    (half : data_pad s r < leb_size s / 2)
    (wide : leb_size s < 2 ^ 31) (some : 1 ≤ length new) (short : length new ≤ leb_size s) where
  pub copy_sound : vid_fault s (copy_header (leb_header s r id lnum) sqnum new) ≡ None
  unfolding first_fault breaks fields_from
  copy_sound = grind (arith, nat_tests)

  pub copy_fits : sqnum < 2 ^ 64 → VidFits (copy_header (leb_header s r id lnum) sqnum new)
  copy_fits few = record {
    vol_id = omega arith;
    lnum = omega arith;
    data_size = omega arith;
    used_ebs = omega arith;
    data_pad = omega arith;
    data_crc = check_from-lt 0xFFFFFFFF new (omega arith);
    sqnum = few;
  }

user_known : (vol : ℕ) → vol < 128 → has_members vol ≡ true
user_known vol l = grind (arith, nat_tests)

-- new bytes that can be written to a LEB of a volume
pub record IsNew (s : Sizes) (r : VolumeRecord) (lnum : ℕ) (new : List ℕ) : Type 0 where
  pub inside : lnum < r.reserved
  pub some : 1 ≤ length new
  pub short : length new ≤ usable s r
  pub paged : length new % s.page ≡ 0
  pub strong : weak_pages s new ≡ None

module _ (s : Sizes) (g : IsGeometry s) (bs : List (List ℕ)) (m : Meant) (a : AcceptsBlocks s bs m) (id lnum : ℕ)
    (r : VolumeRecord) (lebs : FinMap nat_cmp (List ℕ))
    (was : finite.get m.volumes id ≡ Some (record { entry = r; content = content.Dynamic lebs })) (slot : id < 128)
    (number : lnum < 2 ^ 31) (half : data_pad s r < leb_size s / 2)
    (new : List ℕ) (n : IsNew s r lnum new) (b : ℕ) (inside : b < length bs) (seq : ℕ) (agrees : Agrees s seq bs)
    (beside : NamedBeside s seq bs b) (loses : LosesAll s bs a.records b)
    (prep : List Step) (bytes : List ℕ) (e : EcHeader) (prepared : IsPrepared s bs m b seq prep bytes e)
    (sqnum : ℕ) (few : sqnum < 2 ^ 64) (above : (of : Leb) (q : ℕ) → IsMember s bs of q → sqnum_at s bs q < sqnum)
    (old : ℕ) (wins : Wins s bs (id, lnum) old) (rel : List Step) (release : IsRelease s bs old seq rel) where
  abbrev of : Leb
  of = (id, lnum)

  abbrev header : VidHeader
  header = copy_header (leb_header s r id lnum) sqnum new

  sizes : m.sizes ≡ s
  sizes = a.means.sizes

  fits_leb : length new ≤ leb_size s
  fits_leb = let k = n.short in omega arith

  wide : leb_size s < 2 ^ 31
  wide = omega (arith, g.peb_to)

  copy_is : IsCopy s bs seq of bytes e header new
  copy_is = record {
    text = record {
      size = prepared.size;
      reads = prepared.reads;
      image = prepared.image;
      fits = copy_fits s r id lnum sqnum new slot number half wide n.some fits_leb few;
      sound = copy_sound s r id lnum sqnum new slot number half wide n.some fits_leb;
      known = user_known id slot;
      placed = λ k. (let far = k.0 in omega arith);
      named = refl;
      above = above;
      paged = n.paged;
      room = (let k = fits_leb in let l = g.leb in omega arith);
    };
    copied = refl;
    data_size = refl;
    data_crc = refl;
    strong = n.strong;
  }

  used : AllBlank s bs → ⊥
  used = used_by_volume s bs m a id _ was

  short : length new ≤ usable m.sizes r
  short = subst (λ (z : Sizes). length new ≤ usable z r) (sym sizes) n.short

  abbrev next : Meant
  next = change.next m a.means.meaning id lnum new r lebs was n.inside short

  change_is : IsChanged m next id lnum r (filled (usable m.sizes r) new)
  change_is = change.changed-next m a.means.meaning id lnum new r lebs was n.inside short

  old_means : SlotMeans s bs id (finite.get a.records.of id)
      (Some (record { entry = r; content = content.Dynamic lebs }))
  old_means = subst (λ (o : Option Volume). SlotMeans s bs id (finite.get a.records.of id) o) was (a.means.slots id)

  recorded : finite.get a.records.of id ≡ Some r
  recorded = recorded_by s bs id (finite.get a.records.of id) _ old_means

  dynamic : r.kind ≡ kind.Dynamic
  dynamic =
      (subst (λ (o : Option VolumeRecord). SlotMeans s bs id o
      (Some (record { entry = r; content = content.Dynamic lebs }))) recorded old_means).1.1

  counts : IsOutside a.records of → ⊥
  counts = within_counts a.records id r lnum recorded (λ _. n.inside)

  like : IsUnlike s r header → ⊥
  like (inl k) = k (sym dynamic)
  like (inr k) = k refl

  abbrev Q : List (List ℕ) → Type 0
  Q x = AcceptsBlocks s x next

  room : usable s r ≤ length new + (s.peb_size - (s.data_offset + length new))
  room = let k = fits_leb in let l = g.leb in omega arith

  copied : (x : List ℕ) → IsGoodCopy s seq bs of header new x → Q (set bs b x)
  copied x k =
      let reads : filled (usable m.sizes r) new ≡ take (usable s r) (leb s x) =
      ap (λ (z : Sizes). filled (usable z r) new) sizes
      ∙ sym (take_filled (usable s r) new (s.peb_size - (s.data_offset + length new)) n.short room)
      ∙ ap (take (usable s r)) (sym k.text) in
      mounted_good s bs b x inside id lnum header seq agrees k.mount k.good m next a used beside loses
      (λ z. (let l = slot in omega arith)) r (filled (usable m.sizes r) new) change_is reads like

  -- once the copy is good, the old winner wins nothing
  pub apart : old ≢ b
  apart z = loses of counts (subst (Wins s bs of) z wins)

  emptied : (x y : List ℕ) → IsGoodCopy s seq bs of header new x → NamedBeside s seq (set bs b x) old → IsVacant s seq y
      → Q (set (set bs b x) old y)
  emptied x y k near v =
      let now = copied x k in
      let l = wins.member.inside in
      vacated s (set bs b x) old y (omega (arith, length-set bs b x)) seq next now
      (used_by_volume s (set bs b x) next now id _ change_is.is)
      (agrees_set s bs b x inside seq agrees beside k.mount.image) near
      (old_loses s bs b x inside of header seq agrees k.mount a.clean k.good now.records old wins apart) v

  -- cut after any step, the eraseblocks are accepted: before the turn with the old meaning, from it on with the new
  pub mapped : TurnsAt s (λ x. AcceptsBlocks s x m) (λ x. AcceptsBlocks s x (changed m id lnum new)) bs
      ((prep ++ program_header s b bytes header ∷ []) ++ program_text s b new ++ rel)
      (length prep + suc (pages_needed s new))
  mapped =
      subst (λ (k : Meant). TurnsAt s (λ x. AcceptsBlocks s x m) (λ x. AcceptsBlocks s x k) bs
      ((prep ++ program_header s b bytes header ∷ []) ++ program_text s b new ++ rel)
      (length prep + suc (pages_needed s new)))
      (sym (change.changed-is m a.means.meaning id lnum new r lebs was n.inside short))
      (replaced s g bs m a used of counts b inside seq agrees beside loses prep bytes e prepared header new copy_is old
      wins rel release Q copied emptied)

  -- an erase of the old winner that wasn't ended
  torn_old : (x t : List ℕ) → IsGoodCopy s seq bs of header new x → NamedBeside s seq (set bs b x) old
      → TearIs s (λ f. Q) (set bs b x) (step.Erase old) t
  torn_old x t k near =
      let now = copied x k in
      let l = wins.member.inside in
      erase_torn s g (set bs b x) next now old seq (omega (arith, length-set bs b x))
      (used_by_volume s (set bs b x) next now id _ change_is.is)
      (agrees_set s bs b x inside seq agrees beside k.mount.image) near
      (old_loses s bs b x inside of header seq agrees k.mount a.clean k.good now.records old wins apart) t

  -- if the power fails during any step, before the turn the old is meant, and from it on the new
  pub mapped_tears : AtEachTear s (EitherAt (λ x. AcceptsBlocks s x m) (λ x. AcceptsBlocks s x (changed m id lnum new))
      (length prep + suc (pages_needed s new)) (length prep + suc (pages_of s new))) bs
      ((prep ++ program_header s b bytes header ∷ []) ++ program_text s b new ++ rel)
  mapped_tears =
      subst (λ (k : Meant). AtEachTear s (EitherAt (λ x. AcceptsBlocks s x m) (λ x. AcceptsBlocks s x k)
      (length prep + suc (pages_needed s new)) (length prep + suc (pages_of s new))) bs
      ((prep ++ program_header s b bytes header ∷ []) ++ program_text s b new ++ rel))
      (sym (change.changed-is m a.means.meaning id lnum new r lebs was n.inside short))
      (replaced_tears s g bs m a used of counts b inside seq agrees beside loses prep bytes e prepared header new copy_is
      old wins rel release Q copied emptied torn_old)
