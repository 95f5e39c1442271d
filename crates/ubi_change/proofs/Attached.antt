-- The plan of an attached image, with no cause against it, survives every cut.
use Rattle.ubi_change.proofs.Prelude.{◌≡◌, ◌≢◌, ℕ, suc, ◌+◌, ◌/◌, ◌%◌, ◌^◌, ◌<◌, ◌≤◌, Bool, true, false, not, List, [], ◌∷◌, ◌++◌, append_assoc, length, set, refl, ap, sym, ◌∙◌, subst, arith, length-append, length-set, None, Option, Some, ◌==◌, IfSome, count_by, nat_lt, option_map, then_some, FinMap, option_map_or, nat_cmp, nat_tests, Sizes, IsGeometry, leb_size, is_static, data_pad, usable, vid_bytes, EcHeader, VidHeader, VolKind, VolumeRecord, Image, eraseblocks, of_blocks, NoMember, Wins, Agrees, Records, AllBlank, AcceptsBlocks, AttachValue, Fits, IsVolume, Content, Volume, records_meant, found_wins, SurvivesCuts, programs_copy, turn, blank_header, copy_header, leb_header, next_ec, mapped_plan, needs, plan_of, prepare, program_header, program_text, ready_bytes, ready_ec, release, taken, unmapped_plan, causes, first_cause, first_of, is_bad_length, ec_at, is_worn, takeable, weak_pages, pages_needed, ChangeRefusal, Step, own_causes, laid, rec_fault, half_pad, reserved_within, changed, pages_of, ◌-◌, SurvivesHarm, SurvivesTears}
use Rattle.ubi_volume.proofs.Winners.{none_found}
use Rattle.std.specs.FinMap as finite
use Rattle.ubi_media.specs.declared.vid.VolKind.TheVariants as kind
use Rattle.ubi_volume.specs.declared.content.Content.TheVariants as content
use Rattle.ubi_change.specs.declared.errors.ChangeRefusal.TheVariants as refusal
use Rattle.ubi_change.proofs.CopyReplaced.{IsPrepared, IsRelease}
use Rattle.ubi_change.proofs.AttachedImage as on
use Rattle.ubi_change.proofs.Choosing.{MayBeTaken, may_be_taken, two_apart}
use Rattle.ubi_change.proofs.Mapped as mapped_copy
use Rattle.ubi_change.proofs.Mapped.{copy_fits, copy_sound, IsNew, mapped, mapped_tears, used_by_volume}
use Rattle.ubi_change.proofs.Torn.{whole_place-is}
use Rattle.ubi_change.proofs.TornCopy.{EitherAt, any_tears, exact_tears}
use Rattle.ubi_change.proofs.TornRuns.{AtEachTear}
use Rattle.ubi_change.proofs.Premises.{counter_behind, neither, next_counter, ready, taken_beside, taken_loses, valid_counter}
use Rattle.ubi_change.proofs.Renewed.{IsCounter}
use Rattle.ubi_change.proofs.Replaced.{block_other}
use Rattle.ubi_change.proofs.Runs.{done}
use Rattle.ubi_change.proofs.Seq.{NamedBeside}
use Rattle.ubi_change.proofs.Survives.{survives}
use Rattle.ubi_change.proofs.Turned.{AllFail, fail-append, header_fails, one-copy, turn-is}
use Rattle.ubi_change.proofs.Unmapped as first
use Rattle.ubi_change.proofs.Vacated.{LosesAll}
use Rattle.ubi_change.proofs.PlanPremises.{IsShown, SayUnused}

-- what it says that no cause stands
first_none : (o : Option ChangeRefusal) (rest : List (Option ChangeRefusal)) → first_of (o ∷ rest) ≡ None
    → (o ≡ None) × (first_of rest ≡ None)
first_none None rest e = (refl, e)
first_none (Some c) rest e = absurd (cc)

not_some : (b : Bool) (c : ChangeRefusal) → then_some b c ≡ None → b ≡ false
not_some true c e = absurd (cc)
not_some false c e = refl

not_weak : (o : Option ℕ) → option_map refusal.WeakCheck o ≡ None → o ≡ None
not_weak None e = refl
not_weak (Some k) e = absurd (cc)

is_dynamic : (k : VolKind) → is_static k ≡ false → k ≡ kind.Dynamic
is_dynamic kind.Dynamic e = refl
is_dynamic kind.Static e = absurd (cc)

not_not : (b : Bool) → not b ≡ false → b ≡ true
not_not true e = refl
not_not false e = absurd (cc)

some_of : (n : ℕ) → (n == 0) ≡ false → 1 ≤ n
some_of n e = grind (arith, nat_tests)

zero_of : (n : ℕ) → (n == 0) ≡ true → n ≡ 0
zero_of n e = grind (arith, nat_tests)

less_of : (a b : ℕ) → nat_lt a b ≡ true → a < b
less_of a b e = grind (arith, nat_tests)

most_of : (a b : ℕ) → nat_lt a b ≡ false → b ≤ a
most_of a b e = grind (arith, nat_tests)

pub record IsAllowed (s : Sizes) (bs : List (List ℕ)) (a : AttachValue) (r : VolumeRecord) (id lnum : ℕ)
    (new : List ℕ) : Type 0 where
  pub dynamic : r.kind ≡ kind.Dynamic
  pub unmarked : r.marker ≡ false
  pub is_new : IsNew s r lnum new
  pub few : a.scan.top_sqnum + needs s bs a id lnum ≤ 0xFFFFFFFFFFFFFFFF
  pub enough : needs s bs a id lnum ≤ length (takeable s bs a.states)

is_new_of : (s : Sizes) (r : VolumeRecord) (lnum : ℕ) (new : List ℕ)
    → then_some (not (nat_lt lnum r.reserved)) refusal.OutOfRange ≡ None
    → then_some (is_bad_length s (usable s r) (length new)) refusal.BadLength ≡ None
    → option_map refusal.WeakCheck (weak_pages s new) ≡ None → IsNew s r lnum new
is_new_of s r lnum new range long weak =
    let length_fits = neither _ _ (not_some (is_bad_length s (usable s r) (length new)) refusal.BadLength long) in
    let first = neither (length new == 0) (not (length new % s.page == 0)) length_fits.0 in
    record {
      inside = less_of lnum r.reserved
          (not_not (nat_lt lnum r.reserved) (not_some (not (nat_lt lnum r.reserved)) refusal.OutOfRange range));
      some = some_of (length new) first.0;
      short = most_of (usable s r) (length new) length_fits.1;
      paged = zero_of (length new % s.page) (not_not (length new % s.page == 0) first.1);
      strong = not_weak (weak_pages s new) weak;
    }

-- no cause stands that the image has no part in
pub own_allowed : (s : Sizes) (r : VolumeRecord) (lnum : ℕ) (new : List ℕ) → first_of (own_causes s r lnum new) ≡ None
    → (r.kind ≡ kind.Dynamic) × (r.marker ≡ false) × IsNew s r lnum new
own_allowed s r lnum new e =
    let c1 = first_none _ _ e in
    let c2 = first_none _ _ c1.1 in
    let c3 = first_none _ _ c2.1 in
    let c4 = first_none _ _ c3.1 in
    let c5 = first_none _ _ c4.1 in (
      is_dynamic r.kind (not_some (is_static r.kind) refusal.StaticVolume c1.0),
      not_some r.marker refusal.Updating c2.0,
      is_new_of s r lnum new c3.0 c4.0 c5.0,
    )

pub is_allowed : (s : Sizes) (bs : List (List ℕ)) (a : AttachValue) (r : VolumeRecord) (id lnum : ℕ) (new : List ℕ)
    → first_of (causes s bs a r id lnum new) ≡ None → IsAllowed s bs a r id lnum new
is_allowed s bs a r id lnum new e =
    let c1 = first_none _ _ e in
    let c2 = first_none _ _ c1.1 in
    let c3 = first_none _ _ c2.1 in
    let c4 = first_none _ _ c3.1 in
    let c5 = first_none _ _ c4.1 in
    let c6 = first_none _ _ c5.1 in
    let c7 = first_none _ _ c6.1 in
    record {
      dynamic = is_dynamic r.kind (not_some (is_static r.kind) refusal.StaticVolume c1.0);
      unmarked = not_some r.marker refusal.Updating c2.0;
      is_new = is_new_of s r lnum new c3.0 c4.0 c5.0;
      few = most_of 0xFFFFFFFFFFFFFFFF (a.scan.top_sqnum + needs s bs a id lnum)
          (not_some (nat_lt 0xFFFFFFFFFFFFFFFF (a.scan.top_sqnum + needs s bs a id lnum)) refusal.Exhausted c6.0);
      enough = most_of (length (takeable s bs a.states)) (needs s bs a id lnum)
          (not_some (nat_lt (length (takeable s bs a.states)) (needs s bs a id lnum)) refusal.NoFree c7.0);
    }

-- a dynamic volume that isn't marked keeps LEBs
lebs_of : (s : Sizes) (r : VolumeRecord) (c : Content) → r.kind ≡ kind.Dynamic → r.marker ≡ false → Fits s r c
    → (lebs : FinMap nat_cmp (List ℕ)) × (c ≡ content.Dynamic lebs)
lebs_of s r content.Updating d u f = absurd (let k = f in cc)
lebs_of s r content.Damaged d u f = absurd (let k = f.1 in cc)
lebs_of s r (content.Static text) d u f = absurd (let k = f.1 in cc)
lebs_of s r (content.Dynamic lebs) d u f = (lebs, refl)

-- a change of an attached image, against which no cause stands
pub record Changing : Type 0 where
  pub image : Image
  pub g : IsGeometry image.sizes
  pub a : AttachValue
  pub att : IsShown image a
  pub id : ℕ
  pub lnum : ℕ
  pub new : List ℕ
  pub v : Volume
  pub there : finite.get a.meaning.volumes id ≡ Some v
  pub allowed : of_blocks first_cause image a id lnum new ≡ None

module _ (change : Changing) where
  open change use {image, g, a, att, id, lnum, new, v, there, allowed}

  abbrev pub s : Sizes
  s = image.sizes

  abbrev pub bs : List (List ℕ)
  bs = eraseblocks image

  acc : AcceptsBlocks s bs a.meaning
  acc = att.accepted.accepted

  agrees : Agrees s a.scan.image_seq bs
  agrees = on.agrees image g a att

  states : SayUnused s bs acc.records a.states
  states = subst (λ (t : Records). SayUnused s bs t a.states)
      (records_meant s bs acc.records a.meaning acc.table acc.means) att.states

  volume : IsVolume a.meaning.sizes id v
  volume = subst (λ (o : Option Volume). IfSome o (IsVolume a.meaning.sizes id)) there (acc.means.meaning.each id)

  -- the record of a volume that is meant breaks no rule
  sound : rec_fault s v.entry ≡ None
  sound = subst (λ (z : Sizes). rec_fault z v.entry ≡ None) acc.means.sizes volume.sound

  half : data_pad s v.entry < leb_size s / 2
  half = half_pad s v.entry sound g

  pub few : a.scan.mean_ec < 2 ^ 31
  few = on.mean_few image a att

  pub narrow : a.scan.image_seq < 2 ^ 32
  narrow = on.seq_narrow image a att

  slot : id < 128
  slot = let l = volume.slot in omega arith

  pub no_cause : IsAllowed s bs a v.entry id lnum new
  no_cause = is_allowed s bs a v.entry id lnum new
      (ap (λ (o : Option Volume). option_map_or (λ (v : Volume). first_of (causes s bs a v.entry id lnum new)) o
      (Some refusal.NoVolume)) (sym there) ∙ allowed)

  held : (lebs : FinMap nat_cmp (List ℕ)) × (v.content ≡ content.Dynamic lebs)
  held = lebs_of a.meaning.sizes v.entry v.content no_cause.dynamic no_cause.unmarked volume.fits

  was : finite.get a.meaning.volumes id ≡ Some (record { entry = v.entry; content = content.Dynamic held.0 })
  was = there ∙ ap (λ (c : Content). Some (record { entry = v.entry; content = c })) held.1

  number : lnum < 2 ^ 31
  number = let l = no_cause.is_new.inside in let b = reserved_within s v.entry sound in omega arith

  used : AllBlank s bs → ⊥
  used = used_by_volume s bs a.meaning acc id v there

  fits_leb : length new ≤ leb_size s
  fits_leb = let k = no_cause.is_new.short in omega arith

  pub room : s.data_offset + length new ≤ s.peb_size
  room = let l = fits_leb in let k = g.leb in omega arith

  pub paged : length new % s.page ≡ 0
  paged = no_cause.is_new.paged

  wide : leb_size s < 2 ^ 31
  wide = omega (arith, g.peb_to)

  -- steps of which the power may fail during each: the turn, and the place from which on the copy is all programmed
  abbrev Tears : List Step → Type 0
  Tears steps = (at : ℕ) × (turn s steps new ≡ at) × (last : ℕ)
      × (last ≡ at + (pages_of s new - pages_needed s new))
      × AtEachTear s (EitherAt (λ x. AcceptsBlocks s x a.meaning) (λ x. AcceptsBlocks s x (changed a.meaning id lnum new)) at last)
      bs steps

  -- a LEB with a winner
  module _ (old : ℕ) (found : finite.get a.scan.winners (id, lnum) ≡ Some old) where
    needs-one : needs s bs a id lnum ≡ 1
    needs-one = ap (λ (o : Option ℕ). option_map_or (λ _. 1) o 2) found

    abbrev pub b : ℕ
    b = taken s bs a 0

    pub may : MayBeTaken s bs a.states b
    may = may_be_taken s bs a.states 0 (let e = no_cause.enough in let n = needs-one in omega arith)

    named : NamedBeside s a.scan.image_seq bs b
    named = taken_beside s g bs a acc.records states b may a.scan.image_seq agrees

    wins : Wins s bs (id, lnum) old
    wins = found_wins s bs (record a.scan { top_sqnum = att.top }) att.scan (id, lnum) old found

    pub made : (e : EcHeader) × (ready_ec s bs a b ≡ Some e)
        × IsPrepared s bs a.meaning b a.scan.image_seq (prepare s bs a b) (ready_bytes s bs a b) e
    made = ready s g bs a acc.records states b may bs a.meaning acc may.0 refl (on.whole image g a att b may.0)
        agrees named used (taken_loses s g bs a acc.records states b may) few narrow

    few_numbers : a.scan.top_sqnum + 1 < 2 ^ 64
    few_numbers = let f = no_cause.few in let n = needs-one in omega arith

    -- the winner isn't the eraseblock that is taken
    pub old_apart : old ≢ b
    old_apart =
        mapped_copy.apart s g bs a.meaning acc id lnum v.entry held.0 was slot number half new no_cause.is_new b may.0
        a.scan.image_seq agrees named (taken_loses s g bs a acc.records states b may)
        (prepare s bs a b) (ready_bytes s bs a b) made.0 made.2 (a.scan.top_sqnum + 1) few_numbers
        (on.above image g a att) old wins (release s bs a old (ec_at s bs old))
        (on.release_is image g a att bs old (ec_at s bs old) (next_counter s bs a few narrow old) (λ n. n))

    -- where the new is meant from
    pub mapped_turn : turn s (mapped_plan s bs a v.entry id lnum new b old) new
        ≡ length (prepare s bs a b) + suc (pages_needed s new)
    mapped_turn =
        let h = copy_header (leb_header s v.entry id lnum) (a.scan.top_sqnum + 1) new in
        let fits = copy_fits s v.entry id lnum (a.scan.top_sqnum + 1) new slot number half wide no_cause.is_new.some
        fits_leb few_numbers in
        let sound = copy_sound s v.entry id lnum (a.scan.top_sqnum + 1) new slot number half wide no_cause.is_new.some
        fits_leb in
        turn-is s g (ready_bytes s bs a b) made.2.size h fits sound refl b new (prepare s bs a b)
        (release s bs a old (ec_at s bs old)) (on.prepare_fails image g a att b)

    mapped_survives : SurvivesCuts s bs a.meaning id lnum new (mapped_plan s bs a v.entry id lnum new b old)
    mapped_survives =
        let h = copy_header (leb_header s v.entry id lnum) (a.scan.top_sqnum + 1) new in
        let fits = copy_fits s v.entry id lnum (a.scan.top_sqnum + 1) new slot number half wide no_cause.is_new.some
        fits_leb few_numbers in
        let sound = copy_sound s v.entry id lnum (a.scan.top_sqnum + 1) new slot number half wide no_cause.is_new.some
        fits_leb in
        survives s bs a.meaning id lnum new (mapped_plan s bs a v.entry id lnum new b old)
        (length (prepare s bs a b) + suc (pages_needed s new))
        (one-copy s g (ready_bytes s bs a b) made.2.size h fits sound refl b new (prepare s bs a b)
        (release s bs a old (ec_at s bs old)) (on.prepare_fails image g a att b)
        (on.release_fails image g a att old (ec_at s bs old))) mapped_turn
        (mapped s g bs a.meaning acc id lnum v.entry held.0 was slot number half new no_cause.is_new b may.0
        a.scan.image_seq agrees named (taken_loses s g bs a acc.records states b may)
        (prepare s bs a b) (ready_bytes s bs a b) made.0 made.2 (a.scan.top_sqnum + 1) few_numbers
        (on.above image g a att) old wins (release s bs a old (ec_at s bs old))
        (on.release_is image g a att bs old (ec_at s bs old) (next_counter s bs a few narrow old) (λ n. n)))

    pub mapped_torn : Tears (plan_of s bs a v.entry id lnum new)
    mapped_torn =
        subst Tears
        (sym
        (ap (λ (o : Option ℕ). option_map_or (mapped_plan s bs a v.entry id lnum new (taken s bs a 0)) o
        (unmapped_plan s bs a v.entry id lnum new (taken s bs a 0) (taken s bs a 1))) found)) (
          length (prepare s bs a b) + suc (pages_needed s new),
          mapped_turn,
          length (prepare s bs a b) + suc (pages_of s new),
          (let w = whole_place-is s new paged in let most = w.most in omega arith),
          mapped_tears s g bs a.meaning acc id lnum v.entry held.0 was slot number half new no_cause.is_new b may.0
              a.scan.image_seq agrees named (taken_loses s g bs a acc.records states b may)
              (prepare s bs a b) (ready_bytes s bs a b) made.0 made.2 (a.scan.top_sqnum + 1) few_numbers
              (on.above image g a att) old wins (release s bs a old (ec_at s bs old))
              (on.release_is image g a att bs old (ec_at s bs old) (next_counter s bs a few narrow old) (λ n. n)),
        )

    pub survives_mapped : SurvivesCuts s bs a.meaning id lnum new (plan_of s bs a v.entry id lnum new)
    survives_mapped =
        subst (SurvivesCuts s bs a.meaning id lnum new)
        (sym
        (ap (λ (o : Option ℕ). option_map_or (mapped_plan s bs a v.entry id lnum new (taken s bs a 0)) o
        (unmapped_plan s bs a v.entry id lnum new (taken s bs a 0) (taken s bs a 1))) found))
        mapped_survives

  -- a LEB without one
  module _ (found : finite.get a.scan.winners (id, lnum) ≡ None) where
    needs-two : needs s bs a id lnum ≡ 2
    needs-two = ap (λ (o : Option ℕ). option_map_or (λ _. 1) o 2) found

    abbrev pub e0 : ℕ
    e0 = taken s bs a 0

    abbrev pub b1 : ℕ
    b1 = taken s bs a 1

    enough : 1 < length (takeable s bs a.states)
    enough = let e = no_cause.enough in let n = needs-two in omega arith

    pub may0 : MayBeTaken s bs a.states e0
    may0 = may_be_taken s bs a.states 0 (let e = enough in omega arith)

    pub may1 : MayBeTaken s bs a.states b1
    may1 = may_be_taken s bs a.states 1 enough

    pub apart : b1 ≢ e0
    apart z = two_apart s bs a.states enough (sym z)

    none : NoMember s bs (id, lnum)
    none = none_found s bs (record a.scan { top_sqnum = att.top }) att.scan (id, lnum) found

    named0 : NamedBeside s a.scan.image_seq bs e0
    named0 = taken_beside s g bs a acc.records states e0 may0 a.scan.image_seq agrees

    named1 : NamedBeside s a.scan.image_seq bs b1
    named1 = taken_beside s g bs a acc.records states b1 may1 a.scan.image_seq agrees

    loses0 : LosesAll s bs acc.records e0
    loses0 = taken_loses s g bs a acc.records states e0 may0

    loses1 : LosesAll s bs acc.records b1
    loses1 = taken_loses s g bs a acc.records states b1 may1

    pub made0 : (e : EcHeader) × (ready_ec s bs a e0 ≡ Some e)
        × IsPrepared s bs a.meaning e0 a.scan.image_seq (prepare s bs a e0) (ready_bytes s bs a e0) e
    made0 = ready s g bs a acc.records states e0 may0 bs a.meaning acc may0.0 refl
        (on.whole image g a att e0 may0.0) agrees named0 used loses0 few narrow

    many : a.scan.top_sqnum + 1 + 1 < 2 ^ 64
    many = let f = no_cause.few in let n = needs-two in omega arith

    some_left : a.scan.top_sqnum + 1 < 2 ^ 64
    some_left = let f = many in omega arith

    abbrev pub header0 : VidHeader
    header0 = blank_header (leb_header s v.entry id lnum) (a.scan.top_sqnum + 1)

    abbrev pub mounted0 : List ℕ
    mounted0 = laid s (ready_bytes s bs a e0) (vid_bytes header0) []

    abbrev pub cs : List (List ℕ)
    cs = set bs e0 mounted0

    acc1 : AcceptsBlocks s cs a.meaning
    acc1 = first.mounted_accepted s g bs a.meaning acc id lnum v.entry held.0 was slot number half
        no_cause.is_new.inside e0 may0.0 a.scan.image_seq agrees named0 loses0 (prepare s bs a e0)
        (ready_bytes s bs a e0) made0.0 made0.2 (a.scan.top_sqnum + 1) some_left (on.above image g a att) none

    lost1 : LosesAll s cs acc1.records b1
    unfolding acc1
    lost1 =
        subst (λ (t : Records). LosesAll s cs t b1)
        (sym (first.now_records s g bs a.meaning acc id lnum v.entry held.0 was slot number half no_cause.is_new.inside
        e0 may0.0 a.scan.image_seq agrees named0 loses0 (prepare s bs a e0) (ready_bytes s bs a e0) made0.0 made0.2
        (a.scan.top_sqnum + 1) some_left (on.above image g a att) none))
        (first.other_loses s g bs a.meaning acc id lnum v.entry held.0 was slot number half no_cause.is_new.inside e0
        may0.0 a.scan.image_seq agrees named0 loses0 (prepare s bs a e0) (ready_bytes s bs a e0) made0.0 made0.2
        (a.scan.top_sqnum + 1) some_left (on.above image g a att) none b1 apart loses1)

    agrees1 : Agrees s a.scan.image_seq cs
    agrees1 = first.now_agrees s g bs a.meaning acc id lnum v.entry held.0 was slot number half no_cause.is_new.inside
        e0 may0.0 a.scan.image_seq agrees named0 loses0 (prepare s bs a e0) (ready_bytes s bs a e0) made0.0 made0.2
        (a.scan.top_sqnum + 1) some_left (on.above image g a att) none

    -- another eraseblock goes on naming the image
    beside1 : (p : ℕ) → NamedBeside s a.scan.image_seq bs p → NamedBeside s a.scan.image_seq cs p
    beside1 = first.now_beside s g bs a.meaning acc id lnum v.entry held.0 was slot number half no_cause.is_new.inside
        e0 may0.0 a.scan.image_seq agrees named0 loses0 (prepare s bs a e0) (ready_bytes s bs a e0) made0.0 made0.2
        (a.scan.top_sqnum + 1) some_left (on.above image g a att) none

    inside1 : b1 < length cs
    inside1 = let l = may1.0 in omega (arith, length-set bs e0 mounted0)

    pub made1 : (e : EcHeader) × (ready_ec s bs a b1 ≡ Some e)
        × IsPrepared s cs a.meaning b1 a.scan.image_seq (prepare s bs a b1) (ready_bytes s bs a b1) e
    made1 =
        ready s g bs a acc.records states b1 may1 cs a.meaning acc1 inside1
        (block_other s bs e0 mounted0 may0.0 b1 apart) (on.whole image g a att b1 may1.0) agrees1 (beside1 b1 named1)
        (used_by_volume s cs a.meaning acc1 id v there) lost1 few narrow

    release0 : IsRelease s cs e0 a.scan.image_seq (release s bs a e0 (ready_ec s bs a e0))
    release0 = on.release_is image g a att cs e0 (ready_ec s bs a e0) (λ fresh.
        subst (λ (o : Option EcHeader). IsCounter (next_ec a.scan o)) (sym made0.1)
        (counter_behind a narrow made0.0 (valid_counter s (ready_bytes s bs a e0) made0.0 made0.2.reads)
        (ap is_worn (sym made0.1) ∙ fresh))) (beside1 e0)

    abbrev header1 : VidHeader
    header1 = copy_header (leb_header s v.entry id lnum) (a.scan.top_sqnum + 1 + 1) new

    abbrev pub mount0 : List Step
    mount0 = prepare s bs a e0 ++ program_header s e0 (ready_bytes s bs a e0) header0 ∷ []

    abbrev rel0 : List Step
    rel0 = release s bs a e0 (ready_ec s bs a e0)

    abbrev steps : List Step
    steps = mount0 ++ ((prepare s bs a b1 ++ program_header s b1 (ready_bytes s bs a b1) header1 ∷ [])
        ++ program_text s b1 new ++ rel0)

    steps-are : ((mount0 ++ prepare s bs a b1) ++ program_header s b1 (ready_bytes s bs a b1) header1 ∷ [])
        ++ program_text s b1 new ++ rel0 ≡ steps
    steps-are =
        ap (λ xs. xs ++ program_text s b1 new ++ rel0)
        (append_assoc mount0 (prepare s bs a b1) (program_header s b1 (ready_bytes s bs a b1) header1 ∷ []))
        ∙ ap (λ xs. xs ++ rel0)
        (append_assoc mount0 (prepare s bs a b1 ++ program_header s b1 (ready_bytes s bs a b1) header1 ∷ [])
        (program_text s b1 new))
        ∙ append_assoc mount0 ((prepare s bs a b1 ++ program_header s b1 (ready_bytes s bs a b1) header1 ∷ [])
        ++ program_text s b1 new) rel0

    -- what the first mount leaves
    pub mounted_done : done s bs mount0 ≡ cs
    mounted_done = first.mount_done s g bs a.meaning acc id lnum v.entry held.0 was slot number half
        no_cause.is_new.inside e0 may0.0 a.scan.image_seq agrees named0 loses0 (prepare s bs a e0)
        (ready_bytes s bs a e0) made0.0 made0.2 (a.scan.top_sqnum + 1) some_left (on.above image g a att) none

    mount_fails : AllFail (programs_copy s) (mount0 ++ prepare s bs a b1)
    mount_fails =
        fail-append (programs_copy s) mount0 (prepare s bs a b1)
        (fail-append (programs_copy s) (prepare s bs a e0) (program_header s e0 (ready_bytes s bs a e0) header0 ∷ [])
        (on.prepare_fails image g a att e0) (
          header_fails s g (ready_bytes s bs a e0) made0.2.size header0
              (first.blank_fits s v.entry id lnum (a.scan.top_sqnum + 1) slot number half wide some_left)
              (first.blank_sound s v.entry id lnum (a.scan.top_sqnum + 1) slot number half wide) e0 refl,
          tt,
        ))
        (on.prepare_fails image g a att b1)

    -- where the new is meant from
    steps_turn : turn s steps new ≡ length mount0 + (length (prepare s bs a b1) + suc (pages_needed s new))
    steps_turn =
        let fits = copy_fits s v.entry id lnum (a.scan.top_sqnum + 1 + 1) new slot number half wide no_cause.is_new.some
        fits_leb many in
        let sound = copy_sound s v.entry id lnum (a.scan.top_sqnum + 1 + 1) new slot number half wide
        no_cause.is_new.some fits_leb in
        let n = length-append mount0 (prepare s bs a b1) in
        let turn_at = turn-is s g (ready_bytes s bs a b1) made1.2.size header1 fits sound refl b1 new
        (mount0 ++ prepare s bs a b1) rel0 mount_fails in
        ap (λ xs. turn s xs new) (sym steps-are) ∙ turn_at ∙ omega arith

    plan-steps : unmapped_plan s bs a v.entry id lnum new e0 b1 ≡ steps
    plan-steps =
        let two : a.scan.top_sqnum + 2 ≡ a.scan.top_sqnum + 1 + 1 = omega arith in
        ap
        (λ k. mount0
        ++ ((prepare s bs a b1 ++ program_header s b1 (ready_bytes s bs a b1)
        (copy_header (leb_header s v.entry id lnum) k new) ∷ []) ++ program_text s b1 new ++ rel0)) two

    pub unmapped_turn : turn s (unmapped_plan s bs a v.entry id lnum new e0 b1) new
        ≡ length mount0 + (length (prepare s bs a b1) + suc (pages_needed s new))
    unmapped_turn = ap (λ xs. turn s xs new) plan-steps ∙ steps_turn

    unmapped_survives : SurvivesCuts s bs a.meaning id lnum new steps
    unmapped_survives =
        let fits = copy_fits s v.entry id lnum (a.scan.top_sqnum + 1 + 1) new slot number half wide no_cause.is_new.some
        fits_leb many in
        let sound = copy_sound s v.entry id lnum (a.scan.top_sqnum + 1 + 1) new slot number half wide
        no_cause.is_new.some fits_leb in
        let one = one-copy s g (ready_bytes s bs a b1) made1.2.size header1 fits sound refl b1 new
        (mount0 ++ prepare s bs a b1) rel0 mount_fails (on.release_fails image g a att e0 (ready_ec s bs a e0)) in
        survives s bs a.meaning id lnum new steps
        (length mount0 + (length (prepare s bs a b1) + suc (pages_needed s new)))
        (ap (count_by (programs_copy s)) (sym steps-are) ∙ one)
        steps_turn
        (first.unmapped s g bs a.meaning acc id lnum v.entry held.0 was slot number half no_cause.is_new.inside e0
        may0.0 a.scan.image_seq agrees named0 loses0 (prepare s bs a e0) (ready_bytes s bs a e0) made0.0 made0.2
        (a.scan.top_sqnum + 1) some_left (on.above image g a att) none
        new no_cause.is_new b1 apart may1.0 named1 loses1 (prepare s bs a b1)
        (ready_bytes s bs a b1) made1.0 made1.2 many rel0 release0)

    pub unmapped_torn : Tears (plan_of s bs a v.entry id lnum new)
    unmapped_torn =
        subst Tears
        (sym
        (ap (λ (o : Option ℕ). option_map_or (mapped_plan s bs a v.entry id lnum new (taken s bs a 0)) o
        (unmapped_plan s bs a v.entry id lnum new (taken s bs a 0) (taken s bs a 1))) found
        ∙ plan-steps)) (
          length mount0 + (length (prepare s bs a b1) + suc (pages_needed s new)),
          steps_turn,
          length mount0 + (length (prepare s bs a b1) + suc (pages_of s new)),
          (let w = whole_place-is s new paged in let most = w.most in omega arith),
          first.unmapped_tears s g bs a.meaning acc id lnum v.entry held.0 was slot number half
              no_cause.is_new.inside e0 may0.0 a.scan.image_seq agrees named0 loses0 (prepare s bs a e0)
              (ready_bytes s bs a e0) made0.0 made0.2 (a.scan.top_sqnum + 1) some_left (on.above image g a att) none
              new no_cause.is_new b1 apart may1.0 named1 loses1 (prepare s bs a b1)
              (ready_bytes s bs a b1) made1.0 made1.2 many rel0 release0,
        )

    pub survives_unmapped : SurvivesCuts s bs a.meaning id lnum new (plan_of s bs a v.entry id lnum new)
    survives_unmapped =
        subst (SurvivesCuts s bs a.meaning id lnum new)
        (sym
        (ap (λ (o : Option ℕ). option_map_or (mapped_plan s bs a v.entry id lnum new (taken s bs a 0)) o
        (unmapped_plan s bs a v.entry id lnum new (taken s bs a 0) (taken s bs a 1))) found
        ∙ plan-steps))
        unmapped_survives

  -- either
  pub survives_all : SurvivesCuts s bs a.meaning id lnum new (plan_of s bs a v.entry id lnum new)
  survives_all = by_winner (finite.get a.scan.winners (id, lnum)) refl
    where
      by_winner : (o : Option ℕ) → finite.get a.scan.winners (id, lnum) ≡ o
          → SurvivesCuts s bs a.meaning id lnum new (plan_of s bs a v.entry id lnum new)
      by_winner (Some old) e = survives_mapped old e
      by_winner None e = survives_unmapped e

  either_torn : Tears (plan_of s bs a v.entry id lnum new)
  either_torn = by_winner (finite.get a.scan.winners (id, lnum)) refl
    where
      by_winner : (o : Option ℕ) → finite.get a.scan.winners (id, lnum) ≡ o → Tears (plan_of s bs a v.entry id lnum new)
      by_winner (Some old) e = mapped_torn old e
      by_winner None e = unmapped_torn e

  -- it survives each tear too
  pub tears_all : SurvivesTears s bs a.meaning (changed a.meaning id lnum new) (plan_of s bs a v.entry id lnum new)
      (turn s (plan_of s bs a v.entry id lnum new) new)
  tears_all =
      let t = either_torn in
      subst (λ (n : ℕ). SurvivesTears s bs a.meaning (changed a.meaning id lnum new) (plan_of s bs a v.entry id lnum new) n)
      (sym t.1) (exact_tears s bs a.meaning (changed a.meaning id lnum new) (plan_of s bs a v.entry id lnum new) t.0 t.2 t.4)

  -- and if more goes wrong
  pub harm_all : SurvivesHarm s bs a.meaning (changed a.meaning id lnum new) (plan_of s bs a v.entry id lnum new)
      (turn s (plan_of s bs a v.entry id lnum new) new)
      (turn s (plan_of s bs a v.entry id lnum new) new + (pages_of s new - pages_needed s new))
  harm_all =
      let t = either_torn in
      subst (λ (n : ℕ). SurvivesHarm s bs a.meaning (changed a.meaning id lnum new) (plan_of s bs a v.entry id lnum new) n
      (n + (pages_of s new - pages_needed s new)))
      (sym t.1) (subst (SurvivesHarm s bs a.meaning (changed a.meaning id lnum new) (plan_of s bs a v.entry id lnum new) t.0)
      t.3 (any_tears s bs a.meaning (changed a.meaning id lnum new) (plan_of s bs a v.entry id lnum new) t.0 t.2
      (let e = t.3 in omega arith) t.4))
