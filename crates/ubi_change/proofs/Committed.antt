-- Volumes are written into slots that had no volume and no member, and the others stay as they read: what the plan of such a
-- commit needs is so.
use Rattle.ubi_change.proofs.Prelude.{SurvivesCommit, LeavesBoth, commit_plan, ◌≡◌, ◌≢◌, ℕ, zero, suc, ◌+◌, ◌-◌, ◌^◌, ◌<◌, ◌≤◌, ◌⊎◌, inl, inr, false, List, [], ◌∷◌, length, refl, ap, sym, ◌∙◌, subst, arith, cases_lt, None, Option, Some, option_map, slice_get, same_Some, IsGeometry, Sizes, vid_fault, VidFits, VolumeRecord, VidHeader, Image, eraseblocks, of_blocks, NoFault, block, Leb, NoMember, Wins, Wins-unique, leb_of, member, meant_by, volume_is, record_of, AttachValue, IsOutside, IsUnlike, IsWithin, NoMismatch, SlotMeans, VolumeReads, IsMeaning, IsVolume, Meant, Records, VolumeMap, records_of, Volume, BothGood, taken, takeable, table_pages, weak_pages, get, breaks, fields_from, AllByRecursion, IfSome, apart_blocks, fine_blocks, its_volume, own_like, laid_read, Holds, all_at, all_from, CanBeLaid, Laid, laid_blocks, AreLaidIn, IsLaidAt, IsNoneOf, EachIsVolume, numbered, trimmed, AreBytes, layout, IsFrugalCommit, AllFit, RisesBetweenErases, holder, turn, SurvivesHarm, SurvivesTears, pages_needed, pages_of, first_fault}
use Rattle.std.specs.FinMap as finite
use Rattle.ubi_media.specs.declared.vid.VolKind.TheVariants as kind
use Rattle.ubi_change.proofs.CommitAttached as commit
use Rattle.ubi_change.proofs.CommitAttached.{Committing}
use Rattle.ubi_change.proofs.CommitFits.{HasBytes, commit_fits}
use Rattle.ubi_change.proofs.CommitFrugal.{commit_frugal}
use Rattle.ubi_change.proofs.CommitRises.{commit_rises}
use Rattle.ubi_change.proofs.OrphansWritten.{AllHeld, AreFilled, AreWritable, Holds as IsHeld, NoneWins}
use Rattle.ubi_change.proofs.OrphanWritten.{IsWritable}
use Rattle.ubi_change.proofs.Mounted.{leb_same}
use Rattle.ubi_change.proofs.MeaningKept.{KeepsLeb, kept_back, volume_kept}
use Rattle.ubi_change.proofs.PlanPremises.{IsShown}
use Rattle.ubi_change.proofs.Premises.{taken_loses}
use Rattle.ubi_change.proofs.Choosing.{may_be_taken}
use Rattle.ubi_change.proofs.TableAccepted.{ReadsAs}
use Rattle.ubi_change.proofs.Trimmed.{trimmed_paged, trimmed_reads, trimmed_room}
use Rattle.ubi_change.proofs.Unused.{within_counts}

-- whether one of some LEBs is this one
laid_or_not : (ls : List Laid) (of : Leb) → ((l : Laid) × Holds ls l × (leb_of l.header ≡ of)) ⊎ IsNoneOf ls of
laid_or_not [] of = inr tt
laid_or_not (x ∷ ls) of = elim (leb_same (leb_of x.header) of) [
  | inl same ↦ inl (x, (0, refl), same)
  | inr other ↦ elim (laid_or_not ls of) [
    | inl l ↦ inl (l.0, (suc l.1.0, l.1.1), l.2)
    | inr none ↦ inr (other, none)
  ]
]

-- the winners of a volume, as far as a record counts them, are like that record
abbrev pub AreLike : Sizes → List (List ℕ) → ℕ → VolumeRecord → Type 0
AreLike s bs id r = (lnum p : ℕ) (h : VidHeader) → IsWithin r lnum → Wins s bs (id, lnum) p → r.marker ≡ false
    → member s (block bs p) ≡ Some h → IsUnlike s r h → ⊥

-- a volume stays: the eraseblocks read it by its record, and it counts no LEB with a member that it didn't count before
pub record Stays (s : Sizes) (bs : List (List ℕ)) (id : ℕ) (v w : Volume) : Type 0 where
  pub reads : VolumeReads s bs id w.entry w.content
  pub like : AreLike s bs id w.entry
  pub within : (lnum : ℕ) → IsWithin w.entry lnum → IsWithin v.entry lnum ⊎ NoMember s bs (id, lnum)

-- volumes are written, and n has these and what stays
pub record IsCommitted (s : Sizes) (bs : List (List ℕ)) (m : Meant) (new : VolumeMap) (n : Meant) : Type 0 where
  pub sizes : n.sizes ≡ m.sizes
  pub image_seq : n.image_seq ≡ m.image_seq
  pub meaning : IsMeaning n
  pub there : (id : ℕ) (v : Volume) → finite.get new id ≡ Some v → finite.get n.volumes id ≡ Some v
  pub slot : (id : ℕ) (v : Volume) → finite.get new id ≡ Some v → finite.get m.volumes id ≡ None
  pub none : (id : ℕ) (v : Volume) → finite.get new id ≡ Some v → (lnum : ℕ) → NoMember s bs (id, lnum)
  pub stays : (id : ℕ) (w : Volume) → finite.get n.volumes id ≡ Some w → finite.get new id ≡ None
      → (v : Volume) × (finite.get m.volumes id ≡ Some v) × Stays s bs id v w

numbered_fits : (h : VidHeader) (q : ℕ) → VidFits h → q < 2 ^ 64 → VidFits (record h { sqnum = q })
numbered_fits h q f few = record {
  vol_id = f.vol_id;
  lnum = f.lnum;
  data_size = f.data_size;
  used_ebs = f.used_ebs;
  data_pad = f.data_pad;
  data_crc = f.data_crc;
  sqnum = few;
}

numbered_sound : (s : Sizes) (h : VidHeader) (q : ℕ) → vid_fault s h ≡ None → vid_fault s (record h { sqnum = q }) ≡ None
unfolding first_fault breaks fields_from
numbered_sound s h q e = e

module _ (image : Image) (g : IsGeometry image.sizes) (a : AttachValue) (att : IsShown image a) (new : VolumeMap) (n : Meant)
    (is : of_blocks IsCommitted image a.meaning new n) where
  abbrev s : Sizes
  s = image.sizes

  abbrev bs : List (List ℕ)
  bs = eraseblocks image

  abbrev m : Meant
  m = a.meaning

  abbrev t : Records
  t = records_of m

  abbrev pub laid : List Laid
  laid = laid_blocks s (finite.entries new)

  sizes : n.sizes ≡ s
  sizes = is.sizes ∙ att.accepted.accepted.means.sizes

  volume_new : (id : ℕ) (v : Volume) → finite.get new id ≡ Some v → IsVolume s id v
  volume_new id v e = subst (λ (z : Sizes). IsVolume z id v) sizes (volume_is n is.meaning id v (is.there id v e))

  each : EachIsVolume s new
  each id = by (finite.get new id) refl
    where
      by : (o : Option Volume) → finite.get new id ≡ o → IfSome o (IsVolume s id)
      by None e = tt
      by (Some v) e = volume_new id v e

  -- each LEB can be written
  fine : AllByRecursion (CanBeLaid s) laid
  fine = fine_blocks s new each g

  fine_writable : (k : ℕ) (l : Laid) → a.scan.top_sqnum + 1 + k < 2 ^ 64 → CanBeLaid s l
      → IsWritable s (numbered s bs a k l) (trimmed s l.text)
  fine_writable k l few f =
      let short : length l.text ≤ image.sizes.peb_size - image.sizes.data_offset = (let r = f.room in omega arith) in
      record {
        fits = numbered_fits l.header (a.scan.top_sqnum + 1 + k) f.fits few;
        sound = numbered_sound s l.header (a.scan.top_sqnum + 1 + k) f.sound;
        known = f.known;
        placed = f.placed;
        plain = f.original;
        paged = trimmed_paged s g l.text short;
        room = trimmed_room s g l.text short;
      }

  all_writable : (ls : List Laid) (k : ℕ) → a.scan.top_sqnum + 1 + (k + length ls) ≤ 0xFFFFFFFFFFFFFFFF
      → AllByRecursion (CanBeLaid s) ls → AreWritable s bs a k ls
  all_writable [] k few f = tt
  all_writable (l ∷ ls) k few f = (
    fine_writable k l (omega arith) f.0,
    all_writable ls (k + 1) (omega arith) f.1,
  )

  no_record : (id : ℕ) → finite.get m.volumes id ≡ None → finite.get t.of id ≡ None
  no_record id e = record_of m id ∙ ap (option_map (λ (v : Volume). v.entry)) e

  outside : AllByRecursion (λ (l : Laid). IsOutside t (leb_of l.header)) laid
  outside = all_from (λ (l : Laid). IsOutside t (leb_of l.header)) laid (λ l h.
      let e = its_volume s new l h in
      let slot = (volume_new e.0 e.1 e.2).slot in
      let id = e.4 in
      ((omega arith), inl (ap (finite.get t.of) id ∙ no_record e.0 (is.slot e.0 e.1 e.2))))

  -- what the new table counts and the old one didn't has no member
  fresh : (of : Leb) → IsOutside t of → (IsOutside (records_of n) of → ⊥) → NoMember s bs of
  fresh of out counts = by_next (finite.get n.volumes of.0) refl
    where
      by_stays : (w : Volume) → finite.get n.volumes of.0 ≡ Some w → finite.get new of.0 ≡ None → NoMember s bs of
      by_stays w e f =
          let k = is.stays of.0 w e f in
          let recorded : finite.get t.of of.0 ≡ Some k.0.entry =
          record_of m of.0 ∙ ap (option_map (λ (v : Volume). v.entry)) k.1 in
          elim (k.2.within of.1 (λ dynamic. inside w e dynamic)) [
            | inl within ↦ absurd (within_counts t of.0 k.0.entry of.1 recorded within out)
            | inr none ↦ none
          ]
        where
          inside : (w : Volume) → finite.get n.volumes of.0 ≡ Some w → w.entry.kind ≡ kind.Dynamic → of.1 < w.entry.reserved
          inside w e dynamic = elim (cases_lt of.1 w.entry.reserved) [
            | inl below ↦ below
            | inr beyond ↦ absurd (counts (
              out.0,
              inr (
                w.entry,
                record_of n of.0 ∙ ap (option_map (λ (v : Volume). v.entry)) e,
                dynamic,
                beyond,
              ),
            ))
          ]

      by_new : (o : Option Volume) (w : Volume) → finite.get new of.0 ≡ o → finite.get n.volumes of.0 ≡ Some w
          → NoMember s bs of
      by_new None w f e = by_stays w e f
      by_new (Some v) w f e = is.none of.0 v f of.1

      by_next : (o : Option Volume) → finite.get n.volumes of.0 ≡ o → NoMember s bs of
      by_next None e = absurd (counts (out.0, inl (record_of n of.0 ∙ ap (option_map (λ (v : Volume). v.entry)) e)))
      by_next (Some w) e = by_new (finite.get new of.0) w refl e

  -- once the LEBs are written
  module _ (enough : length laid ≤ length (takeable s bs a.states)) (ds : List (List ℕ)) (f : AreFilled s bs a bs 0 laid ds)
    where
      clean : NoFault s ds
      clean = f.filling.accepted.clean

      held_at : (ls : List Laid) (k p : ℕ) (l : Laid) → AllHeld s bs a ds k ls → slice_get ls p ≡ Some l
          → IsHeld s bs a ds (k + p) l
      held_at [] k p l h e = absurd (cc)
      held_at (x ∷ ls) k zero l h e =
          let same : x ≡ l = same_Some x l e in
          let sum : k ≡ k + 0 = omega arith in
          subst (λ (i : ℕ). IsHeld s bs a ds i l) sum (subst (IsHeld s bs a ds k) same h.0)
      held_at (x ∷ ls) k (suc p) l h e =
          let sum : k + 1 + p ≡ k + suc p = omega arith in
          subst (λ (i : ℕ). IsHeld s bs a ds i l) sum (held_at ls (k + 1) p l h.1 e)

      place : (l : Laid) → Holds laid l → (p : ℕ) × IsLaidAt s ds l p
      place l h =
          let at = held_at laid 0 h.0 l f.held h.1 in
          let good = all_at (CanBeLaid s) laid h.0 l fine h.1 in
          let short : length l.text ≤ image.sizes.peb_size - image.sizes.data_offset = (let r = good.room in omega arith) in (
            taken s bs a (0 + h.0),
            record {
              wins = at.wins;
              sqnum = a.scan.top_sqnum + 1 + (0 + h.0);
              header = at.header;
              reads = at.reads ∙ trimmed_reads s g l.text short;
            },
          )

      -- a LEB without a member that isn't written still has none, and what counts of what stays keeps its winner
      none_wins : (of : Leb) → (IsOutside t of → ⊥) ⊎ NoMember s bs of → NoneWins s bs a bs 0 (0 + length laid) of
      none_wins of (inl counts) i l h w =
          taken_loses s g bs a t att.states (taken s bs a i) (may_be_taken s bs a.states i (omega arith)) of counts w
      none_wins of (inr none) i l h w = none (taken s bs a i) w.member

      kept : (of : Leb) → (IsOutside t of → ⊥) ⊎ NoMember s bs of → IsNoneOf laid of → KeepsLeb s bs ds of
      kept of k none = f.keeps of none (none_wins of k)

      -- a volume that stays
      module _ (id : ℕ) (w : Volume) (e : finite.get n.volumes id ≡ Some w) (old : finite.get new id ≡ None) where
        stay : (v : Volume) × (finite.get m.volumes id ≡ Some v) × Stays s bs id v w
        stay = is.stays id w e old

        unwritten : (lnum : ℕ) → IsNoneOf laid (id, lnum)
        unwritten lnum = all_from (λ (l : Laid). ◌≢◌ {A = Leb} (leb_of l.header) (id, lnum)) laid (λ l h same.
            let k = its_volume s new l h in
            let number : k.0 ≡ id = sym k.4 ∙ ap (λ (of : Leb). of.0) same in
            let there : finite.get new id ≡ Some k.1 = ap (finite.get new) (sym number) ∙ k.2 in
            let none = old in
            cc)

        recorded : finite.get t.of id ≡ Some stay.0.entry
        recorded = record_of m id ∙ ap (option_map (λ (v : Volume). v.entry)) stay.1

        stay_kept : (lnum : ℕ) → IsWithin w.entry lnum → KeepsLeb s bs ds (id, lnum)
        stay_kept lnum within = elim (stay.2.within lnum within) [
          | inl was ↦ kept (id, lnum) (inl (within_counts t id stay.0.entry lnum recorded was)) (unwritten lnum)
          | inr none ↦ kept (id, lnum) (inr none) (unwritten lnum)
        ]

        stay_reads : VolumeReads s ds id w.entry w.content
        stay_reads = volume_kept s bs ds clean id w.entry w.content stay_kept stay.2.reads

        stay_like : AreLike s ds id w.entry
        stay_like lnum p h within wins marker is_member unlike =
            let was = (kept_back s bs ds clean (id, lnum) (stay_kept lnum within)).winner p wins in
            stay.2.like lnum p h within was.0 marker (ap (member s) was.1 ∙ is_member) unlike

      -- what was written lies where it was
      no_other : (id lnum : ℕ) (v : Volume) → finite.get new id ≡ Some v → IsNoneOf laid (id, lnum) → NoMember s ds (id, lnum)
      no_other id lnum v e none = (kept (id, lnum) (inr (is.none id v e lnum)) none).none (is.none id v e lnum)

      lies : AreLaidIn s ds new
      lies = record { each = all_from (λ l. (p : ℕ) × IsLaidAt s ds l p) laid place; no_other = no_other }

      -- a volume that was written
      module _ (id : ℕ) (v : Volume) (e : finite.get new id ≡ Some v) where
        new_reads : VolumeReads s ds id v.entry v.content
        new_reads = laid_read s ds new g each clean lies id v e

        new_like : AreLike s ds id v.entry
        new_like lnum p h within wins marker is_member unlike = elim (laid_or_not laid (id, lnum)) [
          | inr none ↦ no_other id lnum v e none p wins.member
          | inl l ↦
              let at = place l.0 l.1 in
              let here : at.0 ≡ p = Wins-unique s ds (id, lnum) at.0 p clean
              (subst (λ (of : Leb). Wins s ds of at.0) l.2 at.1.wins) wins in
              let header : h ≡ record l.0.header { sqnum = at.1.sqnum } = same_Some h (record l.0.header { sqnum = at.1.sqnum })
              (sym is_member ∙ ap (λ (q : ℕ). member s (block ds q)) (sym here) ∙ at.1.header) in
              let like = own_like s new each id v e l.0 l.1 (ap (λ (of : Leb). of.0) l.2) in
              elim unlike [
                | inl other ↦ other (ap (λ (k : VidHeader). k.kind) header ∙ like.0)
                | inr other ↦ other (ap (λ (k : VidHeader). k.data_pad) header ∙ like.1)
              ]
        ]

      -- so they read as n
      volume_reads : (id : ℕ) (w : Volume) → finite.get n.volumes id ≡ Some w
          → VolumeReads s ds id w.entry w.content × AreLike s ds id w.entry
      volume_reads id w e = by_new (finite.get new id) refl
        where
          by_new : (o : Option Volume) → finite.get new id ≡ o → VolumeReads s ds id w.entry w.content × AreLike s ds id w.entry
          by_new None old = (stay_reads id w e old, stay_like id w e old)
          by_new (Some v) there =
              let same : v ≡ w = same_Some v w (sym (is.there id v there) ∙ e) in
              subst (λ (u : Volume). VolumeReads s ds id u.entry u.content × AreLike s ds id u.entry) same
              (new_reads id v there, new_like id v there)

      slot_by : (id : ℕ) (o : Option Volume) → finite.get n.volumes id ≡ o
          → SlotMeans s ds id (option_map (λ (v : Volume). v.entry) o) o
      slot_by id None e = tt
      slot_by id (Some w) e = (refl, (volume_reads id w e).0)

      alike : NoMismatch s ds (records_of n)
      alike p k =
          let c = k.2 in
          let w = meant_by n c.vol k.0 c.recorded in
          let like = subst (AreLike s ds c.vol) w.2 (volume_reads c.vol w.0 w.1).1 in
          like c.lnum p k.1 c.within c.wins k.3 k.4 k.5

      pub reads : ReadsAs s ds n
      reads = record {
        alike = alike;
        means = record {
          sizes = sizes;
          image_seq = is.image_seq ∙ f.filling.accepted.means.image_seq;
          meaning = is.meaning;
          slots = λ id. subst (λ (o : Option VolumeRecord). SlotMeans s ds id o (finite.get n.volumes id))
              (sym (record_of n id)) (slot_by id (finite.get n.volumes id) refl);
        };
      }

  -- the plan survives every cut
  module _ (both : of_blocks BothGood image t) (strong : weak_pages s (table_pages s (records_of n)) ≡ None)
      (few : a.scan.top_sqnum + (length laid + 2) ≤ 0xFFFFFFFFFFFFFFFF)
      (enough : length laid + 2 ≤ length (takeable s bs a.states)) where
    c : Committing
    c = record {
      image = image;
      geometry = g;
      from = a;
      attached = att;
      laid = laid;
      next = n;
      writable = all_writable laid 0 (omega arith) fine;
      outside = outside;
      apart = apart_blocks s new;
      fresh = fresh;
      reads = λ ds f. reads (omega arith) ds f;
      both = both;
      strong = strong;
      few = omega arith;
      enough = enough;
    }

    pub committed_survives : SurvivesCommit s bs m n (commit_plan s bs a new n)
    unfolding c
    committed_survives = commit.survives_commit c

    pub committed_both : LeavesBoth s bs n (commit_plan s bs a new n)
    unfolding c
    committed_both = commit.leaves_both c

    -- and so it does if the power fails during a step
    pub committed_tears : SurvivesTears s bs m n (commit_plan s bs a new n)
        (turn s (commit_plan s bs a new n) (table_pages s (records_of n)))
    unfolding c
    committed_tears = commit.commit_tears c

    pub committed_harm : SurvivesHarm s bs m n (commit_plan s bs a new n)
        (turn s (commit_plan s bs a new n) (table_pages s (records_of n)))
        (turn s (commit_plan s bs a new n) (table_pages s (records_of n))
        + (pages_of s (table_pages s (records_of n)) - pages_needed s (table_pages s (records_of n))))
    unfolding c
    committed_harm = commit.commit_harm c

    -- it keeps what a plan has to keep
    pub committed_fits : AllByRecursion (HasBytes s) laid → AreBytes (table_pages s (records_of n))
        → AllFit s bs (commit_plan s bs a new n)
    unfolding c
    committed_fits = commit_fits c

    pub committed_rises : RisesBetweenErases s bs (commit_plan s bs a new n)
    unfolding c
    committed_rises = commit_rises c

    pub committed_frugal : IsFrugalCommit s bs a (length laid + 2) n (commit_plan s bs a new n)
    unfolding c
    committed_frugal = commit_frugal c

    pub committed_holders : (k : ℕ) → k < 2 → Wins s bs (layout, k) (holder s bs a k)
    unfolding c
    committed_holders = commit.held c
