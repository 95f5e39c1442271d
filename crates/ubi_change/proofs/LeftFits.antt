-- A volume that is left holds what it held, if it may have its size.
use Rattle.ubi_change.proofs.Prelude.{◌≡◌, ◌≢◌, ℕ, ◌-◌, ◌*◌, ◌<◌, ◌≤◌, inl, inr, List, length, refl, false, min, records_of, nat_cmp, arith, ap, ap₂, sym, ◌∙◌, subst, cases_lt, None, Option, Some, IfSome, flat_map, slice_index, unwrap_or, blank, Sizes, usable, NoMember, AcceptsBlocks, NoMismatch, LebReads, StaticReads, VolumeReads, Fits, IsVolume, Meant, Content, Volume, MayBeSized, rec_fault, slots, mul-le, short_piece, most_pieces, HoldContents, piece, KeepsNoBlank}
use Rattle.std.specs.FinMap as finite
use Rattle.ubi_media.specs.declared.vid.VolKind.TheVariants as kind
use Rattle.ubi_volume.specs.declared.content.Content.TheVariants as content
use Rattle.ubi_change.proofs.EditedMeaning as edited
use Rattle.ubi_change.proofs.EditedMeaning.{IsLeft}

module _ (s : Sizes) (bs : List (List ℕ)) (ends : List ℕ) (m : Meant) (acc : AcceptsBlocks s bs m) (id : ℕ) (v w : Volume)
    (was : finite.get m.volumes id ≡ Some v) (is : IsLeft v w) (sized : MayBeSized s bs ends id v w) where
  old : IsVolume s id v
  old = edited.volume s bs ends m acc id v w was is sized

  same : usable s w.entry ≡ usable s v.entry
  same = edited.usable_same s bs ends m acc id v w was is sized

  reads : VolumeReads s bs id v.entry v.content
  reads = (edited.slot s bs ends m acc id v w was is sized).1

  static_fits : (text : List ℕ) → v.entry.marker ≡ false → v.entry.kind ≡ kind.Static → StaticReads s bs id v.entry text
      → length text ≤ v.entry.reserved * usable s v.entry → length text ≤ w.entry.reserved * usable s w.entry
  static_fits text unmarked static held most = by sized held
    where
      alike : NoMismatch s bs (records_of m)
      alike = subst (NoMismatch s bs) (sym (edited.same s bs ends m acc id v w was is sized)) acc.alike

      few : (ps : List ℕ) → HoldContents s bs id v.entry ps
          → ((lnum : ℕ) → min v.entry.reserved w.entry.reserved ≤ lnum → NoMember s bs (id, lnum)) → length ps ≤ w.entry.reserved
      few ps h none = elim (cases_lt w.entry.reserved (length ps)) [
        | inr most ↦ most
        | inl more ↦
            let l = h.within in
            let n = h.some in
            absurd (none (length ps - 1) (omega (arith, more, l, n)) (slice_index ps (length ps - 1))
            (h.win (length ps - 1) (omega (arith, more, l, n))).member)
      ]

      by : MayBeSized s bs ends id v w → StaticReads s bs id v.entry text → length text ≤ w.entry.reserved * usable s w.entry
      by (inl equal) h = subst (λ n. length text ≤ n) (ap₂ (λ (a b : ℕ). a * b) (sym equal) (sym same)) most
      by (inr k) (inl h) = omega (arith, ap length h.1)
      by (inr k) (inr h) =
          let all : length (flat_map (piece s bs) h.0) ≤ length h.0 * usable s v.entry =
          most_pieces (piece s bs) (usable s v.entry) h.0 (λ i b. short_piece s bs (records_of m) alike id v.entry
          (edited.recorded s bs ends m acc id v w was is sized) unmarked static i (slice_index h.0 i) (h.1.win i b)) in
          let fit : length h.0 * usable s v.entry ≤ w.entry.reserved * usable s v.entry =
          mul-le (length h.0) (usable s v.entry) w.entry.reserved (usable s v.entry) (few h.0 h.1 k.1) (omega arith) in
          subst (λ u. length text ≤ w.entry.reserved * u) (sym same) (omega (arith, ap length h.2, all, fit))

  leb_fits : (lebs : finite.FinMap nat_cmp (List ℕ)) → KeepsNoBlank s v.entry (content.Dynamic lebs)
      → ((lnum : ℕ) → lnum < v.entry.reserved → LebReads s bs id v.entry lnum (unwrap_or (finite.get lebs lnum) (blank (usable s v.entry))))
      → (lnum : ℕ) → (o : Option (List ℕ)) → finite.get lebs lnum ≡ o
      → IfSome o (λ text. (lnum < v.entry.reserved) × (length text ≡ usable s v.entry))
      → IfSome o (λ text. (lnum < w.entry.reserved) × (length text ≡ usable s w.entry))
  leb_fits lebs kept held lnum None e h = tt
  leb_fits lebs kept held lnum (Some text) e h = (by sized, h.1 ∙ sym same)
    where
      not_blank : text ≢ blank (usable s v.entry)
      not_blank = subst (λ (o : Option (List ℕ)). IfSome o (λ t. t ≢ blank (usable s v.entry))) e (kept lnum)

      unread : NoMember s bs (id, lnum) → LebReads s bs id v.entry lnum text → ⊥
      unread none (inl h) = none h.0 h.1.member
      unread none (inr h) = not_blank h.1

      read : LebReads s bs id v.entry lnum text
      read = subst (λ (o : Option (List ℕ)). LebReads s bs id v.entry lnum (unwrap_or o (blank (usable s v.entry)))) e (held lnum h.0)

      by : MayBeSized s bs ends id v w → lnum < w.entry.reserved
      by (inl equal) = (let l = h.0 in omega (arith, l, equal))
      by (inr k) = elim (cases_lt lnum w.entry.reserved) [
        | inl below ↦ below
        | inr beyond ↦ absurd (unread (k.1 lnum (omega (arith, beyond))) read)
      ]

  by_content : (c : Content) → v.content ≡ c → Fits s v.entry c → KeepsNoBlank s v.entry c → VolumeReads s bs id v.entry c → Fits s w.entry c
  by_content content.Updating e fits kept h = is.marker ∙ fits
  by_content content.Damaged e fits kept h = (is.marker ∙ fits.0, is.kind ∙ fits.1)
  by_content (content.Static text) e fits kept h =
      (is.marker ∙ fits.0, is.kind ∙ fits.1, static_fits text fits.0 fits.1 h.2 fits.2)
  by_content (content.Dynamic lebs) e fits kept h =
      (is.marker ∙ fits.0, is.kind ∙ fits.1, λ lnum. leb_fits lebs kept h.2 lnum (finite.get lebs lnum) refl (fits.2 lnum))

  by_kept : (c : Content) → KeepsNoBlank s v.entry c → KeepsNoBlank s w.entry c
  by_kept content.Updating h = tt
  by_kept content.Damaged h = tt
  by_kept (content.Static text) h = tt
  by_kept (content.Dynamic lebs) h = λ lnum.
      subst (λ (n : ℕ). IfSome (finite.get lebs lnum) (λ text. text ≢ blank n)) (sym same) (h lnum)

  -- so it is a volume, if its record breaks no rule
  pub left_volume : id < slots s → rec_fault s w.entry ≡ None → IsVolume s id w
  left_volume slot sound = record {
    slot = slot;
    sound = sound;
    fits = subst (Fits s w.entry) (sym is.content) (by_content v.content refl old.fits old.kept reads);
    kept = subst (KeepsNoBlank s w.entry) (sym is.content) (by_kept v.content old.kept);
  }
