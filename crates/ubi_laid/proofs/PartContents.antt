-- What a volume holds after bytes were written to it: its LEBs, and whether its record allows it.
use Rattle.ubi_laid.proofs.Prelude.{◌≡◌, ◌==◌, ℕ, ◌+◌, ◌*◌, ◌<◌, ◌≤◌, false, List, length, length-drop, length-take-le, drop, refl, ap, sym, ◌∙◌, subst, arith, inl, inr, zero-add, IfSome, None, Option, Some, option_map, range_with_len, mul-le, same_Some, filled, Sizes, usable, VolumeRecord, VolKind, within_or_past, length-filled, Fits, pieces, share, pieces_few, pieces_suffice, share_most, content_of, lebs_of, text_of, Part}
use Rattle.std.specs.Prelude.{find}
use Rattle.std.specs.FinMap as finite
use Rattle.ubi_media.specs.declared.vid.VolKind.TheVariants as kind
use Rattle.ubi_laid.proofs.EntriesByNumber.{find_in_range, found_in_range, get_made}

-- a part has as many bytes as it says where the source has them
pub text_size : (bytes : List ℕ) (p : Part) → p.start + p.len ≤ length bytes → length (text_of bytes p) ≡ p.len
text_size bytes p reaches = length-take-le p.len (drop p.start bytes)
    (let n = length-drop p.start bytes in omega (arith, n, reaches))

module _ (size : ℕ) (text : List ℕ) where
  abbrev pub leb_of : ℕ → List ℕ
  leb_of lnum = filled size (share size text lnum)

  abbrev count : ℕ
  count = pieces size (length text)

  made : (lnum : ℕ) → finite.get (lebs_of size text) lnum
      ≡ option_map (λ (e : ℕ × List ℕ). e.1) (option_map (λ (l : ℕ). (l, leb_of l))
      (find (λ l. l == lnum) (range_with_len 0 count)))
  made lnum = get_made (λ (l : ℕ). (l, leb_of l)) (range_with_len 0 count) lnum

  -- a LEB holds its piece
  pub leb_there : (lnum : ℕ) → lnum < count → finite.get (lebs_of size text) lnum ≡ Some (leb_of lnum)
  leb_there lnum below = made lnum ∙ ap (λ o. option_map (λ (e : ℕ × List ℕ). e.1)
      (option_map (λ (l : ℕ). (l, leb_of l)) o))
      (find_in_range 0 count lnum (omega arith) (let e = zero-add count in omega (arith, e, below)))

  -- and there are no others
  pub leb_within : (lnum : ℕ) (x : List ℕ) → finite.get (lebs_of size text) lnum ≡ Some x → lnum < count
  leb_within lnum x e = by (find (λ l. l == lnum) (range_with_len 0 count)) refl
    where
      by : (o : Option ℕ) → find (λ l. l == lnum) (range_with_len 0 count) ≡ o → lnum < count
      by None f = absurd (let g = sym e ∙ made lnum
          ∙ ap (λ o. option_map (λ (e : ℕ × List ℕ). e.1) (option_map (λ (l : ℕ). (l, leb_of l)) o)) f in cc)
      by (Some i) f = (let r = found_in_range 0 count lnum i f in let z = zero-add count in omega (arith, r, z))

  pub leb_is : (lnum : ℕ) (x : List ℕ) → finite.get (lebs_of size text) lnum ≡ Some x → x ≡ leb_of lnum
  leb_is lnum x e = same_Some x (leb_of lnum) (sym e ∙ leb_there lnum (leb_within lnum x e))

module _ (s : Sizes) (r : VolumeRecord) (some : 1 ≤ usable s r) (text : List ℕ) where
  abbrev size : ℕ
  size = usable s r

  -- a record without the marker allows a text for which its LEBs suffice
  pub content_fits : (k : VolKind) → r.kind ≡ k → r.marker ≡ false → length text ≤ r.reserved * usable s r
      → Fits s r (content_of k (usable s r) text)
  content_fits kind.Static is clear few = (clear, is, few)
  content_fits kind.Dynamic is clear few = (clear, is, λ lnum. by lnum (finite.get (lebs_of size text) lnum) refl)
    where
      by : (lnum : ℕ) (o : Option (List ℕ)) → finite.get (lebs_of size text) lnum ≡ o
          → IfSome o (λ x. (lnum < r.reserved) × (length x ≡ size))
      by lnum None e = tt
      by lnum (Some x) e = (
        (let below = leb_within size text lnum x e in
            let most = pieces_few size some (length text) r.reserved few in omega (arith, below, most)),
        ap length (leb_is size text lnum x e)
            ∙ length-filled size (share size text lnum) (share_most size some text lnum),
      )

  -- and none for which they don't
  pub long_misfits : (k : VolKind) → r.reserved * usable s r < length text → Fits s r (content_of k (usable s r) text)
      → ⊥
  long_misfits kind.Static long fits = let few = fits.2 in omega arith
  long_misfits kind.Dynamic long fits =
      let more : r.reserved < pieces size (length text) = elim (within_or_past (pieces size (length text)) r.reserved) [
        | inl few ↦ absurd (let most = mul-le (pieces size (length text)) size r.reserved size few (omega arith) in
            let all = pieces_suffice size some (length text) in omega (arith, most, all, long))
        | inr past ↦ past
      ] in
      let here = subst (λ (o : Option (List ℕ)). IfSome o (λ x. (r.reserved < r.reserved) × (length x ≡ size)))
      (leb_there size text r.reserved more) (fits.2 r.reserved) in
      let below = here.0 in omega arith
