-- What a volume reads fits its LEBs.
use Rattle.ubi_compose.proofs.Prelude.{◌≡◌, ℕ, ◌*◌, ◌<◌, ◌≤◌, List, length, subst, arith, IfSome, Option, FinMap, AllByRecursion, nat_cmp, mul-le, Sizes, leb_size, usable, Fits, IsVolume, Volume, reserved_within, all_from, held_entry}
use Rattle.std.specs.FinMap as finite
use Rattle.ubi_volume.specs.declared.content.Content.TheVariants as content

module _ (s : Sizes) (vol : ℕ) (v : Volume) (is : IsVolume s vol v) where
  -- a static text has few pieces
  pub text_few : (text : List ℕ) → v.content ≡ content.Static text → length text ≤ 2147483648 * usable s v.entry
  text_few text e =
      let fits : Fits s v.entry (content.Static text) = subst (Fits s v.entry) e is.fits in
      let size : ℕ = usable s v.entry in
      let wide = reserved_within s v.entry is.sound in
      let most : v.entry.reserved * size ≤ 2147483648 * size =
      mul-le v.entry.reserved size 2147483648 size (omega arith) (omega arith) in
      let here = fits.2 in
      omega arith

  -- each LEB of a dynamic volume has room for what it reads
  pub lebs_fit : (lebs : FinMap nat_cmp (List ℕ)) → v.content ≡ content.Dynamic lebs
      → AllByRecursion (λ e. length e.1 ≤ leb_size s) (finite.entries lebs)
  lebs_fit lebs e =
      let fits : Fits s v.entry (content.Dynamic lebs) = subst (Fits s v.entry) e is.fits in
      all_from (λ (e : ℕ × List ℕ). length e.1 ≤ leb_size s) (finite.entries lebs) (λ e at.
      let size =
      (subst (λ (o : Option (List ℕ)). IfSome o (λ text. (e.0 < v.entry.reserved)
      × (length text ≡ usable s v.entry))) (held_entry lebs e at) (fits.2 e.0)).1 in
      omega arith)
