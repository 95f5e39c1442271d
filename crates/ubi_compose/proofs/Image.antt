-- Eraseblocks that are laid out, one for each LEB, followed by spare ones.
use Rattle.ubi_compose.proofs.Prelude.{◌≡◌, ℕ, ◌+◌, ◌-◌, ◌*◌, ◌/◌, ◌%◌, ◌^◌, ◌<◌, ◌≤◌, ◌⊎◌, inl, inr, List, [], ◌∷◌, ◌++◌, length, map, replicate, get_or, refl, ap, sym, ◌∙◌, subst, arith, length-append, Some, flat_map, option_map, slice_get, AllByRecursion, concat, first_chunks, mul-add-mod_self_right, get_or-append_right, get_or-replicate, length-map, length-replicate, concat_is, div-mul-add, mul-le, get_or_from_slice_get, slice_get-map, slice_get_cases, slice_get_within, same_Some, IsGeometry, Sizes, IsSound, NoFault, IsWholeImage, block, eraseblocks, IsMember, Leb, NoMember, Wins, good_in, leb_of, named_in, sqnum_at, sqnum_in, image_seq, seq_of, first_chunks-concat, length-concat, none_from_clean, seq_is, spare, Laid, laid_bytes, new_ec, leb, member, blank, IsLaidAt, AreApart, one_place, CanBeLaid, Holds, all_at, slice_get_left}
use Rattle.std.proofs.lemmas.List.{append_assoc}
use Rattle.ubi_compose.proofs.Blocks.{good-laid_bytes, leb-laid_bytes, length-laid_bytes, member-laid_bytes, named-laid_bytes, seq-laid_bytes, sound-laid_bytes, sqnum-laid_bytes}
use Rattle.ubi_compose.proofs.Spares.{length-spare, named-spare, seq-spare, sound-spare}

-- the eraseblocks
abbrev pub image_blocks : Sizes → ℕ → List Laid → ℕ → List (List ℕ)
image_blocks s seq ls spares = map (laid_bytes s (new_ec seq)) ls ++ replicate spares (spare s seq)

concat_append : (xs ys : List (List ℕ)) → concat (xs ++ ys) ≡ concat xs ++ concat ys
concat_append [] ys = refl
concat_append (x ∷ xs) ys = ap (λ z. x ++ z) (concat_append xs ys) ∙ sym (append_assoc x (concat xs) (concat ys))

concat_map : {X : Type 0} (f : X → List ℕ) (xs : List X) → concat (map f xs) ≡ flat_map f xs
concat_map f [] = refl
concat_map f (x ∷ xs) = ap (λ z. f x ++ z) (concat_map f xs)

-- their bytes
pub concat-image_blocks : (s : Sizes) (seq : ℕ) (ls : List Laid) (spares : ℕ)
    → concat (image_blocks s seq ls spares) ≡ flat_map (laid_bytes s (new_ec seq)) ls
    ++ flat_map (λ b. b) (replicate spares (spare s seq))
concat-image_blocks s seq ls spares =
    concat_append (map (laid_bytes s (new_ec seq)) ls) (replicate spares (spare s seq))
    ∙ ap (λ x. x ++ concat (replicate spares (spare s seq))) (concat_map (laid_bytes s (new_ec seq)) ls)
    ∙ ap (λ x. flat_map (laid_bytes s (new_ec seq)) ls ++ x) (concat_is (replicate spares (spare s seq)))

module _ (s : Sizes) (g : IsGeometry s) (seq : ℕ) (narrow : seq < 2 ^ 32) (ls : List Laid) (spares : ℕ)
    (fine : AllByRecursion (CanBeLaid s) ls) where
  abbrev bs : List (List ℕ)
  bs = image_blocks s seq ls spares

  pub length-image_blocks : length bs ≡ length ls + spares
  length-image_blocks =
      length-append (map (laid_bytes s (new_ec seq)) ls) (replicate spares (spare s seq))
      ∙ omega (arith, length-map ls (laid_bytes s (new_ec seq)), length-replicate spares (spare s seq))

  -- one of them that is laid out
  pub block_laid : (p : ℕ) (l : Laid) → slice_get ls p ≡ Some l → block bs p ≡ laid_bytes s (new_ec seq) l
  block_laid p l e =
      let front = map (laid_bytes s (new_ec seq)) ls in
      let inside : p < length front = let k = slice_get_within ls p l e in
      let n = length-map ls (laid_bytes s (new_ec seq)) in omega arith in
      get_or_from_slice_get bs p (laid_bytes s (new_ec seq) l) []
      (slice_get_left front (replicate spares (spare s seq)) p inside ∙ slice_get-map (laid_bytes s (new_ec seq)) ls p
      ∙ ap (option_map (laid_bytes s (new_ec seq))) e)

  -- it begins with its text
  pub text_at : (p : ℕ) (l : Laid) → slice_get ls p ≡ Some l
      → leb s (block bs p) ≡ l.text ++ blank (s.peb_size - (s.data_offset + length l.text))
  text_at p l e = ap (leb s) (block_laid p l e) ∙ leb-laid_bytes s g seq narrow l (all_at (CanBeLaid s) ls p l fine e)

  pub header_at : (p : ℕ) (l : Laid) → slice_get ls p ≡ Some l → member s (block bs p) ≡ Some l.header
  header_at p l e = ap (member s) (block_laid p l e) ∙ member-laid_bytes s g seq narrow l (all_at (CanBeLaid s) ls p l fine e)

  block_spare : (p : ℕ) → length ls ≤ p → p < length bs → block bs p ≡ spare s seq
  block_spare p out inside =
      let front = map (laid_bytes s (new_ec seq)) ls in
      let n : length front ≡ length ls = length-map ls (laid_bytes s (new_ec seq)) in
      let all = length-image_blocks in
      get_or-append_right front (replicate spares (spare s seq)) (length ls) p [] n out
      ∙ get_or-replicate spares (p - length ls) (spare s seq) [] (omega arith)

  laid_or_spare : (p : ℕ) → p < length bs → ((l : Laid) × (slice_get ls p ≡ Some l)) ⊎ (block bs p ≡ spare s seq)
  laid_or_spare p inside = elim (slice_get_cases ls p).1 [
    | inl h ↦ inl (h.0, h.2)
    | inr h ↦ inr (block_spare p h.0 inside)
  ]

  -- what holds of each eraseblock that is laid out, and of a spare one, holds of all
  over_blocks : (P : List ℕ → Type 0) → ((l : Laid) → CanBeLaid s l → P (laid_bytes s (new_ec seq) l)) → P (spare s seq) → (p : ℕ)
      → p < length bs → P (block bs p)
  over_blocks P h k p inside = elim (laid_or_spare p inside) [
    | inl e ↦ subst P (sym (block_laid p e.0 e.1)) (h e.0 (all_at (CanBeLaid s) ls p e.0 fine e.1))
    | inr e ↦ subst P (sym e) k
  ]

  -- a member is one that is laid out
  pub member_laid : (of : Leb) (p : ℕ) → IsMember s bs of p
      → (l : Laid) × (slice_get ls p ≡ Some l) × (leb_of l.header ≡ of)
  member_laid of p m = elim (laid_or_spare p m.inside) [
    | inl e ↦ (
      e.0,
      e.1,
      same_Some (leb_of e.0.header) of
          (sym (named-laid_bytes s g seq narrow e.0 (all_at (CanBeLaid s) ls p e.0 fine e.1))
          ∙ ap (named_in s) (sym (block_laid p e.0 e.1)) ∙ m.named),
    )
    | inr e ↦ absurd (let named = m.named in let none = ap (named_in s) e ∙ named-spare s g seq narrow in cc)
  ]

  -- and one that is laid out wins its LEB
  pub laid_wins : (p : ℕ) (l : Laid) → slice_get ls p ≡ Some l → Wins s bs (leb_of l.header) p
  laid_wins p l e =
      let is = block_laid p l e in
      let one = all_at (CanBeLaid s) ls p l fine e in
      let zero : sqnum_at s bs p ≡ 0 = ap (sqnum_in s) is ∙ sqnum-laid_bytes s g seq narrow l one in
      record {
        member = record {
          inside = (let k = slice_get_within ls p l e in let n = length-image_blocks in omega arith);
          named = ap (named_in s) is ∙ named-laid_bytes s g seq narrow l one;
        };
        best = inl (
          ap (good_in s) is ∙ good-laid_bytes s g seq narrow l one,
          λ q m good. (let at = member_laid (leb_of l.header) q m in
              let other : sqnum_at s bs q ≡ 0 = ap (sqnum_in s) (block_laid q at.0 at.1)
              ∙ sqnum-laid_bytes s g seq narrow at.0 (all_at (CanBeLaid s) ls q at.0 fine at.1) in
              omega arith),
        );
      }

  -- so it lies there
  pub laid_at : (p : ℕ) (l : Laid) → slice_get ls p ≡ Some l → IsLaidAt s bs l p
  laid_at p l e = record {
    wins = laid_wins p l e;
    sqnum = l.header.sqnum;
    header = header_at p l e;
    reads = text_at p l e;
  }

  pub none_laid : (of : Leb) → ((l : Laid) → Holds ls l → leb_of l.header ≡ of → ⊥) → NoMember s bs of
  none_laid of none p m = let at = member_laid of p m in none at.0 (p, at.1) at.2

  -- each names the image
  names : (p : ℕ) → p < length bs → seq_of s (block bs p) ≡ seq
  names = over_blocks (λ b. seq_of s b ≡ seq) (λ l one. seq-laid_bytes s g seq narrow l one)
      (seq-spare s g seq narrow)

  pub image_named : 0 < length ls → image_seq s bs ≡ seq
  image_named some =
      seq_is s seq bs (record {
        all = λ q l h. names q l;
        some = (let n = length-image_blocks in
            let first : 0 < length bs = omega arith in
            inr (0, first, names 0 first));
      })

  pub image_clean : AreApart ls → NoFault s bs
  image_clean apart = none_from_clean s bs (record {
    sound = over_blocks (IsSound s) (λ l one. sound-laid_bytes s g seq narrow l one) (sound-spare s g seq narrow);
    one_image = λ p q i j some other. names p i ∙ sym (names q j);
    apart = λ of p q m n same.
        (let a = member_laid of p m in let b = member_laid of q n in
        one_place ls p q a.0 b.0 apart a.1 b.1 (a.2 ∙ sym b.2));
  })

  -- cut again, their bytes are them
  sized : (i : ℕ) → i < length bs → length (get_or bs i []) ≡ s.peb_size
  sized = over_blocks (λ b. length b ≡ s.peb_size) (λ l one. length-laid_bytes s g seq narrow l one) (length-spare s g seq narrow)

  pub length-bytes : length (concat bs) ≡ length bs * s.peb_size
  length-bytes = length-concat s.peb_size bs sized

  pub blocks_again : eraseblocks (record { sizes = s; bytes = concat bs }) ≡ bs
  blocks_again =
      let some : 0 < s.peb_size = omega (arith, g.page_from, g.peb_from) in
      let count : length (concat bs) / s.peb_size ≡ length bs = ap (λ n. n / s.peb_size) (length-bytes ∙ omega arith)
      ∙ div-mul-add (length bs) s.peb_size 0 some in
      ap (λ n. first_chunks s.peb_size n (concat bs)) count ∙ first_chunks-concat s.peb_size bs sized

  pub image_whole : 0 < length ls → length ls + spares ≤ s.pebs → IsWholeImage (record { sizes = s; bytes = concat bs })
  image_whole some few =
      let n : length bs ≡ length ls + spares = length-image_blocks in
      let size : 0 < s.peb_size = omega (arith, g.page_from, g.peb_from) in
      let least : 1 * s.peb_size ≤ length bs * s.peb_size = mul-le 1 s.peb_size (length bs) s.peb_size (omega arith)
      (omega arith) in
      let room : length bs * s.peb_size ≤ s.pebs * s.peb_size =
      mul-le (length bs) s.peb_size s.pebs s.peb_size (omega arith) (omega arith) in
      let bytes = length-bytes in
      record {
        some = omega arith;
        cut = ap (λ k. k % s.peb_size) (length-bytes ∙ omega arith) ∙ mul-add-mod_self_right (length bs) s.peb_size 0
            ∙ omega arith;
        fits = omega arith;
      }
