-- The pieces of a volume of an image whose places are known: their eraseblocks are what is written.
use Rattle.ubi_compose.proofs.Prelude.{◌≡◌, ◌≢◌, ℕ, ◌<◌, inl, inr, Bool, true, false, cond, List, [], length, take, refl, ap, sym, ◌∙◌, subst, arith, IfSome, IsSome, None, Option, Some, flat_map, option_map, unwrap_or, FinMap, range_with_len, option_map_or, nat_cmp, flat_map-map, crc_of, blank, is_blank, Sizes, data_pad, usable, plain, VolumeRecord, usable_some, block, image_of, leb, vid, Wins, Wins-unique, HoldContents, LebReads, StaticReads, VolumeReads, piece, pieces, share, share_len, Fits, IsVolume, KeepsNoBlank, ArePlaces, Placed, Content, Volume, blank_text, other_text, volume_is, member_valid, are_lebs, same_range, static_whole, length-share, header_at, share_at, found_or_none, found_wins, in_table, reads_of, table, dynamic_block, laid_bytes, new_ec, piece_header, static_part, volume_blocks, Device, Piece, given_check, piece_bytes, dynamic_piece, static_piece, stored_count, stored_piece, CaseFits, case_of, blocks_of, entries_by_number}
use Rattle.std.specs.FinMap as finite
use Rattle.ubi_media.specs.declared.vid.VolKind.TheVariants as kind
use Rattle.ubi_volume.specs.declared.content.Content.TheVariants as content
use Rattle.ubi_volume.specs.declared.places.PlaceContent.TheVariants as place

module _ (p : Placed) (image : List ℕ) where
  abbrev pub s : Sizes
  s = p.records.sizes

  abbrev pub d : Device
  d = record { geometry = s; image_seq = p.image_seq }

  abbrev bs : List (List ℕ)
  bs = blocks_of s image

  -- what is written of a piece, if there is one
  abbrev pub written : Option Piece → List ℕ
  written o = option_map_or (λ q. piece_bytes d q image) o []

  module _ (places : ArePlaces (image_of s image) p) (id : ℕ) (v : Volume)
      (at : finite.get places.meaning.volumes id ≡ Some v) (recorded : finite.get p.records.of id ≡ Some v.entry) where
    pub volume : IsVolume s id v
    volume = subst (λ (z : Sizes). IsVolume z id v) places.accepted.accepted.means.sizes
        (volume_is places.meaning places.accepted.accepted.means.meaning id v at)

    abbrev r : VolumeRecord
    r = v.entry

    abbrev size : ℕ
    size = usable s r

    abbrev pad : ℕ
    pad = data_pad s r

    reads : VolumeReads s bs id r v.content
    reads = (reads_of s p image places id r recorded v at).1

    -- the pieces of a static text
    module _ (t : List ℕ) (is : v.content ≡ content.Static t) where
      abbrev lebs : ℕ
      lebs = pieces size (length t)

      static_reads : (r.marker ≡ false) × (r.kind ≡ kind.Static) × StaticReads s bs id r t
      static_reads = subst (VolumeReads s bs id r) is reads

      module _ (n : ℕ) (inside : n < lebs) (q : ℕ) (found : finite.get p.winners (id, n) ≡ Some q) where
        abbrev len : ℕ
        len = share_len size (length t) n

        abbrev text : List ℕ
        text = take len (leb s (block bs q))

        whole : (ps : List ℕ) × HoldContents s bs id r ps × (t ≡ flat_map (piece s bs) ps) × (n < length ps)
        whole = static_whole s p image places id r recorded v at lebs (length t) t is refl refl n inside

        won : Wins s bs (id, n) q
        won = found_wins s p image places (id, n) q found

        long : length (share size t n) ≡ len
        long = length-share size (usable_some s r volume.sound) t n

        share_is : share size t n ≡ text
        share_is =
            let here =
            share_at s bs places.accepted.accepted.clean (are_lebs (image_of s image)) (table s p image places)
            places.accepted.accepted.alike id r (in_table s p image places id r recorded)
            static_reads.0 static_reads.1 whole.0 whole.1 n q whole.3 won in
            subst (λ (x : List ℕ). share size x n ≡ take (length (share size x n)) (leb s (block bs q))) (sym whole.2) here
            ∙ ap (λ k. take k (leb s (block bs q))) long

        check_is : given_check (vid s (block bs q)) ≡ crc_of (share size t n)
        check_is =
            let k =
            header_at s bs places.accepted.accepted.clean (are_lebs (image_of s image)) (table s p image places)
            places.accepted.accepted.alike id r (in_table s p image places id r recorded)
            static_reads.0 static_reads.1 whole.0 whole.1 n q whole.3 won in
            ap given_check (member_valid s (block bs q) k.0 k.1) ∙ k.2 ∙ ap (λ x. crc_of (share size x n)) (sym whole.2)

        static_is : laid_bytes s (new_ec p.image_seq) (static_part pad size id t n)
            ≡ piece_bytes d (static_piece s id r lebs (length t) n q) image
        static_is =
            let f = λ (l c : ℕ) (x : List ℕ). laid_bytes s (new_ec p.image_seq)
            (record { header = piece_header (plain kind.Static 0 pad id n) lebs l c; text = x }) in
            ap (λ l. f l (crc_of (share size t n)) (share size t n)) long
            ∙ ap (λ c. f len c (share size t n)) (sym check_is) ∙ ap (f len (given_check (vid s (block bs q)))) share_is

      all_static : ((n : ℕ) → n < lebs → IsSome (finite.get p.winners (id, n)))
          → flat_map (laid_bytes s (new_ec p.image_seq)) (volume_blocks s id r (content.Static t))
          ≡ flat_map (λ n. written (stored_piece p id n r (place.Static lebs (length t)))) (range_with_len 0 lebs)
      all_static there =
          flat_map-map (laid_bytes s (new_ec p.image_seq)) (static_part pad size id t) (range_with_len 0 lebs)
          ∙ same_range _ _ 0 lebs (λ n low high. by n (omega arith) (finite.get p.winners (id, n)) refl
          (there n (omega arith)))
        where
          by : (n : ℕ) → n < lebs → (o : Option ℕ) → finite.get p.winners (id, n) ≡ o → IsSome o
              → laid_bytes s (new_ec p.image_seq) (static_part pad size id t n)
              ≡ written (option_map (static_piece s id r lebs (length t) n) (finite.get p.winners (id, n)))
          by n inside None e some = absurd (cc)
          by n inside (Some q) e some = static_is n inside q e
              ∙ ap (λ o. written (option_map (static_piece s id r lebs (length t) n) o)) (sym e)

    -- the pieces of a dynamic volume
    module _ (l : FinMap nat_cmp (List ℕ)) (is : v.content ≡ content.Dynamic l) where
      abbrev laid_leb : ℕ × List ℕ → List ℕ
      laid_leb e = laid_bytes s (new_ec p.image_seq) (dynamic_block pad id e)

      leb_reads : (n : ℕ) → n < r.reserved → (o : Option (List ℕ)) → finite.get l n ≡ o
          → LebReads s bs id r n (unwrap_or o (blank size))
      leb_reads n below o e = let all = subst (VolumeReads s bs id r) is reads in
          subst (λ (o : Option (List ℕ)). LebReads s bs id r n (unwrap_or o (blank size))) e (all.2 n below)

      no_blank : (n : ℕ) (x : List ℕ) → finite.get l n ≡ Some x → x ≢ blank size
      no_blank n x e = subst (λ (o : Option (List ℕ)). IfSome o (λ text. text ≢ blank size)) e
          (subst (KeepsNoBlank s r) is volume.kept n)

      kept_fits : (n : ℕ) (x : List ℕ) → finite.get l n ≡ Some x → (n < r.reserved) × (length x ≡ size)
      kept_fits n x e = let fits = subst (Fits s r) is volume.fits in
          subst (λ (o : Option (List ℕ)). IfSome o (λ text. (n < r.reserved) × (length text ≡ size))) e (fits.2 n)

      leb_is : (n : ℕ) → n < r.reserved → (o : Option (List ℕ)) → finite.get l n ≡ o → (w : Option ℕ)
          → finite.get p.winners (id, n) ≡ w
          → option_map_or (λ x. laid_leb (n, x)) o [] ≡ written (option_map (dynamic_piece s id r n) w)
      leb_is n below None e None f = refl
      leb_is n below (Some x) e None f =
          elim (leb_reads n below (Some x) e) [
            | inl won ↦ elim (found_or_none s p image places (id, n)) [
              | inl found ↦ absurd (let g = sym f ∙ found.1 in cc)
              | inr other ↦ absurd (other won.0 won.1.member)
            ]
            | inr none ↦ absurd (no_blank n x e none.1)
          ]
      leb_is n below o e (Some q) f = by o e
        where
          text : List ℕ
          text = take size (leb s (block bs q))

          laid : List ℕ → List ℕ
          laid x = laid_bytes s (new_ec p.image_seq) (record { header = plain kind.Dynamic 0 pad id n; text = x })

          read_is : (x : List ℕ) → LebReads s bs id r n x → x ≡ text
          read_is x h =
              let w = found_wins s p image places (id, n) q f in
              elim h [
                | inl won ↦ won.2 ∙ ap (λ (k : ℕ). take size (leb s (block bs k)))
                    (Wins-unique s bs (id, n) won.0 q places.accepted.accepted.clean won.1 w)
                | inr none ↦ absurd (none.0 q w.member)
              ]

          by_test : (x : List ℕ) (b : Bool) → is_blank x ≡ b → x ≢ blank size → length x ≡ size
              → laid x ≡ cond (is_blank x) [] (laid x)
          by_test x true e other long = absurd (other (blank_text x size e long))
          by_test x false e other long = ap (λ b. cond b [] (laid x)) (sym e)

          by_blank : (b : Bool) → is_blank (blank size) ≡ b → [] ≡ cond (is_blank (blank size)) [] (laid (blank size))
          by_blank true e = ap (λ b. cond b [] (laid (blank size))) (sym e)
          by_blank false e = absurd (other_text (blank size) size e refl)

          by : (o : Option (List ℕ)) → finite.get l n ≡ o
              → option_map_or (λ x. laid_leb (n, x)) o [] ≡ written (Some (dynamic_piece s id r n q))
          by None e =
              by_blank (is_blank (blank size)) refl
              ∙ ap (λ x. cond (is_blank x) [] (laid x)) (read_is (blank size) (leb_reads n below None e))
          by (Some x) e =
              by_test x (is_blank x) refl (no_blank n x e) (kept_fits n x e).1
              ∙ ap (λ x. cond (is_blank x) [] (laid x)) (read_is x (leb_reads n below (Some x) e))

      all_dynamic : flat_map (laid_bytes s (new_ec p.image_seq)) (volume_blocks s id r (content.Dynamic l))
          ≡ flat_map (λ n. written (stored_piece p id n r place.Dynamic)) (range_with_len 0 r.reserved)
      all_dynamic =
          flat_map-map (laid_bytes s (new_ec p.image_seq)) (dynamic_block pad id) (finite.entries l)
          ∙ entries_by_number laid_leb l r.reserved (λ n x e. (kept_fits n x e).0)
          ∙ same_range _ _ 0 r.reserved (λ n low high.
          leb_is n (omega arith) (finite.get l n) refl (finite.get p.winners (id, n)) refl)

    -- those of any volume
    pub volume_written : (c : Content) → v.content ≡ c → CaseFits p.winners id r (case_of s r c)
        → flat_map (laid_bytes s (new_ec p.image_seq)) (volume_blocks s id r c)
        ≡ flat_map (λ n. written (stored_piece p id n r (case_of s r c))) (range_with_len 0 (stored_count r (case_of s r c)))
    volume_written content.Updating is fits = refl
    volume_written content.Damaged is fits = refl
    volume_written (content.Static t) is fits = all_static t is fits.3
    volume_written (content.Dynamic l) is fits = all_dynamic l is
