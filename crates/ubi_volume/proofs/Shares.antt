-- The shares of a static volume's contents stand at the places of its LEBs.
use Rattle.ubi_volume.proofs.Prelude.{◌≡◌, ℕ, zero, suc, ◌+◌, ◌*◌, ◌<◌, ◌≤◌, false, List, [], ◌∷◌, ◌++◌, length, take, drop, refl, ap, sym, ◌∙◌, subst, arith, append-nil, Some, flat_map, slice_index, drop-append-add, take-append_seam, take_all, crc_of, Sizes, usable, VolumeRecord, VidHeader, NoFault, block, leb, Wins, member, Wins-unique, Records, NoMismatch, HoldContents, IsPiece, piece, share}
use Rattle.std.specs.FinMap as finite
use Rattle.std.proofs.lemmas.Bool.{eqb-true}
use Rattle.ubi_media.specs.declared.vid.VolKind.TheVariants as kind
use Rattle.ubi_volume.proofs.Alike.{full_piece, short_piece}
use Rattle.ubi_volume.proofs.SomeContent.{AreLebs}
use Rattle.ubi_volume.proofs.Static.{piece_by}

-- pieces that are full but for the last are the shares of their text
pub share_of_pieces : (f : ℕ → List ℕ) (size : ℕ) (ps : List ℕ) (l : ℕ) → l < length ps
    → ((i : ℕ) → i < length ps → length (f (slice_index ps i)) ≤ size)
    → ((i : ℕ) → i + 1 < length ps → length (f (slice_index ps i)) ≡ size)
    → share size (flat_map f ps) l ≡ f (slice_index ps l)
share_of_pieces f size [] l inside most full = absurd (omega arith)
share_of_pieces f size (p ∷ []) zero inside most full =
    let none : 0 * size ≡ 0 = omega arith in
    ap (λ n. take size (drop n (f p ++ []))) none ∙ ap (take size) (append-nil (f p))
    ∙ take_all size (f p) (most 0 (omega arith))
share_of_pieces f size (p ∷ q ∷ ps) zero inside most full =
    let none : 0 * size ≡ 0 = omega arith in
    let rest : List ℕ = flat_map f (q ∷ ps) in
    ap (λ n. take size (drop n (f p ++ rest))) none ∙ ap (λ n. take n (f p ++ rest)) (sym (full 0 (omega arith)))
    ∙ take-append_seam (f p) rest
share_of_pieces f size (p ∷ ps) (suc l) inside most full =
    let rest : List ℕ = flat_map f ps in
    let first : length (f p) ≡ size = full 0 (omega arith) in
    let next : suc l * size ≡ length (f p) + l * size = omega (arith, first) in
    ap (λ n. take size (drop n (f p ++ rest))) next ∙ ap (take size) (drop-append-add (f p) rest (l * size))
    ∙ share_of_pieces f size ps l (omega arith) (λ i b. most (suc i) (omega arith)) (λ i b. full (suc i) (omega arith))

module _ (s : Sizes) (bs : List (List ℕ)) (clean : NoFault s bs) (whole : AreLebs s bs) (t : Records)
    (alike : NoMismatch s bs t) (vol : ℕ) (r : VolumeRecord)
    (recorded : finite.get t.of vol ≡ Some r) (unmarked : r.marker ≡ false) (static : r.kind ≡ kind.Static)
    (ps : List ℕ) (are : HoldContents s bs vol r ps) where
  -- so the share of a LEB is the piece of its winner
  pub share_piece : (l p : ℕ) → l < length ps → Wins s bs (vol, l) p
      → share (usable s r) (flat_map (piece s bs) ps) l ≡ piece s bs p
  share_piece l p inside w =
      let most : (i : ℕ) → i < length ps → length (piece s bs (slice_index ps i)) ≤ usable s r =
      λ i b. short_piece s bs t alike vol r recorded unmarked static i (slice_index ps i) (are.win i b) in
      let full : (i : ℕ) → i + 1 < length ps → length (piece s bs (slice_index ps i)) ≡ usable s r =
      λ i b.
      let k = are.pieces i (omega arith) in
      let x = are.win i (omega arith) in
      (full_piece s bs t alike vol r recorded unmarked static i (slice_index ps i) k.0 x k.1
      (whole (slice_index ps i) x.member.inside)).1 (let e = k.2 in omega arith) in
      share_of_pieces (piece s bs) (usable s r) ps l inside most full
      ∙ ap (piece s bs) (Wins-unique s bs (vol, l) (slice_index ps l) p clean (are.win l inside) w)

  -- the front of its LEB
  pub share_at : (l p : ℕ) → l < length ps → Wins s bs (vol, l) p
      → share (usable s r) (flat_map (piece s bs) ps) l
      ≡ take (length (share (usable s r) (flat_map (piece s bs) ps) l)) (leb s (block bs p))
  share_at l p inside w =
      let is = share_piece l p inside w in
      is ∙ front_again _ (leb s (block bs p)) ∙ ap (λ (x : List ℕ). take (length x) (leb s (block bs p))) (sym is)
    where
      front_again : (n : ℕ) (b : List ℕ) → take n b ≡ take (length (take n b)) b
      front_again zero b = refl
      front_again (suc n) [] = refl
      front_again (suc n) (x ∷ b) = ap (λ (y : List ℕ). x ∷ y) (front_again n b)

  -- and its header gives the check of just that share
  pub header_at : (l p : ℕ) → l < length ps → Wins s bs (vol, l) p
      → (h : VidHeader) × (member s (block bs p) ≡ Some h)
      × (h.data_crc ≡ crc_of (share (usable s r) (flat_map (piece s bs) ps) l))
  header_at l p inside w =
      let same : slice_index ps l ≡ p = Wins-unique s bs (vol, l) (slice_index ps l) p clean (are.win l inside) w in
      let k = subst (IsPiece s bs (length ps)) same (are.pieces l inside) in
      let right : crc_of (take k.0.data_size (leb s (block bs p))) ≡ k.0.data_crc =
      eqb-true (crc_of (take k.0.data_size (leb s (block bs p)))) k.0.data_crc k.3 in
      (k.0, k.1, sym right ∙ ap crc_of (piece_by s bs p k.0 k.1 ∙ sym (share_piece l p inside w)))
