-- The pieces of a part lie in the source, and a read of one that failed began in the bytes of the part.
use Rattle.ubi_change.proofs.Prelude.{◌≡◌, ℕ, ◌+◌, ◌*◌, ◌<◌, ◌++◌, List, [], ◌∷◌, refl, arith, ap, ap₂, sym, length, take, take_more, get_or, append-nil, ◌∙◌, subst, append_assoc, None, Option, Some, IfSome, cons_option, filter_map, range_with_len, all_append, AllByRecursion, Sizes, VolKind, usable, filter_map-append, usable_some, piece_begins, share_len, pieces_of, LiesIn, built_piece, part_header, Part, Piece, flat_map-append, all_layings, laying_of, layings_of, IsContentsError, Source, Err, slice_get-get_or, after_contents, contents_after_update, contents_error, IsPartUnread, IsPartReadable, IsPieceUnread, ContentsError, Laying}
use Rattle.ubi_media.specs.declared.vid.VolKind.TheVariants as kind
use Rattle.ubi_change.specs.declared.errors.ContentsError.TheVariants as contents
use Rattle.ubi_change.proofs.FirstTakeable.{range_more}

-- its header has its volume's number
number : (k : VolKind) (s : Sizes) (p : Part) (lnum len : ℕ) → (part_header k s p lnum len).vol_id ≡ p.id
number kind.Static s p lnum len = refl
number kind.Dynamic s p lnum len = refl

module _ (s : Sizes) (size : ℕ) (p : Part) (is : IsPartReadable s size p) (n : ℕ) (inside : n < pieces_of s p) where
  begins : n * usable s p.entry < p.len
  begins = piece_begins (usable s p.entry) (usable_some s p.entry is.sound) p.len n inside

  pub piece_lies : LiesIn s size (built_piece s p n)
  piece_lies = let b = begins in let r = is.reaches in record { fits = omega arith; within = omega (arith, b, r) }

  pub piece_unread : (at : ℕ) (e : ContentsError) → IsPieceUnread (built_piece s p n) at e → IsPartUnread p at e
  piece_unread at (contents.Read id) h =
      let b = begins in
      let from = h.1.0 in
      let to = h.1.1 in
      (h.0 ∙ number p.entry.kind s p n (share_len (usable s p.entry) p.len n), omega (arith, from), omega (arith, to, b))
  piece_unread at contents.Memory h = absurd h

-- one piece more
pub layings_more : (s : Sizes) (bytes : List ℕ) (p : Part) (n : ℕ) (o : Option Laying) → o ≡ laying_of s bytes (built_piece s p n)
    → (front old : List Laying)
    → old ≡ front ++ filter_map (λ lnum. laying_of s bytes (built_piece s p lnum)) (range_with_len 0 n)
    → old ++ cons_option o [] ≡ front ++ filter_map (λ lnum. laying_of s bytes (built_piece s p lnum)) (range_with_len 0 (n + 1))
layings_more s bytes p n o is front old e =
    let f = λ (lnum : ℕ). laying_of s bytes (built_piece s p lnum) in
    let before = filter_map f (range_with_len 0 n) in
    ap (λ (xs : List Laying). xs ++ cons_option o []) e
    ∙ append_assoc front before (cons_option o [])
    ∙ ap (λ (o : Option Laying). front ++ (before ++ cons_option o [])) is
    ∙ ap (λ (xs : List Laying). front ++ xs) (sym (filter_map-append f (range_with_len 0 n) (n ∷ [])))
    ∙ ap (λ (ns : List ℕ). front ++ filter_map f ns)
    (sym (range_more 0 n 1 ∙ ap (λ k. range_with_len 0 n ++ k ∷ []) (omega arith)))

-- and it lies in the source too
pub lie_more : (s : Sizes) (size : ℕ) (q : Piece) (old : List Laying) (o : Option Laying) → LiesIn s size q
    → IfSome o (λ l. l.piece ≡ q) → AllByRecursion (λ l. LiesIn s size l.piece) old
    → AllByRecursion (λ l. LiesIn s size l.piece) (old ++ cons_option o [])
lie_more s size q old None lies is all = all_append (λ (l : Laying). LiesIn s size l.piece) old [] all tt
lie_more s size q old (Some l) lies is all =
    all_append (λ (l : Laying). LiesIn s size l.piece) old (l ∷ []) all (subst (LiesIn s size) (sym is) lies, tt)

-- one part more
pub all_layings_more : (s : Sizes) (bytes : List ℕ) (ps : List Part) (i : ℕ) (p : Part) → i < length ps → get_or ps i p ≡ p
    → (old : List Laying) → old ≡ all_layings s bytes (take i ps) → old ++ layings_of s bytes p ≡ all_layings s bytes (take (i + 1) ps)
all_layings_more s bytes ps i p inside here old e =
    ap₂ (λ (xs ys : List Laying). xs ++ ys) e (sym (append-nil (layings_of s bytes p)))
    ∙ sym (flat_map-append (layings_of s bytes) (take i ps) (p ∷ []))
    ∙ ap (all_layings s bytes) (sym (take_more ps i p inside ∙ ap (λ (x : Part). take i ps ++ x ∷ []) here))

-- a failed read is one for a part that is listed
pub contents_unread : (ps : List Part) (i : ℕ) (p : Part) → i < length ps → get_or ps i p ≡ p → (at : ℕ) (e : ContentsError)
    → IsPartUnread p at e → IsContentsError ps at (contents_error i e)
contents_unread ps i p inside here at (contents.Read id) h = (p, slice_get-get_or ps i p inside ∙ ap Some here, h.1, h.2)
contents_unread ps i p inside here at contents.Memory h = refl

-- and one read of the contents failed
pub contents_known : (j : Source) (i : ℕ) (e : ContentsError) → contents_after_update {A = List Laying} j (Err (contents_error i e)) ≡ after_contents {A = Unit {0}} j (Err e)
contents_known j i (contents.Read id) = refl
contents_known j i contents.Memory = refl
