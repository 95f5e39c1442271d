-- The lines of the volumes that an update writes, one after the other.
use Rattle.ubi_writing.proofs.Prelude.{◌≡◌, ◌∙◌, ℕ, zero, suc, ◌+◌, ◌<◌, ◌≤◌, List, [], ◌∷◌, ◌++◌, length, take, get_or, ap, sym, refl, arith, Option, append_assoc, append-nil, ap₂, min, Laying, Part, written_lebs, volume_line, written_lines}

module _ (ls : List Laying) where
  line : Part → Option ℕ → List ℕ
  line p old = volume_line (written_lebs ls p.id) p old

  pub lines_more : (ps : List Part) (olds : List (Option ℕ)) (i : ℕ) (p : Part) (old : Option ℕ) → i < length ps → i < length olds
      → get_or ps i p ≡ p → get_or olds i old ≡ old
      → written_lines ls (take i ps) (take i olds) ++ volume_line (written_lebs ls p.id) p old ≡ written_lines ls (take (i + 1) ps) (take (i + 1) olds)
  lines_more [] olds i p old l m e f = absurd (omega arith)
  lines_more (x ∷ ps) [] i p old l m e f = absurd (omega arith)
  lines_more (x ∷ ps) (y ∷ olds) zero p old l m e f =
      ap₂ (λ (q : Part) (o : Option ℕ). volume_line (written_lebs ls q.id) q o) (sym e) (sym f)
      ∙ sym (append-nil (volume_line (written_lebs ls x.id) x y))
  lines_more (x ∷ ps) (y ∷ olds) (suc i) p old l m e f =
      append_assoc (volume_line (written_lebs ls x.id) x y) (written_lines ls (take i ps) (take i olds)) (volume_line (written_lebs ls p.id) p old)
      ∙ ap (λ (xs : List ℕ). volume_line (written_lebs ls x.id) x y ++ xs) (lines_more ps olds i p old (omega arith) (omega arith) e f)
      ∙ ap (λ n. written_lines ls (take n (x ∷ ps)) (take n (y ∷ olds))) (let same : suc (i + 1) ≡ suc i + 1 = omega arith in same)

  pub lines_all : (ps : List Part) (olds : List (Option ℕ)) (n : ℕ) → min (length ps) (length olds) ≤ n
      → written_lines ls (take n ps) (take n olds) ≡ written_lines ls ps olds
  lines_all [] olds zero l = refl
  lines_all [] [] (suc n) l = refl
  lines_all [] (y ∷ olds) (suc n) l = refl
  lines_all (x ∷ ps) [] zero l = refl
  lines_all (x ∷ ps) (y ∷ olds) zero l = absurd (omega arith)
  lines_all (x ∷ ps) [] (suc n) l = refl
  lines_all (x ∷ ps) (y ∷ olds) (suc n) l =
      ap (λ (xs : List ℕ). volume_line (written_lebs ls x.id) x y ++ xs) (lines_all ps olds n (omega arith))
