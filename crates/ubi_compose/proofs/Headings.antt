-- The record that the lines above give for a volume, and the lines of one volume.
use Rattle.ubi_compose.proofs.Prelude.{append-nil, ◌≡◌, ℕ, ◌==◌, Bool, true, false, cond, List, [], ◌∷◌, ◌++◌, map, refl, sym, ap, ◌∙◌, Option, Some, None, filter_map, find, option_map, filter-append, filter_map-append, VolumeRecord, volume_of, first_some, heading, of_volume, record_in, Line, record_in_lines}
use Rattle.ubi_compose.specs.declared.line.Line.TheVariants as line

abbrev pub headings : List Line → List (ℕ × VolumeRecord)
headings ls = filter_map heading ls

-- the record of the first heading with the number
abbrev pub headed : ℕ → List (ℕ × VolumeRecord) → Option VolumeRecord
headed id hs = option_map (λ (e : ℕ × VolumeRecord). e.1) (find (λ (e : ℕ × VolumeRecord). e.0 == id) hs)

here : (id q : ℕ) (r : VolumeRecord) (ls : List Line) (b : Bool)
    → first_some (map record_in (of_volume id ls)) ≡ headed id (headings ls)
    → first_some (map record_in (cond b (line.Volume q r ∷ of_volume id ls) (of_volume id ls)))
    ≡ option_map (λ (e : ℕ × VolumeRecord). e.1)
    (cond b (Some (q, r)) (find (λ (e : ℕ × VolumeRecord). e.0 == id) (headings ls)))
here id q r ls true h = refl
here id q r ls false h = h

elsewhere : (id : ℕ) (l : Line) (ls : List Line) (b : Bool) → record_in l ≡ None
    → first_some (map record_in (of_volume id ls)) ≡ headed id (headings ls)
    → first_some (map record_in (cond b (l ∷ of_volume id ls) (of_volume id ls))) ≡ headed id (headings ls)
elsewhere id l ls true n h = rw n h
elsewhere id l ls false n h = h

pub record_headed : (id : ℕ) (ls : List Line) → record_in_lines id ls ≡ headed id (headings ls)
unfolding record_in_lines
record_headed id [] = refl
record_headed id (line.Volume q r ∷ ls) = here id q r ls (q == id) (record_headed id ls)
record_headed id (line.Leb q lnum bytes ∷ ls) =
    elsewhere id (line.Leb q lnum bytes) ls (q == id) refl (record_headed id ls)
record_headed id (line.Text q bytes ∷ ls) = elsewhere id (line.Text q bytes) ls (q == id) refl (record_headed id ls)
record_headed id (line.Damaged q ∷ ls) = elsewhere id (line.Damaged q) ls (q == id) refl (record_headed id ls)
record_headed id (line.Updating q ∷ ls) = elsewhere id (line.Updating q) ls (q == id) refl (record_headed id ls)

-- one line more
pub headings_more : (ls : List Line) (l : Line) → headings (ls ++ l ∷ []) ≡ headings ls ++ headings (l ∷ [])
headings_more ls l = filter_map-append heading ls (l ∷ [])

pub headings_kept : (ls : List Line) (l : Line) → heading l ≡ None → headings (ls ++ l ∷ []) ≡ headings ls
headings_kept ls l n = headings_more ls l ∙ rw n (append-nil (headings ls))

pub record_kept : (id : ℕ) (ls : List Line) (l : Line) → heading l ≡ None
    → record_in_lines id (ls ++ l ∷ []) ≡ record_in_lines id ls
record_kept id ls l n =
    record_headed id (ls ++ l ∷ []) ∙ ap (headed id) (headings_kept ls l n) ∙ sym (record_headed id ls)

pub own_more : (id : ℕ) (ls : List Line) (l : Line) → (volume_of l == id) ≡ true
    → of_volume id (ls ++ l ∷ []) ≡ of_volume id ls ++ l ∷ []
own_more id ls l e = filter-append (λ k. volume_of k == id) ls (l ∷ []) ∙ rw e refl

pub own_kept : (id : ℕ) (ls : List Line) (l : Line) → (volume_of l == id) ≡ false
    → of_volume id (ls ++ l ∷ []) ≡ of_volume id ls
own_kept id ls l e = filter-append (λ k. volume_of k == id) ls (l ∷ []) ∙ rw e (append-nil (of_volume id ls))
