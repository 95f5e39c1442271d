-- Taking a line into the volumes that the lines above it give: the volumes with one more line, or its cause.
use Rattle.ubi_compose.proofs.Prelude.{◌≡◌, ℕ, ◌==◌, Bool, true, false, List, [], ◌∷◌, ◌++◌, map, refl, sym, ap, ◌∙◌, Option, Some, None, Result, Ok, Err, is_some, option_map, slice_set, list_all, position_from, option_map_or, result_map_both, map-append, map-map, Sizes, rec_fault, RecFault, VolumeRecord, Items, Volume, changed, changed_at, opened, place_of, taken, with_line, volume_of, content_cause, heading, later_cause, numbered_volume, of_volume, volume_from, volumes_in, SpecCause, Line, record_in_lines}
use Rattle.std.specs.Prelude.{cond}
use Rattle.ubi_compose.specs.declared.errors.SpecCause.TheVariants as cause
use Rattle.ubi_compose.specs.declared.line.Line.TheVariants as line
use Rattle.ubi_compose.proofs.VolumeLines.{IsTaken, answer_of, damaged_taken, is_sound, leb_taken, text_taken, updating_taken}
use Rattle.ubi_compose.proofs.Headings.{headings, headings_kept, headings_more, own_kept, own_more, record_headed}
use Rattle.ubi_compose.proofs.VolumePlaces.{Cut, cut_of, found_cut, get_same, map_same, other_number, place_is_some, same_number, set_same}
use Rattle.ubi_compose.proofs.SoundLines.{IsSoundText, cause_in, not_headed}

-- the volumes, or the cause for which there are none
abbrev pub answer : Option SpecCause → Items → Result Items SpecCause
answer None items = Ok items
answer (Some c) items = Err c

abbrev ids : List (ℕ × VolumeRecord) → List ℕ
ids hs = map (λ (e : ℕ × VolumeRecord). e.0) hs

place_headed : (s : Sizes) (ls : List Line) (id : ℕ)
    → place_of id (volumes_in s ls) ≡ position_from (λ n. n == id) 0 (ids (headings ls))
unfolding volumes_in
place_headed s ls id =
    ap (position_from (λ n. n == id) 0) (map-map (λ (e : ℕ × Volume). e.0) (numbered_volume s ls) (headings ls))

-- volumes whose lines stay are as they were
same_elsewhere : (s : Sizes) (ls : List Line) (l : Line) (e : ℕ × VolumeRecord) → (e.0 == volume_of l) ≡ false
    → numbered_volume s ls e ≡ numbered_volume s (ls ++ l ∷ []) e
same_elsewhere s ls l e h =
    ap (λ own. (e.0, volume_from s e.1 own)) (sym (own_kept e.0 ls l (other_number e.0 (volume_of l) h)))

-- what a content line makes of its own volume
abbrev IsTakenByAny : Sizes → Line → Type 0
IsTakenByAny s l = (r : VolumeRecord) (own : List Line) → list_all (is_sound r) own ≡ true → IsTaken s r own l

put_by : (items more : Items) (place id : ℕ) (v : Volume) (c : Option SpecCause) → slice_set items place (id, v) ≡ more
    → result_map_both (λ w. slice_set items place (id, w)) (λ c. c) (answer_of c v) ≡ answer c more
put_by items more place id v None h = ap (λ (l : Items). Ok l) h
put_by items more place id v (Some c) h = refl

at_place : (s : Sizes) (ls : List Line) (l : Line) (place : ℕ) → heading l ≡ None → IsSoundText s ls → IsTakenByAny s l
    → Cut (volume_of l) 0 (headings ls) place
    → changed_at s (volumes_in s ls) l place ≡ answer (cause_in s ls l) (volumes_in s (ls ++ l ∷ []))
unfolding volumes_in
at_place s ls l place n t takes c =
    let id = volume_of l in
    let found : record_in_lines id ls ≡ Some c.at.1 =
    record_headed id ls ∙ ap (option_map (λ (e : ℕ × VolumeRecord). e.1)) (found_cut id place (headings ls) c) in
    let own : of_volume c.at.0 ls ≡ of_volume id ls = ap (λ q. of_volume q ls) c.is in
    let made = takes c.at.1 (of_volume id ls) (t.suited id c.at.1 found) in
    let grown : of_volume c.at.0 (ls ++ l ∷ []) ≡ of_volume id ls ++ l ∷ [] =
    ap (λ q. of_volume q (ls ++ l ∷ [])) c.is ∙ own_more id ls l (same_number id) in
    let set : slice_set (map (numbered_volume s ls) (headings ls)) place
    (c.at.0, volume_from s c.at.1 (of_volume id ls ++ l ∷ []))
    ≡ map (numbered_volume s (ls ++ l ∷ [])) (headings (ls ++ l ∷ [])) =
    ap (λ own. slice_set (map (numbered_volume s ls) (headings ls)) place (c.at.0, volume_from s c.at.1 own))
    (sym grown)
    ∙ set_same (numbered_volume s ls) (numbered_volume s (ls ++ l ∷ [])) id (same_elsewhere s ls l)
    (headings ls) place c t.apart
    ∙ ap (map (numbered_volume s (ls ++ l ∷ []))) (sym (headings_kept ls l n)) in
    ap
    (λ o. option_map_or (λ (e : ℕ × Volume). result_map_both
    (λ v. slice_set (map (numbered_volume s ls) (headings ls)) place (e.0, v)) (λ c. c) (with_line s e.1 l)) o
    (Err cause.Order))
    (get_same (numbered_volume s ls) id place (headings ls) c)
    ∙ ap (λ o. result_map_both (λ v. slice_set (map (numbered_volume s ls) (headings ls)) place (c.at.0, v)) (λ c. c)
    (with_line s (volume_from s c.at.1 o) l)) own
    ∙ ap (result_map_both (λ v. slice_set (map (numbered_volume s ls) (headings ls)) place (c.at.0, v)) (λ c. c)) made
    ∙ put_by (map (numbered_volume s ls) (headings ls))
    (map (numbered_volume s (ls ++ l ∷ [])) (headings (ls ++ l ∷ []))) place c.at.0
    (volume_from s c.at.1 (of_volume id ls ++ l ∷ [])) (content_cause s c.at.1 (of_volume id ls) l) set
    ∙ ap (λ o. answer (option_map_or (λ r. content_cause s r (of_volume id ls) l) o (Some cause.Order))
    (map (numbered_volume s (ls ++ l ∷ [])) (headings (ls ++ l ∷ [])))) (sym found)

not_some : (o : Option VolumeRecord) → is_some o ≡ false → o ≡ None
not_some None h = refl
not_some (Some r) h = absurd (cc)

changed_by : (s : Sizes) (ls : List Line) (l : Line) (o : Option ℕ) → heading l ≡ None → IsSoundText s ls → IsTakenByAny s l
    → position_from (λ n. n == volume_of l) 0 (ids (headings ls)) ≡ o
    → option_map_or (changed_at s (volumes_in s ls) l) o (Err cause.Order)
    ≡ answer (cause_in s ls l) (volumes_in s (ls ++ l ∷ []))
changed_by s ls l (Some place) n t takes h =
    at_place s ls l place n t takes (cut_of (volume_of l) 0 place (headings ls) h)
changed_by s ls l None n t takes h =
    let none : record_in_lines (volume_of l) ls ≡ None =
    not_some (record_in_lines (volume_of l) ls)
    (ap is_some (record_headed (volume_of l) ls) ∙ sym (place_is_some (volume_of l) 0 (headings ls)) ∙ ap is_some h) in
    rw none refl

changed_more : (s : Sizes) (ls : List Line) (l : Line) → heading l ≡ None → IsSoundText s ls → IsTakenByAny s l
    → changed s (volumes_in s ls) l ≡ answer (cause_in s ls l) (volumes_in s (ls ++ l ∷ []))
changed_more s ls l n t takes =
    ap (λ o. option_map_or (changed_at s (volumes_in s ls) l) o (Err cause.Order)) (place_headed s ls (volume_of l))
    ∙ changed_by s ls l (position_from (λ n. n == volume_of l) 0 (ids (headings ls))) n t takes refl

-- a volume with its first line
first_line : (s : Sizes) (id : ℕ) (r : VolumeRecord) → volume_from s r (line.Volume id r ∷ []) ≡ volume_from s r []
unfolding volume_from
first_line s id r = refl

pushed : (s : Sizes) (ls : List Line) (id : ℕ) (r : VolumeRecord) → IsSoundText s ls → record_in_lines id ls ≡ None
    → volumes_in s ls ++ (id, volume_from s r []) ∷ [] ≡ volumes_in s (ls ++ line.Volume id r ∷ [])
unfolding volumes_in
pushed s ls id r t n =
    let l = line.Volume id r in
    let old : map (numbered_volume s ls) (headings ls)
    ≡ map (numbered_volume s (ls ++ line.Volume id r ∷ [])) (headings ls) =
    map_same (numbered_volume s ls) (numbered_volume s (ls ++ line.Volume id r ∷ [])) id
    (same_elsewhere s ls (line.Volume id r)) (headings ls) (not_headed id ls n) in
    let own : of_volume id (ls ++ line.Volume id r ∷ []) ≡ line.Volume id r ∷ [] =
    own_more id ls (line.Volume id r) (same_number id) ∙ ap (λ own. own ++ line.Volume id r ∷ []) (t.none id n) in
    let new : volume_from s r [] ≡ volume_from s r (of_volume id (ls ++ line.Volume id r ∷ [])) =
    sym (ap (volume_from s r) own ∙ first_line s id r) in
    ap (λ vs. vs ++ (id, volume_from s r []) ∷ []) old
    ∙ ap (λ v. map (numbered_volume s (ls ++ line.Volume id r ∷ [])) (headings ls) ++ (id, v) ∷ []) new
    ∙ sym (map-append (numbered_volume s (ls ++ line.Volume id r ∷ [])) (headings ls) ((id, r) ∷ []))
    ∙ ap (map (numbered_volume s (ls ++ line.Volume id r ∷ []))) (sym (headings_more ls (line.Volume id r)))

opened_by : (s : Sizes) (ls : List Line) (id : ℕ) (r : VolumeRecord) (b : Bool) (f : Option RecFault) → IsSoundText s ls
    → is_some (record_in_lines id ls) ≡ b
    → cond b (Err cause.Order)
    (option_map_or (λ fault. Err (cause.Record fault)) f (Ok (volumes_in s ls ++ (id, volume_from s r []) ∷ [])))
    ≡ answer (cond b (Some cause.Order) (option_map cause.Record f)) (volumes_in s (ls ++ line.Volume id r ∷ []))
opened_by s ls id r true f t e = refl
opened_by s ls id r false (Some fault) t e = refl
opened_by s ls id r false None t e =
    ap (λ (items : Items). Ok items) (pushed s ls id r t (not_some (record_in_lines id ls) e))

opened_more : (s : Sizes) (ls : List Line) (id : ℕ) (r : VolumeRecord) → IsSoundText s ls
    → opened s (volumes_in s ls) id r
    ≡ answer (cond (is_some (record_in_lines id ls)) (Some cause.Order) (option_map cause.Record (rec_fault s r)))
    (volumes_in s (ls ++ line.Volume id r ∷ []))
opened_more s ls id r t =
    let p : is_some (place_of id (volumes_in s ls)) ≡ is_some (record_in_lines id ls) =
    ap is_some (place_headed s ls id) ∙ place_is_some id 0 (headings ls) ∙ sym (ap is_some (record_headed id ls)) in
    ap
    (λ b. cond b (Err cause.Order) (option_map_or (λ fault. Err (cause.Record fault)) (rec_fault s r)
    (Ok (volumes_in s ls ++ (id, volume_from s r []) ∷ [])))) p
    ∙ opened_by s ls id r (is_some (record_in_lines id ls)) (rec_fault s r) t refl

pub taken_more : (s : Sizes) (ls : List Line) (l : Line) → IsSoundText s ls
    → taken s (volumes_in s ls) l ≡ answer (later_cause s ls l) (volumes_in s (ls ++ l ∷ []))
unfolding later_cause
taken_more s ls (line.Volume id r) t = opened_more s ls id r t
taken_more s ls (line.Leb id lnum bytes) t =
    changed_more s ls (line.Leb id lnum bytes) refl t (λ r own h. leb_taken s r own id lnum bytes)
taken_more s ls (line.Text id bytes) t =
    changed_more s ls (line.Text id bytes) refl t (λ r own h. text_taken s r own id bytes)
taken_more s ls (line.Damaged id) t = changed_more s ls (line.Damaged id) refl t (λ r own h. damaged_taken s r own id h)
taken_more s ls (line.Updating id) t =
    changed_more s ls (line.Updating id) refl t (λ r own h. updating_taken s r own id h)
