-- What is found for an image in a file has the geometries that are found in the image's own bytes.
use Rattle.ubi_detect.proofs.Prelude.{◌≡◌, ◌≢◌, ℕ, ◌+◌, ◌-◌, ◌≤◌, cond, List, [], ◌∷◌, length, inr, refl, ap, sym, ◌∙◌, arith, All, filter, fold, ◌==◌, ◌&&◌, ◌||◌, map, max, nat_lt, vid_magic, HoldsPart, ToldOfPart, moved, end_of_image, has_vid, has_vote, is_voted, is_without, start_of_image, told, told_by, told_ways, top_vote, votes, ways_with, ways_without, has_no_way, Detected, Group, Way, placed_in}
use Rattle.ubi_detect.proofs.PartGroups.{part_of_file}
use Rattle.ubi_detect.proofs.PartReads.{filter_each, map_each}
use Rattle.ubi_detect.proofs.PartSure.{count_of_same, number_same, some_same, sure_of_part}
use Rattle.ubi_detect.proofs.PartWays.{Fits, plain_ways_fit, vid_inside, ways_fit}

module _ (file : List ℕ) (at : ℕ) (part : List ℕ) (g : Group) (holds : HoldsPart file at part g) where
  -- the magics of volume-identifier headers in it
  module _ (w : Way) (fits : Fits g.size w) where
    vid_same : (p : ℕ) → p + g.size ≤ length part → has_vid file w (at + p) ≡ has_vid part w p
    vid_same p inside =
        let few = vid_inside g.size w fits in
        ap (λ n. n == vid_magic) (number_same file at part g holds p _ (omega (arith, few)) inside)

    votes_same : votes file (moved at g) w ≡ votes part g w
    votes_same = count_of_same file at part g holds (has_vid file w) (has_vid part w) vid_same

    vote_same : has_vote file (moved at g) w ≡ has_vote part g w
    vote_same = some_same file at part g holds (has_vid file w) (has_vid part w) vid_same

  top_same : (ws : List Way) → All (Fits g.size) ws → top_vote file (moved at g) ws ≡ top_vote part g ws
  top_same ws all = ap (fold max 0) (map_each (Fits g.size) (votes file (moved at g)) (votes part g) votes_same ws all)

  top_with : top_vote file (moved at g) (ways_with g) ≡ top_vote part g (ways_with g)
  top_with = top_same (ways_with g) (ways_fit g.size g.key.offsets)

  pub without_same : is_without file (moved at g) ≡ is_without part g
  without_same =
      ap (λ n. has_no_way g.size g.key.offsets || nat_lt n (top_vote file (moved at g) (ways_without g))) top_with
      ∙ ap (λ n. has_no_way g.size g.key.offsets || nat_lt (top_vote part g (ways_with g)) n)
      (top_same (ways_without g) (plain_ways_fit g.size g.key.offsets))

  voted_same : (w : Way) → Fits g.size w → is_voted file (moved at g) w ≡ is_voted part g w
  voted_same w fits =
      ap (λ n. nat_lt 0 n && (n == top_vote file (moved at g) (ways_with g))) (votes_same w fits)
      ∙ ap (λ n. nat_lt 0 (votes part g w) && (votes part g w == n)) top_with

  ways_same : told_ways file (moved at g) ≡ told_ways part g
  ways_same =
      ap (λ b. cond b (filter (has_vote file (moved at g)) (ways_without g)) (filter (is_voted file (moved at g)) (ways_with g))) without_same
      ∙ ap (λ ws. cond (is_without part g) ws (filter (is_voted file (moved at g)) (ways_with g)))
      (filter_each (Fits g.size) (has_vote file (moved at g)) (has_vote part g) vote_same (ways_without g) (plain_ways_fit g.size g.key.offsets))
      ∙ ap (λ ws. cond (is_without part g) (filter (has_vote part g) (ways_without g)) ws)
      (filter_each (Fits g.size) (is_voted file (moved at g)) (is_voted part g) voted_same (ways_with g) (ways_fit g.size g.key.offsets))

  -- each of them is told for the place that it has in the file
  told_placed : (s e : ℕ) (ws : List Way)
      → map (told_by (start_of_image (moved at g)) (end_of_image file (moved at g))) ws
      ≡ map (placed_in file (moved at g)) (map (told_by s e) ws)
  told_placed s e [] = refl
  told_placed s e (w ∷ ws) =
      ap (λ ds. placed_in file (moved at g) (told_by s e w) ∷ ds) (told_placed s e ws)

  told_same : told file (moved at g) ≡ map (placed_in file (moved at g)) (told part g)
  told_same =
      ap (map (told_by (start_of_image (moved at g)) (end_of_image file (moved at g)))) ways_same
      ∙ told_placed (start_of_image g) (end_of_image part g) (told_ways part g)

no_map : (file : List ℕ) (g : Group) (ds : List Detected) → ds ≢ [] → map (placed_in file g) ds ≢ []
no_map file g [] some none = some refl
no_map file g (d ∷ ds) some none = let n = ap length none in omega (arith, n)

pub told_of_part : ToldOfPart
told_of_part file at part g holds foremost sure some = record {
  group = moved at g;
  is = inr (part_of_file file at part g holds foremost, sure_of_part file at part g holds ∙ sure);
  are = sym (told_same file at part g holds);
  some = no_map file (moved at g) (told part g) some;
}
