-- What lies where in a source, whatever it may hold.
use Rattle.ubi_reading.proofs.Prelude.{◌≡◌, ◌∙◌, ℕ, ◌++◌, List, Some, ap, inl, inr, map, subst, sym, length, Sizes, Refusal, IsLengthFault, IsWholeSize, image_of, Agreed, IsSource, Source, Narrows, blocks_in, blocks_of, Gives, says, refusal_line, Outcome, refuses, Files, WritesFile, kept, lost, entries, survey_narrowed, Refuses, ArePlacesError, IsSurvey, Seen, listed_volume, ListedVolume, header_letters, rows, block_texts, refused_page_data, surveyed_data, page_of, IsPageOf, Maps, MapsFrom, PicturesInto, accepted_page, mapped_from, no_blocks, no_blocks_from, no_page, pictured, refused_map, refused_map_from, refused_page, unpictured, IsPageBy, by_cause, by_meaning, None}
use Rattle.ubi_scan.specs.declared.errors.StreamError.TheVariants as stream
use Rattle.ubi_reading.proofs.ShownLines.{count, whole}

-- what is refused of a source is refused of less that it may hold
pub error_narrowed : (s : Sizes) (k : Source) (a b : Agreed) (c : Refusal) → Narrows a b
    → ArePlacesError s k a (stream.Refused c) → ArePlacesError s k b (stream.Refused c)
error_narrowed s k a b c narrows (inl fault) = inl fault
error_narrowed s k a b c narrows (inr (size, held)) = inr (size, λ x xs. held x (narrows x xs))

-- and so is what is answered
pub maps_narrowed : (s : Sizes) (k : Source) (a b : Agreed) (o : Outcome) → Narrows a b → MapsFrom s k a o → MapsFrom s k b o
maps_narrowed s k a b o narrows (mapped_from seen survey gives) = mapped_from seen (survey_narrowed s k a b seen narrows survey) gives
maps_narrowed s k a b o narrows (no_blocks_from c fault gives) = no_blocks_from c fault gives
maps_narrowed s k a b o narrows (refused_map_from c letters error gives) =
    refused_map_from c letters (error_narrowed s k a b c narrows error) gives

-- a page that is written
pub into_page : (out : List ℕ) (d e : Files) (answers : Outcome → Type 0) (made o : Outcome) → answers made
    → WritesFile out d e made o → PicturesInto out d e answers o
into_page out d e answers made o is (kept received) = pictured is received
into_page out d e answers made o is (lost some line) = unpictured made is some line

module _ (s : Sizes) (k : Source) (agrees : Agreed) (is : IsSource k agrees) (bytes : List ℕ) (holds : agrees bytes) where
  size_fault : (c : Refusal) → IsLengthFault s k.size c → IsLengthFault s (length bytes) c
  size_fault c fault = subst (λ (n : ℕ). IsLengthFault s n c) (sym (is.sized bytes holds)) fault

  pub of_no_blocks : (o : Outcome) (c : Refusal) → IsLengthFault s k.size c → Gives o (says (refusal_line c) 1)
      → Maps (image_of s bytes) o
  of_no_blocks o c fault line = no_blocks c (size_fault c fault) line

  pub of_no_page : (c : Refusal) → IsLengthFault s k.size c → IsPageOf (image_of s bytes) None
  of_no_page c fault = no_page c (size_fault c fault)

  module _ (n : ℕ) (size : IsWholeSize s k.size) (all : n ≡ blocks_in s k) where
    number : n ≡ length (blocks_of s bytes)
    number = all ∙ sym (count s k agrees is bytes holds)

    pub of_refused : (o : Outcome) (c : Refusal) (letters : List ℕ) → ArePlacesError s k agrees (stream.Refused c)
        → letters ≡ header_letters s (blocks_of s bytes) n → Gives o (says (rows letters ++ refusal_line c) 1)
        → Maps (image_of s bytes) o
    of_refused o c letters fault told line =
        refused_map c (whole s k agrees is bytes holds size) (refuses s k agrees bytes c is holds fault)
        (subst (λ (t : List ℕ). Gives o (says (rows t ++ refusal_line c) 1))
        (told ∙ ap (header_letters s (blocks_of s bytes)) number) line)

    -- the page by its texts
    pub of_refused_page : (texts : List (List ℕ)) (letters page : List ℕ) (c : Refusal) → texts ≡ block_texts s (blocks_of s bytes) n
        → letters ≡ header_letters s (blocks_of s bytes) n → Refuses (image_of s bytes) c
        → page ≡ page_of (refused_page_data s texts letters c) → IsPageOf (image_of s bytes) (Some page)
    of_refused_page texts letters page c told lettered fault made =
        subst (λ (p : List ℕ). IsPageOf (image_of s bytes) (Some p))
        (sym (made ∙ ap (λ (ts : List (List ℕ)). page_of (refused_page_data s ts letters c))
        (told ∙ ap (block_texts s (blocks_of s bytes)) number)
        ∙ ap (λ (ls : List ℕ). page_of (refused_page_data s (block_texts s (blocks_of s bytes) (length (blocks_of s bytes))) ls c))
        (lettered ∙ ap (header_letters s (blocks_of s bytes)) number)))
        (refused_page c (whole s k agrees is bytes holds size) fault)

    pub of_page : (texts : List (List ℕ)) (letters page : List ℕ) (a : Seen) → texts ≡ block_texts s (blocks_of s bytes) n
        → letters ≡ header_letters s (blocks_of s bytes) n → IsSurvey (image_of s bytes) a
        → IsPageBy (image_of s bytes) texts letters a page → IsPageOf (image_of s bytes) (Some page)
    of_page texts letters page a told lettered survey (by_cause c fault made) =
        of_refused_page texts letters page c told lettered fault made
    of_page texts letters page a told lettered survey (by_meaning m accepts made) =
        let volumes : List ListedVolume = map listed_volume (entries m.volumes) in
        let here : s ≡ m.sizes = sym accepts.accepted.means.sizes in
        subst (λ (p : List ℕ). IsPageOf (image_of s bytes) (Some p))
        (sym (made ∙ ap (λ (ts : List (List ℕ)). page_of (surveyed_data s ts a volumes))
        (told ∙ ap (block_texts s (blocks_of s bytes)) number)
        ∙ ap (λ (z : Sizes). page_of (surveyed_data z (block_texts z (blocks_of s bytes) (length (blocks_of s bytes))) a volumes)) here))
        (accepted_page a m survey accepts)
