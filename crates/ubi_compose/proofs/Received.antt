-- What a writer received of bytes that a function gives for the source's, in order.
use Rattle.ubi_compose.proofs.Prelude.{◌≡◌, ℕ, ◌+◌, ◌-◌, ◌<◌, List, [], ◌++◌, refl, ap, sym, ◌∙◌, arith, zero-add, Option, Result, Ok, Err, flat_map, range_with_len, Appends-nil, Sizes, Agreed, Narrows, Source, blocks_in, sound, anything, pieces_more, Wrote, All, front_of, wrote_where, wrote_text, Splits, error_behind, error_front, wrote_more, those, PutError, HasPut, NoRead, known_put}
use Rattle.ubi_scan.specs.declared.errors.StreamError.TheVariants as stream
use Rattle.ubi_compose.specs.declared.errors.PutError.TheVariants as put

-- a source of one block of one byte
abbrev one_byte : Sizes
one_byte = record { peb_size = 1; page = 1; vid_offset = 0; data_offset = 0; pebs = 1 }

one_block : 0 < blocks_in one_byte (sound 1)
one_block = omega arith

-- bytes of two parts, in order
module _ (IsRead : ℕ → Type 0) (agrees : Agreed) (whole front back : List ℕ → List ℕ)
    (is : (bytes : List ℕ) → whole bytes ≡ front bytes ++ back bytes) where
  split : Splits (those whole) (those front) (those back)
  split bytes text w = (front bytes, back bytes, w ∙ is bytes, refl, refl)

  -- the front was written, and then perhaps the back
  pub both_put : (a b c : Option (List ℕ)) (l m : ℕ) (r : Result ℕ PutError) → Wrote agrees a b (those front) All l m
      → HasPut IsRead agrees b c back m r → HasPut IsRead agrees a c whole l r
  both_put a b c l m (Ok n) g h = wrote_more (sound 0) agrees a b c (those whole) (those front) (those back) l m n split g h
  both_put a b c l m (Err (put.Read i n)) g h = (
    h.0,
    (error_behind (sound 1) agrees one_byte a b c (those whole) (those front) (those back) l m (stream.Read 0 n) split g
        (one_block, h.1)).1,
  )
  both_put a b c l m (Err (put.Write n)) g h =
      error_behind (sound 0) agrees one_byte a b c (those whole) (those front) (those back) l m (stream.Write n) split g h

  -- not all of the front was
  pub front_put : (a b : Option (List ℕ)) (m : ℕ) (e : PutError) → HasPut IsRead agrees a b front m (Err e)
      → HasPut IsRead agrees a b whole m (Err e)
  front_put a b m (put.Read i n) h = (
    h.0,
    (error_front (sound 1) agrees one_byte a b (those whole) (those front) (those back) m (stream.Read 0 n) split
        (one_block, h.1)).1,
  )
  front_put a b m (put.Write n) h =
      error_front (sound 0) agrees one_byte a b (those whole) (those front) (those back) m (stream.Write n) split h

-- the bytes of pieces by rising number
module _ (piece : ℕ → List ℕ → List ℕ) where
  abbrev pub firsts : ℕ → List ℕ → List ℕ
  firsts n bytes = flat_map (λ i. piece i bytes) (range_with_len 0 n)

  pub next : (n : ℕ) (bytes : List ℕ) → firsts (n + 1) bytes ≡ firsts n bytes ++ piece n bytes
  next n bytes = pieces_more (λ i. piece i bytes) 0 n n (zero-add n)

  abbrev pub rest : ℕ → ℕ → List ℕ → List ℕ
  rest total n bytes = flat_map (λ i. piece i bytes) (range_with_len (0 + n) (total - n))

  pub first_of : (total n : ℕ) → n < total + 1 → (bytes : List ℕ) → firsts total bytes ≡ firsts n bytes ++ rest total n bytes
  first_of total n few bytes =
      let count : n + (total - n) ≡ total = omega arith in
      ap (λ k. firsts k bytes) (sym count) ∙ front_of (λ i. piece i bytes) 0 n (total - n)

  -- one piece more isn't written whole
  pub next_failed : (IsRead : ℕ → Type 0) (agrees : Agreed) (a b c : Option (List ℕ)) (total n l m : ℕ) (e : PutError)
      → n < total → Wrote agrees a b (those (firsts n)) All l m → HasPut IsRead agrees b c (piece n) m (Err e)
      → HasPut IsRead agrees a c (firsts total) l (Err e)
  next_failed IsRead agrees a b c total n l m e inside g h =
      front_put IsRead agrees (firsts total) (firsts (n + 1)) (rest total (n + 1)) (first_of total (n + 1) (omega arith)) a c l
      e
      (both_put IsRead agrees (firsts (n + 1)) (firsts n) (piece n) (next n) a b c l m (Err e) g h)

-- of what a source may still hold the same bytes are wanted
module _ (old new : Agreed) (narrows : Narrows old new) (IsRead Other : ℕ → Type 0) (names : (n : ℕ) → IsRead n → Other n)
    (f g : List ℕ → List ℕ) (same : (bytes : List ℕ) → new bytes → g bytes ≡ f bytes) where
  pub put_where : (a b : Option (List ℕ)) (m : ℕ) (r : Result ℕ PutError) → HasPut IsRead old a b f m r
      → HasPut Other new a b g m r
  put_where a b m (Ok n) h = wrote_where old new narrows a b (those f) (those g) _ m n (λ bytes t holds w. w ∙ same bytes holds) h
  put_where a b m (Err (put.Read i n)) h =
      (names i h.0, wrote_where old new narrows a b (those f) (those g) _ m n (λ bytes t holds w. w ∙ same bytes holds) h.1)
  put_where a b m (Err (put.Write n)) h =
      wrote_where old new narrows a b (those f) (those g) _ m n (λ bytes t holds w. w ∙ same bytes holds) h

-- the same where less is known of the source
pub put_narrowed : (old new : Agreed) → Narrows old new → (IsRead Other : ℕ → Type 0) → ((n : ℕ) → IsRead n → Other n)
    → (f : List ℕ → List ℕ) (a b : Option (List ℕ)) (m : ℕ) (r : Result ℕ PutError) → HasPut IsRead old a b f m r
    → HasPut Other new a b f m r
put_narrowed old new narrows IsRead Other names f = put_where old new narrows IsRead Other names f f (λ bytes holds. refl)

-- what a call wrote that reads nothing it wrote whatever the source holds
pub put_anyway : (IsRead : ℕ → Type 0) (agrees : Agreed) (f : List ℕ → List ℕ) (a b : Option (List ℕ)) (m : ℕ)
    (r : Result ℕ PutError) → HasPut NoRead anything a b f m r → HasPut IsRead agrees a b f m r
put_anyway IsRead agrees f = put_narrowed anything agrees (λ bytes holds. tt) NoRead IsRead (λ n h. absurd h) f

-- a call that reads nothing changes nothing of what is known
pub known_kept : (agrees : Agreed) (a b : Option (List ℕ)) (f : List ℕ → List ℕ) (m : ℕ) (r : Result ℕ PutError)
    → HasPut NoRead agrees a b f m r → (k : Source) → k ≡ known_put k r
known_kept agrees a b f m (Ok n) h k = refl
known_kept agrees a b f m (Err (put.Read i n)) h k = absurd h.0
known_kept agrees a b f m (Err (put.Write n)) h k = refl

-- nothing was to be written
pub put_none : (agrees : Agreed) (a : Option (List ℕ)) (f : List ℕ → List ℕ) (m : ℕ)
    → ((bytes : List ℕ) → agrees bytes → f bytes ≡ []) → Wrote agrees a a (those f) All m m
put_none agrees a f m none = wrote_text (sound 0) agrees a a (those f) [] 0 m m (Appends-nil a) refl (omega arith)
    (λ bytes t holds w. w ∙ none bytes holds)
