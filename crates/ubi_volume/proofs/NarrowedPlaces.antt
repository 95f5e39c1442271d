-- What is known for all that a source may hold is known for what is left of it: its places, what its volumes read, and
-- what a writer received of it.
use Rattle.ubi_volume.proofs.Prelude.{ℕ, List, Option, Sizes, VolumeRecord, scan_narrowed, source_narrowed, Found, Agreed, Narrows, Source, StreamError, table_narrowed, Records, Volume, AreContents, IsContentOf, AreChecked, ArePlacesOf, Placed, IsWroteError, Wanted, Wrote}
use Rattle.ubi_scan.specs.declared.errors.StreamError.TheVariants as stream

pub places_narrowed : (s : Sizes) (k : Source) (old new : Agreed) (p : Placed) → Narrows old new → ArePlacesOf s k old p
    → ArePlacesOf s k new p
places_narrowed s k old new p narrows h = record {
  sizes = h.sizes;
  whole = h.whole;
  within = h.within;
  held = λ bytes agrees. h.held bytes (narrows bytes agrees);
}

pub checked_narrowed : (s : Sizes) (k : Source) (old new : Agreed) (found : Found) (t : Records) → Narrows old new
    → AreChecked s k old found t → AreChecked s k new found t
checked_narrowed s k old new found t narrows h = record {
  sizes = h.sizes;
  source = source_narrowed k old new narrows h.source;
  scan = scan_narrowed s k old new found narrows h.scan;
  narrow = h.narrow;
  mean = h.mean;
  table = table_narrowed s old new t narrows h.table;
  alike = λ bytes agrees. h.alike bytes (narrows bytes agrees);
}

pub contents_narrowed : (s : Sizes) (old new : Agreed) (es : List (ℕ × VolumeRecord)) (vs : List (ℕ × Volume))
    → Narrows old new → AreContents (IsContentOf s old) es vs → AreContents (IsContentOf s new) es vs
contents_narrowed s old new es vs narrows h = record {
  alike = h.alike;
  contents = λ i d below.
      let of = h.contents i d below in
      record { fits = of.fits; kept = of.kept; reads = λ bytes agrees. of.reads bytes (narrows bytes agrees) };
}

module _ (old new : Agreed) (narrows : Narrows old new) where
  -- and other bytes are wanted, which are the same of each image that is left
  pub wrote_where : (a b : Option (List ℕ)) (wanted other : Wanted) (many : ℕ → ℕ → Type 0) (m n : ℕ)
      → ((image text : List ℕ) → new image → other image text → wanted image text)
      → Wrote old a b wanted many m n → Wrote new a b other many m n
  wrote_where a b wanted other many m n same h = record {
    bytes = h.bytes;
    got = h.got;
    count = h.count;
    held = λ image agrees text w. h.held image (narrows image agrees) text (same image text agrees w);
  }

  pub wrote_narrowed : (a b : Option (List ℕ)) (wanted : Wanted) (many : ℕ → ℕ → Type 0) (m n : ℕ)
      → Wrote old a b wanted many m n → Wrote new a b wanted many m n
  wrote_narrowed a b wanted many m n = wrote_where a b wanted wanted many m n (λ image text agrees w. w)

  pub error_where : (s : Sizes) (k : Source) (a b : Option (List ℕ)) (wanted other : Wanted) (m : ℕ) (e : StreamError)
      → ((image text : List ℕ) → new image → other image text → wanted image text)
      → IsWroteError s k old a b wanted m e → IsWroteError s k new a b other m e
  error_where s k a b wanted other m (stream.Read p n) same h = (h.0, wrote_where a b wanted other _ m n same h.1)
  error_where s k a b wanted other m (stream.Write n) same h = wrote_where a b wanted other _ m n same h
  error_where s k a b wanted other m (stream.Refused c) same h = h
  error_where s k a b wanted other m stream.Memory same h = h
