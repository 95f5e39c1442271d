-- Why a source isn't attached.
use Rattle.ubi_volume.proofs.Prelude.{ℕ, List, inl, inr, subst, sym, Sizes, Refusal, IsWholeSize, image_of, Agreed, IsSource, Source, blocks_in, IsReadFault, StreamError, Refuses, ArePlacesError, IsLengthFault}
use Rattle.ubi_scan.specs.declared.errors.StreamError.TheVariants as stream

-- a cause for which a source isn't attached is one for which its bytes are refused
pub refuses : (s : Sizes) (k : Source) (agrees : Agreed) (bytes : List ℕ) (c : Refusal) → IsSource k agrees → agrees bytes
    → ArePlacesError s k agrees (stream.Refused c) → Refuses (image_of s bytes) c
refuses s k agrees bytes c is holds (inl fault) =
    inl (subst (λ (n : ℕ). IsLengthFault s n c) (sym (is.sized bytes holds)) fault)
refuses s k agrees bytes c is holds (inr h) = inr (subst (IsWholeSize s) (sym (is.sized bytes holds)) h.0, h.1 bytes holds)

-- a read of a source of whole eraseblocks that fails is one that fails while attaching
pub read_refused : (s : Sizes) (k : Source) (agrees : Agreed) (e : StreamError) → IsWholeSize s k.size
    → IsReadFault (blocks_in s k) e → ArePlacesError s k agrees e
read_refused s k agrees (stream.Refused c) whole h = absurd h
read_refused s k agrees (stream.Read p n) whole h = (whole, h)
read_refused s k agrees (stream.Write n) whole h = h
read_refused s k agrees stream.Memory whole h = tt
