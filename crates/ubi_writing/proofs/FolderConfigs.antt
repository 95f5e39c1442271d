-- The volumes that the config of a folder describes.
use Rattle.ubi_writing.proofs.Prelude.{All-map, AreRecords, List, Listed, ReadError, Records, Result, Sizes, [], all_described, ap, described, entries, get_or, length, listed_at, map-append, rec_fault, subst, take, take_more, ℕ, ◌++◌, ◌+◌, ◌<◌, ◌∙◌, ◌∷◌, ◌≡◌, None}
use Rattle.std.specs.Prelude.{All}

-- one volume more
pub described_more : (len : ℕ → Result ℕ ReadError) (es : List Listed) (i : ℕ) (e : Listed) → i < length es
    → get_or es i e ≡ e → all_described len (take (i + 1) es) ≡ all_described len (take i es) ++ described (len e.0) e ∷ []
described_more len es i e inside here =
    ap (all_described len) (take_more es i e inside)
    ∙ map-append (λ (x : Listed). described (len x.0) x) (take i es) (get_or es i e ∷ [])
    ∙ ap (λ (x : Listed). all_described len (take i es) ++ described (len x.0) x ∷ []) here

-- their records break no rule
pub sound_described : (len : ℕ → Result ℕ ReadError) (t : Records) (s : Sizes) → t.sizes ≡ s → AreRecords t
    → All (λ v. rec_fault s v.entry ≡ None) (all_described len (entries t.of))
sound_described len t s sizes are =
    All-map (λ v. rec_fault s v.entry ≡ None) (λ e. described (len e.0) e) (entries t.of)
    (λ k d within. subst (λ (z : Sizes). rec_fault z (get_or (entries t.of) k d).1 ≡ None) sizes
    (are.sound (get_or (entries t.of) k d).0 (get_or (entries t.of) k d).1 (listed_at t k d within)))
