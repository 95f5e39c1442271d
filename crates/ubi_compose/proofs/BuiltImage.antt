-- What a writer received of the pieces of parts is the normal image of what is built from them, and the spares.
use Rattle.ubi_compose.proofs.Prelude.{◌≡◌, ℕ, ◌+◌, ◌<◌, ◌≤◌, ◌^◌, List, length, ap, sym, ◌∙◌, subst, Contains, Option, Result, Agreed, HaveMeaning, Parts, Reaches, built, composed, CanBuild, table_of, built_pieces, Device, HasPut, IsReadIn, image_bytes, Part, PutError}
use Rattle.ubi_compose.proofs.BuiltPieces.{read_part}
use Rattle.ubi_compose.proofs.BuiltVolumes.{image_is}
use Rattle.ubi_compose.proofs.Received.{put_where}

-- a read that failed began in the bytes of a part with a number
abbrev pub IsReadFor : Parts → ℕ → ℕ → Type 0
IsReadFor ps at number = (p : Part) × Contains ps.of p × (number ≡ p.id) × (p.start ≤ at) × (at < p.start + p.len)

module _ (ps : Parts) (h : HaveMeaning ps) (spares size : ℕ) (can : CanBuild ps spares size) (narrow : size < 2 ^ 64)
    (d : Device) (is : d ≡ record { geometry = ps.sizes; image_seq = ps.image_seq }) (table : List ℕ) (given : table ≡ table_of ps)
    (agrees : Agreed) (sized : (bytes : List ℕ) → agrees bytes → length bytes ≡ size) where
  pub all_built : (at : ℕ) (a b : Option (List ℕ)) (r : Result ℕ PutError)
      → HasPut (IsReadIn d.geometry (built_pieces ps) at) agrees a b (image_bytes d table (built_pieces ps) spares) 0 r
      → HasPut (IsReadFor ps at) agrees a b (λ bytes. composed (built ps bytes) spares) 0 r
  all_built at a b = put_where agrees agrees (λ bytes holds. holds) (IsReadIn d.geometry (built_pieces ps) at) (IsReadFor ps at)
      (λ number read. read_part ps h size (record { narrow = narrow; reaches = can.reaches }) at number
      (subst (λ (d : Device). IsReadIn d.geometry (built_pieces ps) at number) is read))
      (image_bytes d table (built_pieces ps) spares) (λ bytes. composed (built ps bytes) spares)
      (λ bytes holds. sym (ap (λ d. image_bytes d table (built_pieces ps) spares bytes) is
      ∙ image_is ps bytes h (subst (λ n. Reaches n ps.of) (sym (sized bytes holds)) can.reaches) table given spares)) a b 0
