-- The table of all that a source may hold is that of what is left of it.
use Rattle.ubi_table.proofs.Prelude.{Sizes, Agreed, Narrows, Records, IsTableOf}

pub table_narrowed : (s : Sizes) (old new : Agreed) (t : Records) → Narrows old new → IsTableOf s old t → IsTableOf s new t
table_narrowed s old new t narrows h = record {
  sizes = h.sizes;
  space = h.space;
  held = λ bytes agrees. h.held bytes (narrows bytes agrees);
}
