-- Why two sources aren't compared.
use Rattle.ubi_compare.proofs.Prelude.{Sizes, IsWholeSize, image_of, Agreed, Source, WhereHeld, blocks_in, Accepts, Meant, IsCompareFault, CompareFault, IsSidesError, read_refused}
use Rattle.ubi_compare.specs.declared.errors.CompareFault.TheVariants as fault

-- what keeps two sources from being compared once both are attached
pub sides_refused : (s : Sizes) (k : Source) (left : Agreed) (l : Source) (right : Agreed) (e : CompareFault)
    → IsWholeSize s k.size → IsWholeSize s l.size → WhereHeld left (λ bytes. (m : Meant) × Accepts (image_of s bytes) m)
    → IsSidesError (blocks_in s k) (blocks_in s l) e → IsCompareFault s k left l right e
sides_refused s k left l right (fault.Left e) here there accepted h = read_refused s k left e here h
sides_refused s k left l right (fault.Right e) here there accepted h = (accepted, read_refused s l right e there h)
sides_refused s k left l right fault.Memory here there accepted h = tt
