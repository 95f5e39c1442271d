-- What holds for all that a source may hold holds for what is left of it.
use Rattle.ubi_scan.proofs.Prelude.{Sizes, Found, Agreed, IsSource, Narrows, Source, IsScanOf}

pub narrows_more : (first then last : Agreed) → Narrows first then → Narrows then last → Narrows first last
narrows_more first then last before after = λ bytes agrees. before bytes (after bytes agrees)

pub source_narrowed : (k : Source) (old new : Agreed) → Narrows old new → IsSource k old → IsSource k new
source_narrowed k old new narrows h = record { sized = λ bytes agrees. h.sized bytes (narrows bytes agrees) }

pub scan_narrowed : (s : Sizes) (k : Source) (old new : Agreed) (found : Found) → Narrows old new → IsScanOf s k old found
    → IsScanOf s k new found
scan_narrowed s k old new found narrows h = record {
  whole = h.whole;
  within = h.within;
  held = λ bytes agrees. h.held bytes (narrows bytes agrees);
}
