-- The printed lines of causes and their objects say the same.
use Rattle.ubi_json.proofs.Prelude.{◌≡◌, ◌++◌, [], List, ap, codes, ℕ, Side, compare_error_text, refused_at, side_word, append-nil, append_assoc, refl, decimal, refusal_text, Refusal, undetected_text, Undetected, refusal_told, told_text, undetected_told}
use Rattle.ubi_media.specs.declared.refusal.Refusal.TheVariants as cause
use Rattle.ubi_compare.specs.declared.difference.Side.TheVariants as side
use Rattle.ubi_detect.specs.declared.detect.Undetected.TheVariants as unknown

pub refusals : (c : Refusal) → refusal_text c ≡ told_text (refusal_told c)
refusals cause.Length = refl
refusals cause.TooMany = refl
refusals (cause.Ec p f) = simp (append_assoc, append-nil)
refusals (cause.ImageSeq p) = rw (append-nil (decimal p ++ []), append-nil (decimal p)) refl
refusals (cause.Vid p f) = simp (append_assoc, append-nil)
refusals (cause.Incompatible p volume) = simp (append_assoc, append-nil)
refusals (cause.Layout p) = rw (append-nil (decimal p ++ []), append-nil (decimal p)) refl
refusals (cause.SameSqnum p q) = simp (append_assoc, append-nil)
refusals cause.NoTable = refl
refusals cause.BothCorrupt = refl
refusals (cause.Record p slot f) = simp (append_assoc, append-nil)
refusals (cause.SameName p i j) = simp (append_assoc, append-nil)
refusals cause.NoSpace = refl
refusals (cause.Mismatch p) = rw (append-nil (decimal p ++ []), append-nil (decimal p)) refl

pub undetected : (c : Undetected) → undetected_text c ≡ told_text (undetected_told c)
undetected unknown.NoHeader = refl
undetected unknown.NoSize = refl
undetected (unknown.Length size rest) = simp (append_assoc, append-nil)
undetected (unknown.OutOfBand size) = rw (append-nil (decimal size ++ []), append-nil (decimal size)) refl
undetected (unknown.Page size o) = simp (append_assoc, append-nil)

pub sides : (s : Side) (c : Refusal) → compare_error_text (refused_at s c) ≡ side_word s ++ codes " " ++ told_text (refusal_told c)
sides side.Left c = ap (λ (text : List ℕ). codes "left " ++ text) (refusals c)
sides side.Right c = ap (λ (text : List ℕ). codes "right " ++ text) (refusals c)
