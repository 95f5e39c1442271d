use Rattle.ubi_scan.proofs.Prelude.{ℕ, inl, inr, arith, Sizes, Refusal, IsLengthFault, IsWholeSize, Narrows, holds, memory, IsScanOf, IsScanOfError}
use Rattle.ubi_media.specs.declared.refusal.Refusal.TheVariants as refusal
use Rattle.ubi_scan.specs.declared.errors.StreamError.TheVariants as stream
use Rattle.ubi_scan.proofs.InMemory.{still}
use Rattle.ubi_scan.proofs.scans.scan.Goals as goal

no_length_fault : (s : Sizes) (n : ℕ) (c : Refusal) → IsWholeSize s n → IsLengthFault s n c → ⊥
no_length_fault s n refusal.Length w h = elim h.1 [ inl e ↦ (let k = w.some in omega arith) | inr e ↦ e w.cut ]
no_length_fault s n refusal.TooMany w h = let k = w.fits in omega arith
no_length_fault s n _ w h = h

pub returns-in-Err-Refused-clause-refused : goal.returns-in-Err-Refused-clause-refused
returns-in-Err-Refused-clause-refused c =
    let image = c.args.blocks.now in
    let cause = c.in-Err-Refused.cause in
    let h : IsScanOfError image.sizes (memory image.bytes) (holds c.scan_from.new.source) (stream.Refused cause) =
    rw (c.in-Err-Refused.field-0-is, c.geometry.ensures, c.new-source.ensures, c.bytes.ensures.value) at
    c.in-Err-Refused.ensures.refused in
    let narrows : Narrows (holds image.bytes) (holds c.scan_from.new.source) =
    rw (c.new-source.ensures, c.bytes.ensures.value) at c.in-Err-Refused.ensures.narrows in
    elim h [
      | inl fault ↦ absurd (no_length_fault image.sizes _ cause c.bytes.ensures.whole fault)
      | inr held ↦ held.1 image.bytes (still image.bytes c.scan_from.new.source narrows)
    ]

pub returns-in-Ok-clause-found : goal.returns-in-Ok-clause-found
returns-in-Ok-clause-found c =
    let image = c.args.blocks.now in
    let h : IsScanOf image.sizes (memory image.bytes) (holds c.scan_from.new.source) c.in-Ok.found =
    rw (c.geometry.ensures, c.new-source.ensures, c.bytes.ensures.value) at c.in-Ok.ensures.found in
    let narrows : Narrows (holds image.bytes) (holds c.scan_from.new.source) =
    rw (c.new-source.ensures, c.bytes.ensures.value) at c.in-Ok.ensures.narrows in
    h.held image.bytes (still image.bytes c.scan_from.new.source narrows)
