-- The bytes of the page that holds a volume-identifier header.
use Rattle.ubi_change.proofs.Prelude.{◌≡◌, ℕ, ◌-◌, ◌%◌, ◌≤◌, List, ◌++◌, length, take, ap, ap₂, sym, ◌∙◌, arith, length-append, OnOk, Result, Ok, Err, is_ok, take_all, blank, filled, IsGeometry, Sizes, filled-is, length-filled}
use Rattle.std.specs.Bool.{if◌then◌else◌}
use Rattle.ubi_change.proofs.PagePlaces.{vid_left}

-- bytes that were made longer by bytes 0xFF, if memory was left
pub filled_up : {E : Type 0} (r : Result (Unit {0}) E) (size n : ℕ) (old new : List ℕ) → length old ≤ size
    → n ≡ length old
    → new ≡ (if is_ok r then take size old ++ blank (size - n) else old) → OnOk r (new ≡ filled size old)
filled_up (Ok v) size n old new l same e = e ∙ ap₂ (λ xs k. xs ++ blank (size - k)) (take_all size old l) same
    ∙ sym (filled-is size old)
filled_up (Err v) size n old new l same e = tt

-- a page has room for what stands before the header, and the header
pub page_holds : (s : Sizes) → IsGeometry s → (front vid bytes : List ℕ) → length front ≤ s.vid_offset % s.page
    → length vid ≡ 64
    → bytes ≡ filled (s.vid_offset % s.page) front ++ vid → length bytes ≤ s.page
page_holds s g front vid bytes short size e =
    let k = ap length e ∙ length-append (filled (s.vid_offset % s.page) front) vid in
    let n = length-filled (s.vid_offset % s.page) front short in
    let room = vid_left s g in
    omega arith
