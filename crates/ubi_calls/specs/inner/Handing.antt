-- What is handed over of an outcome.
use Rattle.std.specs.Prelude.{◌≡◌, ℕ, List, Result, Ok, Err, length}
use Rattle.std.specs.declared.alloc.AllocError.{AllocError}
use Rattle.ubi_files.specs.declared.outcome.Outcome.{Outcome}
use Rattle.ubi_calls.specs.Calls.{put_into}

-- the buffer has the first of the bytes, and the length and the status are theirs
abbrev pub Leaves : List ℕ → ℕ → List ℕ → List ℕ → ℕ → ℕ → Type 0
Leaves bytes status old new len result = (new ≡ put_into bytes old) × (len ≡ length bytes) × (result ≡ status)

-- the buffer is as it was, and the status says that memory ran out
abbrev pub LeavesNothing : List ℕ → List ℕ → ℕ → ℕ → Type 0
LeavesNothing old new len result = (new ≡ old) × (len ≡ 0) × (result ≡ 3)

-- what is printed for an outcome, if there is one
abbrev pub HandsOver : Result Outcome AllocError → List ℕ → List ℕ → ℕ → ℕ → Type 0
HandsOver (Ok o) old new len result = Leaves o.text.items o.status old new len result
HandsOver (Err _) old new len result = LeavesNothing old new len result
