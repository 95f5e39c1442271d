-- Why edits write nothing, by why they make nothing.
use Rattle.ubi_change.proofs.Prelude.{ℕ, Bool, List, Option, Sizes, Seen, Holders, IsUnjudged, IsUnready, Edit, UpdateRefusal}
use Rattle.ubi_change.specs.declared.errors.UpdateRefusal.TheVariants as refusal

pub unready_from : (s : Sizes) (seen : Seen) (ends : List ℕ) (wholes : List Bool) (holders : Option Holders) (es : List Edit) (room : ℕ)
    (c : UpdateRefusal) → IsUnjudged s seen ends wholes es room c → IsUnready s seen ends wholes holders es room c
unready_from s seen ends wholes holders es room (refusal.Attach x) h = absurd h
unready_from s seen ends wholes holders es room (refusal.Edit i f) h = h
unready_from s seen ends wholes holders es room (refusal.SameName i j) h = h
unready_from s seen ends wholes holders es room (refusal.NoSlot a b) h = h
unready_from s seen ends wholes holders es room (refusal.NoSpace a b) h = h
unready_from s seen ends wholes holders es room (refusal.Autoresize i j) h = h
unready_from s seen ends wholes holders es room refusal.NeedsRepair h = absurd h
unready_from s seen ends wholes holders es room (refusal.WeakCheck k) h = absurd h
unready_from s seen ends wholes holders es room refusal.Exhausted h = absurd h
unready_from s seen ends wholes holders es room (refusal.NoFree a b) h = absurd h
unready_from s seen ends wholes holders es room refusal.Memory h = h
