-- What is answered for a file that can't be opened.
use Rattle.ubi_files.proofs.Prelude.{Tells, Unread, Memory, Told, Outcome}

-- what is told is no less than more
pub Tells-weaker : (P Q : Outcome → Type 0) → ((o : Outcome) → P o → Q o) → (u : Unread) → Tells P u → Tells Q u
Tells-weaker P Q f Memory h = tt
Tells-weaker P Q f (Told o) h = f o h
