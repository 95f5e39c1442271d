-- What is answered for a file that can't be opened.
use Rattle.ubi_files.specs.declared.image_file.Unread.TheVariants as unread
use Rattle.ubi_files.specs.declared.image_file.Unread.{Unread}
use Rattle.ubi_files.specs.declared.outcome.Outcome.{Outcome}

-- what is answered if an image can't be opened; there is no answer if memory ran out
abbrev pub Tells : (Outcome → Type 0) → Unread → Type 0
Tells is unread.Memory = Unit {0}
Tells is (unread.Told o) = is o
