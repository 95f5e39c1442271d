-- What the commands that write answer over files.
use Rattle.std.specs.Borrow.{Bor}
use Rattle.std.specs.Option.{ForSome}
use Rattle.std.specs.Prelude.{◌≡◌, ◌≢◌, ℕ, ◌*◌, ◌+◌, ◌≤◌, ◌%◌, ◌++◌, IsFalse, IsTrue, List, [], length, Some, None, Option, codes, decimal}
use Rattle.ubi_media.specs.Geometry.{Sizes}
use Rattle.ubi_media.specs.Limits.{first_broken}
use Rattle.ubi_change.specs.Avoided.{Avoided}
use Rattle.ubi_change.specs.Listed.{Hidden}
use Rattle.ubi_files.specs.Answer.{Gives, says}
use Rattle.ubi_files.specs.Disk.{AllStay, Files, IsLeft, IsTextOf, OthersStayBeside, Receives, Stays, fresh}
use Rattle.ubi_files.specs.Dump.{begins_with_block, marks_of, raw_size}
use Rattle.ubi_files.specs.Lines.{file_line, refused_line}
use Rattle.ubi_files.specs.Numbers.{sizes_of}
use Rattle.ubi_files.specs.OverFile.{IsUnread}
use Rattle.ubi_files.specs.declared.dump.Dump.{Dump}
use Rattle.ubi_dumps.specs.Asked.{ReadsAll}
use Rattle.ubi_writing.specs.declared.orders.Plan.{Plan}
use Rattle.ubi_files.specs.declared.numbers.Numbers.{Numbers}
use Rattle.ubi_files.specs.declared.outcome.Outcome.{Outcome}

-- how many bytes a text may have: four for each byte of the device, and 65,536 more
abbrev pub text_limit : Sizes → ℕ
text_limit s = 4 * (s.pebs * s.peb_size) + 65536

-- what a command over a text file can answer: the line of a file that can't be opened, or the answer for the text that
-- the file holds, which isn't too long
pub data OfText (d : Files) (numbers : Numbers) (path : List ℕ) (answers : Sizes → List ℕ → Outcome → Type 0) : Outcome → Type 0 where
  no_text : {o : Outcome} → IsUnread numbers path o → OfText d numbers path answers o
  text : {o : Outcome} (bytes : List ℕ) → first_broken (sizes_of numbers) ≡ None → length bytes ≤ text_limit (sizes_of numbers)
      → IsTextOf d path bytes → answers (sizes_of numbers) bytes o → OfText d numbers path answers o

-- what a command that writes the file at a path can answer for a source: what it answers, and the file received what it
-- wrote; or the line of a file that can't be written, if there is something to write
pub data WritesInto (out : List ℕ) (old new : Files) (answers : Option (List ℕ) → Option (List ℕ) → Outcome → Type 0) (writes : Type 0)
    : Outcome → Type 0 where
  written : {o : Outcome} (received : Option (List ℕ)) → answers (fresh old) received o → IsLeft old new out received o
      → WritesInto out old new answers writes o
  unwritten : {o : Outcome} → writes → Gives o (says (file_line (codes "cannot write ") out) 1) → WritesInto out old new answers writes o

-- what a command that plans can answer for a source, if it writes the file at a path, and may write the programmed pages to a
-- second: what is said for the first; and if all is done, the second received the pages, or else it stays as it was, unless it is
-- the first; or the line of a second file that can't be written, when all but that is done. If the first may be the image, it is
-- written last: then the line of either file that can't be written is answered when the first holds what it held, as is that of the first
-- if its bytes can't be made
pub data WritesPlan (out : List ℕ) (pages : Option (Bor (List ℕ))) (old new : Files)
    (answers : List ℕ → Option (List ℕ) → Option (List ℕ) → Outcome → Type 0) (writes : Type 0) : Outcome → Type 0 where
  planned : {o : Outcome} (bytes : List ℕ) → WritesInto out old new (answers bytes) writes o
      → (o.status ≡ 0 → ForSome pages (λ path. Receives old new path.now (Some bytes)))
      → (o.status ≢ 0 → ForSome pages (λ path. path.now ≢ out → Stays old new path.now)) → WritesPlan out pages old new answers writes o
  no_pages : {o : Outcome} (path : Bor (List ℕ)) (bytes : List ℕ) (done : Outcome) → pages ≡ Some path
      → WritesInto out old new (answers bytes) writes done → done.status ≡ 0
      → Gives o (says (file_line (codes "cannot write ") path.now) 1) → WritesPlan out pages old new answers writes o
  no_first_pages : {o : Outcome} (path : Bor (List ℕ)) → pages ≡ Some path → writes → Stays old new out
      → Gives o (says (file_line (codes "cannot write ") path.now) 1) → WritesPlan out pages old new answers writes o
  no_bytes : {o : Outcome} → writes → Stays old new out → ForSome pages (λ path. Stays old new path.now)
      → Gives o (says (file_line (codes "cannot write ") out) 1) → WritesPlan out pages old new answers writes o
  no_last_image : {o : Outcome} (bytes : List ℕ) → writes → Stays old new out
      → ForSome pages (λ path. Receives old new path.now (Some bytes)) → Gives o (says (file_line (codes "cannot write ") out) 1)
      → WritesPlan out pages old new answers writes o

-- an image holds what it held, unless all is done
abbrev pub KeepsImage : Files → Files → List ℕ → Outcome → Type 0
KeepsImage d e path o = o.status ≢ 0 → Stays d e path

-- an image holds what it held if only a part of its file is read
abbrev pub KeepsPart : Files → Files → Dump → List ℕ → Type 0
KeepsPart d e dump path = (ReadsAll d dump path → ⊥) → Stays d e path

-- what a command that plans can answer for a dump: nothing, as for wrong words, if it may be a device and no bad eraseblocks
-- are listed; or what it answers
pub data WithList (d e : Files) (bad : Option (Bor (List ℕ))) (path : List ℕ) (answers : Outcome → Type 0) : Outcome → Type 0 where
  no_list : {o : Outcome} → bad ≡ None → d.holds path ≡ None → Gives o (says [] 2) → AllStay d e → WithList d e bad path answers o
  with_list : {o : Outcome} → answers o → WithList d e bad path answers o

-- the line of a part that doesn't begin with an eraseblock of the file
abbrev pub start_line : Dump → List ℕ
start_line dump =
    refused_line (codes "F11 Start peb=" ++ decimal (raw_size dump) ++ codes " rest=" ++ decimal (dump.part.start % raw_size dump))

-- what a command that plans can answer for a dump: the line of numbers that break a limit; the line of a part that doesn't begin with an
-- eraseblock of the file, and no file is changed; or what it answers
pub data OnGrid (d e : Files) (dump : Dump) (path : List ℕ) (answers : Outcome → Type 0) : Outcome → Type 0 where
  no_sizes : {o : Outcome} → IsUnread dump.numbers path o → OnGrid d e dump path answers o
  off_grid : {o : Outcome} → first_broken (sizes_of dump.numbers) ≡ None → IsFalse (begins_with_block dump)
      → Gives o (says (start_line dump) 1) → AllStay d e → OnGrid d e dump path answers o
  on_grid : {o : Outcome} → IsTrue (begins_with_block dump) → answers o → OnGrid d e dump path answers o

-- what a plan avoids in a dump: its bad eraseblocks, those before its part, and Blank ones if they are kept; and what is hidden from it
abbrev pub avoided : Dump → Plan → Hidden → Avoided
avoided dump plan h = record { marks = marks_of dump; blank = plan.keeps_blank; above = h.above; ends = h.ends }

-- each file holds what it held, except those that a plan writes; and the image does, unless it is itself the file that the
-- changed image is written to
pub record PlanStays (d e : Files) (plan : Plan) : Type 0 where
  pub others : OthersStayBeside d e plan.paths.out.now plan.pages
  pub image : plan.paths.image.now ≢ plan.paths.out.now → Stays d e plan.paths.image.now
