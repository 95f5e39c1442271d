-- What a command answers if no number of a geometry is typed.
use Rattle.std.specs.Prelude.{◌⊎◌, IfSome, List, [], None, Option, Some, ℕ}
use Rattle.ubi_detect.specs.declared.detect.Detected.{Detected}
use Rattle.ubi_files.specs.Disk.{Files}
use Rattle.ubi_files.specs.declared.outcome.Outcome.{Outcome}
use Rattle.ubi_commands.specs.Commands.{IsAnswerTo}
use Rattle.ubi_dumps.specs.Asked.{IsUntoldDump, TellFirst, told_dump}
use Rattle.ubi_dumps.specs.declared.asked.Asked.{Asked}
use Rattle.ubi_dumps.specs.declared.asked.Asked.TheVariants as asked
use Rattle.ubi_dumps.specs.declared.asked.Sought.{Sought}
use Rattle.ubi_commands.specs.declared.requests.Request.{Request}
use Rattle.ubi_commands.specs.declared.requests.Request.TheVariants as request

-- the path of the image of a request that reads one, as it is asked for
abbrev pub image_in : Request → Option (List ℕ)
image_in (request.Tell dump image what) = Some image.now
image_in (request.Map dump image page) = Some image.now
image_in (request.Extract dump what) = Some what.paths.image.now
image_in (request.Unpack dump paths) = Some paths.image.now
image_in (request.Normalise dump paths) = Some paths.image.now
image_in _ = None

-- the same request for an image that is asked for so
abbrev pub with_dump : Asked → Request → Request
with_dump dump (request.Tell other image what) = request.Tell dump image what
with_dump dump (request.Map other image page) = request.Map dump image page
with_dump dump (request.Extract other what) = request.Extract dump what
with_dump dump (request.Unpack other paths) = request.Unpack dump paths
with_dump dump (request.Normalise other paths) = request.Normalise dump paths
with_dump dump r = r

-- nothing is found in a part of the file at a path, or it is split
abbrev pub FindsNothing : Files → List ℕ → Sought → Type 0
FindsNothing d path sought = (o : Outcome) × IsUntoldDump d path [] (asked.Sought sought) o

-- with nothing typed a command answers what it answers with the numbers typed of what is found first, which `geometry` prints first;
-- or nothing is found
abbrev pub UntypedIsTyped : Type 0
UntypedIsTyped = (d e : Files) (r : Request) (sought : Sought) (o : Outcome)
    → IfSome (image_in r) (λ path. IsAnswerTo d e (with_dump (asked.Sought sought) r) o
    → FindsNothing d path sought
    ⊎ ((told : Detected) × TellFirst d sought.part path told
    × IsAnswerTo d e (with_dump (asked.Given (told_dump sought told)) r) o))
