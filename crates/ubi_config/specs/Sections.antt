-- A section of a config: what its lines say together, and the first key that it lacks.
use Rattle.std.specs.Prelude.{ℕ, ◌==◌, ◌||◌, Bool, true, false, not, List, fold, Some, None, Result, Ok, is_some}
use Rattle.std.specs.Bool.{then_some}
use Rattle.std.specs.Option.{ok_or}
use Rattle.ubi_media.specs.Kind.{is_static}
use Rattle.ubi_media.specs.declared.vid.VolKind.TheVariants as kind
use Rattle.ubi_config.specs.Lines.{◌>>=◌}
use Rattle.ubi_config.specs.declared.errors.ConfigCause.{ConfigCause}
use Rattle.ubi_config.specs.declared.errors.ConfigCause.TheVariants as cause
use Rattle.ubi_config.specs.declared.key.Key.TheVariants as key
use Rattle.ubi_config.specs.declared.line.Line.{Line}
use Rattle.ubi_config.specs.declared.line.Line.TheVariants as line
use Rattle.ubi_config.specs.declared.drafts.Draft.{Draft}
use Rattle.ubi_config.specs.declared.section.Section.{Section}

-- a section about which nothing is said: dynamic, of alignment 1, without flags
abbrev pub no_draft : Draft
no_draft = record {
  mode = false;
  image = None;
  id = None;
  size = None;
  kind = kind.Dynamic;
  name = None;
  flags = 0;
  alignment = 1;
}

-- a section with what one more line of it says
abbrev pub with_line : Draft → Line → Draft
with_line d (line.Heading _ _) = d
with_line d line.Mode = record d { mode = true }
with_line d (line.Image path) = record d { image = Some path }
with_line d (line.Id id) = record d { id = Some id }
with_line d (line.Size bytes) = record d { size = Some bytes }
with_line d (line.Kind k) = record d { kind = k }
with_line d (line.Name name) = record d { name = Some name }
with_line d line.Autoresize = record d { flags = 1 }
with_line d line.SkipCheck = record d { flags = 2 }
with_line d (line.Alignment alignment) = record d { alignment = alignment }

-- what the lines of a section say together
unfoldable pub draft_of : List Line → Draft
draft_of ls = fold with_line no_draft ls

-- a section has to name an image if it's static, or without a size
abbrev pub needs_image : Draft → Bool
needs_image d = is_static d.kind || not (is_some d.size)

-- a section may skip the CRC of its contents if it's static: a dynamic volume has none
abbrev pub may_skip : Draft → Bool
may_skip d = is_static d.kind || not (d.flags == 2)

-- the section, or the first key that it lacks, or that it can't skip a CRC
unfoldable pub finished : ℕ → Draft → Result Section ConfigCause
finished number d = do
  mode ← ok_or (then_some d.mode true) (cause.Missing key.Mode)
  id ← ok_or d.id (cause.Missing key.Id)
  name ← ok_or d.name (cause.Missing key.Name)
  image ← ok_or (then_some (is_some d.image || not (needs_image d)) d.image) (cause.Missing key.Image)
  kind ← ok_or (then_some (may_skip d) d.kind) cause.SkipCheck
  Ok (record {
    line = number;
    id = id;
    name = name;
    kind = kind;
    alignment = d.alignment;
    flags = d.flags;
    size = d.size;
    image = image;
  })
