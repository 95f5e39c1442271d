-- The kind of a volume.
use Rattle.std.specs.Prelude.{Bool, true, false}
use Rattle.ubi_media.specs.declared.vid.VolKind.{VolKind}
use Rattle.ubi_media.specs.declared.vid.VolKind.TheVariants as kind

-- whether a volume is static
abbrev pub is_static : VolKind → Bool
is_static kind.Static = true
is_static kind.Dynamic = false
