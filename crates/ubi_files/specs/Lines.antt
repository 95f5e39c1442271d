-- The printed lines of refusals, and of files that fail.
use Rattle.std.specs.Prelude.{List, ◌++◌, codes, decimal, ℕ}
use Rattle.ubi_media.specs.ErrorTexts.{geometry_error_text, refusal_text}
use Rattle.ubi_media.specs.declared.geometry.GeometryError.{GeometryError}
use Rattle.ubi_media.specs.declared.refusal.Refusal.{Refusal}
use Rattle.ubi_files.specs.declared.view.Misfit.{Misfit}
use Rattle.ubi_files.specs.declared.view.Misfit.TheVariants as why

-- the line of a refusal, by the text of its cause
abbrev pub refused_line : List ℕ → List ℕ
refused_line cause = codes "refused " ++ cause ++ codes "\n"

-- the line of a limit that a geometry breaks
abbrev pub geometry_line : GeometryError → List ℕ
geometry_line limit = refused_line (geometry_error_text limit)

-- the line of an image that is refused
abbrev pub refusal_line : Refusal → List ℕ
refusal_line c = refused_line (refusal_text c)

-- the text that says why a file can't be read as the words say
abbrev pub misfit_text : Misfit → List ℕ
misfit_text (why.Part bytes) = codes "F7 Part bytes=" ++ decimal bytes
misfit_text (why.Pages rest) = codes "F8 Pages rest=" ++ decimal rest

-- the line of a file that can't be read so
abbrev pub misfit_line : Misfit → List ℕ
misfit_line m = refused_line (misfit_text m)

-- the line of a file that fails
abbrev pub file_line : List ℕ → List ℕ → List ℕ
file_line cannot path = cannot ++ path ++ codes "\n"
