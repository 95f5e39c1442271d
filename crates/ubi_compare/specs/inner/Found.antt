-- Which of the differences were found so far.
use Rattle.std.specs.Prelude.{◌≡◌, ◌↔◌, Bool, true, false, List, [], ◌++◌}
use Rattle.ubi_compare.specs.declared.difference.Difference.{Difference}
use Rattle.ubi_compare.specs.declared.found.Found.{Found}

-- what was found shows the differences: all of them, or in brief only whether there is one
abbrev pub Tells : Bool → List Difference → List Difference → Type 0
Tells true found ds = (found ≡ []) ↔ (ds ≡ [])
Tells false found ds = found ≡ ds

-- what is found later adds more differences, after those before
pub record Adds (old new : Found) (more : List Difference) : Type 0 where
  pub brief : new.is_brief ≡ old.is_brief
  pub tells : (ds : List Difference) → Tells old.is_brief old.list.items ds → Tells old.is_brief new.list.items (ds ++ more)
