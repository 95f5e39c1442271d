use Rattle.ubi_detect.proofs.PowerSizes.{powers_of_two}
use Rattle.ubi_detect.proofs.ShownFound.{image_is_found}
use Rattle.ubi_detect.proofs.ShownParts.{shown_among_others}
use Rattle.ubi_detect.proofs.laws.image_is_found.Goals as goal

pub returns-clause-found : goal.returns-clause-found
returns-clause-found c = image_is_found

pub returns-clause-powers : goal.returns-clause-powers
returns-clause-powers c = powers_of_two

pub returns-clause-among : goal.returns-clause-among
returns-clause-among c = shown_among_others
