use Rattle.ubi_detect.proofs.PartGroups.{part_of_file}
use Rattle.ubi_detect.proofs.PartSure.{sure_of_part}
use Rattle.ubi_detect.proofs.PartTold.{told_of_part}
use Rattle.ubi_detect.proofs.laws.part_of_file.Goals as goal

pub returns-clause-image : goal.returns-clause-image
returns-clause-image c = part_of_file

pub returns-clause-sure : goal.returns-clause-sure
returns-clause-sure c = sure_of_part

pub returns-clause-told : goal.returns-clause-told
returns-clause-told c = told_of_part
