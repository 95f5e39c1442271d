use Rattle.ubi_detect.proofs.OnGrid.{each_on_grid, greatest_size, place_on_grid, size_of_image}
use Rattle.ubi_detect.proofs.laws.image_on_grid.Goals as goal

pub returns-clause-each : goal.returns-clause-each
returns-clause-each c = each_on_grid

pub returns-clause-greatest : goal.returns-clause-greatest
returns-clause-greatest c = greatest_size

pub returns-clause-place : goal.returns-clause-place
returns-clause-place c = place_on_grid

pub returns-clause-size : goal.returns-clause-size
returns-clause-size c = size_of_image
