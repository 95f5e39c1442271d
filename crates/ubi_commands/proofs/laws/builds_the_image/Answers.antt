use Rattle.ubi_commands.proofs.FolderBuilds.{builds_the_image}
use Rattle.ubi_commands.proofs.laws.builds_the_image.Goals as goal

pub returns : goal.returns
returns c = builds_the_image
