-- What attaching an image gives, by what its parts answered.
use Rattle.ubi_volume.proofs.Prelude.{List, sym, subst, ◌∙◌, Image, eraseblocks, of_blocks, Found, IsScan, Records, IsTable, table_unique, Accepts, IsAttached, AreBlockStates, Meant, BlockState}
use Rattle.ubi_volume.proofs.Recorded.{records_meant}

pub attached : (image : Image) (found : Found) (t : Records) (m : Meant) (states : List BlockState) → Accepts image m
    → of_blocks IsScan image found → of_blocks IsTable image t → of_blocks AreBlockStates image t states
    → IsAttached image (record { meaning = m; scan = found; states = states })
attached image found t m states accepts scan is are =
    let bs = eraseblocks image in
    let a = accepts.accepted in
    let same = records_meant image.sizes bs a.records m a.table a.means
    ∙ table_unique image.sizes bs a.clean a.records t a.table is in
    record {
      accepted = accepts;
      scan = scan;
      states = subst (λ (r : Records). of_blocks AreBlockStates image r states) (sym same) are;
    }
