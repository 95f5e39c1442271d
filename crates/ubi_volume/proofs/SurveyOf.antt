-- What surveying a source gives, by what its parts answered.
use Rattle.ubi_volume.proofs.Prelude.{ℕ, ◌^◌, ◌<◌, List, sym, subst, Sizes, Found, Image, IsWholeSize, image_of, Agreed, Source, blocks_of, Records, Accepts, AreChecked, AreStatesOf, IsSurvey, IsSurveyOf, BlockState}
use Rattle.ubi_volume.proofs.AttachedOf.{attached}
use Rattle.ubi_volume.proofs.AcceptedOrRefused.{are_lebs, some_meaning}
use Rattle.ubi_volume.proofs.Recorded.{records_meant}

module _ (s : Sizes) (k : Source) (agrees : Agreed) (found : Found) (t : Records) (states : List BlockState)
    (is : AreChecked s k agrees found t) (are : AreStatesOf s k agrees t states) where
  held : (bytes : List ℕ) → agrees bytes
      → IsSurvey (image_of s bytes) (record { records = t; scan = found; states = states })
  held bytes holds =
      let image : Image = image_of s bytes in
      let bs = blocks_of s bytes in
      let scan = is.scan.held bytes holds in
      let table = is.table.held bytes holds in
      let m = some_meaning s bs (are_lebs image) scan.clean t (is.alike bytes holds) is.sizes table
      (subst (λ (n : ℕ). n < 2 ^ 32) scan.image_seq is.narrow) in
      let accepts : Accepts image m.0 = record {
        whole = subst (IsWholeSize s) (sym (is.source.sized bytes holds)) is.scan.whole;
        accepted = record {
          clean = scan.clean;
          records = t;
          table = table;
          alike = is.alike bytes holds;
          means = m.1;
        };
      } in
      record {
        meaning = m.0;
        attached = attached image found t m.0 states accepts scan table (are.held bytes holds);
        records = sym (records_meant s bs t m.0 table m.1);
      }

  pub is_survey : IsSurveyOf s k agrees (record { records = t; scan = found; states = states })
  is_survey = record { scan = is.scan; sizes = is.table.sizes; mean = is.mean; count = are.count; held = held }
