-- What comparing two images answers: their meanings, and so their normal images.
use Rattle.std.proofs.Common.{sym, List, ℕ, ◌≡◌, ◌∙◌}
use Rattle.std.specs.Prelude.{Bool}
use Rattle.ubi_media.specs.Geometry.{Sizes}
use Rattle.ubi_scan.specs.Image.{image_of}
use Rattle.ubi_compose.proofs.NormalForm.{normal_form}
use Rattle.ubi_compare.specs.Compared.{IsComparison}
use Rattle.ubi_same.specs.Same.{IsSame}

-- two images of one geometry mean the same exactly if their normal images are the same
pub is_same : (s : Sizes) (a b : List ℕ) (answer : Bool) → IsComparison (image_of s a) (image_of s b) answer
    → IsSame (image_of s a) (image_of s b) answer
is_same s a b answer is =
    let left = is.left_means.accepted.means in
    let right = is.right_means.accepted.means in
    let form = normal_form is.left is.right is.limits (left.sizes ∙ sym right.sizes) left.meaning right.meaning in
    record {
      left = is.left;
      right = is.right;
      left_means = is.left_means;
      right_means = is.right_means;
      meanings = is.meanings;
      images = ((λ t. form.0 (is.meanings.0 t)), (λ e. is.meanings.1 (form.1 e)));
    }
