use Rattle.ubi_compose.proofs.Prelude.{◌≡◌, subst, ◌∙◌, Accepts, normal_bytes}
use Rattle.ubi_compose.proofs.NormalForm.{composed-none}
use Rattle.ubi_compose.proofs.memory_image.normalise.Goals as goal

pub returns-in-Ok-clause-normal : goal.returns-in-Ok-clause-normal
returns-in-Ok-clause-normal c =
    let m = c.in_ok-attached.attached.meaning in
    let bytes : c.in-Ok.normal.items ≡ normal_bytes m = rw c.meaning.ensures at c.in-Ok.ensures.bytes
    ∙ composed-none m in
    (m, c.in_ok-attached.ensures.attached.accepted, bytes)

pub returns-in-Ok-clause-again : goal.returns-in-Ok-clause-again
returns-in-Ok-clause-again c =
    let m = c.in_ok-attached.attached.meaning in
    let bytes : c.in-Ok.normal.items ≡ normal_bytes m = rw c.meaning.ensures at c.in-Ok.ensures.bytes
    ∙ composed-none m in
    let sizes = c.in_ok-attached.ensures.attached.accepted.accepted.means.sizes in (
      m,
      subst (λ s. Accepts (record { sizes = s; bytes = c.in-Ok.normal.items }) m) sizes
          (rw c.meaning.ensures at c.in-Ok.ensures.accepted),
      bytes,
    )
