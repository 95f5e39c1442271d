-- A plan for a chip is one for the image in which the bad eraseblocks read 0xFF.
use Rattle.ubi_calls.proofs.Prelude.{◌≡◌, ◌∙◌, ℕ, List, ap, length, subst, sym, Sizes, Image, image_of, Avoided, masked, nil_from_length, masked_none, marks_by_number, image_without, spared, edit_plan, spared_plan, Spared}
use Rattle.ubi_calls.specs.declared.plans.Edit.{Edit}

-- without bad eraseblocks the image is as it is
pub unmarked : (s : Sizes) (bad bytes : List ℕ) → length (marks_by_number s.pebs bad) ≡ 0 → image_of s bytes ≡ image_without s bad bytes
unmarked s bad bytes none =
    sym (ap (λ marks. image_of s (masked s.peb_size marks bytes)) (nil_from_length (marks_by_number s.pebs bad) none)
    ∙ ap (image_of s) (masked_none s.peb_size bytes))

pub for_chip : (e : Edit) (chip : Spared) (s : Sizes) (bytes : List ℕ) (image : Image) (av : Avoided) → image ≡ image_without s chip.bad.now bytes
    → av ≡ spared s chip.bad.now chip.keeps_blank bytes → (pages text : List ℕ) (status : ℕ) → edit_plan e image av pages text status
    → spared_plan e chip s bytes pages text status
for_chip e chip s bytes image av same avoids pages text status h =
    subst (λ (i : Image). edit_plan e i (spared s chip.bad.now chip.keeps_blank bytes) pages text status) same
    (subst (λ (a : Avoided). edit_plan e image a pages text status) avoids h)
