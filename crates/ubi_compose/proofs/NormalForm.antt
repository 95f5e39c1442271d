-- The normal image tells meanings apart, and normalising it changes nothing.
use Rattle.ubi_compose.proofs.Prelude.{◌≡◌, ℕ, ◌+◌, ◌/◌, ◌<◌, List, length, sym, ap, ◌∙◌, subst, arith, ◌↔◌, div-mul-add, IsGeometry, Sizes, Image, image_of, Accepts, IsMeaning, Meant, Accepts-unique, composed, MeanTheSame, Normalising, IsNormalised, normal_blocks, normal_bytes}
use Rattle.std.proofs.lemmas.List.{append-nil}
use Rattle.ubi_compose.proofs.Accepted.{length-composed, normal_accepted}
use Rattle.ubi_compose.proofs.Room.{normal_fits}

-- with no spare eraseblocks it is the normal image alone
pub composed-none : (m : Meant) → composed m 0 ≡ normal_bytes m
composed-none m = append-nil (normal_bytes m)

-- cut into eraseblocks, its bytes are as many as it has, the spare ones too
pub count-composed : (m : Meant) → IsGeometry m.sizes → IsMeaning m → (spares : ℕ)
    → length (composed m spares) / m.sizes.peb_size ≡ length (normal_blocks m) + spares
count-composed m g is spares =
    let some : 0 < m.sizes.peb_size = omega (arith, g.page_from, g.peb_from) in
    ap (λ n. n / m.sizes.peb_size) (length-composed m g is spares ∙ omega arith)
    ∙ div-mul-add (length (normal_blocks m) + spares) m.sizes.peb_size 0 some

pub count-normal_bytes : (m : Meant) → IsGeometry m.sizes → IsMeaning m
    → length (normal_bytes m) / m.sizes.peb_size ≡ length (normal_blocks m)
count-normal_bytes m g is =
    ap (λ bytes. length bytes / m.sizes.peb_size) (sym (composed-none m)) ∙ count-composed m g is 0 ∙ omega arith

-- by itself it is accepted
pub alone_accepted : (m : Meant) → IsGeometry m.sizes → IsMeaning m → Accepts (image_of m.sizes (normal_bytes m)) m
alone_accepted m g is = subst (λ bytes. Accepts (image_of m.sizes bytes) m) (composed-none m)
    (normal_accepted m g is 0 (normal_fits m is))

same_image : (s z : Sizes) (xs ys : List ℕ) → s ≡ z → xs ≡ ys → ◌≡◌ {A = Image} (image_of s xs) (image_of z ys)
same_image s z xs ys e f = λ i. record { sizes = e i; bytes = f i }

same_meaning : (m n : Meant) → IsGeometry m.sizes → m.sizes ≡ n.sizes → IsMeaning m → IsMeaning n
    → normal_bytes m ≡ normal_bytes n → m ≡ n
same_meaning m n g same is other e =
    let there : Accepts (image_of n.sizes (normal_bytes n)) n = alone_accepted n (subst IsGeometry same g) other in
    Accepts-unique (image_of m.sizes (normal_bytes m)) m n (alone_accepted m g is)
    (subst (λ image. Accepts image n) (same_image n.sizes m.sizes (normal_bytes n) (normal_bytes m) (sym same) (sym e))
    there)

pub normal_form : (m n : Meant) → IsGeometry m.sizes → m.sizes ≡ n.sizes → IsMeaning m → IsMeaning n → (m ≡ n)
    ↔ (normal_bytes m ≡ normal_bytes n)
normal_form m n g same is other = (ap normal_bytes, same_meaning m n g same is other)

-- the normal image of what an image means is accepted with that meaning
pub again_accepted : (image : Image) (out : List ℕ) → IsGeometry image.sizes → (h : IsNormalised image out)
    → Accepts (record image { bytes = out }) h.0
again_accepted image out g h =
    let m = h.0 in
    let means = h.1.accepted.means in
    subst (λ x. Accepts x m) (same_image m.sizes image.sizes (normal_bytes m) out means.sizes (sym h.2))
    (alone_accepted m (subst IsGeometry (sym means.sizes) g) means.meaning)

pub twice_is_once : (image : Image) (out : List ℕ) → IsGeometry image.sizes → IsNormalised image out
    → IsNormalised (record image { bytes = out }) out
twice_is_once image out g h = (h.0, again_accepted image out g h, h.2)

pub equal_images : (a b : Image) (x y : List ℕ) → IsGeometry a.sizes → a.sizes ≡ b.sizes → IsNormalised a x
    → IsNormalised b y → MeanTheSame a b ↔ (x ≡ y)
equal_images a b x y g same p q = (forth, back)
  where
    forth : MeanTheSame a b → x ≡ y
    forth h =
        p.2 ∙ ap normal_bytes (Accepts-unique a p.0 h.0 p.1 h.1 ∙ Accepts-unique b h.0 q.0 h.2 q.1) ∙ sym q.2

    back : x ≡ y → MeanTheSame a b
    back e =
        let left = p.1.accepted.means in
        let right = q.1.accepted.means in
        let one : p.0 ≡ q.0 = same_meaning p.0 q.0 (subst IsGeometry (sym left.sizes) g)
        (left.sizes ∙ same ∙ sym right.sizes) left.meaning right.meaning (sym p.2 ∙ e ∙ q.2) in
        (p.0, p.1, subst (λ m. Accepts b m) (sym one) q.1)

pub normalising : Normalising
normalising = record {
  equal = equal_images;
  kept = λ a x g h. (h.0, h.1, again_accepted a x g h);
  once = twice_is_once;
}
