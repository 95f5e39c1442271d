-- What is composed from a text, and what is listed of that.
use Rattle.ubi_commands.proofs.Prelude.{Accepts, Accepts-unique, Answer, ComesTo, Composes, ComposesOf, Gives, Image, List, Lists, MeaningCause, Meant, Ok, Outcome, Sizes, Some, SpecCause, ap, arith, fits, image_of, list_lines, meaning_line, never_accepted_and_refused, one_first, option_map, same_Some, says, spec_line, subst, sym, volumes_of, ℕ, ◌∙◌, ◌≡◌, accepted}
use Rattle.ubi_writing.specs.Compose.{crowded, described, unmade, unread}
use Rattle.ubi_reading.specs.List.{refused}
use Rattle.ubi_reading.specs.declared.format.Format.TheVariants as way

same_sizes : (s z : Sizes) (bytes : List ℕ) → s ≡ z → ◌≡◌ {A = Image} (image_of s bytes) (image_of z bytes)
same_sizes s z bytes e = ap (λ (t : Sizes). record { sizes = t; bytes = bytes }) e

-- the file of a composed image is accepted with the meaning that is described
file_accepted : (m : Meant) (spares : ℕ) (o : Outcome) (bytes : List ℕ) → ComposesOf m spares o
    → option_map (λ v. v.items) o.file ≡ Some bytes
    → Accepts (image_of m.sizes bytes) m
file_accepted m spares o bytes (fits room a gives) e = subst (λ b. Accepts (image_of m.sizes b) m)
    (search (sym gives.file ∙ e)) a
file_accepted m spares o bytes (crowded many gives) e = absurd (let h = sym gives.file ∙ e in cc)

listed : (image : Image) (m : Meant) (p : Outcome) → Accepts image m → Lists way.Text image p → Gives p (says (list_lines m) 0)
listed image m p a (accepted n b gives) = subst (λ k. Gives p (says (list_lines k) 0))
    (Accepts-unique image n m b a) gives
listed image m p a (refused c b gives) = absurd (never_accepted_and_refused image m c a b)

-- what is given is one answer
one_text : (o p : Outcome) (a b : Answer) → Gives o a → Gives o b → Gives p b → Gives p a
one_text o p a b g h k = record {
  text = k.text ∙ sym h.text ∙ g.text;
  status = k.status ∙ sym h.status ∙ g.status;
  file = k.file ∙ sym h.file ∙ g.file;
}

composed_of : (m : Meant) (spares : ℕ) (o p : Outcome) (a : Answer) → ComposesOf m spares o → ComposesOf m spares p
    → Gives o a → Gives p a
composed_of m spares o p a (fits room ok h) (fits more also k) g = one_text o p a _ g h k
composed_of m spares o p a (fits room ok h) (crowded many k) g = absurd (omega (arith, room, many))
composed_of m spares o p a (crowded many h) (fits room ok k) g = absurd (omega (arith, room, many))
composed_of m spares o p a (crowded many h) (crowded more k) g = one_text o p a _ g h k

-- what composing answers is a function of the text, the number of spares and the image sequence number
pub one_composed : (s : Sizes) (text : List ℕ) (spares seq : ℕ) (o p : Outcome) (a : Answer)
    → Composes s text spares seq o → Composes s text spares seq p → Gives o a → Gives p a
one_composed s text spares seq o p a (described m d x) (described n e y) g =
    composed_of m spares o p a x (subst (λ k. ComposesOf k spares p) (e.2 ∙ sym d.2) y) g
one_composed s text spares seq o p a (described m d x) (unread line c e k) g = absurd (let h = sym d.0 ∙ e in cc)
one_composed s text spares seq o p a (described m d x) (unmade c is k) g = absurd (d.1 c is.1.stands)
one_composed s text spares seq o p a (unread line c e h) (described n d y) g = absurd (let k = sym d.0 ∙ e in cc)
one_composed s text spares seq o p a (unread line c e h) (unread other b f k) g =
    let one : (line, c) ≡ (other, b) = same_Some (line, c) (other, b) (sym e ∙ f) in
    one_text o p a _ g h (subst (λ (x : ℕ × SpecCause). Gives p (says (spec_line x.0 x.1) 1)) (sym one) k)
one_composed s text spares seq o p a (unread line c e h) (unmade b is k) g = absurd (let x = sym e ∙ is.0 in cc)
one_composed s text spares seq o p a (unmade c is h) (described n d y) g = absurd (d.1 c is.1.stands)
one_composed s text spares seq o p a (unmade c is h) (unread line b f k) g = absurd (let x = sym is.0 ∙ f in cc)
one_composed s text spares seq o p a (unmade c is h) (unmade b other k) g =
    let one : c ≡ b = one_first s (volumes_of s text) c b is.1 other.1 in
    one_text o p a _ g h (subst (λ (x : MeaningCause). Gives p (says (meaning_line x) 1)) (sym one) k)

pub lists_composed : (s : Sizes) (text bytes : List ℕ) (spares seq : ℕ) (o p : Outcome)
    → Composes s text spares seq o → option_map (λ v. v.items) o.file ≡ Some bytes → Lists way.Text (image_of s bytes) p
    → (m : Meant) × ComesTo s seq text (Ok m) × Gives p (says (list_lines m) 0)
lists_composed s text bytes spares seq o p (described m d of_m) e l =
    let sizes : m.sizes ≡ s = ap (λ k. k.sizes) d.2 in
    let a : Accepts (image_of s bytes) m = subst (λ i. Accepts i m) (same_sizes m.sizes s bytes sizes)
    (file_accepted m spares o bytes of_m e) in
    (m, d, listed (image_of s bytes) m p a l)
lists_composed s text bytes spares seq o p (unread line c is gives) e l = absurd (let h = sym gives.file ∙ e in cc)
lists_composed s text bytes spares seq o p (unmade c is gives) e l = absurd (let h = sym gives.file ∙ e in cc)
