-- A file is plainly the image of at most one group.
use Rattle.ubi_detect.proofs.Prelude.{◌≡◌, ℕ, ◌+◌, ◌*◌, ◌/◌, ◌%◌, ◌<◌, ◌≤◌, ◌⊎◌, List, inl, inr, ap, sym, ◌∙◌, subst, arith, IsFalse, IsTrue, mod-eq_of_lt, mul-le-mul_right, true≢false, none-some, same_Some, below_same_or_above, key_at, step, NonePlain, IsPlain, has_inner_start, is_sure, NoneAlone, NotPlain, Group, Key}
use Rattle.ubi_detect.proofs.JoinedKeys.{Owns, owns}
use Rattle.ubi_detect.proofs.PlainSizes.{second}

-- keys that own each other's headers alike are one
pub same_keys : (k l : Key) → k.offsets.vid_offset ≡ l.offsets.vid_offset → k.offsets.data_offset ≡ l.offsets.data_offset
    → k.image_seq ≡ l.image_seq → k ≡ l
same_keys k l e f h =
    ap (λ n. record { offsets = record { vid_offset = n; data_offset = k.offsets.data_offset }; image_seq = k.image_seq }) e
    ∙ ap (λ n. record { offsets = record { vid_offset = l.offsets.vid_offset; data_offset = n }; image_seq = k.image_seq }) f
    ∙ ap (λ n. record { offsets = l.offsets; image_seq = n }) h

pub same_groups : (f g : Group) → f.key ≡ g.key → f.first ≡ g.first → f.last ≡ g.last → f.count ≡ g.count → f.size ≡ g.size → f ≡ g
same_groups f g a b c d e =
    ap (λ k. record { key = k; first = f.first; last = f.last; count = f.count; size = f.size }) a
    ∙ ap (λ n. record { key = g.key; first = n; last = f.last; count = f.count; size = f.size }) b
    ∙ ap (λ n. record { key = g.key; first = g.first; last = n; count = f.count; size = f.size }) c
    ∙ ap (λ n. record { key = g.key; first = g.first; last = g.last; count = n; size = f.size }) d
    ∙ ap (λ n. record { key = g.key; first = g.first; last = g.last; count = g.count; size = n }) e

-- one eraseblock more
pub next_mul : (k q : ℕ) → (k + 1) * q ≡ k * q + q
next_mul k q = grind arith

module _ (bytes : List ℕ) where
  -- no smaller one has a header where its second eraseblock begins
  not_less : (f g : Group) → IsPlain bytes f → IsPlain bytes g → f.size < g.size → ⊥
  not_less f g one two less =
      let s = second bytes f one in
      let is : f.size / step * step ≡ f.size = (let e = one.units in omega (arith, e)) in
      let from = one.from in
      none-some s.0 (sym (two.alone (f.size / step) (omega (arith, is, less))
      (λ e. let h = sym (ap (λ n. n % g.size) is ∙ mod-eq_of_lt less) ∙ e in omega (arith, h, from))) ∙ s.1)

  same_size : (f g : Group) → IsPlain bytes f → IsPlain bytes g → f.size ≡ g.size
  same_size f g one two = elim (below_same_or_above f.size g.size) [
    | inl less ↦ absurd (not_less f g one two less)
    | inr w ↦ elim w [ inl same ↦ same | inr more ↦ absurd (not_less g f two one more) ]
  ]

  module _ (f g : Group) (one : IsPlain bytes f) (two : IsPlain bytes g) where
    size : f.size ≡ g.size
    size = same_size f g one two

    counts : f.count * g.size ≡ g.count * g.size
    counts = ap (λ s. f.count * s) (sym size) ∙ one.count ∙ sym two.count

    count : f.count ≡ g.count
    count =
        let e = counts in
        let from = two.from in
        elim (below_same_or_above f.count g.count) [
          | inl less ↦ absurd (let m : (f.count + 1) * g.size ≤ g.count * g.size = mul-le-mul_right g.size (omega (arith, less)) in
              let n = next_mul f.count g.size in omega (arith, e, from, m, n))
          | inr w ↦ elim w [
            | inl same ↦ same
            | inr more ↦ absurd (let m : (g.count + 1) * g.size ≤ f.count * g.size = mul-le-mul_right g.size (omega (arith, more)) in
                let n = next_mul g.count g.size in omega (arith, e, from, m, n))
          ]
        ]

    last : f.last ≡ g.last
    last = let a = one.last in let b = two.last in let s = size in omega (arith, a, b, s)

    -- a header that names the number of the one belongs to the other too
    shared : (k : Key) × Owns f.key k × Owns g.key k × (k.image_seq ≡ f.key.image_seq)
    shared =
        let h = one.named in
        let mine = one.each h.0 h.2 in
        let c = count in
        let yours = two.each h.0 (let b = h.2 in omega (arith, b, c)) in
        let at : h.0 * f.size ≡ h.0 * g.size = ap (λ s. h.0 * s) size in
        let first : mine.0 ≡ h.1 = same_Some mine.0 h.1 (sym mine.1 ∙ h.3) in
        let second : yours.0 ≡ h.1 = same_Some yours.0 h.1 (sym yours.1 ∙ sym (ap (key_at bytes) at) ∙ h.3) in
        let P : Key → Type 0 = λ k. Owns f.key k in
        let Q : Key → Type 0 = λ k. Owns g.key k in
        (h.1, subst P first (owns f.key mine.0 mine.2), subst Q second (owns g.key yours.0 yours.2), h.4)

    number : (f.key.image_seq ≡ g.key.image_seq) ⊎ (f.key.image_seq ≡ 0)
    number = let s = shared in let P : ℕ → Type 0 = λ n. (n ≡ g.key.image_seq) ⊎ (n ≡ 0) in subst P s.3 s.2.seq

module _ (bytes : List ℕ) (f g : Group) (one : IsPlain bytes f) (two : IsPlain bytes g) where
  one_number : f.key.image_seq ≡ g.key.image_seq
  one_number = elim (number bytes f g one two) [
    | inl same ↦ same
    | inr none ↦ elim (number bytes g f two one) [
      | inl same ↦ sym same
      | inr nil ↦ none ∙ sym nil
    ]
  ]

  pub one_plain : f ≡ g
  one_plain =
      let s = shared bytes f g one two in
      same_groups f g (same_keys f.key g.key (s.1.vid ∙ sym s.2.vid) (s.1.content ∙ sym s.2.content) one_number)
      (one.first ∙ sym two.first) (last bytes f g one two) (count bytes f g one two) (size bytes f g one two)

-- where the one plain group isn't so, or isn't sure, none is surely plain
module _ (bytes : List ℕ) (f : Group) (plain : IsPlain bytes f) where
  pub none_alone : IsTrue (has_inner_start bytes f) → NoneAlone bytes
  none_alone has g one alone = true≢false (sym has ∙ ap (has_inner_start bytes) (one_plain bytes f g plain one) ∙ alone)

  pub none_sure : IsFalse (is_sure bytes f) → NonePlain bytes
  none_sure fails g one = true≢false (sym one.sure ∙ sym (ap (is_sure bytes) (one_plain bytes f g plain one.plain)) ∙ fails)

pub none_plain : (bytes : List ℕ) → NotPlain bytes → NoneAlone bytes
none_plain bytes none g one alone = none g one

pub none_surely : (bytes : List ℕ) → NoneAlone bytes → NonePlain bytes
none_surely bytes none g one = none g one.plain one.alone
