-- Headers that are of one group, in order.
use Rattle.ubi_detect.proofs.Prelude.{◌≡◌, ℕ, ◌+◌, ◌*◌, ◌<◌, ◌⊎◌, true, List, inl, inr, refl, ap, sym, ◌∙◌, subst, arith, ◌||◌, ◌==◌, IsTrue, None, Some, and_from, and_parts, eq-eqb, eqb-true, or_cases, or_left, or_right, none-some, same_Some, below_or_last, is_of, key_at, Key, AreJoined, HasHeadOf, IsJoined, NoneJoined, NoneOwns}

-- what it is that a header belongs to a group
pub record Owns (k l : Key) : Type 0 where
  pub vid : k.offsets.vid_offset ≡ l.offsets.vid_offset
  pub content : k.offsets.data_offset ≡ l.offsets.data_offset
  pub seq : (l.image_seq ≡ k.image_seq) ⊎ (l.image_seq ≡ 0)

pub owns : (k l : Key) → IsTrue (is_of k l) → Owns k l
owns k l e =
    let both = and_parts _ _ e in
    let offsets = and_parts _ _ both.0 in
    record {
      vid = eqb-true _ _ offsets.0;
      content = eqb-true _ _ offsets.1;
      seq = elim (or_cases _ _ both.1) [
        | inl same ↦ inl (eqb-true _ _ same)
        | inr none ↦ inr (eqb-true _ _ none)
      ];
    }

seq_test : (a b : ℕ) → (a ≡ b) ⊎ (a ≡ 0) → ((a == b) || (a == 0)) ≡ true
seq_test a b (inl e) = or_left (a == b) (a == 0) (eq-eqb a b e)
seq_test a b (inr e) = or_right (a == b) (a == 0) (eq-eqb a 0 e)

pub is_owned : (k l : Key) → Owns k l → IsTrue (is_of k l)
is_owned k l o =
    and_from _ _ (and_from _ _ (eq-eqb k.offsets.vid_offset l.offsets.vid_offset o.vid) (eq-eqb k.offsets.data_offset l.offsets.data_offset o.content))
    (seq_test l.image_seq k.image_seq o.seq)

seq_through : (j k l : Key) → (k.image_seq ≡ j.image_seq) ⊎ (k.image_seq ≡ 0) → (l.image_seq ≡ k.image_seq) ⊎ (l.image_seq ≡ 0)
    → (l.image_seq ≡ j.image_seq) ⊎ (l.image_seq ≡ 0)
seq_through j k l (inl e) (inl f) = inl (f ∙ e)
seq_through j k l (inr e) (inl f) = inr (f ∙ e)
seq_through j k l e (inr f) = inr f

pub owns_through : (j k l : Key) → IsTrue (is_of j k) → IsTrue (is_of k l) → IsTrue (is_of j l)
owns_through j k l e f =
    let a = owns j k e in
    let b = owns k l f in
    is_owned j l (record { vid = a.vid ∙ b.vid; content = a.content ∙ b.content; seq = seq_through j k l a.seq b.seq })

pub owns_itself : (k : Key) → IsTrue (is_of k k)
owns_itself k = is_owned k k (record { vid = refl; content = refl; seq = inl refl })

zero_times : (q : ℕ) → 0 * q ≡ 0
zero_times q = omega arith

module _ (bytes : List ℕ) (q : ℕ) where
  pub joined_first : (k : Key) → key_at bytes 0 ≡ Some k → AreJoined bytes q 1 k
  joined_first k e = record {
    each = λ i below. let none : i ≡ 0 = omega (arith, below) in
        (k, ap (λ j. key_at bytes (j * q)) none ∙ ap (key_at bytes) (zero_times q) ∙ e, owns_itself k);
    named = (0, k, omega arith, ap (key_at bytes) (zero_times q) ∙ e, owns_itself k, refl);
  }

  module _ (n : ℕ) (k l : Key) (are : AreJoined bytes q n k) (here : key_at bytes (n * q) ≡ Some l) where
    each_more : (j : Key) → IsJoined k l j → (i : ℕ) → i < n + 1 → HasHeadOf bytes j (i * q)
    each_more j is i below = elim (below_or_last i n below) [
      | inl less ↦ (let h = are.each i less in (h.0, h.1, owns_through j k h.0 is.one h.2))
      | inr same ↦ (l, ap (λ x. key_at bytes (x * q)) same ∙ here, is.other)
    ]

    pub joined_more : (j : Key) → IsJoined k l j → AreJoined bytes q (n + 1) j
    joined_more j is = record {
      each = each_more j is;
      named = elim is.is [
        | inl first ↦ (let h = are.named in
            let P : Key → Type 0 = λ x. IsTrue (is_of x h.1) in
            (h.0, h.1, (let b = h.2 in omega (arith, b)), h.3, subst P (sym first) h.4, h.5 ∙ ap (λ x. x.image_seq) (sym first)))
        | inr second ↦ (n, l, omega arith, here, is.other, ap (λ x. x.image_seq) (sym second))
      ];
    }

    -- a group that has all of the first n has that of their key
    owns_key : (m : Key) → ((i : ℕ) → i < n → HasHeadOf bytes m (i * q)) → IsTrue (is_of m k)
    owns_key m all =
        let h = are.named in
        let there = all h.0 h.2 in
        let same : there.0 ≡ h.1 = same_Some there.0 h.1 (sym there.1 ∙ h.3) in
        let P : Key → Type 0 = λ x. IsTrue (is_of m x) in
        let a = owns m h.1 (subst P same there.2) in
        let b = owns k h.1 h.4 in
        is_owned m k (record {
          vid = a.vid ∙ sym b.vid;
          content = a.content ∙ sym b.content;
          seq = (let Q : ℕ → Type 0 = λ x. (x ≡ m.image_seq) ⊎ (x ≡ 0) in subst Q h.5 a.seq);
        })

    -- where no group has a further one, none has all of more
    pub none_joined : (count : ℕ) → n < count → NoneOwns k l → NoneJoined bytes q count
    none_joined count more none = λ m all.
        let there = all n more in
        let same : there.0 ≡ l = same_Some there.0 l (sym there.1 ∙ here) in
        let P : Key → Type 0 = λ x. IsTrue (is_of m x) in
        none m (owns_key m (λ i below. all i (omega (arith, below, more)))) (subst P same there.2)

  pub none_there : (n count : ℕ) → n < count → key_at bytes (n * q) ≡ None → NoneJoined bytes q count
  none_there n count more none = λ m all. let there = all n more in none-some there.0 (sym none ∙ there.1)
