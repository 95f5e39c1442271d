-- The eraseblocks in another order: each member and each winner moves with its eraseblock, and no fault is added.
use Rattle.ubi_scan.proofs.Prelude.{◌≡◌, ◌≢◌, ℕ, ◌<◌, ◌≤◌, inl, inr, Bool, true, false, cond, eqb, List, [], ◌∷◌, length, set, refl, ap, sym, ◌∙◌, subst, arith, length-set, swap, IsPermutation, nat_tests, get_or_default, length-swap, IsPermutation-keeps, cases_eq, Sizes, IsClean, IsSound, NoFault, block, IsMember, Leb, NoMember, Wins, good_at, good_in, named_in, sqnum_at, sqnum_in, image_seq, seq_of, get_or-set_same, get_or-set_other}
use Rattle.ubi_scan.proofs.Clean.{clean_from_none, none_from_clean}
use Rattle.ubi_scan.proofs.Seq.{seq_agrees, seq_is}

-- each eraseblock of cs stands at a place of bs, and the other way round
pub record IsMoved (bs cs : List (List ℕ)) (to : ℕ → ℕ) : Type 0 where
  pub len : length cs ≡ length bs
  pub stays : (p : ℕ) → p < length bs → to p < length bs
  pub back : (p : ℕ) → to (to p) ≡ p
  pub same : (p : ℕ) → p < length bs → block cs p ≡ block bs (to p)

module _ (z : Sizes) (bs cs : List (List ℕ)) (to : ℕ → ℕ) (h : IsMoved bs cs to) where
  pub inside_of : (p : ℕ) → p < length cs → p < length bs
  inside_of p i = let e = h.len in omega arith

  pub same_back : (p : ℕ) → p < length bs → block cs (to p) ≡ block bs p
  same_back p i = h.same (to p) (h.stays p i) ∙ ap (block bs) (h.back p)

  pub member_of : (of : Leb) (p : ℕ) → IsMember z cs of p → IsMember z bs of (to p)
  member_of of p m =
      let i = inside_of p m.inside in
      record { inside = h.stays p i; named = ap (named_in z) (sym (h.same p i)) ∙ m.named }

  pub member_to : (of : Leb) (p : ℕ) → IsMember z bs of p → IsMember z cs of (to p)
  member_to of p m =
      record {
        inside = (let k = h.stays p m.inside in let e = h.len in omega arith);
        named = ap (named_in z) (same_back p m.inside) ∙ m.named;
      }

  -- what holds of the number and the goodness of each member
  over : (P : ℕ → Bool → Type 0) (of : Leb) → ((q : ℕ) → IsMember z bs of q → P (sqnum_at z bs q) (good_at z bs q))
      → (q : ℕ) → IsMember z cs of q → P (sqnum_at z cs q) (good_at z cs q)
  over P of all q m =
      subst (λ b. P (sqnum_in z b) (good_in z b)) (sym (h.same q (inside_of q m.inside)))
      (all (to q) (member_of of q m))

  pub wins_to : (of : Leb) (p : ℕ) → Wins z bs of p → Wins z cs of (to p)
  wins_to of p w =
      let e = same_back p w.member.inside in
      let s : sqnum_at z cs (to p) ≡ sqnum_at z bs p = ap (sqnum_in z) e in
      let g : good_at z cs (to p) ≡ good_at z bs p = ap (good_in z) e in
      record {
        member = member_to of p w.member;
        best = elim w.best [
          | inl n ↦ inl (
            g ∙ n.0,
            over (λ t f. f ≡ true → t ≤ sqnum_at z cs (to p)) of
                (λ q m y. (let k = n.1 q m y in omega arith)),
          )
          | inr n ↦ inr (over (λ t f. (f ≡ false) × (sqnum_at z cs (to p) ≤ t)) of
              (λ q m. ((n q m).0, (let k = (n q m).1 in omega arith))))
        ];
      }

  pub no_member_to : (of : Leb) → NoMember z bs of → NoMember z cs of
  no_member_to of none p m = none (to p) (member_of of p m)

  -- the places of the first are those of the second, by the same way
  pub moved_back : IsMoved cs bs to
  moved_back = record {
    len = sym h.len;
    stays = λ p i. (let k = h.stays p (inside_of p i) in let e = h.len in omega arith);
    back = h.back;
    same = λ p i. sym (same_back p (inside_of p i));
  }

  -- no eraseblock has a fault
  pub clean_to : NoFault z bs → NoFault z cs
  clean_to none =
      let c : IsClean z bs = clean_from_none z bs none in
      let same : (p : ℕ) → p < length cs → block cs p ≡ block bs (to p) = λ p i. h.same p (inside_of p i) in
      let stays : (p : ℕ) → p < length cs → to p < length bs = λ p i. h.stays p (inside_of p i) in
      none_from_clean z cs (record {
        sound = λ p i. subst (IsSound z) (sym (same p i)) (c.sound (to p) (stays p i));
        one_image = λ p q i j a b.
            (let e = ap (seq_of z) (same p i) in
            let f = ap (seq_of z) (same q j) in
            e ∙ c.one_image (to p) (to q) (stays p i) (stays q j) (λ k. a (e ∙ k)) (λ k. b (f ∙ k)) ∙ sym f);
        apart = λ of p q a b e.
            (let n = c.apart of (to p) (to q) (member_of of p a) (member_of of q b)
            (ap (sqnum_in z) (sym (same p a.inside)) ∙ e ∙ ap (sqnum_in z) (same q b.inside)) in
            sym (h.back p) ∙ ap to n ∙ h.back q);
      })

  -- their image sequence number is the same
  pub seq_to : NoFault z bs → image_seq z cs ≡ image_seq z bs
  seq_to none =
      let a = seq_agrees z bs (clean_from_none z bs none) in
      seq_is z (image_seq z bs) cs (record {
        all = λ q l k.
            (let i = inside_of q l in
            let e = ap (seq_of z) (h.same q i) in
            e ∙ a.all (to q) (h.stays q i) (λ n. k (e ∙ n)));
        some = elim a.some [
          | inl zero ↦ inl zero
          | inr q ↦ inr (
            to q.0,
            (let k = h.stays q.0 q.1 in let e = h.len in omega arith),
            ap (seq_of z) (same_back q.0 q.1) ∙ q.2,
          )
        ];
      })

-- two places change their eraseblocks
pub trade : ℕ → ℕ → ℕ → ℕ
trade i j p = cond (eqb p i) j (cond (eqb p j) i p)

swap_is : (l : List (List ℕ)) (i j : ℕ) → i < length l → j < length l
    → swap l i j ≡ set (set l i (block l j)) j (block l i)
swap_is [] i j a b = absurd (omega arith)
swap_is (x ∷ xs) i j a b =
    let e = get_or_default (x ∷ xs) j x [] b in
    let f = get_or_default (x ∷ xs) i x [] a in
    rw (e, f) refl

trade_first : (i j p : ℕ) → p ≡ i → trade i j p ≡ j
unfolding trade
trade_first i j p e = grind (arith, nat_tests)

trade_second : (i j p : ℕ) → p ≢ i → p ≡ j → trade i j p ≡ i
unfolding trade
trade_second i j p e f = grind (arith, nat_tests)

trade_other : (i j p : ℕ) → p ≢ i → p ≢ j → trade i j p ≡ p
unfolding trade
trade_other i j p e f = grind (arith, nat_tests)

trade_back : (i j p : ℕ) → trade i j (trade i j p) ≡ p
unfolding trade
trade_back i j p = grind (arith, nat_tests)

trade_stays : (i j p n : ℕ) → i < n → j < n → p < n → trade i j p < n
unfolding trade
trade_stays i j p n a b c = grind (arith, nat_tests)

swapped_block : (bs : List (List ℕ)) (i j p : ℕ) → i < length bs → j < length bs
    → block (set (set bs i (block bs j)) j (block bs i)) p ≡ block bs (trade i j p)
swapped_block bs i j p a b =
    let first = set bs i (block bs j) in
    let k : j < length first = let e = length-set bs i (block bs j) in omega arith in
    elim (cases_eq p j) [
      | inl e ↦ elim (cases_eq p i) [
        | inl f ↦ ap (block (set first j (block bs i))) e ∙ get_or-set_same first j (block bs i) [] k
            ∙ ap (block bs) (sym f ∙ e ∙ sym (trade_first i j p f))
        | inr f ↦ ap (block (set first j (block bs i))) e ∙ get_or-set_same first j (block bs i) [] k
            ∙ ap (block bs) (sym (trade_second i j p f e))
      ]
      | inr e ↦ get_or-set_other first j p (block bs i) [] e ∙ elim (cases_eq p i) [
        | inl f ↦ ap (block first) f ∙ get_or-set_same bs i (block bs j) [] a
            ∙ ap (block bs) (sym (trade_first i j p f))
        | inr f ↦ get_or-set_other bs i p (block bs j) [] f ∙ ap (block bs) (sym (trade_other i j p f e))
      ]
    ]

pub swapped : (bs : List (List ℕ)) (i j : ℕ) → i < length bs → j < length bs → IsMoved bs (swap bs i j) (trade i j)
swapped bs i j a b = record {
  len = length-swap bs i j;
  stays = λ p l. trade_stays i j p (length bs) a b l;
  back = trade_back i j;
  same = λ p l. ap (λ x. block x p) (swap_is bs i j a b) ∙ swapped_block bs i j p a b;
}

pub no_fault_in_any_order : (z : Sizes) (bs cs : List (List ℕ)) → IsPermutation bs cs → NoFault z bs → NoFault z cs
no_fault_in_any_order z bs cs moved none =
    IsPermutation-keeps bs (NoFault z) none (λ l i j a b k. clean_to z l (swap l i j) (trade i j) (swapped l i j a b) k)
    cs moved
