-- Between two erases of an eraseblock a plan programs its pages in ascending order, none twice except page 0, and that
-- at most twice.
use Rattle.ubi_change.proofs.Prelude.{◌≡◌, ◌≢◌, ℕ, zero, suc, ◌+◌, ◌/◌, ◌<◌, ◌≤◌, ◌⊎◌, inl, inr, Bool, true, false, cond, List, [], ◌∷◌, ◌++◌, append_assoc, length, map, refl, ap, sym, ◌∙◌, subst, arith, None, Option, Some, enumerate_from, option_map_or, first_chunks, same_Some, cases_eq, IsGeometry, Sizes, EcHeader, VolumeRecord, VidHeader, AttachValue, NoErase, Programs, blank_header, copy_header, leb_header, next_ec, vid_page, atomic_copy, mapped_plan, mount, needs, plan_of, prepare, program_header, program_text, ready_bytes, ready_ec, release, renew, taken, unmapped_plan, ec_at, is_clean, stays, takeable, pages_of, Step}
use Rattle.std.specs.FinMap as finite
use Rattle.ubi_change.specs.declared.step.Step.TheVariants as step
use Rattle.ubi_change.proofs.Choosing.{two_apart}
use Rattle.ubi_change.proofs.PagePlaces.{vid_before}
use Rattle.ubi_change.proofs.Runs.{if_renewed}

-- The steps are in order for p, where n says what was programmed since its last erase: 0 nothing, 1 page 0 once, and
-- above that no page before n - 1 may come.
abbrev pub InOrder : ℕ → ℕ → List Step → Type 0
InOrder p n [] = Unit {0}
InOrder p n (step.Erase q ∷ xs) = (q ≡ p → InOrder p 0 xs) × (q ≢ p → InOrder p n xs)
InOrder p n (step.Program q b ys ∷ xs) =
    (q ≡ p → ((1 ≤ b) × (n ≤ b + 1) × InOrder p (b + 2) xs) ⊎ ((b ≡ 0) × (n ≤ 1) × InOrder p (n + 1) xs))
    × (q ≢ p → InOrder p n xs)

-- what is in order behind more is so behind less
less_order : (p m n : ℕ) (xs : List Step) → n ≤ m → InOrder p m xs → InOrder p n xs
less_order p m n [] l o = tt
less_order p m n (step.Erase q ∷ xs) l o = (o.0, λ apart. less_order p m n xs l (o.1 apart))
less_order p m n (step.Program q b ys ∷ xs) l o = (
  λ same. by_page (o.0 same) (less_order p (m + 1) (n + 1) xs (omega arith)),
  λ apart. less_order p m n xs l (o.1 apart),
)
  where
    by_page : ((1 ≤ b) × (m ≤ b + 1) × InOrder p (b + 2) xs) ⊎ ((b ≡ 0) × (m ≤ 1) × InOrder p (m + 1) xs)
        → (InOrder p (m + 1) xs → InOrder p (n + 1) xs)
        → ((1 ≤ b) × (n ≤ b + 1) × InOrder p (b + 2) xs) ⊎ ((b ≡ 0) × (n ≤ 1) × InOrder p (n + 1) xs)
    by_page (inl h) less = inl (h.0, (let k = h.1 in omega arith), h.2)
    by_page (inr h) less = inr (h.0, (let k = h.1 in omega arith), less h.2)

same_place : (p q a b : ℕ) (xs ys : List ℕ) → step.Program q b ys ≡ step.Program p a xs → (q ≡ p) × (b ≡ a)
same_place p q a b xs ys e = (cc, cc)

no_program : (p q a : ℕ) (xs : List ℕ) → step.Erase q ≡ step.Program p a xs → ⊥
no_program p q a xs e = cc

NoEraseBehind : (x : Step) (xs : List Step) (p j : ℕ) → NoErase (x ∷ xs) p 0 (suc j) → NoErase xs p 0 j
NoEraseBehind x xs p j none k l m e = none (suc k) (omega arith) (omega arith) e

-- no page comes that is behind what was programmed
page_from : (p n j b : ℕ) (ys : List ℕ) (steps : List Step) → InOrder p n steps → Programs steps j p b ys
    → NoErase steps p 0 j → n ≤ b + 1
page_from p n j b ys [] o at none = absurd (cc)
page_from p n zero b ys (step.Erase q ∷ xs) o at none = absurd (no_program p q b ys (same_Some _ _ at))
page_from p n (suc j) b ys (step.Erase q ∷ xs) o at none =
    page_from p n j b ys xs (o.1 (λ same. none 0 (omega arith) (omega arith) (ap (λ r. Some (step.Erase r)) same))) at
    (NoEraseBehind (step.Erase q) xs p j none)
page_from p n zero b ys (step.Program q c zs ∷ xs) o at none =
    let same = same_place p q b c ys zs (same_Some _ _ at) in
    elim (o.0 same.0) [
      | inl h ↦ (let k = h.1 in let e = same.1 in omega arith)
      | inr h ↦ (let k = h.1 in omega arith)
    ]
page_from p n (suc j) b ys (step.Program q c zs ∷ xs) o at none =
    let rest : NoErase xs p 0 j = NoEraseBehind (step.Program q c zs) xs p j none in
    let from : (m : ℕ) → InOrder p m xs → m ≤ b + 1 = λ m k. page_from p m j b ys xs k at rest in
    elim (cases_eq q p) [
      | inl same ↦ elim (o.0 same) [
        | inl h ↦ (let k = from (c + 2) h.2 in let l = h.1 in omega arith)
        | inr h ↦ (let k = from (n + 1) h.2 in omega arith)
      ]
      | inr apart ↦ from n (o.1 apart)
    ]

rises_from : (p n i j a b : ℕ) (xs ys : List ℕ) (steps : List Step) → InOrder p n steps → i < j
    → Programs steps i p a xs → Programs steps j p b ys → NoErase steps p i j
    → (a < b) ⊎ ((a ≡ 0) × (b ≡ 0))
rises_from p n i j a b xs ys [] o l at then none = absurd (cc)
rises_from p n i zero a b xs ys (x ∷ rest) o l at then none = absurd (omega arith)
rises_from p n (suc i) (suc j) a b xs ys (step.Erase q ∷ rest) o l at then none =
    let behind : NoErase rest p i j = λ k h m e. none (suc k) (omega arith) (omega arith) e in
    elim (cases_eq q p) [
      | inl same ↦ rises_from p 0 i j a b xs ys rest (o.0 same) (omega arith) at then behind
      | inr apart ↦ rises_from p n i j a b xs ys rest (o.1 apart) (omega arith) at then behind
    ]
rises_from p n (suc i) (suc j) a b xs ys (step.Program q c zs ∷ rest) o l at then none =
    let behind : NoErase rest p i j = λ k h m e. none (suc k) (omega arith) (omega arith) e in
    elim (cases_eq q p) [
      | inl same ↦ elim (o.0 same) [
        | inl h ↦ rises_from p (c + 2) i j a b xs ys rest h.2 (omega arith) at then behind
        | inr h ↦ rises_from p (n + 1) i j a b xs ys rest h.2 (omega arith) at then behind
      ]
      | inr apart ↦ rises_from p n i j a b xs ys rest (o.1 apart) (omega arith) at then behind
    ]
rises_from p n zero (suc j) a b xs ys (step.Erase q ∷ rest) o l at then none =
    absurd (no_program p q a xs (same_Some _ _ at))
rises_from p n zero (suc j) a b xs ys (step.Program q c zs ∷ rest) o l at then none =
    let same = same_place p q a c xs zs (same_Some _ _ at) in
    let behind : NoErase rest p 0 j = NoEraseBehind (step.Program q c zs) rest p j none in
    elim (o.0 same.0) [
      | inl h ↦ (let k = page_from p (c + 2) j b ys rest h.2 then behind in let e = same.1 in inl (omega arith))
      | inr h ↦ (let k = page_from p (n + 1) j b ys rest h.2 then behind in let e = same.1 in let z = h.0 in
          first_or_later a b (omega arith))
    ]
  where
    first_or_later : (a b : ℕ) → a ≡ 0 → (a < b) ⊎ ((a ≡ 0) × (b ≡ 0))
    first_or_later a zero e = inr (e, refl)
    first_or_later a (suc b) e = inl (omega arith)

-- once page 0 was programmed, it isn't twice more
twice_more : (p n j k : ℕ) (ys zs : List ℕ) (steps : List Step) → InOrder p n steps → 1 ≤ n → j < k
    → Programs steps j p 0 ys → Programs steps k p 0 zs → NoErase steps p 0 k → ⊥
twice_more p n j k ys zs [] o one l at then none = absurd (cc)
twice_more p n j zero ys zs (x ∷ rest) o one l at then none = absurd (omega arith)
twice_more p n zero (suc k) ys zs (step.Erase q ∷ rest) o one l at then none =
    absurd (no_program p q 0 ys (same_Some _ _ at))
twice_more p n zero (suc k) ys zs (step.Program q c bytes ∷ rest) o one l at then none =
    let same = same_place p q 0 c ys bytes (same_Some _ _ at) in
    let behind : NoErase rest p 0 k = NoEraseBehind (step.Program q c bytes) rest p k none in
    elim (o.0 same.0) [
      | inl h ↦ (let e = same.1 in let m = h.0 in absurd (omega arith))
      | inr h ↦ (let m = page_from p (n + 1) k 0 zs rest h.2 then behind in absurd (omega arith))
    ]
twice_more p n (suc j) (suc k) ys zs (step.Erase q ∷ rest) o one l at then none =
    twice_more p n j k ys zs rest
    (o.1 (λ same. none 0 (omega arith) (omega arith) (ap (λ r. Some (step.Erase r)) same))) one
    (omega arith) at then (NoEraseBehind (step.Erase q) rest p k none)
twice_more p n (suc j) (suc k) ys zs (step.Program q c bytes ∷ rest) o one l at then none =
    let behind : NoErase rest p 0 k = NoEraseBehind (step.Program q c bytes) rest p k none in
    elim (cases_eq q p) [
      | inl same ↦ elim (o.0 same) [
        | inl h ↦ twice_more p (c + 2) j k ys zs rest h.2 (omega arith) (omega arith) at then behind
        | inr h ↦ twice_more p (n + 1) j k ys zs rest h.2 (omega arith) (omega arith) at then behind
      ]
      | inr apart ↦ twice_more p n j k ys zs rest (o.1 apart) one (omega arith) at then behind
    ]

twice_from : (p n i j k : ℕ) (xs ys zs : List ℕ) (steps : List Step) → InOrder p n steps → i < j → j < k
    → Programs steps i p 0 xs → Programs steps j p 0 ys → Programs steps k p 0 zs
    → NoErase steps p i k → ⊥
twice_from p n i j k xs ys zs [] o l m at then last none = absurd (cc)
twice_from p n i zero k xs ys zs (x ∷ rest) o l m at then last none = absurd (omega arith)
twice_from p n i j zero xs ys zs (x ∷ rest) o l m at then last none = absurd (omega arith)
twice_from p n zero (suc j) (suc k) xs ys zs (step.Erase q ∷ rest) o l m at then last none =
    absurd (no_program p q 0 xs (same_Some _ _ at))
twice_from p n zero (suc j) (suc k) xs ys zs (step.Program q c bytes ∷ rest) o l m at then last none =
    let same = same_place p q 0 c xs bytes (same_Some _ _ at) in
    let behind : NoErase rest p 0 k = NoEraseBehind (step.Program q c bytes) rest p k none in
    elim (o.0 same.0) [
      | inl h ↦ (let e = same.1 in let d = h.0 in absurd (omega arith))
      | inr h ↦ twice_more p (n + 1) j k ys zs rest h.2 (omega arith) (omega arith) then last behind
    ]
twice_from p n (suc i) (suc j) (suc k) xs ys zs (step.Erase q ∷ rest) o l m at then last none =
    let behind : NoErase rest p i k = λ d h f e. none (suc d) (omega arith) (omega arith) e in
    elim (cases_eq q p) [
      | inl same ↦ twice_from p 0 i j k xs ys zs rest (o.0 same) (omega arith) (omega arith) at then last behind
      | inr apart ↦ twice_from p n i j k xs ys zs rest (o.1 apart) (omega arith) (omega arith) at then last behind
    ]
twice_from p n (suc i) (suc j) (suc k) xs ys zs (step.Program q c bytes ∷ rest) o l m at then last none =
    let behind : NoErase rest p i k = λ d h f e. none (suc d) (omega arith) (omega arith) e in
    elim (cases_eq q p) [
      | inl same ↦ elim (o.0 same) [
        | inl h ↦ twice_from p (c + 2) i j k xs ys zs rest h.2 (omega arith) (omega arith) at then last behind
        | inr h ↦ twice_from p (n + 1) i j k xs ys zs rest h.2 (omega arith) (omega arith) at then last behind
      ]
      | inr apart ↦ twice_from p n i j k xs ys zs rest (o.1 apart) (omega arith) (omega arith) at then last behind
    ]

-- steps that are in order for each eraseblock
pub pages_rise : (steps : List Step) → ((p : ℕ) → InOrder p 0 steps) → (i j p a b : ℕ) (xs ys : List ℕ) → i < j
    → Programs steps i p a xs → Programs steps j p b ys → NoErase steps p i j
    → (a < b) ⊎ ((a ≡ 0) × (b ≡ 0))
pages_rise steps o i j p a b xs ys = rises_from p 0 i j a b xs ys steps (o p)

pub page_0_twice : (steps : List Step) → ((p : ℕ) → InOrder p 0 steps) → (i j k p : ℕ) (xs ys zs : List ℕ) → i < j
    → j < k → Programs steps i p 0 xs → Programs steps j p 0 ys
    → Programs steps k p 0 zs → NoErase steps p i k → ⊥
page_0_twice steps o i j k p xs ys zs = twice_from p 0 i j k xs ys zs steps (o p)

-- the parts of a plan, with what comes behind them
renew_order : (s : Sizes) (p q n : ℕ) (e : EcHeader) (rest : List Step) → (q ≡ p → InOrder p 1 rest)
    → (q ≢ p → InOrder p n rest) → InOrder p n (renew s q e ++ rest)
renew_order s p q n e rest here there = (
  λ same. ((λ again. inr (refl, omega arith, here again)), λ apart. absurd (apart same)),
  λ apart. ((λ same. absurd (apart same)), λ again. there apart),
)

program_order : (p q n page : ℕ) (ys : List ℕ) (rest : List Step) → (q ≡ p → n ≤ 1)
    → (q ≡ p → InOrder p (page + 2) rest) → (q ≢ p → InOrder p n rest) → InOrder p n (step.Program q page ys ∷ rest)
program_order p q n zero ys rest few here there = (
  λ same. inr (refl, few same, less_order p (0 + 2) (n + 1) rest (let k = few same in omega arith) (here same)),
  there,
)
program_order p q n (suc page) ys rest few here there =
    (λ same. inl (omega arith, (let k = few same in omega arith), here same), there)

pages_order : (p q n i : ℕ) (es : List (List ℕ)) (rest : List Step) → (q ≡ p → n ≤ i + 1) → 1 ≤ i
    → ((m : ℕ) → InOrder p m rest)
    → InOrder p n (map (λ e. step.Program q e.0 e.1) (enumerate_from i es) ++ rest)
pages_order p q n i [] rest low some any = any n
pages_order p q n i (e ∷ es) rest low some any = (
  λ same. inl (some, low same, pages_order p q (i + 2) (i + 1) es rest (λ _. omega arith) (omega arith) any),
  λ apart. pages_order p q n (i + 1) es rest (λ same. absurd (apart same)) (omega arith) any,
)

module _ (s : Sizes) (g : IsGeometry s) (bs : List (List ℕ)) (a : AttachValue) where
  release_order : (p old n : ℕ) (now : Option EcHeader) → InOrder p n (release s bs a old now)
  release_order p old n now = if_renewed (InOrder p n) (stays s bs old now) tt (renew_order s p old n (next_ec a.scan now) [] (λ _. tt) (λ _. tt))

  prepare_order : (p b n : ℕ) (rest : List Step) → (b ≡ p → n ≤ 1) → ((m : ℕ) → b ≡ p → m ≤ 1 → InOrder p m rest)
      → (b ≢ p → InOrder p n rest) → InOrder p n (prepare s bs a b ++ rest)
  prepare_order p b n rest few here there = by_test (is_clean s bs a.states b)
    where
      by_test : (t : Bool) → InOrder p n (cond t [] (renew s b (next_ec a.scan (ec_at s bs b))) ++ rest)
      by_test true = elim (cases_eq b p) [ inl same ↦ here n same (few same) | inr apart ↦ there apart ]
      by_test false = renew_order s p b n (next_ec a.scan (ec_at s bs b)) rest (λ same. here 1 same (omega arith)) there

  mount_order : (p b n : ℕ) (h : VidHeader) (rest : List Step) → (b ≡ p → n ≤ 1)
      → (b ≡ p → InOrder p (s.vid_offset / s.page + 2) rest) → (b ≢ p → InOrder p n rest)
      → InOrder p n (mount s bs a b h ++ rest)
  mount_order p b n h rest few here there =
      let page = vid_page s (ready_bytes s bs a b) h in
      let v = s.vid_offset / s.page in
      subst (InOrder p n)
      (sym (append_assoc (prepare s bs a b) (program_header s b (ready_bytes s bs a b) h ∷ []) rest))
      (prepare_order p b n (program_header s b (ready_bytes s bs a b) h ∷ rest) few
      (λ m same l. program_order p b m v page rest (λ _. l) here (λ apart. absurd (apart same)))
      (λ apart. program_order p b n v page rest (λ same. absurd (apart same)) here there))

  -- an eraseblock is written, before steps that are in order after anything
  pub written_order : (p b n : ℕ) (h : VidHeader) (new : List ℕ) (rest : List Step) → (b ≡ p → n ≤ 1)
      → ((m : ℕ) → InOrder p m rest) → InOrder p n (mount s bs a b h ++ program_text s b new ++ rest)
  written_order p b n h new rest few any =
      let before = vid_before s g in
      let d = s.data_offset / s.page in
      let pages : List (List ℕ) = first_chunks s.page (pages_of s new) new in
      subst (InOrder p n) (sym (append_assoc (mount s bs a b h) (program_text s b new) rest))
      (mount_order p b n h (program_text s b new ++ rest) few
      (λ same. pages_order p b (s.vid_offset / s.page + 2) d pages rest (λ _. omega arith) (omega arith) any)
      (λ apart. pages_order p b n d pages rest (λ same. absurd (apart same)) (omega arith) any))

  pub copy_order : (p b n : ℕ) (h : VidHeader) (new : List ℕ) (old : ℕ) (now : Option EcHeader) → (b ≡ p → n ≤ 1)
      → InOrder p n (atomic_copy s bs a b h new old now)
  copy_order p b n h new old now few =
      written_order p b n h new (release s bs a old now) few (λ m. release_order p old m now)

module _ (s : Sizes) (g : IsGeometry s) (bs : List (List ℕ)) (a : AttachValue) (r : VolumeRecord) (id lnum : ℕ) (new : List ℕ)
    (enough : needs s bs a id lnum ≤ length (takeable s bs a.states)) where
  pub plan_order : (p : ℕ) → InOrder p 0 (plan_of s bs a r id lnum new)
  plan_order p = by_winner (finite.get a.scan.winners (id, lnum)) refl
    where
      by_winner : (o : Option ℕ) → finite.get a.scan.winners (id, lnum) ≡ o
          → InOrder p 0 (option_map_or (mapped_plan s bs a r id lnum new (taken s bs a 0)) o
          (unmapped_plan s bs a r id lnum new (taken s bs a 0) (taken s bs a 1)))
      by_winner (Some old) e =
          copy_order s g bs a p (taken s bs a 0) 0 (copy_header (leb_header s r id lnum) (a.scan.top_sqnum + 1) new) new
          old (ec_at s bs old) (λ _. omega arith)
      by_winner None e =
          let n : needs s bs a id lnum ≡ 2 = ap (λ (o : Option ℕ). option_map_or (λ _. 1) o 2) e in
          let apart = two_apart s bs a.states (omega arith) in
          let first = taken s bs a 0 in
          let next = taken s bs a 1 in
          let copy = copy_header (leb_header s r id lnum) (a.scan.top_sqnum + 2) new in
          mount_order s g bs a p first 0 (blank_header (leb_header s r id lnum) (a.scan.top_sqnum + 1))
          (atomic_copy s bs a next copy new first (ready_ec s bs a first)) (λ _. omega arith)
          (λ same. copy_order s g bs a p next (s.vid_offset / s.page + 2) copy new first (ready_ec s bs a first)
          (λ again. absurd (apart (same ∙ sym again))))
          (λ _. copy_order s g bs a p next 0 copy new first (ready_ec s bs a first) (λ _. omega arith))
