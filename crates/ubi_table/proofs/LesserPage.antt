-- A copy of the table that is good with some page is good with a page of which that one is a multiple, with the same
-- records, and a corrupt one is corrupt: all that a greater page can do to a copy is to put it at fault. A copy at
-- fault decides, and then there is no table; so if there is one, the same copy decides with both pages.
use Rattle.ubi_table.proofs.Prelude.{◌≡◌, ℕ, ◌+◌, ◌⊎◌, inl, inr, Bool, false, true≢false, cond, List, [], ◌∷◌, map, refl, ap, sym, ◌∙◌, subst, ◌∣◌, from_entries, enumerate_from, Option, Some, None, find, ec_reading, Sizes, with_page, rec_reading, RecFault, RecRead, found_passes, reading_kept, block, leb, slots_in, Wins, layout, no_member_of_page, wins_of_page, HasSpace, Records, entries_of, is_faulty, readings, records_in, twice, CopyIs, Decides, IsTable, IsTableFault, can_decide, copy_by, copy_of, named_copy, CopyRead}
use Rattle.ubi_media.specs.Ec.{breaks as ec_breaks, first_fault as first_ec_fault, judged as judged_ec}
use Rattle.ubi_media.specs.declared.record.RecFault.TheVariants as fault
use Rattle.ubi_media.specs.declared.record.RecRead.TheVariants as read
use Rattle.ubi_media.specs.declared.refusal.Refusal.TheVariants as refusal
use Rattle.ubi_table.specs.declared.copy.CopyRead.TheVariants as copy
use Rattle.ubi_table.proofs.Names.{Entry}

-- a table under other sizes
abbrev pub resized : Records → Sizes → Records
resized t s = record { sizes = s; of = t.of }

-- a copy under other sizes
abbrev copy_resized : CopyRead → Sizes → CopyRead
copy_resized (copy.Good t) s = copy.Good (resized t s)
copy_resized other s = other

abbrev Slot : Type 0
Slot = ℕ × RecRead

abbrev faulty : Slot → Bool
faulty e = is_faulty e.1

-- what stands in pieces of bytes, from a number on
abbrev slots_from : Sizes → ℕ → List (List ℕ) → List Slot
slots_from s n xs = enumerate_from n (map (rec_reading s) xs)

-- the first faulty record is the same, and where there is none, all are
abbrev AreSame : List Slot → List Slot → Type 0
AreSame xs ys = (find faulty xs ≡ find faulty ys) × (find faulty ys ≡ None → xs ≡ ys)

-- the alignment of the first faulty record isn't a multiple of the page
abbrev IsMisaligned : List Slot → Type 0
IsMisaligned ys = (i : ℕ) × (find faulty ys ≡ Some (i, read.Fault fault.AlignmentPage))

one_more : (n : ℕ) (r : RecRead) (xs ys : List Slot) → AreSame xs ys ⊎ IsMisaligned ys
    → AreSame ((n, r) ∷ xs) ((n, r) ∷ ys) ⊎ IsMisaligned ((n, r) ∷ ys)
one_more n read.BadCrc xs ys h = inl (refl, λ none. absurd cc)
one_more n (read.Fault c) xs ys h = inl (refl, λ none. absurd cc)
one_more n read.Empty xs ys (inl h) = inl (h.0, λ none. ap (λ zs. (n, read.Empty) ∷ zs) (h.1 none))
one_more n read.Empty xs ys (inr h) = inr h
one_more n (read.Valid r) xs ys (inl h) = inl (h.0, λ none. ap (λ zs. (n, read.Valid r) ∷ zs) (h.1 none))
one_more n (read.Valid r) xs ys (inr h) = inr h

-- what records are as a copy, none of which is faulty
abbrev named : Sizes → List Entry → Option (ℕ × ℕ) → CopyRead
named s es (Some (i, j)) = copy.Twice i j
named s es None = copy.Good (record { sizes = s; of = from_entries es })

named_is : (s : Sizes) (bytes : List ℕ) (es : List Entry) → records_in s bytes ≡ es → (o : Option (ℕ × ℕ))
    → named_copy s bytes o ≡ named s es o
named_is s bytes es same (Some (i, j)) = refl
named_is s bytes es same None = ap (λ es. copy.Good (record { sizes = s; of = from_entries es })) same

named_resized : (s z : Sizes) (es : List Entry) (o : Option (ℕ × ℕ)) → named z es o ≡ copy_resized (named s es o) z
named_resized s z es (Some (i, j)) = refl
named_resized s z es None = refl

-- two copies are the same but for their sizes
abbrev AreLike : Sizes → CopyRead → Sizes → CopyRead → Type 0
AreLike z new s old = (new ≡ copy_resized old z) × (old ≡ copy_resized new s)

like_by : (z s : Sizes) (x y new old : CopyRead) → x ≡ new → y ≡ old → AreLike z new s old → AreLike z x s y
like_by z s x y new old e k like = (
  e ∙ like.0 ∙ sym (ap (λ c. copy_resized c z) k),
  k ∙ like.1 ∙ sym (ap (λ c. copy_resized c s) e),
)

module _ (s : Sizes) (page : ℕ) (divides : page ∣ s.page) where
  abbrev lesser : Sizes
  lesser = with_page s page

  slots_kept : (n : ℕ) (xs : List (List ℕ))
      → AreSame (slots_from lesser n xs) (slots_from s n xs) ⊎ IsMisaligned (slots_from s n xs)
  slots_kept n [] = inl (refl, λ none. refl)
  slots_kept n (x ∷ xs) =
      elim (reading_kept s page divides x) [
        | inl same ↦
            subst (λ r. AreSame ((n, r) ∷ slots_from lesser (n + 1) xs) (slots_from s n (x ∷ xs))
            ⊎ IsMisaligned (slots_from s n (x ∷ xs)))
            (sym same) (one_more n (rec_reading s x) _ _ (slots_kept (n + 1) xs))
        | inr bad ↦
            inr (n, ap (λ r. cond (is_faulty r) (Some (n, r)) (find faulty (slots_from s (n + 1) xs))) bad)
      ]

  -- bytes are the same copy but for the sizes, or with the greater page it has a record whose alignment is at fault
  pub copy_kept : (bytes : List ℕ)
      → AreLike lesser (copy_of lesser bytes) s (copy_of s bytes)
      ⊎ ((slot : ℕ) × (copy_of s bytes ≡ copy.Faulty slot fault.AlignmentPage))
  unfolding copy_of
  copy_kept bytes =
      elim (slots_kept 0 (slots_in s bytes)) [
        | inl same ↦ inl (by (find faulty (readings s bytes)) refl same)
        | inr bad ↦ inr (bad.0, ap (copy_by s bytes) bad.1)
      ]
    where
      by : (o : Option Slot) → find faulty (readings s bytes) ≡ o → AreSame (readings lesser bytes) (readings s bytes)
          → AreLike lesser (copy_of lesser bytes) s (copy_of s bytes)
      by None e same =
          let es = records_in s bytes in
          let new = ap entries_of (same.1 e) in
          like_by lesser s _ _ (named lesser es (twice es)) (named s es (twice es))
          (ap (copy_by lesser bytes) (same.0 ∙ e) ∙ ap (λ es. named_copy lesser bytes (twice es)) new
          ∙ named_is lesser bytes es new (twice es))
          (ap (copy_by s bytes) e ∙ named_is s bytes es refl (twice es))
          (named_resized s lesser es (twice es), named_resized lesser s es (twice es))
      by (Some (i, read.BadCrc)) e same =
          like_by lesser s _ _ copy.Corrupt copy.Corrupt (ap (copy_by lesser bytes) (same.0 ∙ e))
          (ap (copy_by s bytes) e) (refl, refl)
      by (Some (i, read.Fault c)) e same =
          like_by lesser s _ _ (copy.Faulty i c) (copy.Faulty i c) (ap (copy_by lesser bytes) (same.0 ∙ e))
          (ap (copy_by s bytes) e) (refl, refl)
      by (Some (i, read.Empty)) e same =
          absurd (true≢false (sym (found_passes faulty (readings s bytes) (i, read.Empty) e)))
      by (Some (i, read.Valid r)) e same =
          absurd (true≢false (sym (found_passes faulty (readings s bytes) (i, read.Valid r) e)))

  module _ (bs : List (List ℕ)) where
    -- a copy that is there, and what it is
    abbrev IsHeld : Sizes → ℕ → CopyRead → Type 0
    IsHeld z c what = (p : ℕ) × Wins z bs (layout, c) p × (copy_of z (leb z (block bs p)) ≡ what)

    -- it has a record with the greater page whose alignment is at fault
    abbrev HasMisaligned : ℕ → Type 0
    HasMisaligned c = (slot : ℕ) × IsHeld s c (copy.Faulty slot fault.AlignmentPage)

    held_kept : (c : ℕ) (what : CopyRead) → ((slot : ℕ) (f : RecFault) → what ≡ copy.Faulty slot f → ⊥)
        → IsHeld s c what → IsHeld lesser c (copy_resized what lesser)
    held_kept c what fine k =
        let is : copy_of lesser (leb s (block bs k.0)) ≡ copy_resized what lesser =
        elim (copy_kept (leb s (block bs k.0))) [
          | inl like ↦ like.0 ∙ ap (λ x. copy_resized x lesser) k.2
          | inr bad ↦ absurd (fine bad.0 fault.AlignmentPage (sym k.2 ∙ bad.1))
        ] in
        (k.0, wins_of_page s page bs (layout, c) k.0 k.1, is)

    held_back : (c : ℕ) (what : CopyRead) → IsHeld lesser c what → IsHeld s c (copy_resized what s) ⊎ HasMisaligned c
    held_back c what k =
        let wins : Wins s bs (layout, c) k.0 = wins_of_page lesser s.page bs (layout, c) k.0 k.1 in
        elim (copy_kept (leb s (block bs k.0))) [
          | inl like ↦ inl (k.0, wins, like.1 ∙ ap (λ x. copy_resized x s) k.2)
          | inr bad ↦ inr (bad.0, (k.0, wins, bad.1))
        ]

    -- a copy that can't decide
    silent_kept : (c : ℕ) (what : CopyRead) → CopyIs s bs c what → can_decide what ≡ false → CopyIs lesser bs c what
    silent_kept c copy.Absent none silent = no_member_of_page s page bs (layout, c) none
    silent_kept c copy.Corrupt k silent = held_kept c copy.Corrupt (λ slot f is. cc) k
    silent_kept c (copy.Faulty i f) k silent = absurd (true≢false silent)
    silent_kept c (copy.Twice i j) k silent = absurd (true≢false silent)
    silent_kept c (copy.Good t) k silent = absurd (true≢false silent)

    silent_back : (c : ℕ) (what : CopyRead) → CopyIs lesser bs c what → can_decide what ≡ false
        → CopyIs s bs c what ⊎ HasMisaligned c
    silent_back c copy.Absent none silent = inl (no_member_of_page lesser s.page bs (layout, c) none)
    silent_back c copy.Corrupt k silent = held_back c copy.Corrupt k
    silent_back c (copy.Faulty i f) k silent = absurd (true≢false silent)
    silent_back c (copy.Twice i j) k silent = absurd (true≢false silent)
    silent_back c (copy.Good t) k silent = absurd (true≢false silent)

    -- with the lesser page the same copy decides, and is good
    decides_kept : (c : ℕ) (t : Records) → Decides s bs c (copy.Good t)
        → Decides lesser bs c (copy.Good (resized t lesser))
    decides_kept c t d = record {
      is = held_kept c (copy.Good t) (λ slot f is. cc) d.is;
      can = refl;
      before = elim d.before [ inl e ↦ inl e | inr e ↦ inr (e.0, e.1, silent_kept 0 e.1 e.2 e.3, e.3) ];
    }

    pub table_kept : (t : Records) → IsTable s bs t → IsTable lesser bs (resized t lesser)
    unfolding ec_reading judged_ec first_ec_fault ec_breaks
    table_kept t (inl blank) = inl (blank.0, ap (λ u. resized u lesser) blank.1)
    table_kept t (inr d) = inr (d.0, decides_kept d.0 t d.1, d.2)

    -- with the greater page it does, or the alignment of a record is at fault
    abbrev IsBefore : Sizes → ℕ → Type 0
    IsBefore z c = (c ≡ 0) ⊎ ((c ≡ 1) × (other : CopyRead) × CopyIs z bs 0 other × (can_decide other ≡ false))

    before_back : (c : ℕ) → IsBefore lesser c → IsBefore s c ⊎ HasMisaligned 0
    before_back c (inl e) = inl (inl e)
    before_back c (inr e) =
        elim (silent_back 0 e.1 e.2 e.3) [
          | inl is ↦ inl (inr (e.0, e.1, is, e.3))
          | inr bad ↦ inr bad
        ]

    abbrev IsPageFault : Type 0
    IsPageFault = (p slot : ℕ) × IsTableFault s bs (refusal.Record p slot fault.AlignmentPage)

    page_fault : (c : ℕ) → IsBefore s c → HasMisaligned c → IsPageFault
    page_fault c before bad =
        (bad.1.0, bad.0, (c, record { is = bad.1; can = refl; before = before }, bad.1.1))

    decided_back : (c : ℕ) (t : Records) → Decides lesser bs c (copy.Good t) → HasSpace lesser t
        → IsTable s bs (resized t s) ⊎ IsPageFault
    decided_back c t d space =
        elim (before_back c d.before) [
          | inl before ↦
              elim (held_back c (copy.Good t) d.is) [
                | inl is ↦ inl (inr (c, record { is = is; can = refl; before = before }, space))
                | inr bad ↦ inr (page_fault c before bad)
              ]
          | inr bad ↦ inr (page_fault 0 (inl refl) bad)
        ]

    pub table_back : (t : Records) → IsTable lesser bs t → IsTable s bs (resized t s) ⊎ IsPageFault
    unfolding ec_reading judged_ec first_ec_fault ec_breaks
    table_back t (inl blank) = inl (inl (blank.0, ap (λ u. resized u s) blank.1))
    table_back t (inr d) = decided_back d.0 t d.1 d.2
