use Rattle.ubi_change.proofs.Prelude.{◌≡◌, ◌≤◌, ◌<◌, inl, inr, ◌*◌, ◌/◌, ℕ, false, length, refl, subst, sym, ◌∙◌, arith, bytes_each, below_or_last, piece_within, is_weak, pages_of}
use Rattle.ubi_change.proofs.WeakPlaces.{first_place, front_more, front_none, no_place, weak_told}
use Rattle.ubi_change.proofs.weak_check.weak_place.Goals as goal

within : (n page k len : ℕ) → 64 ≤ page → n ≡ page → k < len / n → (k < len / page) × (k * page ≤ len)
within n page k len some e l =
    let below : k < len / page = subst (λ (m : ℕ). k < len / m) e l in
    let fits = piece_within page k len (omega arith) below in
    (below, omega arith)

pub loop-k-init : goal.loop-k-init
loop-k-init c = (front_none c.args.geometry.now c.args.new.now, λ j l. absurd (omega arith))

pub returns-then-is_weak-clause-value : goal.returns-then-is_weak-clause-value
returns-then-is_weak-clause-value c =
    let s = c.args.geometry.now in
    let here = within c.page-page.result s.page c.loop-k.k (length c.args.new.now) c.page-page.ensures.limits.page_from
    c.page-page.ensures.value c.loop-k-test.true in
    let told = weak_told s c.args.new.now c.loop-k.k here.1 c.page-page.result
    (c.loop-k.k * c.page-page.result) c.loop-k.front c.crc-whole.result c.is_weak.result
    c.page-page.ensures.value refl c.loop-k.invariant.0 c.crc-whole.ensures c.is_weak.ensures in
    sym (first_place s c.args.new.now c.loop-k.k here.0 (told ∙ c.if-is_weak.true) c.loop-k.invariant.1)

pub loop-k-preserved : goal.loop-k-preserved
loop-k-preserved c =
    let s = c.args.geometry.now in
    let k = c.loop-k.k in
    let here = within c.page-page.result s.page k (length c.args.new.now) c.page-page.ensures.limits.page_from
    c.page-page.ensures.value c.loop-k-test.true in
    let told = weak_told s c.args.new.now k here.1 c.page-page.result
    (k * c.page-page.result) c.loop-k.front c.crc-whole.result c.is_weak.result
    c.page-page.ensures.value refl c.loop-k.invariant.0 c.crc-whole.ensures c.is_weak.ensures in (
      front_more s c.args.new.now k c.page-page.result (k * c.page-page.result) c.loop-k.front c.crc_more-front.result
          c.page-page.ensures.value refl c.loop-k.invariant.0 c.crc_more-front.ensures,
      λ j l. elim (below_or_last j k l) [
        | inl b ↦ c.loop-k.invariant.1 j b
        | inr e ↦ subst (λ (j : ℕ). is_weak s c.args.new.now j ≡ false) (sym e) (told ∙ c.if-is_weak.false)
      ],
    )

pub returns-clause-value : goal.returns-clause-value
returns-clause-value c =
    let s = c.args.geometry.now in
    let all : pages_of s c.args.new.now ≤ c.loop-k.k =
    subst (λ (n : ℕ). length c.args.new.now / n ≤ c.loop-k.k) c.page-page.ensures.value c.loop-k-test.false in
    sym (no_place s c.args.new.now (λ j l. c.loop-k.invariant.1 j (omega arith)))

pub returns-then-is_weak-clause-bytes : goal.returns-then-is_weak-clause-bytes
returns-then-is_weak-clause-bytes c = bytes_each c.args.new.now (λ i. (c.type_inv.new i).fits)

pub returns-clause-bytes : goal.returns-clause-bytes
returns-clause-bytes c = bytes_each c.args.new.now (λ i. (c.type_inv.new i).fits)
