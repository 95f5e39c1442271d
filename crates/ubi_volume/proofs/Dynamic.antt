-- What is gathered for a dynamic volume.
use Rattle.ubi_volume.proofs.Prelude.{◌≡◌, ◌≢◌, ℕ, ◌+◌, ◌<◌, inl, inr, false, cond, List, length, refl, ap, sym, ◌∙◌, subst, arith, IfSome, Option, Some, None, nat_cmp_total, FinMap, nat_cmp, cases_eq, blank, Sizes, usable, VolumeRecord, below_or_last, apart_test, same_test, AreGatheredLebs, AreKeptTexts, ContentIs, LebReads, leb_text}
use Rattle.std.specs.FinMap as finite
use Rattle.ubi_media.specs.declared.vid.VolKind.TheVariants as kind
use Rattle.ubi_volume.specs.declared.content.Content.TheVariants as content

-- what is kept of a LEB, once a text is kept of another, and of that one
kept_same : (lebs : FinMap nat_cmp (List ℕ)) (n : ℕ) (text : List ℕ) → finite.get (finite.insert lebs n text) n
    ≡ Some text
kept_same lebs n text = finite.get-insert nat_cmp_total lebs n text n
    ∙ ap (λ b. cond b (Some text) (finite.get lebs n)) (same_test n)

kept_other : (lebs : FinMap nat_cmp (List ℕ)) (n : ℕ) (text : List ℕ) (l : ℕ) → l ≢ n
    → finite.get (finite.insert lebs n text) l ≡ finite.get lebs l
kept_other lebs n text l other = finite.get-insert nat_cmp_total lebs n text l
    ∙ ap (λ b. cond b (Some text) (finite.get lebs l)) (apart_test l n other)

-- the texts so far
module _ (size : ℕ) where
  pub texts_none : AreKeptTexts size 0 finite.empty
  texts_none = record {
    fits = λ l. subst (λ (o : Option (List ℕ)). IfSome o (λ text. (l < 0) × (length text ≡ size)))
        (sym (finite.get-empty nat_cmp l)) tt;
    kept = λ l. subst (λ (o : Option (List ℕ)). IfSome o (λ text. text ≢ blank size)) (sym (finite.get-empty nat_cmp l))
        tt;
  }

  later : (n l : ℕ) (o : Option (List ℕ)) → IfSome o (λ text. (l < n) × (length text ≡ size))
      → IfSome o (λ text. (l < n + 1) × (length text ≡ size))
  later n l None h = tt
  later n l (Some text) h = (let b = h.0 in omega arith, h.1)

  -- none is kept of the next LEB
  pub none_behind : (n : ℕ) (lebs : FinMap nat_cmp (List ℕ)) → AreKeptTexts size n lebs → finite.get lebs n ≡ None
  none_behind n lebs h = by_text (finite.get lebs n) (h.fits n)
    where
      by_text : (o : Option (List ℕ)) → IfSome o (λ text. (n < n) × (length text ≡ size)) → o ≡ None
      by_text None k = refl
      by_text (Some text) k = let b = k.0 in absurd (omega arith)

  pub texts_blank : (n : ℕ) (lebs : FinMap nat_cmp (List ℕ)) → AreKeptTexts size n lebs → AreKeptTexts size (n + 1) lebs
  texts_blank n lebs h = record { fits = λ l. later n l (finite.get lebs l) (h.fits l); kept = h.kept }

  pub texts_more : (n : ℕ) (lebs : FinMap nat_cmp (List ℕ)) (text : List ℕ) → AreKeptTexts size n lebs → length text ≡ size
      → text ≢ blank size → AreKeptTexts size (n + 1) (finite.insert lebs n text)
  texts_more n lebs text h long some = record {
    fits = λ l. elim (cases_eq l n) [
      | inl e ↦ subst (λ (o : Option (List ℕ)). IfSome o (λ t. (l < n + 1) × (length t ≡ size)))
          (sym (ap (finite.get (finite.insert lebs n text)) e ∙ kept_same lebs n text)) (omega arith, long)
      | inr other ↦ subst (λ (o : Option (List ℕ)). IfSome o (λ t. (l < n + 1) × (length t ≡ size)))
          (sym (kept_other lebs n text l other)) (later n l (finite.get lebs l) (h.fits l))
    ];
    kept = λ l. elim (cases_eq l n) [
      | inl e ↦ subst (λ (o : Option (List ℕ)). IfSome o (λ t. t ≢ blank size))
          (sym (ap (finite.get (finite.insert lebs n text)) e ∙ kept_same lebs n text)) some
      | inr other ↦ subst (λ (o : Option (List ℕ)). IfSome o (λ t. t ≢ blank size))
          (sym (kept_other lebs n text l other)) (h.kept l)
    ];
  }

module _ (s : Sizes) (bs : List (List ℕ)) (vol : ℕ) (r : VolumeRecord) where
  pub gathered_none : AreGatheredLebs s bs vol r 0 finite.empty
  gathered_none = record { texts = texts_none (usable s r); reads = λ l h. absurd (omega arith) }

  pub gathered_blank : (n : ℕ) (lebs : FinMap nat_cmp (List ℕ)) → AreGatheredLebs s bs vol r n lebs
      → LebReads s bs vol r n (blank (usable s r)) → AreGatheredLebs s bs vol r (n + 1) lebs
  gathered_blank n lebs h here = record {
    texts = texts_blank (usable s r) n lebs h.texts;
    reads = λ l k. elim (below_or_last l n k) [
      | inl b ↦ h.reads l b
      | inr e ↦ subst (λ (k : ℕ). LebReads s bs vol r k (leb_text (usable s r) (finite.get lebs k))) (sym e)
          (subst (λ (o : Option (List ℕ)). LebReads s bs vol r n (leb_text (usable s r) o)) (sym (none_behind (usable s r) n lebs h.texts)) here)
    ];
  }

  pub gathered_text : (n : ℕ) (lebs : FinMap nat_cmp (List ℕ)) (text : List ℕ) → AreGatheredLebs s bs vol r n lebs
      → LebReads s bs vol r n text → length text ≡ usable s r → text ≢ blank (usable s r)
      → AreGatheredLebs s bs vol r (n + 1) (finite.insert lebs n text)
  gathered_text n lebs text h here long some = record {
    texts = texts_more (usable s r) n lebs text h.texts long some;
    reads = λ l k. elim (below_or_last l n k) [
      | inl b ↦ subst (λ (o : Option (List ℕ)). LebReads s bs vol r l (leb_text (usable s r) o))
          (sym (kept_other lebs n text l (λ e. omega arith))) (h.reads l b)
      | inr e ↦ subst (λ (k : ℕ). LebReads s bs vol r k (leb_text (usable s r) (finite.get (finite.insert lebs n text) k)))
          (sym e)
          (subst (λ (o : Option (List ℕ)). LebReads s bs vol r n (leb_text (usable s r) o)) (sym (kept_same lebs n text))
          here)
    ];
  }

  -- all LEBs together are what the volume reads
  pub dynamic_is : (lebs : FinMap nat_cmp (List ℕ)) → r.marker ≡ false → r.kind ≡ kind.Dynamic
      → AreGatheredLebs s bs vol r r.reserved lebs → ContentIs s bs vol r (content.Dynamic lebs)
  dynamic_is lebs unmarked dynamic h = record {
    reads = (unmarked, dynamic, h.reads);
    fits = (unmarked, dynamic, h.texts.fits);
    kept = h.texts.kept;
  }
