-- The image sequence number of eraseblocks: the one that all eraseblocks that name one name.
use Rattle.ubi_scan.proofs.Prelude.{◌≡◌, ◌≢◌, ℕ, ◌<◌, ◌⊎◌, inl, inr, List, length, sym, ◌∙◌, cases_eq, Sizes, IsClean, block, image_seq, seq_of}
use Rattle.ubi_scan.proofs.Clean.{seq_from, seq_some}

module _ (z : Sizes) where
  -- each eraseblock that names an image names this one, and some eraseblock does, if it isn't 0
  pub record Agrees (seq : ℕ) (bs : List (List ℕ)) : Type 0 where
    pub all : (q : ℕ) → q < length bs → seq_of z (block bs q) ≢ 0 → seq_of z (block bs q) ≡ seq
    pub some : (seq ≡ 0) ⊎ ((q : ℕ) × (q < length bs) × (seq_of z (block bs q) ≡ seq))

  -- so it is that of the eraseblocks
  pub seq_is : (seq : ℕ) (bs : List (List ℕ)) → Agrees seq bs → image_seq z bs ≡ seq
  seq_is seq bs h = elim (cases_eq (image_seq z bs) 0) [
    | inl none ↦ none ∙ sym (elim h.some [
      | inl zero ↦ zero
      | inr q ↦ elim (cases_eq seq 0) [
        | inl zero ↦ zero
        | inr other ↦ absurd (seq_some z bs q.0 q.1 (λ e. other (sym q.2 ∙ e)) none)
      ]
    ])
    | inr some ↦ (let r = seq_from z bs some in r.2 ∙ h.all r.0 r.1 (λ e. some (r.2 ∙ e)))
  ]

  pub seq_agrees : (bs : List (List ℕ)) → IsClean z bs → Agrees (image_seq z bs) bs
  seq_agrees bs clean = record {
    all = λ q l h.
        (let some = seq_some z bs q l h in
        let r = seq_from z bs some in
        sym (r.2 ∙ clean.one_image r.0 q r.1 l (λ e. some (r.2 ∙ e)) h));
    some = elim (cases_eq (image_seq z bs) 0) [
      | inl none ↦ inl none
      | inr some ↦ (let r = seq_from z bs some in inr (r.0, r.1, sym r.2))
    ];
  }
