-- An image is accepted with some meaning, or refused for some cause.
use Rattle.ubi_volume.proofs.Prelude.{◌≡◌, ◌≢◌, ℕ, ◌-◌, ◌*◌, ◌/◌, ◌%◌, ◌^◌, ◌<◌, ◌⊎◌, inl, inr, List, [], ◌∷◌, length, refl, ap, ◌∙◌, subst, arith, Some, from_entries, div-mul-le_self, All-cons, All-head, All-tail, cases_eq, AreBytes, IsGeometry, Sizes, VolumeRecord, Refusal, within_or_past, NoFault, Image, IsSizeFault, IsWholeImage, block, eraseblocks, image_seq, length-first_chunks, length-of_chunk, fault_or_none, Records, IsTable, table_or_refused, Accepts, AcceptsBlocks, Refuses, RefusesBlocks, NoMismatch, AreContents, ContentIs, Means, Meant, Volume}
use Rattle.std.specs.Prelude.{All}
use Rattle.std.specs.FinMap as finite
use Rattle.std.proofs.lemmas.List.{length-drop}
use Rattle.ubi_media.specs.declared.refusal.Refusal.TheVariants as refusal
use Rattle.ubi_volume.proofs.Gathered.{contents_mean, contents_none, listed_at}
use Rattle.ubi_volume.proofs.SeqWidth.{image_narrow}
use Rattle.ubi_volume.proofs.SomeContent.{AreLebs, some_content}
use Rattle.ubi_volume.proofs.SomeMismatch.{mismatch_or_none}

more_than_none : (n : ℕ) → n ≢ 0 → 0 < n
more_than_none n h = grind arith

-- bytes are an image, or they are refused for their size
size_or_whole : (image : Image) → IsWholeImage image ⊎ ((c : Refusal) × IsSizeFault image c)
size_or_whole image = elim (within_or_past (length image.bytes) (image.sizes.pebs * image.sizes.peb_size)) [
  | inr many ↦ inr (refusal.TooMany, many)
  | inl fits ↦ elim (cases_eq (length image.bytes) 0) [
    | inl none ↦ inr (refusal.Length, (fits, inl none))
    | inr some ↦ elim (cases_eq (length image.bytes % image.sizes.peb_size) 0) [
      | inr rest ↦ inr (refusal.Length, (fits, inr rest))
      | inl cut ↦ inl (record { some = more_than_none (length image.bytes) some; cut = cut; fits = fits })
    ]
  ]
]

-- the LEBs of an image have their size
pub are_lebs : (image : Image) → AreLebs image.sizes (eraseblocks image)
are_lebs image p inside =
    let size = image.sizes.peb_size in
    let count = length image.bytes / size in
    let below : p < count = subst (λ (n : ℕ). p < n) (length-first_chunks size count image.bytes) inside in
    let long : length (block (eraseblocks image) p) ≡ size =
    length-of_chunk size count image.bytes p (div-mul-le_self (length image.bytes) size) below in
    length-drop image.sizes.data_offset (block (eraseblocks image) p) ∙ ap (λ n. n - image.sizes.data_offset) long

module _ (s : Sizes) (bs : List (List ℕ)) (whole : AreLebs s bs) (clean : NoFault s bs) (t : Records)
    (alike : NoMismatch s bs t) where
  -- the volumes of a list of records
  some_volumes : (es : List (ℕ × VolumeRecord)) → All (λ (e : ℕ × VolumeRecord). finite.get t.of e.0 ≡ Some e.1) es
      → (vs : List (ℕ × Volume)) × AreContents (ContentIs s bs) es vs
  some_volumes [] all = ([], contents_none (ContentIs s bs))
  some_volumes (e ∷ es) all =
      let rest = some_volumes es (All-tail (λ (e : ℕ × VolumeRecord). finite.get t.of e.0 ≡ Some e.1) e es all) in
      let here = some_content s bs clean e.0 e.1 whole t alike
      (All-head (λ (e : ℕ × VolumeRecord). finite.get t.of e.0 ≡ Some e.1) e es all) in
      let v : ℕ × Volume = (e.0, record { entry = e.1; content = here.0 }) in (
        v ∷ rest.0,
        record {
          alike = ap (λ (x : List (ℕ × VolumeRecord)). e ∷ x) rest.1.alike;
          contents = All-cons (λ (v : ℕ × Volume). ContentIs s bs v.0 v.1.entry v.1.content) v rest.0 here.1
              rest.1.contents;
        },
      )

  -- so the eraseblocks mean something
  pub some_meaning : IsGeometry s → IsTable s bs t → image_seq s bs < 2 ^ 32 → (m : Meant) × Means s bs t m
  some_meaning g is narrow =
      let vs = some_volumes (finite.entries t.of) (λ i d l. listed_at t i d l) in (
        record { sizes = s; image_seq = image_seq s bs; volumes = from_entries vs.0 },
        contents_mean s bs t is g vs.0 vs.1 (image_seq s bs) refl narrow,
      )

module _ (s : Sizes) (bs : List (List ℕ)) (g : IsGeometry s) (whole : AreLebs s bs) (narrow : image_seq s bs < 2 ^ 32) where
  abbrev Outcome : Type 0
  Outcome = ((m : Meant) × AcceptsBlocks s bs m) ⊎ ((c : Refusal) × RefusesBlocks s bs c)

  by_volumes : NoFault s bs → (t : Records) → IsTable s bs t → Outcome
  by_volumes clean t is = elim (mismatch_or_none s bs t clean) [
    | inl alike ↦
        let m = some_meaning s bs whole clean t alike g is narrow in
        inl (m.0, record { clean = clean; records = t; table = is; alike = alike; means = m.1 })
    | inr f ↦ inr (f.0, inr (inr (clean, t, is, f.1)))
  ]

  by_table : NoFault s bs → Outcome
  by_table clean = elim (table_or_refused s bs clean) [
    | inl t ↦ by_volumes clean t.0 t.1
    | inr f ↦ inr (f.0, inr (inl (clean, f.1)))
  ]

  blocks_either : Outcome
  blocks_either = elim (fault_or_none s bs) [ inl clean ↦ by_table clean | inr f ↦ inr (f.0, inl f.1) ]

pub accepted_or_refused : (image : Image) → IsGeometry image.sizes → AreBytes image.bytes
    → ((m : Meant) × Accepts image m) ⊎ ((c : Refusal) × Refuses image c)
accepted_or_refused image g bytes = elim (size_or_whole image) [
  | inr f ↦ inr (f.0, inl f.1)
  | inl whole ↦ elim (blocks_either image.sizes (eraseblocks image) g (are_lebs image)
      (image_narrow image bytes)) [
        | inl a ↦ inl (a.0, record { whole = whole; accepted = a.1 })
        | inr f ↦ inr (f.0, inr (whole, f.1))
      ]
]
