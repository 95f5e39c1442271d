-- What attaching a source gives, by what its parts answered.
use Rattle.ubi_volume.proofs.Prelude.{◌≡◌, ℕ, inl, inr, cond, List, [], ◌∷◌, ◌++◌, map, refl, ap, sym, ◌∙◌, subst, IsSome, Option, Some, None, option_map, nat_cmp_total, FinMap, find, from_entries, eq_by_cmp, nat_cmp, map-append, exact_unsigned, same_Some, Sizes, VolumeRecord, Refusal, Found, IsScan, leb_cmp, IsWholeSize, image_of, Agreed, Narrows, Source, WhereHeld, blocks_of, holds, memory, still, IsScanOf, first_entry, told, Records, IsTableOf, IsVolumeFault, Refuses, AreCases, AreNumbered, CaseIs, case_in, ContentIs, AreChecked, Means, Meant, AreListed, ArePlaces, ArePlacesError, ArePlacesOf, CaseFits, Placed, case_of, Volume, PlaceContent}
use Rattle.std.specs.Prelude.{◌==◌}
use Rattle.std.specs.Prelude as prelude
use Rattle.std.specs.FinMap as finite
use Rattle.ubi_scan.specs.declared.errors.StreamError.TheVariants as stream
use Rattle.ubi_volume.proofs.Gathered.{contents_mean, contents_more}
use Rattle.ubi_volume.proofs.Recorded.{records_meant}
use Rattle.ubi_volume.proofs.Winners.{no_some}

-- one entry more
pub numbered_more : (w : FinMap leb_cmp ℕ) (es : List (ℕ × VolumeRecord)) (cs : List (ℕ × PlaceContent)) (e : ℕ × VolumeRecord)
    (c : PlaceContent) → AreNumbered w es cs → CaseFits w e.0 e.1 c
    → AreNumbered w (es ++ e ∷ []) (cs ++ (e.0, c) ∷ [])
numbered_more w [] [] e c h few = (refl, few, tt)
numbered_more w [] (y ∷ cs) e c h few = absurd h
numbered_more w (x ∷ es) [] e c h few = absurd h
numbered_more w (x ∷ es) (y ∷ cs) e c h few = (h.0, h.1, numbered_more w es cs e c h.2 few)

pub cases_more : (s : Sizes) (bs : List (List ℕ)) (es : List (ℕ × VolumeRecord)) (cs : List (ℕ × PlaceContent))
    (e : ℕ × VolumeRecord) (c : PlaceContent) → AreCases s bs es cs → CaseIs s bs e.0 e.1 c
    → AreCases s bs (es ++ e ∷ []) (cs ++ (e.0, c) ∷ [])
cases_more s bs es cs e c h is =
    let v : Volume = record { entry = e.1; content = is.0 } in
    record {
      volumes = h.volumes ++ (e.0, v) ∷ [];
      contents = contents_more (ContentIs s bs) es h.volumes e v h.contents refl is.1;
      cases = ap (λ (x : List (ℕ × PlaceContent)). x ++ (e.0, c) ∷ []) h.cases
          ∙ ap (λ (x : PlaceContent). map (case_in s) h.volumes ++ (e.0, x) ∷ []) is.2
          ∙ sym (map-append (case_in s) h.volumes ((e.0, v) ∷ []));
    }

-- what is found by its number
found_too : (w : FinMap leb_cmp ℕ) (id : ℕ) (es : List (ℕ × VolumeRecord)) (cs : List (ℕ × PlaceContent)) (r : VolumeRecord)
    → AreNumbered w es cs → find nat_cmp id es ≡ Some r
    → (c : PlaceContent) × (find nat_cmp id cs ≡ Some c) × CaseFits w id r c
found_too w id [] cs r h e = absurd (no_some r e)
found_too w id (x ∷ es) [] r h e = absurd h
found_too w id (x ∷ es) (y ∷ cs) r h e =
    let other = ap (λ n. cond (eq_by_cmp nat_cmp id n) (Some x.1) (find nat_cmp id es)) h.0 in
    elim (told nat_cmp nat_cmp_total exact_unsigned id y.0) [
      | inl t ↦
          let same : x.1 ≡ r = same_Some x.1 r (sym (ap (λ b. cond b (Some x.1) (find nat_cmp id es)) t.0) ∙ other
          ∙ e) in (
            y.1,
            ap (λ b. cond b (Some y.1) (find nat_cmp id cs)) t.0,
            subst (λ (z : ℕ × VolumeRecord). CaseFits w z.0 z.1 y.1) (λ i. (sym (t.1 ∙ h.0) i, same i)) h.1,
          )
      | inr t ↦
          let next = found_too w id es cs r h.2 (sym (ap (λ b. cond b (Some x.1) (find nat_cmp id es)) t.0) ∙ other
          ∙ e) in
          (next.0, ap (λ b. cond b (Some y.1) (find nat_cmp id cs)) t.0 ∙ next.1, next.2)
    ]

pub find_case : (s : Sizes) (id : ℕ) (vs : List (ℕ × Volume)) (v : Volume) → find nat_cmp id vs ≡ Some v
    → find nat_cmp id (map (case_in s) vs) ≡ Some (case_of s v.entry v.content)
find_case s id [] v e = absurd (no_some v e)
find_case s id (w ∷ vs) v e = elim (told nat_cmp nat_cmp_total exact_unsigned id w.0) [
  | inl t ↦
      let same : w.1 ≡ v = same_Some w.1 v (sym (ap (λ b. cond b (Some w.1) (find nat_cmp id vs)) t.0) ∙ e) in
      ap (λ b. cond b (Some (case_of s w.1.entry w.1.content)) (find nat_cmp id (map (case_in s) vs))) t.0
      ∙ ap (λ (x : Volume). Some (case_of s x.entry x.content)) same
  | inr t ↦ ap (λ b. cond b (Some (case_of s w.1.entry w.1.content)) (find nat_cmp id (map (case_in s) vs))) t.0
      ∙ find_case s id vs v (sym (ap (λ b. cond b (Some w.1) (find nat_cmp id vs)) t.0) ∙ e)
]

module _ (w : FinMap leb_cmp ℕ) (t : Records) (cs : List (ℕ × PlaceContent)) (numbered : AreNumbered w (finite.entries t.of) cs) where
  -- each record has a case
  has_case : (id : ℕ) (r : VolumeRecord) → finite.get t.of id ≡ Some r
      → (c : PlaceContent) × (finite.get (from_entries {R = nat_cmp} cs) id ≡ Some c) × CaseFits w id r c
  has_case id r e =
      let f = found_too w id (finite.entries t.of) cs r numbered (sym (finite.get-entries t.of id) ∙ e) in
      (f.0, finite.get-from_entries nat_cmp_total cs id ∙ f.1, f.2)

  pub are_listed : AreListed t cs
  are_listed id some = by_record (finite.get t.of id) refl some
    where
      by_found : (o : Option (ℕ × PlaceContent)) (c : PlaceContent)
          → option_map (λ (e : ℕ × PlaceContent). e.1) o ≡ Some c → IsSome o
      by_found None c e = absurd (no_some c e)
      by_found (Some x) c e = refl

      by_record : (o : Option VolumeRecord) → finite.get t.of id ≡ o → IsSome o
          → IsSome (prelude.find (λ (e : ℕ × PlaceContent). e.0 == id) cs)
      by_record None e some = absurd (cc)
      by_record (Some r) e some = let c = has_case id r e in by_found _ c.0 (first_entry cs id ∙ c.1)

module _ (s : Sizes) (k : Source) (agrees : Agreed) (found : Found) (t : Records) where
  -- a winner that is unlike its record is why there are no places
  pub winners_refused : IsScanOf s k agrees found → IsTableOf s agrees t → (c : Refusal)
      → ((bs : List (List ℕ)) → IsScan s bs found → IsVolumeFault s bs t c) → ArePlacesError s k agrees (stream.Refused c)
  winners_refused scan table c h =
      inr (
        scan.whole,
        λ bytes holds.
            let is = scan.held bytes holds in
            inr (inr (is.clean, t, table.held bytes holds, h (blocks_of s bytes) is)),
      )

  module _ (is : AreChecked s k agrees found t) (cs : List (ℕ × PlaceContent))
      (numbered : AreNumbered found.winners (finite.entries t.of) cs)
      (cases : WhereHeld agrees (λ bytes. AreCases s (blocks_of s bytes) (finite.entries t.of) cs)) where
    abbrev placed : Placed
    placed = record {
      records = t;
      winners = found.winners;
      contents = from_entries cs;
      image_seq = found.image_seq;
    }

    held : (bytes : List ℕ) → agrees bytes → ArePlaces (image_of s bytes) placed
    held bytes holds =
        let bs = blocks_of s bytes in
        let scan = is.scan.held bytes holds in
        let table = is.table.held bytes holds in
        let h = cases bytes holds in
        let m : Meant = record { sizes = s; image_seq = found.image_seq; volumes = from_entries h.volumes } in
        let means : Means s bs t m = contents_mean s bs t table is.sizes h.volumes h.contents found.image_seq
        scan.image_seq is.narrow in
        let same : from_entries {R = nat_cmp} cs ≡ from_entries (map (case_in s) h.volumes) =
        ap (from_entries {R = nat_cmp}) h.cases in
        record {
          meaning = m;
          accepted = record {
            whole = subst (IsWholeSize s) (sym (is.source.sized bytes holds)) is.scan.whole;
            accepted = record {
              clean = scan.clean;
              records = t;
              table = table;
              alike = is.alike bytes holds;
              means = means;
            };
          };
          records = sym (records_meant s bs t m table means);
          image_seq = refl;
          winners = scan.winners;
          contents = λ id v e. ap (λ c. finite.get c id) same
              ∙ finite.get-from_entries nat_cmp_total (map (case_in s) h.volumes) id
              ∙ find_case s id h.volumes v (sym (finite.get-from_entries nat_cmp_total h.volumes id) ∙ e);
        }

    pub are_places : ArePlacesOf s k agrees placed
    are_places = record {
      sizes = is.table.sizes;
      whole = is.scan.whole;
      within = record {
        winners = is.scan.within.winners;
        space = rw is.table.sizes is.table.space;
        contents = has_case found.winners t cs numbered;
      };
      held = held;
    }

-- of bytes in memory it is why that image is refused
pub refused_in_memory : (s : Sizes) (image left : List ℕ) (c : Refusal) → Narrows (holds image) (holds left)
    → ArePlacesError s (memory image) (holds left) (stream.Refused c) → Refuses (image_of s image) c
refused_in_memory s image left c narrows (inl fault) = inl fault
refused_in_memory s image left c narrows (inr h) = inr (h.0, h.1 image (still image left narrows))
