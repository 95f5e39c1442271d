-- Two volumes without a difference.
use Rattle.ubi_compare.proofs.Prelude.{◌≡◌, ◌≢◌, ℕ, zero, suc, ◌+◌, ◌*◌, ◌-◌, ◌%◌, ◌<◌, ◌≤◌, Bool, true, false, not, inl, inr, List, [], ◌++◌, length, map, take, refl, ap, sym, ◌∙◌, subst, arith, ◌==◌, false≢true, cases_lt, lt-ltb, nat_cmp_total, unsigned_Decides, FinMap, nat_cmp-IsAntisymmetric, nat_cmp, IfSome, None, Ok, Err, Option, Result, Some, nat_lt, usable_some, blank, Sizes, leb_size, usable, VolumeRecord, bytes_Decides, kept_alike, outside, pieces_few, share_more, shares_all, Fits, IsVolume, KeepsNoBlank, pieces, share, leb_read, leb_text, Content, Volume, ReadError, condition_of, content_differences, leb_differences, lebs_apart, length_differences, ranges_after, read_apart, record_differences, same_condition, unless, volume_differences, Condition}
use Rattle.std.specs.FinMap as finite
use Rattle.ubi_media.specs.declared.vid.VolKind.TheVariants as kind
use Rattle.ubi_volume.specs.declared.content.Content.TheVariants as content
use Rattle.ubi_compare.proofs.NoDifferences.{both_none, chosen, map_none, none_both, none_pass, none_unless, pass_none, ranges_none, unless_none}
use Rattle.ubi_compare.proofs.Fields.{IsOneRecord, number_itself, one_record, record_itself, text_itself}
use Rattle.ubi_compare.specs.declared.difference.Condition.TheVariants as condition
use Rattle.ubi_compare.specs.declared.difference.Difference.TheVariants as difference

condition_itself : (a : Condition) → same_condition a a ≡ true
condition_itself condition.Updating = refl
condition_itself condition.Damaged = refl
condition_itself condition.Whole = refl

not_false : (b : Bool) → not b ≡ false → b ≡ true
not_false true is = refl
not_false false is = absurd (false≢true (sym is))

-- what a volume uses of a LEB goes by its alignment
pub one_usable : (s : Sizes) (r q : VolumeRecord) → r.alignment ≡ q.alignment → usable s r ≡ usable s q
one_usable s r q same = ap (λ a. leb_size s - leb_size s % a) same

-- where no LEB is told, none is read apart
pub none_apart : (s : Sizes) (id : ℕ) (v w : Volume) → usable s v.entry ≡ usable s w.entry
    → leb_differences s id v w ≡ [] → (lnum : ℕ) → lnum < v.entry.reserved
    → read_apart (leb_read s v.entry lnum v.content) (leb_read s w.entry lnum w.content) ≡ false
none_apart s id v w same none lnum inside =
    let told = λ (r : ℕ × ℕ). difference.Lebs id r.0 r.1 in
    let all = ranges_after None (lebs_apart s v w v.entry.reserved) in
    let listed : map told all ≡ [] =
    sym (chosen (usable s v.entry == usable s w.entry) (map told all) []
    ((unsigned_Decides (usable s v.entry) (usable s w.entry)).1 same)) ∙ none in
    none_pass (λ lnum. read_apart (leb_read s v.entry lnum v.content) (leb_read s w.entry lnum w.content))
    0 v.entry.reserved (ranges_none (lebs_apart s v w v.entry.reserved) (map_none told all listed)) lnum (omega arith) (omega arith)

-- texts of one length whose shares are the same are the same
shares_so_far : (size : ℕ) (t u : List ℕ) (n : ℕ) → ((k : ℕ) → k < n → share size t k ≡ share size u k)
    → take (n * size) t ≡ take (n * size) u
shares_so_far size t u zero same =
    let none : 0 * size ≡ 0 = omega arith in ap (λ n. take n t) none ∙ sym (ap (λ n. take n u) none)
shares_so_far size t u (suc n) same =
    let next : (n + 1) * size ≡ suc n * size = omega arith in
    ap (λ k. take k t) (sym next) ∙ sym (share_more size t n)
    ∙ ap (λ xs. xs ++ share size t n) (shares_so_far size t u n (λ k inside. same k (omega arith)))
    ∙ ap (λ ys. take (n * size) u ++ ys) (same n (omega arith)) ∙ share_more size u n ∙ ap (λ k. take k u) next

pub one_text : (size : ℕ) → 1 ≤ size → (t u : List ℕ) → length t ≡ length u
    → ((k : ℕ) → k < pieces size (length t) → share size t k ≡ share size u k) → t ≡ u
one_text size some t u long same =
    sym (shares_all size some t) ∙ shares_so_far size t u (pieces size (length t)) same
    ∙ ap (λ n. take (pieces size n * size) u) long ∙ shares_all size some u

pub below : (k n : ℕ) → k < n → nat_lt k n ≡ true
below k n inside = lt-ltb k n inside

-- a LEB of a static volume
pub static_leb : (s : Sizes) (r : VolumeRecord) (lnum : ℕ) (t : List ℕ) → lnum < pieces (usable s r) (length t)
    → leb_read s r lnum (content.Static t) ≡ Ok (share (usable s r) t lnum)
static_leb s r lnum t inside =
    chosen (nat_lt lnum (pieces (usable s r) (length t))) (Ok (share (usable s r) t lnum)) _ (below lnum _ inside)

-- a LEB of a dynamic volume
pub dynamic_leb : (s : Sizes) (r : VolumeRecord) (lnum : ℕ) (l : FinMap nat_cmp (List ℕ)) → lnum < r.reserved
    → leb_read s r lnum (content.Dynamic l) ≡ Ok (leb_text (usable s r) (finite.get l lnum))
dynamic_leb s r lnum l inside =
    chosen (nat_lt lnum r.reserved) (Ok (leb_text (usable s r) (finite.get l lnum))) _ (below lnum _ inside)

-- what isn't read apart is the same text
one_read : (o p : Result (List ℕ) ReadError) (t u : List ℕ) → o ≡ Ok t → p ≡ Ok u → read_apart o p ≡ false → t ≡ u
one_read o p t u one other same =
    (bytes_Decides t u).0 (not_false _ (ap (λ x. read_apart x (Ok u)) (sym one) ∙ ap (read_apart o) (sym other) ∙ same))

-- two volumes of one record, but for the marker, of which no difference is told
module _ (s : Sizes) (id : ℕ) (r q : VolumeRecord) (is : IsOneRecord r q) (some : 1 ≤ usable s r) where
  abbrev with : VolumeRecord → Content → Volume
  with e c = record { entry = e; content = c }

  abbrev Same : Content → Content → Type 0
  Same c d = (c ≡ d) × (r.marker ≡ q.marker)

  size_is : usable s r ≡ usable s q
  size_is = one_usable s r q is.alignment

  static_same : (t u : List ℕ) → length t ≡ length u → length t ≤ r.reserved * usable s r
      → leb_differences s id (with r (content.Static t)) (with q (content.Static u)) ≡ [] → t ≡ u
  static_same t u long fits none =
      let few = pieces_few (usable s r) some (length t) r.reserved fits in
      one_text (usable s r) some t u long (λ k inside.
      one_read (leb_read s r k (content.Static t)) (leb_read s q k (content.Static u)) (share (usable s r) t k)
      (share (usable s r) u k) (static_leb s r k t inside)
      (static_leb s q k u (subst (λ n. k < n) (ap (pieces (usable s r)) long ∙ ap (λ z. pieces z (length u)) size_is) inside)
      ∙ ap (λ z. Ok (share z u k)) (sym size_is))
      (none_apart s id (with r (content.Static t)) (with q (content.Static u)) size_is none k (omega arith)))

  dynamic_same : (l m : FinMap nat_cmp (List ℕ)) → Fits s r (content.Dynamic l) → Fits s q (content.Dynamic m)
      → KeepsNoBlank s r (content.Dynamic l) → KeepsNoBlank s q (content.Dynamic m)
      → leb_differences s id (with r (content.Dynamic l)) (with q (content.Dynamic m)) ≡ [] → l ≡ m
  dynamic_same l m fits fits_too kept kept_too none =
      finite.same_map nat_cmp_total nat_cmp-IsAntisymmetric l m (λ n. elim (cases_lt n r.reserved) [
        | inl inside ↦ kept_alike (usable s r) (finite.get l n) (finite.get m n) (kept n)
            (subst (λ z. IfSome (finite.get m n) (λ text. text ≢ blank z)) (sym size_is) (kept_too n))
            (one_read (leb_read s r n (content.Dynamic l)) (leb_read s q n (content.Dynamic m))
            (leb_text (usable s r) (finite.get l n)) (leb_text (usable s r) (finite.get m n)) (dynamic_leb s r n l inside)
            (dynamic_leb s q n m (subst (λ k. n < k) is.reserved inside)
            ∙ ap (λ z. Ok (leb_text z (finite.get m n))) (sym size_is))
            (none_apart s id (with r (content.Dynamic l)) (with q (content.Dynamic m)) size_is none n inside))
        | inr beyond ↦ outside r.reserved n (usable s r) (finite.get l n) beyond (fits.2 n)
            ∙ sym (outside q.reserved n (usable s q) (finite.get m n) (subst (λ k. k ≤ n) is.reserved beyond) (fits_too.2 n))
      ])

  pub one_content : (c d : Content) → Fits s r c → Fits s q d → KeepsNoBlank s r c → KeepsNoBlank s q d
      → content_differences s id (with r c) (with q d) ≡ [] → Same c d
  one_content content.Updating content.Updating a b k l none = (refl, a ∙ sym b)
  one_content content.Updating content.Damaged a b k l none = absurd (cc)
  one_content content.Updating (content.Static u) a b k l none = absurd (cc)
  one_content content.Updating (content.Dynamic m) a b k l none = absurd (cc)
  one_content content.Damaged content.Updating a b k l none = absurd (cc)
  one_content content.Damaged content.Damaged a b k l none = (refl, a.0 ∙ sym b.0)
  one_content content.Damaged (content.Static u) a b k l none = absurd (cc)
  one_content content.Damaged (content.Dynamic m) a b k l none = absurd (cc)
  one_content (content.Static t) content.Updating a b k l none = absurd (cc)
  one_content (content.Static t) content.Damaged a b k l none = absurd (cc)
  one_content (content.Static t) (content.Static u) a b k l none =
      let parts = both_none (length_differences id (content.Static t) (content.Static u))
      (leb_differences s id (with r (content.Static t)) (with q (content.Static u))) none in
      let long = (unsigned_Decides (length t) (length u)).0 (unless_none _ _ parts.0) in
      (ap content.Static (static_same t u long a.2 parts.1), a.0 ∙ sym b.0)
  one_content (content.Static t) (content.Dynamic m) a b k l none =
      let apart : kind.Static ≡ kind.Dynamic = sym a.1 ∙ is.kind ∙ b.1 in absurd (cc)
  one_content (content.Dynamic m) content.Updating a b k l none = absurd (cc)
  one_content (content.Dynamic m) content.Damaged a b k l none = absurd (cc)
  one_content (content.Dynamic m) (content.Static u) a b k l none =
      let apart : kind.Dynamic ≡ kind.Static = sym a.1 ∙ is.kind ∙ b.1 in absurd (cc)
  one_content (content.Dynamic l) (content.Dynamic m) a b k j none =
      (ap content.Dynamic (dynamic_same l m a b k j none), a.0 ∙ sym b.0)

-- nothing is told of a volume beside itself
read_itself : (o : Result (List ℕ) ReadError) → read_apart o o ≡ false
read_itself (Ok t) = ap not (text_itself t)
read_itself (Err e) = refl

length_itself : (id : ℕ) (c : Content) → length_differences id c c ≡ []
length_itself id content.Updating = refl
length_itself id content.Damaged = refl
length_itself id (content.Static t) = none_unless _ _ (number_itself (length t))
length_itself id (content.Dynamic l) = refl

lebs_itself : (s : Sizes) (id : ℕ) (v : Volume) → leb_differences s id v v ≡ []
lebs_itself s id v =
    let told = λ (r : ℕ × ℕ). difference.Lebs id r.0 r.1 in
    chosen (usable s v.entry == usable s v.entry) (map told (ranges_after None (lebs_apart s v v v.entry.reserved))) []
    (number_itself (usable s v.entry))
    ∙ ap (λ ns. map told (ranges_after None ns))
    (pass_none (λ lnum. read_apart (leb_read s v.entry lnum v.content) (leb_read s v.entry lnum v.content))
    0 v.entry.reserved (λ k low high. read_itself (leb_read s v.entry k v.content)))

pub volume_itself : (s : Sizes) (id : ℕ) (v : Volume) → volume_differences s id (Some v) (Some v) ≡ []
volume_itself s id v =
    let c = condition_of v.content in
    let told = unless (same_condition c c) (difference.Condition id c c) in
    none_both (record_differences id v.entry v.entry) (content_differences s id v v) (record_itself id v.entry)
    (none_both (told ++ length_differences id v.content v.content) (leb_differences s id v v)
    (none_both told (length_differences id v.content v.content)
    (none_unless _ (difference.Condition id c c) (condition_itself c)) (length_itself id v.content)) (lebs_itself s id v))

pub slot_itself : (s : Sizes) (id : ℕ) (o : Option Volume) → volume_differences s id o o ≡ []
slot_itself s id None = refl
slot_itself s id (Some v) = volume_itself s id v

-- a slot of which nothing is told is the same on both sides
pub one_slot : (s : Sizes) (id : ℕ) (o p : Option Volume) → IfSome o (IsVolume s id) → IfSome p (IsVolume s id)
    → volume_differences s id o p ≡ [] → o ≡ p
one_slot s id None None a b none = refl
one_slot s id None (Some w) a b none = absurd (cc)
one_slot s id (Some v) None a b none = absurd (cc)
one_slot s id (Some v) (Some w) a b none =
    let parts = both_none (record_differences id v.entry w.entry) (content_differences s id v w) none in
    let is = one_record id v.entry w.entry parts.0 in
    let same = one_content s id v.entry w.entry is (usable_some s v.entry a.sound) v.content w.content a.fits b.fits
    a.kept b.kept parts.1 in
    ap Some (λ i. record {
      entry = record {
        reserved = is.reserved i;
        alignment = is.alignment i;
        kind = is.kind i;
        marker = same.1 i;
        name = is.name i;
        flags = is.flags i;
      };
      content = same.0 i;
    })
