-- What an eraseblock is whose step was begun and not ended.
use Rattle.ubi_change.proofs.Prelude.{◌≡◌, ◌≢◌, ℕ, zero, suc, ◌⊎◌, inl, inr, Bool, true, false, not, List, [], ◌∷◌, take, drop, refl, ap, ap₂, sym, ◌∙◌, subst, arith, ◌==◌, ◌&&◌, ◌||◌, bit_and, eqb-true, None, Option, Some, option_and_then, option_map, option_map_or, then_some, same_Some, blank, vid_reading, crc_of, Sizes, IsGeometry, EcHeader, EcRead, VidHeader, IsSound, Leb, ec, vid, foreign, has_members, header, header_if, is_good, is_right, leb_of, member, member_if, good_in, seq_if, seq_of, behind, blank_vid, only_clears, length, VidRead, EcFault, IsHarmless, NoChance, and_parts}
use Rattle.ubi_media.specs.declared.ec.EcRead.TheVariants as ec_read
use Rattle.ubi_media.specs.declared.vid.VidRead.TheVariants as vid_read
use Rattle.std.proofs.lemmas.Nat as nat
use Rattle.ubi_change.proofs.Mounted.{IsMount}
use Rattle.ubi_change.proofs.Vacated.{IsVacant}

-- what only loses bits, and is to lose none that it has, is what it was
pub clears_back : (xs ys : List ℕ) → only_clears xs ys ≡ true → only_clears ys xs ≡ true → ys ≡ xs
clears_back [] [] a b = refl
clears_back [] (y ∷ ys) a b = absurd (cc)
clears_back (x ∷ xs) [] a b = absurd (cc)
clears_back (x ∷ xs) (y ∷ ys) a b =
    let here : y ≡ x =
    sym (eqb-true (bit_and x y) y (and_parts (bit_and x y == y) (only_clears xs ys) a).0) ∙ nat.and_comm x y
    ∙ eqb-true (bit_and y x) x (and_parts (bit_and y x == x) (only_clears ys xs) b).0 in
    ap₂ (λ u v. u ∷ v) here
    (clears_back xs ys (and_parts (bit_and x y == y) (only_clears xs ys) a).1 (and_parts (bit_and y x == x) (only_clears ys xs) b).1)

pub clears_drop : (n : ℕ) (xs ys : List ℕ) → only_clears xs ys ≡ true → only_clears (drop n xs) (drop n ys) ≡ true
clears_drop zero xs ys a = a
clears_drop (suc n) [] [] a = refl
clears_drop (suc n) [] (y ∷ ys) a = absurd (cc)
clears_drop (suc n) (x ∷ xs) [] a = absurd (cc)
clears_drop (suc n) (x ∷ xs) (y ∷ ys) a = clears_drop n xs ys (and_parts (bit_and x y == y) (only_clears xs ys) a).1

pub clears_take : (n : ℕ) (xs ys : List ℕ) → only_clears xs ys ≡ true → only_clears (take n xs) (take n ys) ≡ true
clears_take zero xs ys a = refl
clears_take (suc n) [] [] a = refl
clears_take (suc n) [] (y ∷ ys) a = absurd (cc)
clears_take (suc n) (x ∷ xs) [] a = absurd (cc)
clears_take (suc n) (x ∷ xs) (y ∷ ys) a =
    ap₂ (λ u v. u && v) (and_parts (bit_and x y == y) (only_clears xs ys) a).0
    (clears_take n xs ys (and_parts (bit_and x y == y) (only_clears xs ys) a).1)

-- a program leaves what it isn't to clear
pub same_part : (f : List ℕ → List ℕ) (b c t : List ℕ)
    → ((xs ys : List ℕ) → only_clears xs ys ≡ true → only_clears (f xs) (f ys) ≡ true)
    → only_clears b t ≡ true → only_clears t c ≡ true → f b ≡ f c → f t ≡ f b
same_part f b c t keeps low high same =
    clears_back (f b) (f t) (keeps b t low)
    (subst (λ z. only_clears (f t) z ≡ true) (sym same) (keeps t c high))

-- no header is read
abbrev pub HasNoHeader : Sizes → List ℕ → Type 0
HasNoHeader s t = (ec s t ≡ ec_read.Blank) ⊎ (vid s t ≡ vid_read.Blank) ⊎ (vid s t ≡ vid_read.Corrupt)

none_by_blank : (e : EcRead) → header_if e vid_read.Blank ≡ None
none_by_blank ec_read.Blank = refl
none_by_blank ec_read.Corrupt = refl
none_by_blank (ec_read.Fault f) = refl
none_by_blank (ec_read.Valid h) = refl

none_by_corrupt : (e : EcRead) → header_if e vid_read.Corrupt ≡ None
none_by_corrupt ec_read.Blank = refl
none_by_corrupt ec_read.Corrupt = refl
none_by_corrupt (ec_read.Fault f) = refl
none_by_corrupt (ec_read.Valid h) = refl

no_header : (s : Sizes) (t : List ℕ) → HasNoHeader s t → header s t ≡ None
no_header s t (inl e) = ap (λ r. header_if r (vid s t)) e
no_header s t (inr (inl e)) = ap (header_if (ec s t)) e ∙ none_by_blank (ec s t)
no_header s t (inr (inr e)) = ap (header_if (ec s t)) e ∙ none_by_corrupt (ec s t)

abbrev if_member : Option VidHeader → Option VidHeader
if_member o = option_and_then (λ (h : VidHeader). then_some (has_members h.vol_id) h) o

abbrev if_foreign : Option VidHeader → Option VidHeader
if_foreign o = option_and_then (λ (h : VidHeader). then_some (not (has_members h.vol_id)) h) o

module _ (s : Sizes) (seq : ℕ) (b c t : List ℕ) (n : NoChance s b c t) where
  pub torn_ec : ((f : EcFault) → ec s b ≢ ec_read.Fault f) → ((f : EcFault) → ec s c ≢ ec_read.Fault f) → (f : EcFault)
      → ec s t ≢ ec_read.Fault f
  torn_ec low high f e = elim (n.ec_fault f e) [ inl k ↦ low f k | inr k ↦ high f k ]

  pub torn_image : (seq_of s b ≢ 0 → seq_of s b ≡ seq) → (seq_of s c ≢ 0 → seq_of s c ≡ seq) → seq_of s t ≢ 0
      → seq_of s t ≡ seq
  torn_image low high some = by (ec s t) refl
    where
      at : (x : List ℕ) (h : EcHeader) → ec s t ≡ ec_read.Valid h → ec s x ≡ ec_read.Valid h
          → (seq_of s x ≢ 0 → seq_of s x ≡ seq) → seq_of s t ≡ seq
      at x h e k image =
          let same : seq_of s t ≡ seq_of s x = ap seq_if (e ∙ sym k) in
          same ∙ image (λ z. some (same ∙ z))

      by : (r : EcRead) → ec s t ≡ r → seq_of s t ≡ seq
      by ec_read.Blank e = absurd (some (ap seq_if e))
      by ec_read.Corrupt e = absurd (some (ap seq_if e))
      by (ec_read.Fault f) e = absurd (some (ap seq_if e))
      by (ec_read.Valid h) e = elim (n.ec_valid h e) [ inl k ↦ at b h e k low | inr k ↦ at c h e k high ]

  pub torn_vid : vid s b ≡ vid_read.Blank → vid s c ≡ vid_read.Blank → HasNoHeader s t
  torn_vid low high = by (vid s t) refl
    where
      by : (r : VidRead) → vid s t ≡ r → HasNoHeader s t
      by vid_read.Blank e = inr (inl e)
      by vid_read.Corrupt e = inr (inr e)
      by (vid_read.Fault f) e = elim (n.vid_fault f e) [ inl k ↦ (let l = low in absurd (cc)) | inr k ↦ (let l = high in absurd (cc)) ]
      by (vid_read.Valid h) e = elim (n.vid_valid h e) [ inl k ↦ (let l = low in absurd (cc)) | inr k ↦ (let l = high in absurd (cc)) ]

-- without a header it is no member
pub no_header_vacant : (s : Sizes) (seq : ℕ) (t : List ℕ) → HasNoHeader s t → ((f : EcFault) → ec s t ≢ ec_read.Fault f)
    → (seq_of s t ≢ 0 → seq_of s t ≡ seq) → IsVacant s seq t
no_header_vacant s seq t none sound image = record {
  sound = record {
    no_ec_fault = sound;
    no_vid_fault = λ f used k. elim none [
      | inl e ↦ used e
      | inr (inl e) ↦ (let l = e in absurd (cc))
      | inr (inr e) ↦ (let l = e in absurd (cc))
    ];
    compatible = λ h k i. (let out : foreign s t ≡ None = ap if_foreign (no_header s t none) in absurd (cc));
    laid = λ h k i. (let out : member s t ≡ None = ap if_member (no_header s t none) in absurd (cc));
  };
  nameless = ap (option_map leb_of) (ap if_member (no_header s t none));
  image = image;
}

-- an erase that wasn't ended
pub vid_of_blank : (s : Sizes) → IsGeometry s → vid s (blank s.peb_size) ≡ vid_read.Blank
vid_of_blank s g =
    ap (vid_reading s) (behind [] s.peb_size s.vid_offset 64 (omega arith) (omega (arith, g.vid_from, g.data_from, g.leb)))
    ∙ blank_vid s

-- a member's header is Valid
pub valid_of : (e : EcRead) (v : VidRead) (h : VidHeader) → member_if e v ≡ Some h → v ≡ vid_read.Valid h
valid_of ec_read.Blank v h k = absurd (cc)
valid_of ec_read.Corrupt vid_read.Blank h k = absurd (cc)
valid_of ec_read.Corrupt vid_read.Corrupt h k = absurd (cc)
valid_of ec_read.Corrupt (vid_read.Fault f) h k = absurd (cc)
valid_of ec_read.Corrupt (vid_read.Valid g) h k = by_test (has_members g.vol_id) k
  where
    by_test : (b : Bool) → then_some b g ≡ Some h → vid_read.Valid g ≡ vid_read.Valid h
    by_test true k = ap vid_read.Valid (same_Some g h k)
    by_test false k = absurd (cc)
valid_of (ec_read.Fault f) vid_read.Blank h k = absurd (cc)
valid_of (ec_read.Fault f) vid_read.Corrupt h k = absurd (cc)
valid_of (ec_read.Fault f) (vid_read.Fault v) h k = absurd (cc)
valid_of (ec_read.Fault f) (vid_read.Valid g) h k = by_test (has_members g.vol_id) k
  where
    by_test : (b : Bool) → then_some b g ≡ Some h → vid_read.Valid g ≡ vid_read.Valid h
    by_test true k = ap vid_read.Valid (same_Some g h k)
    by_test false k = absurd (cc)
valid_of (ec_read.Valid e) vid_read.Blank h k = absurd (cc)
valid_of (ec_read.Valid e) vid_read.Corrupt h k = absurd (cc)
valid_of (ec_read.Valid e) (vid_read.Fault v) h k = absurd (cc)
valid_of (ec_read.Valid e) (vid_read.Valid g) h k = by_test (has_members g.vol_id) k
  where
    by_test : (b : Bool) → then_some b g ≡ Some h → vid_read.Valid g ≡ vid_read.Valid h
    by_test true k = ap vid_read.Valid (same_Some g h k)
    by_test false k = absurd (cc)

-- a header is read where the erase-counter header isn't Blank
header_read : (e : EcRead) (h : VidHeader) → e ≢ ec_read.Blank → header_if e (vid_read.Valid h) ≡ Some h
header_read ec_read.Blank h k = absurd (k refl)
header_read ec_read.Corrupt h k = refl
header_read (ec_read.Fault f) h k = refl
header_read (ec_read.Valid e) h k = refl

ec_blank_or : (e : EcRead) → (e ≡ ec_read.Blank) ⊎ (e ≢ ec_read.Blank)
ec_blank_or ec_read.Blank = inl refl
ec_blank_or ec_read.Corrupt = inr (λ k. absurd (cc))
ec_blank_or (ec_read.Fault f) = inr (λ k. absurd (cc))
ec_blank_or (ec_read.Valid h) = inr (λ k. absurd (cc))

module _ (s : Sizes) (g : IsGeometry s) (seq : ℕ) (b t : List ℕ) (n : NoChance s b (blank s.peb_size) t)
    (ec_blank : ec s (blank s.peb_size) ≡ ec_read.Blank) (blank_stays : ec s b ≡ ec_read.Blank → vid s b ≢ vid_read.Blank → ec s t ≡ ec_read.Blank)
    (sound : IsSound s b) (image : seq_of s b ≢ 0 → seq_of s b ≡ seq) where
  vid_blank : vid s (blank s.peb_size) ≡ vid_read.Blank
  vid_blank = vid_of_blank s g

  ec_sound : (f : EcFault) → ec s t ≢ ec_read.Fault f
  ec_sound = torn_ec s seq b (blank s.peb_size) t n sound.no_ec_fault (λ f k. (let l = ec_blank in absurd (cc)))

  image_kept : seq_of s t ≢ 0 → seq_of s t ≡ seq
  image_kept = torn_image s seq b (blank s.peb_size) t n image (λ h. absurd (h (ap seq_if ec_blank)))

  vacant : HasNoHeader s t → IsHarmless s seq b t
  vacant none =
      let v = no_header_vacant s seq t none ec_sound image_kept in
      record { sound = v.sound; image = image_kept; member = inl v.nameless }

  -- it has the header that it had
  module _ (h : VidHeader) (now : vid s t ≡ vid_read.Valid h) (was : vid s b ≡ vid_read.Valid h)
      (read : ec s t ≢ ec_read.Blank) where
    header_now : header s t ≡ Some h
    header_now = ap (header_if (ec s t)) now ∙ header_read (ec s t) h read

    header_was : header s b ≡ Some h
    header_was = ap (header_if (ec s b)) was ∙ header_read (ec s b) h (λ e. read (blank_stays e (λ k. (let l = was in absurd (cc)))))

    same_member : member s t ≡ member s b
    same_member = ap if_member (header_now ∙ sym header_was)

    same_foreign : foreign s t ≡ foreign s b
    same_foreign = ap if_foreign (header_now ∙ sym header_was)

    good_before : (o : Option VidHeader) → member s b ≡ o → good_in s t ≡ true → good_in s b ≡ true
    good_before None e good =
        let bad : good_in s t ≡ false = ap (λ (o : Option VidHeader). option_map_or (is_good s t) o false) (same_member ∙ e) in
        absurd (cc)
    good_before (Some k) e good =
        let here : good_in s t ≡ is_good s t k = ap (λ (o : Option VidHeader). option_map_or (is_good s t) o false) (same_member ∙ e) in
        let there : good_in s b ≡ is_good s b k = ap (λ (o : Option VidHeader). option_map_or (is_good s b) o false) e in
        let valid : vid s t ≡ vid_read.Valid k = valid_of (ec s t) (vid s t) k (same_member ∙ e) in
        there ∙ by_copy k valid k.copy_flag refl (sym here ∙ good)
      where
        by_right : (k : VidHeader) → vid s t ≡ vid_read.Valid k → k.copy_flag ≡ true → is_right s t k ≡ true → is_right s b k ≡ true
        by_right k valid copied right = elim (n.copied k valid copied right) [
          | inl same ↦ ap (λ (y : List ℕ). crc_of y == k.data_crc) (sym same.1) ∙ right
          | inr same ↦ (let e = same.0 in let f = vid_blank in absurd (cc))
        ]

        by_copy : (k : VidHeader) → vid s t ≡ vid_read.Valid k → (flag : Bool) → k.copy_flag ≡ flag → is_good s t k ≡ true → is_good s b k ≡ true
        by_copy k valid false e good = ap (λ f. not f || is_right s b k) e
        by_copy k valid true e good = ap (λ f. not f || is_right s b k) e
            ∙ by_right k valid e (sym (ap (λ f. not f || is_right s t k) e) ∙ good)

    still : IsHarmless s seq b t
    still = record {
      sound = record {
        no_ec_fault = ec_sound;
        no_vid_fault = λ f used k. (let l = now in absurd (cc));
        compatible = λ k e i. sound.compatible k (sym same_foreign ∙ e) i;
        laid = λ k e i. sound.laid k (sym same_member ∙ e) i;
      };
      image = image_kept;
      member = inr (
        ap (option_map leb_of) same_member,
        ap (λ (o : Option VidHeader). option_map_or (λ (h : VidHeader). h.sqnum) o 0) same_member,
        good_before (member s b) refl,
      );
    }

  pub erase_harmless : IsHarmless s seq b t
  erase_harmless = by (vid s t) refl
    where
      by : (r : VidRead) → vid s t ≡ r → IsHarmless s seq b t
      by vid_read.Blank e = vacant (inr (inl e))
      by vid_read.Corrupt e = vacant (inr (inr e))
      by (vid_read.Fault f) e = elim (n.vid_fault f e) [
        | inl k ↦ elim (ec_blank_or (ec s b)) [
          | inl none ↦ vacant (inl (blank_stays none (λ z. absurd (cc))))
          | inr some ↦ absurd (sound.no_vid_fault f some k)
        ]
        | inr k ↦ (let l = vid_blank in absurd (cc))
      ]
      by (vid_read.Valid h) e = elim (n.vid_valid h e) [
        | inl k ↦ elim (ec_blank_or (ec s t)) [
          | inl none ↦ vacant (inl none)
          | inr some ↦ still h e k some
        ]
        | inr k ↦ (let l = vid_blank in absurd (cc))
      ]

-- a volume-identifier header that wasn't all programmed: it is no member, or the one that it was to be
module _ (s : Sizes) (seq : ℕ) (bs : List (List ℕ)) (of : Leb) (b c t : List ℕ) (n : NoChance s b c t) (e : EcHeader)
    (h : VidHeader) (ec_b : ec s b ≡ ec_read.Valid e) (ec_c : ec s c ≡ ec_read.Valid e) (vid_b : (vid s b ≡ vid_read.Blank) ⊎ (vid s b ≡ vid_read.Valid h))
    (vid_c : vid s c ≡ vid_read.Valid h) (image : e.image_seq ≢ 0 → e.image_seq ≡ seq)
    (mount : IsMount s seq bs of h c) where
  ec_sound' : (f : EcFault) → ec s t ≢ ec_read.Fault f
  ec_sound' = torn_ec s seq b c t n (λ f k. (let l = ec_b in absurd (cc))) (λ f k. (let l = ec_c in absurd (cc)))

  names : (x : List ℕ) → ec s x ≡ ec_read.Valid e → seq_of s x ≢ 0 → seq_of s x ≡ seq
  names x is some = let k : seq_of s x ≡ e.image_seq = ap seq_if is in k ∙ image (λ z. some (k ∙ z))

  image_kept' : seq_of s t ≢ 0 → seq_of s t ≡ seq
  image_kept' = torn_image s seq b c t n (names b ec_b) (names c ec_c)

  pub header_mount : vid s t ≡ vid_read.Valid h → ec s t ≢ ec_read.Blank → IsMount s seq bs of h t
  header_mount valid read =
      let same : header s t ≡ header s c =
      ap (header_if (ec s t)) valid ∙ header_read (ec s t) h read
      ∙ sym (ap (header_if (ec s c)) vid_c ∙ header_read (ec s c) h (λ k. (let l = ec_c in absurd (cc)))) in
      record {
        sound = record {
          no_ec_fault = ec_sound';
          no_vid_fault = λ f used k. (let l = valid in absurd (cc));
          compatible = λ k e i. mount.sound.compatible k (sym (ap if_foreign same) ∙ e) i;
          laid = λ k e i. mount.sound.laid k (sym (ap if_member same) ∙ e) i;
        };
        image = image_kept';
        is = ap if_member same ∙ mount.is;
        named = mount.named;
        above = mount.above;
      }

  pub torn_header : IsVacant s seq t ⊎ IsMount s seq bs of h t
  torn_header = by (vid s t) refl
    where
      by_ec : vid s t ≡ vid_read.Valid h → IsVacant s seq t ⊎ IsMount s seq bs of h t
      by_ec valid = elim (ec_blank_or (ec s t)) [
        | inl none ↦ inl (no_header_vacant s seq t (inl none) ec_sound' image_kept')
        | inr some ↦ inr (header_mount valid some)
      ]

      by : (r : VidRead) → vid s t ≡ r → IsVacant s seq t ⊎ IsMount s seq bs of h t
      by vid_read.Blank k = inl (no_header_vacant s seq t (inr (inl k)) ec_sound' image_kept')
      by vid_read.Corrupt k = inl (no_header_vacant s seq t (inr (inr k)) ec_sound' image_kept')
      by (vid_read.Fault f) k = elim (n.vid_fault f k) [
        | inl l ↦ elim vid_b [ inl w ↦ absurd (cc) | inr w ↦ absurd (cc) ]
        | inr l ↦ (let w = vid_c in absurd (cc))
      ]
      by (vid_read.Valid x) k = elim (n.vid_valid x k) [
        | inl l ↦ elim vid_b [ inl w ↦ absurd (cc) | inr w ↦ by_ec (k ∙ sym l ∙ w) ]
        | inr l ↦ by_ec (k ∙ sym l ∙ vid_c)
      ]

-- what has the same headers as a mount is one
pub mount_by : (s : Sizes) (seq : ℕ) (bs : List (List ℕ)) (of : Leb) (h : VidHeader) (c t : List ℕ) → ec s t ≡ ec s c
    → vid s t ≡ vid s c → IsMount s seq bs of h c → IsMount s seq bs of h t
mount_by s seq bs of h c t same_ec same_vid mount =
    let same : header s t ≡ header s c = ap₂ header_if same_ec same_vid in
    let here : seq_of s t ≡ seq_of s c = ap seq_if same_ec in
    record {
      sound = record {
        no_ec_fault = λ f k. mount.sound.no_ec_fault f (sym same_ec ∙ k);
        no_vid_fault = λ f used k. mount.sound.no_vid_fault f (λ z. used (same_ec ∙ z)) (sym same_vid ∙ k);
        compatible = λ k e i. mount.sound.compatible k (sym (ap if_foreign same) ∙ e) i;
        laid = λ k e i. mount.sound.laid k (sym (ap if_member same) ∙ e) i;
      };
      image = λ some. here ∙ mount.image (λ z. some (here ∙ z));
      is = ap if_member same ∙ mount.is;
      named = mount.named;
      above = mount.above;
    }

-- as many bytes as before
pub clears_length : (xs ys : List ℕ) → only_clears xs ys ≡ true → length xs ≡ length ys
clears_length [] [] a = refl
clears_length [] (y ∷ ys) a = absurd (cc)
clears_length (x ∷ xs) [] a = absurd (cc)
clears_length (x ∷ xs) (y ∷ ys) a = ap suc (clears_length xs ys (and_parts (bit_and x y == y) (only_clears xs ys) a).1)
