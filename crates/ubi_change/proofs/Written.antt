-- What the eraseblocks that the steps of a plan leave are: blank, with only an erase-counter header, or with a part of
-- a copy.
use Rattle.ubi_change.proofs.Prelude.{◌≡◌, ◌≢◌, ℕ, ◌+◌, ◌-◌, ◌*◌, ◌<◌, ◌≤◌, true, not, List, ◌++◌, length, take, refl, ap, ap₂, sym, ◌∙◌, subst, arith, None, Some, ◌==◌, ◌||◌, option_map, then_some, take_at, take-replicate, length-take-le, take-append-add, same_Some, crc_of, ec_reading, blank, filled, Sizes, IsGeometry, vid_bytes, vid_fault, vid_reading, VidFits, EcHeader, VidHeader, fields_fit, vid_read_back, one_vid_reading, IsMislaid, ec, leb, vid, vid_area, IsMember, Leb, foreign, foreign_if, has_members, is_good, is_right, leb_of, member, member_if, sqnum_at, seq_if, seq_of, torn, behind, filled-by, filled-is, blank_ec, blank_vid, ec-laid, laid, leb-laid, vid-laid}
use Rattle.ubi_media.specs.declared.ec.EcRead.TheVariants as ec_read
use Rattle.ubi_media.specs.declared.vid.VidRead.TheVariants as vid_read
use Rattle.ubi_change.proofs.Mounted.{IsMount}
use Rattle.ubi_change.proofs.Vacated.{IsVacant}

module _ (s : Sizes) (g : IsGeometry s) where
  -- a blank eraseblock
  pub ec-blank : ec s (blank s.peb_size) ≡ ec_read.Blank
  ec-blank = ap (ec_reading s) (take-replicate 64 s.peb_size 255 (omega (arith, g.page_from, g.peb_from))) ∙ blank_ec s

  member-blank : member s (blank s.peb_size) ≡ None
  member-blank = ap (λ e. member_if e (vid s (blank s.peb_size))) ec-blank

  foreign-blank : foreign s (blank s.peb_size) ≡ None
  foreign-blank = ap (λ e. foreign_if e (vid s (blank s.peb_size))) ec-blank

  pub blank-vacant : (seq : ℕ) → IsVacant s seq (blank s.peb_size)
  blank-vacant seq = record {
    sound = record {
      no_ec_fault = λ f e. let is = ec-blank in cc;
      no_vid_fault = λ f used e. used ec-blank;
      compatible = λ h e k. let is = foreign-blank in cc;
      laid = λ h e k. let is = member-blank in cc;
    };
    nameless = ap (option_map leb_of) member-blank;
    image = λ h. absurd (h (ap seq_if ec-blank));
  }

  -- an eraseblock with an erase-counter header alone
  module _ (bytes : List ℕ) (e : EcHeader) (size : length bytes ≡ 64)
      (reads : ec_reading s bytes ≡ ec_read.Valid e) where
    bare-is : filled s.peb_size bytes ≡ bytes ++ blank (s.peb_size - 64)
    bare-is = filled-by s.peb_size 64 bytes size

    pub ec-bare : ec s (filled s.peb_size bytes) ≡ ec_read.Valid e
    ec-bare = ap (λ b. ec_reading s (take 64 b)) bare-is
        ∙ ap (ec_reading s) (take_at bytes (blank (s.peb_size - 64)) 64 size) ∙ reads

    pub vid-bare : vid s (filled s.peb_size bytes) ≡ vid_read.Blank
    vid-bare =
        ap (λ b. vid_reading s (vid_area s b)) bare-is
        ∙ ap (vid_reading s) (behind bytes (s.peb_size - 64) s.vid_offset 64 (omega (arith, size, g.vid_from))
        (omega (arith, size, g.vid_from, g.data_from, g.leb)))
        ∙ blank_vid s

    member-bare : member s (filled s.peb_size bytes) ≡ None
    member-bare = ap₂ member_if ec-bare vid-bare

    foreign-bare : foreign s (filled s.peb_size bytes) ≡ None
    foreign-bare = ap₂ foreign_if ec-bare vid-bare

    pub bare-seq : seq_of s (filled s.peb_size bytes) ≡ e.image_seq
    bare-seq = ap seq_if ec-bare

    pub bare-vacant : (seq : ℕ) → (e.image_seq ≢ 0 → e.image_seq ≡ seq) → IsVacant s seq (filled s.peb_size bytes)
    bare-vacant seq image = record {
      sound = record {
        no_ec_fault = λ f k. let is = ec-bare in cc;
        no_vid_fault = λ f used k. let is = vid-bare in cc;
        compatible = λ h k i. let is = foreign-bare in cc;
        laid = λ h k i. let is = member-bare in cc;
      };
      nameless = ap (option_map leb_of) member-bare;
      image = subst (λ (q : ℕ). q ≢ 0 → q ≡ seq) (sym (ap seq_if ec-bare)) image;
    }

    -- with a volume-identifier header and some text
    module _ (h : VidHeader) (fits : VidFits h) (sound : vid_fault s h ≡ None) (known : has_members h.vol_id ≡ true)
        (placed : IsMislaid h → ⊥)
        (text : List ℕ) (room : s.data_offset + length text ≤ s.peb_size) where
      abbrev part : List ℕ
      part = laid s bytes (vid_bytes h) text

      vid_size : length (vid_bytes h) ≡ 64
      vid_size = refl

      pub ec-part : ec s part ≡ ec_read.Valid e
      ec-part = ap (ec_reading s) (ec-laid s g bytes (vid_bytes h) size vid_size text room) ∙ reads

      pub vid-part : vid s part ≡ vid_read.Valid h
      vid-part =
          ap (vid_reading s) (vid-laid s g bytes (vid_bytes h) size vid_size text room)
          ∙ sym ((one_vid_reading s (vid_bytes h) (vid_read.Valid h)).0 (vid_read_back s h (fields_fit h fits) sound))

      member-part : member s part ≡ Some h
      member-part = ap₂ member_if ec-part vid-part ∙ ap (λ b. then_some b h) known

      foreign-part : foreign s part ≡ None
      foreign-part = ap₂ foreign_if ec-part vid-part ∙ ap (λ b. then_some (not b) h) known

      pub leb-part : leb s part ≡ text ++ blank (s.peb_size - (s.data_offset + length text))
      leb-part = leb-laid s g bytes (vid_bytes h) size vid_size text room

      -- it names the image that its erase-counter header names
      pub seq-part : seq_of s part ≡ e.image_seq
      seq-part = ap seq_if ec-part

      pub part-mount : (seq : ℕ) (bs : List (List ℕ)) (of : Leb) → (e.image_seq ≢ 0 → e.image_seq ≡ seq) → leb_of h ≡ of
          → ((other : Leb) (q : ℕ) → IsMember s bs other q → sqnum_at s bs q < h.sqnum) → IsMount s seq bs of h part
      part-mount seq bs of image named above = record {
        sound = record {
          no_ec_fault = λ f k. let is = ec-part in cc;
          no_vid_fault = λ f used k. let is = vid-part in cc;
          compatible = λ h k i. let is = foreign-part in cc;
          laid = λ k e i. placed (subst IsMislaid (same_Some k h (sym e ∙ member-part)) i);
        };
        image = subst (λ (q : ℕ). q ≢ 0 → q ≡ seq) (sym (ap seq_if ec-part)) image;
        is = member-part;
        named = named;
        above = above;
      }

-- whether a part of a copy is good
-- a list's front with 0xFF behind it, cut to a length
pub take_filled : (n : ℕ) (xs : List ℕ) (k : ℕ) → length xs ≤ n → n ≤ length xs + k
    → take n (xs ++ blank k) ≡ filled n xs
take_filled n xs k h l =
    let e : n ≡ length xs + (n - length xs) = omega arith in
    ap (λ m. take m (xs ++ blank k)) e ∙ take-append-add xs (blank k) (n - length xs)
    ∙ ap (λ ys. xs ++ ys) (take-replicate (n - length xs) k 255 (omega arith)) ∙ sym (filled-is n xs)

pub part-good : (s : Sizes) (x : List ℕ) (h : VidHeader) (new : List ℕ) (j k : ℕ) → h.copy_flag ≡ true
    → h.data_size ≡ length new → h.data_crc ≡ crc_of new
    → j * s.page ≤ length new → leb s x ≡ take (j * s.page) new ++ blank k → length new ≤ j * s.page + k
    → is_good s x h ≡ (crc_of (torn s new j) == crc_of new)
part-good s x h new j k copied size crc inside text room =
    let front : length (take (j * s.page) new) ≡ j * s.page = length-take-le (j * s.page) new inside in
    let cut : take h.data_size (leb s x) ≡ torn s new j =
    ap₂ take size text ∙ take_filled (length new) (take (j * s.page) new) k (omega arith) (omega arith) in
    ap (λ b. not b || is_right s x h) copied ∙ ap₂ (λ u v. crc_of u == v) cut crc
