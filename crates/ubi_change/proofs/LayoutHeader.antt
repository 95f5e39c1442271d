-- The header of a new copy of the table breaks no rule, and its contents can be written under it.
use Rattle.ubi_change.proofs.Prelude.{◌≡◌, ℕ, ◌*◌, ◌/◌, ◌^◌, ◌<◌, ◌≤◌, inl, inr, List, length, refl, arith, None, nat_tests, IsGeometry, Sizes, leb_size, slots, breaks, fields_from, vid_fault, VidFits, EcHeader, check_from-lt, IsMislaid, layout, Records, table_bytes, Meant, layout_header, table_pages, weak_pages, Step, first_fault}
use Rattle.ubi_change.proofs.Copied.{IsCopy}
use Rattle.ubi_change.proofs.CopyReplaced.{IsPrepared}
use Rattle.ubi_change.proofs.Emptied.{AreBelow}
use Rattle.ubi_change.proofs.TablePages.{pages_paged, pages_room, pages_short, pages_some}

module _ (s : Sizes) (g : IsGeometry s) (c sqnum : ℕ) (new : List ℕ) (two : c < 2) (some : 1 ≤ length new)
    (short : length new ≤ leb_size s) where
  wide : leb_size s < 2 ^ 31
  wide = omega (arith, g.peb_to)

  half : 0 < leb_size s / 2
  half = let l = g.leb in omega arith

  pub layout_sound : vid_fault s (layout_header c sqnum new) ≡ None
  unfolding first_fault breaks fields_from
  layout_sound = let w = wide in let h = half in grind (arith, nat_tests)

  pub layout_fits : sqnum < 2 ^ 64 → VidFits (layout_header c sqnum new)
  layout_fits few = record {
    vol_id = omega arith;
    lnum = omega arith;
    data_size = (let w = wide in omega arith);
    used_ebs = omega arith;
    data_pad = omega arith;
    data_crc = check_from-lt 0xFFFFFFFF new (omega arith);
    sqnum = few;
  }

  pub layout_placed : IsMislaid (layout_header c sqnum new) → ⊥
  layout_placed m = elim m.1 [
    | inl far ↦ omega arith
    | inr o ↦ elim o [ inl static ↦ (cc) | inr padded ↦ padded refl ]
  ]

-- so a copy of the table can be written under it
pub layout_copy : (s : Sizes) (g : IsGeometry s) (bs : List (List ℕ)) (m : Meant) (b seq : ℕ) (prep : List Step)
    (bytes : List ℕ) (e : EcHeader) → IsPrepared s bs m b seq prep bytes e → (c sqnum : ℕ) → c < 2 → sqnum < 2 ^ 64
    → AreBelow s bs sqnum → (t : Records) → length (table_bytes t) ≡ slots s * 172
    → weak_pages s (table_pages s t) ≡ None
    → IsCopy s bs seq (layout, c) bytes e (layout_header c sqnum (table_pages s t)) (table_pages s t)
layout_copy s g bs m b seq prep bytes e prepared c sqnum two few above t held strong =
    let new = table_pages s t in
    let some = pages_some s g t held in
    let short = pages_short s g t held in
    record {
      text = record {
        size = prepared.size;
        reads = prepared.reads;
        image = prepared.image;
        fits = layout_fits s g c sqnum new two some short few;
        sound = layout_sound s g c sqnum new two some short;
        known = refl;
        placed = layout_placed s g c sqnum new two some short;
        named = refl;
        above = above;
        paged = pages_paged s g t held;
        room = pages_room s g t held;
      };
      copied = refl;
      data_size = refl;
      data_crc = refl;
      strong = strong;
    }
