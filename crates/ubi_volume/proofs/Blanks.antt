-- Bytes that are 0xFF throughout.
use Rattle.ubi_volume.proofs.Prelude.{◌≡◌, ◌≢◌, ℕ, ◌+◌, ◌-◌, ◌/◌, ◌<◌, ◌≤◌, ◌==◌, ◌&&◌, ◌++◌, Bool, true, false, List, take, drop, length, ap, sym, ◌∙◌, subst, arith, refl, IfSome, IsTrue, None, Option, Some, if◌then◌else◌, drop-drop, drop-take, same_lists, length-replicate, get_or-replicate, take-append-drop, take-take, list_all-append, All-replicate, blank, is_blank, IsBlank, blank_of, not_blank_of, Sizes, leb_size, block, leb, Agreed, IsSource, Source, blocks_in, blocks_of, length-leb, leb_bytes}
use Rattle.std.specs.Prelude.{not, slice_range}
use Rattle.std.proofs.lemmas.List.{length-take-le}

pub not_true : (b : Bool) → true ≡ not b → b ≡ false
not_true true e = absurd (cc)
not_true false e = refl

pub not_false : (b : Bool) → false ≡ not b → b ≡ true
not_false true e = refl
not_false false e = absurd (cc)

pub blank_text : (text : List ℕ) (n : ℕ) → is_blank text ≡ true → length text ≡ n → text ≡ blank n
blank_text text n e size =
    let each : IsBlank text = blank_of text e in
    same_lists text (blank n) (size ∙ sym (length-replicate n 255))
    (λ k d l. each k d l ∙ sym (get_or-replicate n k 255 d (omega arith)))

pub other_text : (text : List ℕ) (n : ℕ) → is_blank text ≡ false → text ≢ blank n
other_text text n e same = not_blank_of text e
    (subst IsBlank (sym same) (All-replicate (λ byte. byte ≡ 255) n 255 refl))

-- bytes that are kept unless they are blank
pub kept_reads : (b : Bool) (text bytes : List ℕ) (n : ℕ) → b ≡ is_blank text → text ≡ bytes → length text ≡ n
    → bytes ≡ (if not b then text else blank n)
kept_reads true text bytes n e same long = sym same ∙ blank_text text n (sym e) long
kept_reads false text bytes n e same long = sym same

pub kept_some : (b : Bool) (text : List ℕ) (n : ℕ) → b ≡ is_blank text → IsTrue (not b) → text ≢ blank n
kept_some true text n e h = absurd (cc)
kept_some false text n e h = other_text text n (sym e)

-- n bytes of an eraseblock from a place on, and the first of them
pub part_is : (b : List ℕ) (start n : ℕ) → slice_range b start (start + n) ≡ take n (drop start b)
part_is b start n = ap (λ k. take k (drop start b)) (omega arith)

pub part_first : (b first : List ℕ) (start a : ℕ) → first ≡ slice_range b start (start + a)
    → first ≡ slice_range (drop start b) 0 a
part_first b first start a is = is ∙ part_is b start a ∙ ap (λ k. take k (drop start b)) (omega arith)

-- bytes of which the front isn't blank
module _ (leb first : List ℕ) (n a : ℕ) (short : a ≤ n) (read : first ≡ slice_range leb 0 a) where
  front : take a (take n leb) ≡ first
  front = take-take a n leb short ∙ ap (λ k. take k leb) (omega arith) ∙ sym read

  halves : take n leb ≡ first ++ drop a (take n leb)
  halves = sym (take-append-drop a (take n leb)) ∙ ap (λ xs. xs ++ drop a (take n leb)) front

  parts : is_blank (take n leb) ≡ (is_blank first && is_blank (drop a (take n leb)))
  parts = ap is_blank halves ∙ list_all-append (λ byte. byte == 255) first (drop a (take n leb))

  pub front_holds : is_blank first ≡ false → is_blank (take n leb) ≡ false
  front_holds e = parts ∙ ap (λ b. b && is_blank (drop a (take n leb))) e

  pub whole_front : a ≡ n → is_blank (take n leb) ≡ is_blank first
  whole_front same = ap is_blank (ap (λ k. take k leb) (sym same) ∙ sym (take-take a n leb short) ∙ front)

  -- and of which it is, with the rest
  pub rest_holds : (rest : List ℕ) → is_blank first ≡ true → rest ≡ take (n - a) (drop a leb)
      → is_blank (take n leb) ≡ is_blank rest
  rest_holds rest e is =
      let same : n ≡ a + (n - a) = omega arith in
      let behind : drop a (take n leb) ≡ rest = ap (λ k. drop a (take k leb)) same ∙ drop-take a (n - a) leb ∙ sym is in
      parts ∙ ap (λ b. b && is_blank (drop a (take n leb))) e ∙ ap is_blank behind

pub blank_holds : (n : ℕ) → is_blank (blank n) ≡ true
blank_holds n = by_cases (is_blank (blank n)) refl
  where
    by_cases : (b : Bool) → is_blank (blank n) ≡ b → b ≡ true
    by_cases true e = refl
    by_cases false e = absurd (other_text (blank n) n e refl)

-- what was read of an eraseblock behind the first a of n bytes from a place on
pub rest_of_leb : (b rest : List ℕ) (d a m n k : ℕ) → k ≡ d + a → m ≡ n - a → rest ≡ slice_range b k (k + m)
    → rest ≡ take (n - a) (drop a (drop d b))
rest_of_leb b rest d a m n k at long is =
    is ∙ ap (λ x. take x (drop k b)) (omega (arith, long)) ∙ ap (λ x. take (n - a) (drop x b)) at
    ∙ ap (take (n - a)) (sym (drop-drop a d b))

-- as many bytes stand at a place as are asked for
pub leb_long : (s : Sizes) (k : Source) (agrees : Agreed) (is : IsSource k agrees) (bytes : List ℕ) (holds : agrees bytes) (n : ℕ)
    (place : Option ℕ) → IfSome place (λ p. p < blocks_in s k) → n ≤ leb_size s → length (leb_bytes s n place bytes) ≡ n
leb_long s k agrees is bytes holds n None inside short = length-replicate n 255
leb_long s k agrees is bytes holds n (Some p) inside short =
    let below : p < length bytes / s.peb_size = subst (λ (m : ℕ). p < m / s.peb_size) (sym (is.sized bytes holds)) inside in
    length-take-le n (leb s (block (blocks_of s bytes) p)) (let long = length-leb s bytes p below in omega (arith, long))
