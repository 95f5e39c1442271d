-- The fields in which two records differ.
use Rattle.ubi_compare.proofs.Prelude.{◌≡◌, ℕ, ◌==◌, true, List, [], ◌++◌, refl, false≢true, unsigned_Decides, same_bytes, VolumeRecord, VolKind, bytes_Decides, record_differences, same_kind, unless, Difference, Found, Adds}
use Rattle.ubi_media.specs.declared.vid.VolKind.TheVariants as kind
use Rattle.ubi_compare.proofs.Adding.{adds_more}
use Rattle.ubi_compare.proofs.NoDifferences.{both_none, none_both, none_unless, unless_none}
use Rattle.ubi_compare.specs.declared.difference.Difference.TheVariants as difference

kind_is : (a b : VolKind) → same_kind a b ≡ true → a ≡ b
kind_is kind.Dynamic kind.Dynamic same = refl
kind_is kind.Static kind.Static same = refl
kind_is kind.Dynamic kind.Static same = absurd (false≢true same)
kind_is kind.Static kind.Dynamic same = absurd (false≢true same)

kind_itself : (a : VolKind) → same_kind a a ≡ true
kind_itself kind.Dynamic = refl
kind_itself kind.Static = refl

pub text_itself : (t : List ℕ) → same_bytes t t ≡ true
text_itself t = (bytes_Decides t t).1 refl

pub number_itself : (n : ℕ) → (n == n) ≡ true
number_itself n = (unsigned_Decides n n).1 refl

-- the same record, but for the marker
pub record IsOneRecord (r q : VolumeRecord) : Type 0 where
  pub kind : r.kind ≡ q.kind
  pub reserved : r.reserved ≡ q.reserved
  pub alignment : r.alignment ≡ q.alignment
  pub flags : r.flags ≡ q.flags
  pub name : r.name ≡ q.name

module _ (id : ℕ) (r q : VolumeRecord) where
  abbrev pub kinds : List Difference
  kinds = unless (same_kind r.kind q.kind) (difference.Kind id r.kind q.kind)

  abbrev pub reserves : List Difference
  reserves = unless (r.reserved == q.reserved) (difference.Reserved id r.reserved q.reserved)

  abbrev pub alignments : List Difference
  alignments = unless (r.alignment == q.alignment) (difference.Alignment id r.alignment q.alignment)

  abbrev pub flags : List Difference
  flags = unless (r.flags == q.flags) (difference.Flags id r.flags q.flags)

  abbrev pub names : List Difference
  names = unless (same_bytes r.name q.name) (difference.Name id r.name q.name)

  pub one_record : record_differences id r q ≡ [] → IsOneRecord r q
  one_record none =
      let a = both_none (kinds ++ reserves ++ alignments ++ flags) names none in
      let b = both_none (kinds ++ reserves ++ alignments) flags a.0 in
      let c = both_none (kinds ++ reserves) alignments b.0 in
      let d = both_none kinds reserves c.0 in
      record {
        kind = kind_is r.kind q.kind (unless_none _ _ d.0);
        reserved = (unsigned_Decides r.reserved q.reserved).0 (unless_none _ _ d.1);
        alignment = (unsigned_Decides r.alignment q.alignment).0 (unless_none _ _ c.1);
        flags = (unsigned_Decides r.flags q.flags).0 (unless_none _ _ b.1);
        name = (bytes_Decides r.name q.name).0 (unless_none _ _ a.1);
      }

pub record_itself : (id : ℕ) (r : VolumeRecord) → record_differences id r r ≡ []
record_itself id r =
    none_both (kinds id r r ++ reserves id r r ++ alignments id r r ++ flags id r r) (names id r r)
    (none_both (kinds id r r ++ reserves id r r ++ alignments id r r) (flags id r r)
    (none_both (kinds id r r ++ reserves id r r) (alignments id r r)
    (none_both (kinds id r r) (reserves id r r)
    (none_unless _ (difference.Kind id r.kind r.kind) (kind_itself r.kind))
    (none_unless _ (difference.Reserved id r.reserved r.reserved) (number_itself r.reserved)))
    (none_unless _ (difference.Alignment id r.alignment r.alignment) (number_itself r.alignment)))
    (none_unless _ (difference.Flags id r.flags r.flags) (number_itself r.flags)))
    (none_unless _ (difference.Name id r.name r.name) (text_itself r.name))

-- they are found one after the other
pub adds_records : (id : ℕ) (r q : VolumeRecord) (f k e a l n : Found) → Adds f k (kinds id r q) → Adds k e (reserves id r q)
    → Adds e a (alignments id r q) → Adds a l (flags id r q) → Adds l n (names id r q)
    → Adds f n (record_differences id r q)
adds_records id r q f k e a l n kind reserve align flag name =
    adds_more f l n (kinds id r q ++ reserves id r q ++ alignments id r q ++ flags id r q) (names id r q)
    (adds_more f a l (kinds id r q ++ reserves id r q ++ alignments id r q) (flags id r q)
    (adds_more f e a (kinds id r q ++ reserves id r q) (alignments id r q)
    (adds_more f k e (kinds id r q) (reserves id r q) kind reserve) align) flag) name
