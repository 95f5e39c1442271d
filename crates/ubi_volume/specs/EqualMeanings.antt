-- When meanings are equal.
use Rattle.std.specs.Prelude.{Bool, ◌==◌, ◌&&◌}
use Rattle.std.specs.Cmp.{IsPartialEquivalence, and_per, nat_eq_equiv, on_per, partial_equiv_from_equiv}
use Rattle.std.specs.Cmp.Lexicographic.{lists_per, pointwise}
use Rattle.std.specs.FinMap.{entries}
use Rattle.ubi_media.specs.contracts.geometry.GeometryPartialEq.TheImpl as geometry_eq
use Rattle.ubi_media.specs.contracts.geometry.GeometryPartialEq.TheImpl.Laws as geometry_laws
use Rattle.ubi_volume.specs.contracts.content.VolumePartialEq.TheImpl as volume_eq
use Rattle.ubi_volume.specs.contracts.content.VolumePartialEq.TheImpl.Laws as volume_laws
use Rattle.ubi_volume.specs.Meant.{Meant}

-- their sizes and image sequence numbers are equal, and the numbers, the records and the contents of their volumes
abbrev pub same_meaning : Meant → Meant → Bool
same_meaning a b =
    (geometry_eq.ghosts).eq a.sizes b.sizes
    && (a.image_seq == b.image_seq)
    && pointwise (λ p q. (p.0 == q.0) && (volume_eq.ghosts).eq p.1 q.1) (entries a.volumes) (entries b.volumes)

-- this equality is symmetric and transitive
pub same_meaning_per : IsPartialEquivalence same_meaning
same_meaning_per =
    and_per (and_per (on_per (λ m. m.sizes) geometry_laws.laws-law)
    (on_per (λ m. m.image_seq) (partial_equiv_from_equiv nat_eq_equiv)))
    (on_per (λ m. entries m.volumes) (lists_per (and_per (on_per (λ p. p.0) (partial_equiv_from_equiv nat_eq_equiv)) (on_per (λ p. p.1) volume_laws.laws-law))))
