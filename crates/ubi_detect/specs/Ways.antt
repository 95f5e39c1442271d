-- The pages that eraseblocks of a size may have, with out-of-band bytes or without.
use Rattle.std.specs.Prelude.{ℕ, ◌+◌, ◌-◌, ◌*◌, ◌/◌, ◌%◌, ◌==◌, ◌&&◌, Bool, List, [], ◌∷◌, Option, filter_map, length, nat_le, nat_lt, option_map}
use Rattle.std.specs.Bool.{then_some}
use Rattle.std.specs.List.{flat_map}
use Rattle.ubi_media.specs.Geometry.{page_sizes}
use Rattle.ubi_media.specs.declared.ec.EcOffsets.{EcOffsets}
use Rattle.ubi_detect.specs.Layout.{geometry_of, is_laid_out, layout_sizes}
use Rattle.ubi_detect.specs.declared.way.Way.{Way}

-- a page without out-of-band bytes
abbrev pub plain_way : ℕ → EcOffsets → ℕ → Option Way
plain_way q o page = option_map (λ s. record { geometry = s; oob = 0 }) (geometry_of q o page)

-- all pages without out-of-band bytes, the least first
abbrev pub plain_ways : ℕ → EcOffsets → List Way
plain_ways q o = filter_map (plain_way q o) page_sizes

-- how many pages an eraseblock with out-of-band bytes may have
abbrev pub page_counts : List ℕ
page_counts = 16 ∷ 32 ∷ 64 ∷ 128 ∷ 256 ∷ 512 ∷ 1024 ∷ 2048 ∷ []

-- a page of at least 256 bytes with out-of-band bytes, if n of both are q bytes: at least one for each page, at most a quarter of it
abbrev pub way_of : ℕ → EcOffsets → ℕ → ℕ → Option Way
way_of q o page n =
    let s = layout_sizes (page * n) o page in
    then_some ((q % n == 0) && nat_lt page (q / n) && nat_le 256 page && nat_le (q / n - page) (page / 4) && is_laid_out s)
    (record { geometry = s; oob = q / n - page })

-- all pages with out-of-band bytes, the least first, and for one page the fewest pages first
abbrev pub ways : ℕ → EcOffsets → List Way
ways q o = flat_map (λ page. filter_map (way_of q o page) page_counts) page_sizes

-- whether there is no page with out-of-band bytes
abbrev pub has_no_way : ℕ → EcOffsets → Bool
has_no_way q o = length (ways q o) == 0

-- where the place x of an eraseblock without its out-of-band bytes stands in one with them
abbrev pub put : Way → ℕ → ℕ
put w x = x / w.geometry.page * (w.geometry.page + w.oob) + x % w.geometry.page
