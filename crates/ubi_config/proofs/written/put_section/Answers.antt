use Rattle.ubi_config.proofs.Prelude.{◌++◌, [], ◌∷◌, codes, List, ℕ, decimal, bytes_reserved, flag_lines, kind_word, path_of, quoted, title}
use Rattle.ubi_config.proofs.Texts.{then_lines}
use Rattle.ubi_config.proofs.written.put_section.Goals as goal

pub returns : goal.returns
returns c =
    let v = c.args.volume.now in
    let id = rw c.from.ensures at c.in_ok-put_number_line.ensures in
    let sort = rw c.kind_word.ensures at c.in_ok-put_line-2.ensures in
    let name = rw c.as_bytes.ensures.value at c.in_ok-put_value_line.ensures in
    let size = rw c.bytes_reserved.ensures at c.in_ok-put_number_line-2.ensures in
    let alignment = rw c.from-2.ensures at c.in_ok-put_number_line-3.ensures in
    let image = rw c.path_of.ensures at c.in_ok-put_value_line-2.ensures in
    let l0 : List (List ℕ) = [] ∷ (codes "[" ++ title v.id ++ codes "]") ∷ [] in
    let l1 : List (List ℕ) = codes "mode=ubi" ∷ [] in
    let l2 : List (List ℕ) = (codes "vol_id=" ++ decimal v.id) ∷ [] in
    let l3 : List (List ℕ) = (codes "vol_type=" ++ kind_word v.entry.kind) ∷ [] in
    let l4 : List (List ℕ) = (codes "vol_name=" ++ quoted v.entry.name) ∷ [] in
    let l5 : List (List ℕ) = (codes "vol_size=" ++ decimal (bytes_reserved c.args.geometry.now v.entry)) ∷ [] in
    let l6 : List (List ℕ) = (codes "vol_alignment=" ++ decimal v.entry.alignment) ∷ [] in
    let l7 : List (List ℕ) = (codes "image=" ++ quoted (path_of v)) ∷ [] in
    then_lines _ _ _ (l0 ++ l1 ++ l2 ++ l3 ++ l4 ++ l5 ++ l6 ++ l7) (flag_lines v.entry.flags)
    (then_lines _ _ _ (l0 ++ l1 ++ l2 ++ l3 ++ l4 ++ l5 ++ l6) l7
    (then_lines _ _ _ (l0 ++ l1 ++ l2 ++ l3 ++ l4 ++ l5) l6
    (then_lines _ _ _ (l0 ++ l1 ++ l2 ++ l3 ++ l4) l5
    (then_lines _ _ _ (l0 ++ l1 ++ l2 ++ l3) l4
    (then_lines _ _ _ (l0 ++ l1 ++ l2) l3
    (then_lines _ _ _ (l0 ++ l1) l2
    (then_lines _ _ _ l0 l1 c.in_ok-put_heading.ensures c.in_ok-put_line.ensures)
    id) sort) name) size) alignment) image) c.in_ok-put_flags.ensures
