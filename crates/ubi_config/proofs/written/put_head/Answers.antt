use Rattle.ubi_config.proofs.Prelude.{◌++◌, ◌∙◌, codes, List, ℕ, decimal, head}
use Rattle.ubi_config.proofs.Texts.{then_more}
use Rattle.ubi_config.proofs.written.put_head.Goals as goal

pub returns : goal.returns
unfolding head
returns c =
    let s = c.args.geometry.now in
    let peb = rw (c.from-peb_size.ensures ∙ c.peb_size.ensures.value) at c.in_ok-put_number.ensures in
    let page = rw (c.from.ensures ∙ c.page.ensures.value) at c.in_ok-put_number-2.ensures in
    let vid = rw (c.from-2.ensures ∙ c.vid_offset.ensures.value) at c.in_ok-put_number-3.ensures in
    let data_at = rw (c.from-3.ensures ∙ c.data_offset.ensures.value) at c.in_ok-put_number-4.ensures in
    let pebs = rw (c.from-4.ensures ∙ c.pebs.ensures.value) at c.in_ok-put_number-5.ensures in
    let seq = rw c.from-5.ensures at c.in_ok-put_number-6.ensures in
    let a : List ℕ = codes "# ubi_tool build ubi.ini --out IMAGE --peb " ++ decimal s.peb_size in
    let b : List ℕ = codes " --page " ++ decimal s.page in
    let d : List ℕ = codes " --vid " ++ decimal s.vid_offset in
    let e : List ℕ = codes " --data " ++ decimal s.data_offset in
    let f : List ℕ = codes " --pebs " ++ decimal s.pebs in
    let g : List ℕ = codes " --seq " ++ decimal c.args.image_seq in
    then_more _ _ _ (a ++ b ++ d ++ e ++ f ++ g) (codes "\n")
    (then_more _ _ _ (a ++ b ++ d ++ e ++ f) g
    (then_more _ _ _ (a ++ b ++ d ++ e) f
    (then_more _ _ _ (a ++ b ++ d) e (then_more _ _ _ (a ++ b) d (then_more _ _ _ a b peb page) vid) data_at) pebs) seq)
    c.in_ok-put_word.ensures
