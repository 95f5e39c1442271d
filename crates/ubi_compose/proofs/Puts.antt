-- Eraseblocks that are laid in order.
use Rattle.ubi_compose.proofs.Prelude.{◌≡◌, ℕ, ◌+◌, List, [], ◌∷◌, ◌++◌, ◌<◌, get_or, length, map, replicate, take, append_assoc, append-nil, arith, length-append, ap, sym, ◌∙◌, zero-add, range_with_len, flat_map-append, take_more, length-map-range_with_len, flat_map-map, Sizes, data_pad, usable, plain, VolumeRecord, VidHeader, pieces_more, pieces, share, Meant, Content, Volume, composed, spare, Laid, laid_blocks, damaged_block, dynamic_block, laid_bytes, layout_block, new_ec, normal_bytes, static_block, static_blocks, volume_blocks}
use Rattle.std.specs.FinMap as finite
use Rattle.std.specs.List.{flat_map}
use Rattle.ubi_media.specs.declared.vid.VolKind.TheVariants as kind
use Rattle.ubi_volume.specs.declared.content.Content.TheVariants as content

-- one more behind the others
pub put_more : (f : ℕ → List ℕ) (n : ℕ) (front image next x : List ℕ) → image ≡ front ++ flat_map f (range_with_len 0 n)
    → next ≡ image ++ x → x ≡ f n
    → next ≡ front ++ flat_map f (range_with_len 0 (n + 1))
put_more f n front image next x before put is =
    let done : List ℕ = flat_map f (range_with_len 0 n) in
    put ∙ ap (λ i. i ++ x) before ∙ append_assoc front done x
    ∙ ap (λ r. front ++ r) (ap (λ y. done ++ y) is ∙ sym (pieces_more f 0 n n (zero-add n)))

-- the eraseblock of a share of a static text
pub static_is : (s : Sizes) (seq : ℕ) (pad size vol used lnum : ℕ) (h : VidHeader) (text part : List ℕ)
    → h ≡ (static_block pad vol used lnum part).header
    → part ≡ share size text lnum → laid_bytes s (new_ec seq) (record { header = h; text = part })
    ≡ laid_bytes s (new_ec seq) (static_block pad vol used lnum (share size text lnum))
static_is s seq pad size vol used lnum h text part header is =
    ap (λ x. laid_bytes s (new_ec seq) (record { header = x; text = part })) header
    ∙ ap (λ t. laid_bytes s (new_ec seq) (static_block pad vol used lnum t)) is

-- all shares of a static text
pub static_all : (s : Sizes) (seq : ℕ) (pad size vol used n : ℕ) (text : List ℕ) → used ≡ pieces size (length text) → n ≡ used
    → flat_map (λ l. laid_bytes s (new_ec seq) (static_block pad vol used l (share size text l))) (range_with_len 0 n)
    ≡ flat_map (laid_bytes s (new_ec seq)) (static_blocks pad size vol text)
static_all s seq pad size vol used n text all last =
    rw (last, all)
    (sym (flat_map-map (laid_bytes s (new_ec seq))
    (λ l. static_block pad vol (pieces size (length text)) l (share size text l))
    (range_with_len 0 (pieces size (length text)))))

-- the eraseblocks of the entries of a list
abbrev pub dynamic_bytes : Sizes → ℕ → ℕ → ℕ → List (ℕ × List ℕ) → List ℕ
dynamic_bytes s seq pad vol es = flat_map (laid_bytes s (new_ec seq)) (map (dynamic_block pad vol) es)

-- the next of them is there, and the others are to come
pub put_next : (s : Sizes) (seq : ℕ) (pad vol lnum : ℕ) (text image next all : List ℕ) (h : VidHeader) (es fs : List (ℕ × List ℕ))
    → es ≡ (lnum, text) ∷ fs
    → h ≡ plain kind.Dynamic 0 pad vol lnum → next ≡ image ++ laid_bytes s (new_ec seq) (record { header = h; text = text })
    → image ++ dynamic_bytes s seq pad vol es ≡ all → next ++ dynamic_bytes s seq pad vol fs ≡ all
put_next s seq pad vol lnum text image next all h es fs e header put before =
    let here : List ℕ = laid_bytes s (new_ec seq) (dynamic_block pad vol (lnum, text)) in
    let rest : List ℕ = dynamic_bytes s seq pad vol fs in
    ap (λ x. x ++ rest) (put ∙ ap (λ x. image ++ laid_bytes s (new_ec seq) (record { header = x; text = text })) header)
    ∙ append_assoc image here rest ∙ ap (λ x. image ++ dynamic_bytes s seq pad vol x) (sym e) ∙ before

-- the one eraseblock of a damaged volume
pub damaged_is : (s : Sizes) (seq : ℕ) (vol : ℕ) (r : VolumeRecord) (c : Content) (pad : ℕ) (h : VidHeader) → pad ≡ data_pad s r
    → h ≡ (damaged_block pad vol).header → c ≡ content.Damaged
    → laid_bytes s (new_ec seq) (record { header = h; text = [] }) ≡ flat_map (laid_bytes s (new_ec seq)) (volume_blocks s vol r c)
damaged_is s seq vol r c pad h padding header is =
    ap (λ x. laid_bytes s (new_ec seq) (record { header = x; text = [] })) header
    ∙ ap (λ n. laid_bytes s (new_ec seq) (damaged_block n vol)) padding
    ∙ sym (append-nil (laid_bytes s (new_ec seq) (damaged_block (data_pad s r) vol)))
    ∙ ap (λ x. flat_map (laid_bytes s (new_ec seq)) (volume_blocks s vol r x)) (sym is)

-- the eraseblocks of one volume more
pub blocks_more : (s : Sizes) (es : List (ℕ × Volume)) (i : ℕ) (d : ℕ × Volume) → i < length es
    → laid_blocks s (take (i + 1) es) ≡ laid_blocks s (take i es)
    ++ volume_blocks s (get_or es i d).0 (get_or es i d).1.entry (get_or es i d).1.content
blocks_more s es i d inside =
    let f = λ (e : ℕ × Volume). volume_blocks s e.0 e.1.entry e.1.content in
    ap (flat_map f) (take_more es i d inside) ∙ flat_map-append f (take i es) (get_or es i d ∷ [])
    ∙ ap (λ x. flat_map f (take i es) ++ x) (append-nil (f (get_or es i d)))

-- so there are as many more as it has
pub count_more : (s : Sizes) (es : List (ℕ × Volume)) (i : ℕ) (e : ℕ × Volume) (count n : ℕ) → i < length es
    → e ≡ get_or es i e → n ≡ length (volume_blocks s e.0 e.1.entry e.1.content)
    → count ≡ 2 + length (laid_blocks s (take i es)) → count + n ≡ 2 + length (laid_blocks s (take (i + 1) es))
count_more s es i e count n inside is own before =
    let blocks : List Laid = volume_blocks s (get_or es i e).0 (get_or es i e).1.entry (get_or es i e).1.content in
    let here : n ≡ length blocks = own
    ∙ ap (λ (x : ℕ × Volume). length (volume_blocks s x.0 x.1.entry x.1.content)) is in
    let more : length (laid_blocks s (take (i + 1) es)) ≡ length (laid_blocks s (take i es)) + length blocks =
    ap length (blocks_more s es i e inside) ∙ length-append (laid_blocks s (take i es)) blocks in
    omega arith

-- how many a static text has
pub static_count : (s : Sizes) (vol : ℕ) (r : VolumeRecord) (c : Content) (text : List ℕ) → c ≡ content.Static text
    → pieces (usable s r) (length text) ≡ length (volume_blocks s vol r c)
static_count s vol r c text is =
    let used : ℕ = pieces (usable s r) (length text) in
    sym (length-map-range_with_len (λ lnum. static_block (data_pad s r) vol used lnum (share (usable s r) text lnum)) 0
    used)
    ∙ ap (λ x. length (volume_blocks s vol r x)) (sym is)

-- the table, the volumes and the spares, in order
pub composed_pieces : (m : Meant) (spares : ℕ)
    → (([] ++ laid_bytes m.sizes (new_ec m.image_seq) (layout_block m 0)) ++ laid_bytes m.sizes (new_ec m.image_seq) (layout_block m 1))
    ++ flat_map (laid_bytes m.sizes (new_ec m.image_seq)) (laid_blocks m.sizes (finite.entries m.volumes))
    ++ flat_map (λ b. b) (replicate spares (spare m.sizes m.image_seq)) ≡ composed m spares
unfolding normal_bytes
composed_pieces m spares =
    let first : List ℕ = laid_bytes m.sizes (new_ec m.image_seq) (layout_block m 0) in
    let second : List ℕ = laid_bytes m.sizes (new_ec m.image_seq) (layout_block m 1) in
    let rest : List ℕ = flat_map (laid_bytes m.sizes (new_ec m.image_seq)) (laid_blocks m.sizes (finite.entries m.volumes)) in
    ap (λ x. x ++ flat_map (λ b. b) (replicate spares (spare m.sizes m.image_seq))) (append_assoc first second rest)
