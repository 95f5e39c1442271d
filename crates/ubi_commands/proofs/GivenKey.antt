-- What the words of a request say: the volume that they name, what they list as bad, and what they keep.
use Rattle.ubi_commands.proofs.Prelude.{◌≡◌, ◌∙◌, ◌&&◌, ◌||◌, Bool, List, Some, ap, ap₂, false, not, refl, subst, sym, true, true≢false, ℕ, Bor, ForSome, same_Some, find, is_some, option_and_then, option_map, slice_get, bytes_eq, without_leading_plus, Row, Text, first_of, one_of, is_block_list, Asks, AsksAsked, AsksBlank, AsksDump, AsksKey, AsksPlan, HasNumber, HasText, IsRequest, MayHaveText, command_name, gives_word, gives_no_geometry, HasOneVolume, Mean, finds, gives_bytes, gives_part, gives_sizes, plans, reads_dump, takes_geometry, takes_part, Asked, Dump, Plan, Request, VolumeKey, reading_command, inl, inr, ◌⊎◌, AsksFormat, format_word, formats, Format, comparing_command, comparison_format, None, most_number, Option}
use Rattle.std.proofs.Common.{codes, unwrap_or}
use Rattle.ubi_reading.specs.declared.format.Format.TheVariants as told
use Rattle.ubi_reading.specs.declared.comparison.Comparison.TheVariants as comparison
use Rattle.ubi_dumps.specs.declared.asked.Asked.TheVariants as way
use Rattle.ubi_reading.specs.declared.readers.Reading.TheVariants as reading
use Rattle.ubi_commands.specs.declared.requests.Request.TheVariants as request
use Rattle.ubi_writing.specs.declared.volume_key.VolumeKey.TheVariants as key
use Rattle.ubi_commands.proofs.GivenBytes.{bytes_are_text, maybe_bytes_pass, no_geometry_passes, numbers_pass, part_passes}
use Rattle.ubi_commands.proofs.GivenWords.{found_row, number_in_row, text_in_row}
use Rattle.ubi_commands.proofs.Lacking.{apart}
use Rattle.ubi_commands.proofs.Uses.{EachRow}

-- words that give no text give no number
no_text_no_number : (rows : List Row) (id : Text) → first_of id rows ≡ None → (n : ℕ) → HasNumber rows id n → ⊥
no_text_no_number rows id none n has = go (find (λ r. bytes_eq r.id id) rows) refl
  where
    by_value : (r : Row) (v : Option Text) → slice_get r.values 0 ≡ v → find (λ x. bytes_eq x.id id) rows ≡ Some r → ⊥
    by_value r None at is =
        let nothing : one_of id rows ≡ None = cc in
        let bad : None ≡ Some has.0 = sym (ap (option_map without_leading_plus) nothing) ∙ has.1 in
        cc
    by_value r (Some t) at is =
        let some : first_of id rows ≡ Some t = ap (option_and_then (λ (x : Row). slice_get x.values 0)) is ∙ at in
        let bad : Some t ≡ None = sym some ∙ none in
        cc

    go : (o : Option Row) → find (λ r. bytes_eq r.id id) rows ≡ o → ⊥
    go None is =
        let nothing : one_of id rows ≡ None = cc in
        let bad : None ≡ Some has.0 = sym (ap (option_map without_leading_plus) nothing) ∙ has.1 in
        cc
    go (Some r) is = by_value r (slice_get r.values 0) refl is

or_true : (a b : Bool) → b ≡ true → (a || b) ≡ true
or_true true b is = refl
or_true false b is = is

text_given : (o : Option Text) → (o ≡ None → ⊥) → is_some o ≡ true
text_given None some = absurd (some refl)
text_given (Some t) some = refl

-- a number that is given is a text
number_is_text : (rows : List Row) (id : Text) (n : ℕ) → HasNumber rows id n → is_some (first_of id rows) ≡ true
number_is_text rows id n has = text_given (first_of id rows) (λ none. no_text_no_number rows id none n has)

-- where no text is given, none is found
pub not_given : (rows : List Row) (id : Text) → ((t : Bor Text) → HasText rows id t → ⊥) → first_of id rows ≡ None
not_given rows id none = go (first_of id rows) refl
  where
    go : (t : Option Text) → first_of id rows ≡ t → first_of id rows ≡ None
    go None e = e
    go (Some t) e = absurd (none (record { ref_ptr = (0, 0); now = t }) e)

-- words that give neither a number nor a name name no volume
pub neither : (rows : List Row) → ((n : ℕ) → HasNumber rows (codes "id") n → ⊥)
    → ((t : Bor Text) → HasText rows (codes "name") t → ⊥) → (k : VolumeKey) → AsksKey rows k → ⊥
neither rows no_number no_name (key.Id id) asked = no_number id asked.0
neither rows no_number no_name (key.Name name) asked = no_name name asked.0

-- a request of `extract` names just one volume
one_volume : (rows : List Row) (k : VolumeKey) → AsksKey rows k
    → is_some (first_of (codes "name") rows) ≡ not (is_some (first_of (codes "id") rows))
one_volume rows (key.Id id) asks = ap is_some asks.1 ∙ ap not (sym (number_is_text rows (codes "id") id asks.0))
one_volume rows (key.Name name) asks = ap is_some asks.0 ∙ ap not (sym (ap is_some asks.1))

pub request_names_one : (named : Option (Text × List Row)) (r : Request) → IsRequest named r → HasOneVolume named
request_names_one named r asked words is = go r asked.1 asked.2
  where
    same : (q : Request) → named ≡ Some (command_name q, asked.0) → (command_name q ≡ codes "extract") × (asked.0 ≡ words)
    same q at =
        let pair : (command_name q, asked.0) ≡ (codes "extract", words) = cc in
        (ap (λ (e : Text × List Row). e.0) pair, ap (λ (e : Text × List Row). e.1) pair)

    go : (q : Request) → named ≡ Some (command_name q, asked.0) → Asks asked.0 q
        → is_some (first_of (codes "name") words) ≡ not (is_some (first_of (codes "id") words))
    go (request.Extract n x) at asks =
        rw (← (same (request.Extract n x) at).1) (one_volume asked.0 x.key asks.1.1)
    go (request.Tell d image (reading.List format)) at asks = absurd (apart _ _ refl (same (request.Tell d image (reading.List format)) at).0)
    go (request.Compare (comparison.Same format) d left right) at asks =
        absurd (apart _ _ refl (same (request.Compare (comparison.Same format) d left right) at).0)
    go q at asks = absurd (apart _ _ refl (same q at).0)

-- what the words of a request list as bad is a list
list_given : (rows : List Row) (bad : Option (Bor Text)) → MayHaveText rows (codes "bad") bad → ForSome bad (λ list. is_block_list list.now ≡ true)
    → ForSome (first_of (codes "bad") rows) (λ list. is_block_list list ≡ true)
list_given rows None is each list at = absurd (let none : None ≡ Some list = is ∙ at in cc)
list_given rows (Some t) is each list at =
    subst (λ (x : Text). is_block_list x ≡ true) (same_Some t.now list (is ∙ at)) (each t refl)

-- so it is of those over a dump that may be found
list_asked : (rows : List Row) (d : Asked) → AsksAsked rows d → ForSome (first_of (codes "bad") rows) (λ list. is_block_list list ≡ true)
list_asked rows (way.Given dump) asks = list_given rows dump.bad asks.3 asks.4
list_asked rows (way.Sought sought) asks = list_given rows sought.bad asks.1.2 asks.1.3

-- they give both sizes of a geometry, or nothing of one
sizes_asked : (rows : List Row) (d : Asked) → AsksAsked rows d
    → ((gives_word rows (codes "peb") && gives_word rows (codes "page")) || gives_no_geometry rows) ≡ true
sizes_asked rows (way.Given dump) asks =
    let peb = bytes_are_text most_number rows (codes "peb") dump.numbers.peb_size asks.0.0 in
    let page = bytes_are_text most_number rows (codes "page") dump.numbers.page asks.0.1 in
    ap₂ (λ (a b : Bool). (a && b) || gives_no_geometry rows) peb page
sizes_asked rows (way.Sought sought) asks = or_true _ _ asks.0

-- what they give for numbers of bytes are such numbers
sizes_pass : (rows : List Row) (d : Asked) → AsksAsked rows d
    → gives_sizes rows ≡ true
sizes_pass rows (way.Given dump) asks = numbers_pass rows dump.numbers asks.0
sizes_pass rows (way.Sought sought) asks = (no_geometry_passes rows asks.0).0

asked_part_passes : (rows : List Row) (d : Asked) → AsksAsked rows d
    → gives_part rows ≡ true
asked_part_passes rows (way.Given dump) asks = part_passes rows dump.part asks.1
asked_part_passes rows (way.Sought sought) asks = part_passes rows sought.part asks.1.0

oob_passes : (rows : List Row) (d : Asked) → AsksAsked rows d → gives_bytes most_number rows (codes "oob") ≡ true
oob_passes rows (way.Given dump) asks = maybe_bytes_pass most_number rows (codes "oob") asks.2.0 asks.2.1
oob_passes rows (way.Sought sought) asks = (no_geometry_passes rows asks.0).1

-- and what they say of Blank eraseblocks is that they are kept
blank_given : (rows : List Row) (keeps : Bool) → AsksBlank rows keeps → ForSome (first_of (codes "blank") rows) (λ word. word ≡ codes "keep")
blank_given rows true is word at = same_Some word (codes "keep") (sym at ∙ is)
blank_given rows false is word at = absurd (let none : Some word ≡ None = sym at ∙ is in cc)

-- and what they name as a format is one
format_given : (rows : List Row) (f : Format) → AsksFormat rows f
    → ForSome (first_of (codes "format") rows) (λ word. (word ≡ codes "text") ⊎ (word ≡ codes "json"))
format_given rows f is word at = by f (ap (λ (o : Option Text). unwrap_or o (codes "text")) (sym at) ∙ is)
  where
    by : (f : Format) → word ≡ format_word f → (word ≡ codes "text") ⊎ (word ≡ codes "json")
    by told.Text e = inl e
    by told.Json e = inr e

-- a request that is named is what its words say
pub request_means : (named : Option (Text × List Row)) (r : Request) → IsRequest named r → Mean named
request_means named r asked = record {
  volume = request_names_one named r asked;
  list = λ name words is dumps. lists r asked.1 asked.2 name words is dumps;
  blank = λ name words is planned. keeps r asked.1 asked.2 name words is planned;
  geometry = λ name words is found. sizes r asked.1 asked.2 name words is found;
  format = λ name words is holds. tells r asked.1 asked.2 name words is holds;
  sizes = λ name words is takes. measured r asked.1 asked.2 name words is takes;
  part = λ name words is takes. placed r asked.1 asked.2 name words is takes;
  oob = λ name words is dumps. spared r asked.1 asked.2 name words is dumps;
}
  where
    same : (a : Text) (rows : List Row) → named ≡ Some (a, rows) → (name : Text) (words : List Row) → named ≡ Some (name, words)
        → (a ≡ name) × (rows ≡ words)
    same a rows at name words is =
        let pair : (a, rows) ≡ (name, words) = same_Some (a, rows) (name, words) (sym at ∙ is) in
        (ap (λ (e : Text × List Row). e.0) pair, ap (λ (e : Text × List Row). e.1) pair)

    -- no such command
    other : {X : Type 0} (test : Text → Bool) (a : Text) → test a ≡ false → named ≡ Some (a, asked.0) → (name : Text) (words : List Row)
        → named ≡ Some (name, words) → test name ≡ true → X
    other test a differs at name words is holds =
        absurd (true≢false (sym holds ∙ ap test (sym (same a asked.0 at name words is).0) ∙ differs))

    listed : (a : Text) (d : Dump) → named ≡ Some (a, asked.0) → AsksDump asked.0 d → (name : Text) (words : List Row)
        → named ≡ Some (name, words) → ForSome (first_of (codes "bad") words) (λ list. is_block_list list ≡ true)
    listed a d at asks name words is =
        subst (λ (rows : List Row). ForSome (first_of (codes "bad") rows) (λ list. is_block_list list ≡ true))
        (same a asked.0 at name words is).1 (list_given asked.0 d.bad asks.3 asks.4)

    listed_asked : (a : Text) (d : Asked) → named ≡ Some (a, asked.0) → AsksAsked asked.0 d → (name : Text) (words : List Row)
        → named ≡ Some (name, words) → ForSome (first_of (codes "bad") words) (λ list. is_block_list list ≡ true)
    listed_asked a d at asks name words is =
        subst (λ (rows : List Row). ForSome (first_of (codes "bad") rows) (λ list. is_block_list list ≡ true))
        (same a asked.0 at name words is).1 (list_asked asked.0 d asks)

    sized : (a : Text) (d : Asked) → named ≡ Some (a, asked.0) → AsksAsked asked.0 d → (name : Text) (words : List Row)
        → named ≡ Some (name, words) → ((gives_word words (codes "peb") && gives_word words (codes "page")) || gives_no_geometry words) ≡ true
    sized a d at asks name words is =
        subst (λ (rows : List Row). ((gives_word rows (codes "peb") && gives_word rows (codes "page")) || gives_no_geometry rows) ≡ true)
        (same a asked.0 at name words is).1 (sizes_asked asked.0 d asks)

    kept : (a : Text) (p : Plan) → named ≡ Some (a, asked.0) → AsksPlan asked.0 p → (name : Text) (words : List Row)
        → named ≡ Some (name, words) → ForSome (first_of (codes "blank") words) (λ word. word ≡ codes "keep")
    kept a p at asks name words is =
        subst (λ (rows : List Row). ForSome (first_of (codes "blank") rows) (λ word. word ≡ codes "keep"))
        (same a asked.0 at name words is).1 (blank_given asked.0 p.keeps_blank asks.2)

    lists : (q : Request) → named ≡ Some (command_name q, asked.0) → Asks asked.0 q → (name : Text) (words : List Row)
        → named ≡ Some (name, words) → reads_dump name ≡ true → ForSome (first_of (codes "bad") words) (λ list. is_block_list list ≡ true)
    lists (request.Tell d image what) at asks name words is holds = listed_asked (reading_command what).name d at asks.0 name words is
    lists (request.Map d image page) at asks name words is holds = listed_asked (codes "map") d at asks.0 name words is
    lists (request.Extract d extract) at asks name words is holds = listed_asked (codes "extract") d at asks.0 name words is
    lists (request.Unpack d paths) at asks name words is holds = listed_asked (codes "unpack") d at asks.0 name words is
    lists (request.Normalise d paths) at asks name words is holds = listed_asked (codes "normalise") d at asks.0 name words is
    lists (request.Compare how d left right) at asks name words is holds =
        listed_asked (comparing_command how).name d at asks.0 name words is
    lists (request.Change d change) at asks name words is holds = listed (codes "change") d at asks.0 name words is
    lists (request.Rename d rename) at asks name words is holds = listed (codes "rename") d at asks.0 name words is
    lists (request.Update d update) at asks name words is holds = listed (codes "update") d at asks.0 name words is
    lists _ at asks name words is holds = other reads_dump _ refl at name words is holds

    sizes : (q : Request) → named ≡ Some (command_name q, asked.0) → Asks asked.0 q → (name : Text) (words : List Row)
        → named ≡ Some (name, words) → finds name ≡ true
        → ((gives_word words (codes "peb") && gives_word words (codes "page")) || gives_no_geometry words) ≡ true
    sizes (request.Tell d image what) at asks name words is holds = sized (reading_command what).name d at asks.0 name words is
    sizes (request.Map d image page) at asks name words is holds = sized (codes "map") d at asks.0 name words is
    sizes (request.Extract d extract) at asks name words is holds = sized (codes "extract") d at asks.0 name words is
    sizes (request.Unpack d paths) at asks name words is holds = sized (codes "unpack") d at asks.0 name words is
    sizes (request.Normalise d paths) at asks name words is holds = sized (codes "normalise") d at asks.0 name words is
    sizes (request.Compare how d left right) at asks name words is holds =
        sized (comparing_command how).name d at asks.0 name words is
    sizes _ at asks name words is holds = other finds _ refl at name words is holds

    keeps : (q : Request) → named ≡ Some (command_name q, asked.0) → Asks asked.0 q → (name : Text) (words : List Row)
        → named ≡ Some (name, words) → plans name ≡ true → ForSome (first_of (codes "blank") words) (λ word. word ≡ codes "keep")
    keeps (request.Change d change) at asks name words is holds = kept (codes "change") change.plan at asks.1.0 name words is
    keeps (request.Rename d rename) at asks name words is holds = kept (codes "rename") rename.plan at asks.1.0 name words is
    keeps (request.Update d update) at asks name words is holds = kept (codes "update") update.plan at asks.1.0 name words is
    keeps (request.Tell d image (reading.Show block)) at asks name words is holds = other plans (codes "show") refl at name words is holds
    keeps (request.Compare (comparison.Same format) d left right) at asks name words is holds = other plans _ refl at name words is holds
    keeps _ at asks name words is holds = other plans _ refl at name words is holds

    in_format : (a : Text) (f : Format) → named ≡ Some (a, asked.0) → AsksFormat asked.0 f → (name : Text) (words : List Row)
        → named ≡ Some (name, words)
        → ForSome (first_of (codes "format") words) (λ word. (word ≡ codes "text") ⊎ (word ≡ codes "json"))
    in_format a f at asks name words is =
        subst (λ (rows : List Row). ForSome (first_of (codes "format") rows) (λ word. (word ≡ codes "text") ⊎ (word ≡ codes "json")))
        (same a asked.0 at name words is).1 (format_given asked.0 f asks)

    tells : (q : Request) → named ≡ Some (command_name q, asked.0) → Asks asked.0 q → (name : Text) (words : List Row)
        → named ≡ Some (name, words) → formats name ≡ true
        → ForSome (first_of (codes "format") words) (λ word. (word ≡ codes "text") ⊎ (word ≡ codes "json"))
    tells (request.Geometry part image f) at asks name words is holds = in_format (codes "geometry") f at asks.2 name words is
    tells (request.Tell d image (reading.List f)) at asks name words is holds = in_format (codes "list") f at asks.2 name words is
    tells (request.Tell d image (reading.Check f)) at asks name words is holds = in_format (codes "check") f at asks.2 name words is
    tells (request.Tell d image (reading.Geometry part f)) at asks name words is holds = absurd asks.2
    tells (request.Tell d image (reading.Show block)) at asks name words is holds = other formats (codes "show") refl at name words is holds
    tells (request.Compare how d left right) at asks name words is holds =
        in_format (comparing_command how).name (comparison_format how) at asks.3 name words is
    tells _ at asks name words is holds = other formats _ refl at name words is holds

    -- what is known of the rows of the command that was named
    moved : (P : List Row → Bool) (a : Text) → named ≡ Some (a, asked.0) → P asked.0 ≡ true → (name : Text) (words : List Row)
        → named ≡ Some (name, words) → P words ≡ true
    moved P a at holds name words is = subst (λ (rows : List Row). P rows ≡ true) (same a asked.0 at name words is).1 holds

    measured : (q : Request) → named ≡ Some (command_name q, asked.0) → Asks asked.0 q → (name : Text) (words : List Row)
        → named ≡ Some (name, words) → takes_geometry name ≡ true → gives_sizes words ≡ true
    measured (request.Tell d image what) at asks name words is holds =
        moved gives_sizes (reading_command what).name at (sizes_pass asked.0 d asks.0) name words is
    measured (request.Map d image page) at asks name words is holds = moved gives_sizes (codes "map") at (sizes_pass asked.0 d asks.0) name words is
    measured (request.Extract d extract) at asks name words is holds =
        moved gives_sizes (codes "extract") at (sizes_pass asked.0 d asks.0) name words is
    measured (request.Unpack d paths) at asks name words is holds = moved gives_sizes (codes "unpack") at (sizes_pass asked.0 d asks.0) name words is
    measured (request.Normalise d paths) at asks name words is holds =
        moved gives_sizes (codes "normalise") at (sizes_pass asked.0 d asks.0) name words is
    measured (request.Compare how d left right) at asks name words is holds =
        moved gives_sizes (comparing_command how).name at (sizes_pass asked.0 d asks.0) name words is
    measured (request.Compose n new) at asks name words is holds = moved gives_sizes (codes "compose") at (numbers_pass asked.0 n asks.0) name words is
    measured (request.Build n new) at asks name words is holds = moved gives_sizes (codes "build") at (numbers_pass asked.0 n asks.0) name words is
    measured (request.Change d change) at asks name words is holds =
        moved gives_sizes (codes "change") at (numbers_pass asked.0 d.numbers asks.0.0) name words is
    measured (request.Rename d rename) at asks name words is holds =
        moved gives_sizes (codes "rename") at (numbers_pass asked.0 d.numbers asks.0.0) name words is
    measured (request.Update d update) at asks name words is holds =
        moved gives_sizes (codes "update") at (numbers_pass asked.0 d.numbers asks.0.0) name words is
    measured (request.Geometry part image f) at asks name words is holds = other takes_geometry (codes "geometry") refl at name words is holds

    placed : (q : Request) → named ≡ Some (command_name q, asked.0) → Asks asked.0 q → (name : Text) (words : List Row)
        → named ≡ Some (name, words) → takes_part name ≡ true → gives_part words ≡ true
    placed (request.Geometry part image f) at asks name words is holds = moved gives_part (codes "geometry") at (part_passes asked.0 part asks.0) name words is
    placed (request.Tell d image what) at asks name words is holds =
        moved gives_part (reading_command what).name at (asked_part_passes asked.0 d asks.0) name words is
    placed (request.Map d image page) at asks name words is holds = moved gives_part (codes "map") at (asked_part_passes asked.0 d asks.0) name words is
    placed (request.Extract d extract) at asks name words is holds =
        moved gives_part (codes "extract") at (asked_part_passes asked.0 d asks.0) name words is
    placed (request.Unpack d paths) at asks name words is holds = moved gives_part (codes "unpack") at (asked_part_passes asked.0 d asks.0) name words is
    placed (request.Normalise d paths) at asks name words is holds =
        moved gives_part (codes "normalise") at (asked_part_passes asked.0 d asks.0) name words is
    placed (request.Compare how d left right) at asks name words is holds =
        moved gives_part (comparing_command how).name at (asked_part_passes asked.0 d asks.0) name words is
    placed (request.Change d change) at asks name words is holds = moved gives_part (codes "change") at (part_passes asked.0 d.part asks.0.1) name words is
    placed (request.Rename d rename) at asks name words is holds = moved gives_part (codes "rename") at (part_passes asked.0 d.part asks.0.1) name words is
    placed (request.Update d update) at asks name words is holds = moved gives_part (codes "update") at (part_passes asked.0 d.part asks.0.1) name words is
    placed (request.Compose n new) at asks name words is holds = other takes_part (codes "compose") refl at name words is holds
    placed (request.Build n new) at asks name words is holds = other takes_part (codes "build") refl at name words is holds

    has_oob : List Row → Bool
    has_oob rows = gives_bytes most_number rows (codes "oob")

    spared : (q : Request) → named ≡ Some (command_name q, asked.0) → Asks asked.0 q → (name : Text) (words : List Row)
        → named ≡ Some (name, words) → reads_dump name ≡ true → gives_bytes most_number words (codes "oob") ≡ true
    spared (request.Tell d image what) at asks name words is holds =
        moved has_oob (reading_command what).name at (oob_passes asked.0 d asks.0) name words is
    spared (request.Map d image page) at asks name words is holds = moved has_oob (codes "map") at (oob_passes asked.0 d asks.0) name words is
    spared (request.Extract d extract) at asks name words is holds =
        moved has_oob (codes "extract") at (oob_passes asked.0 d asks.0) name words is
    spared (request.Unpack d paths) at asks name words is holds = moved has_oob (codes "unpack") at (oob_passes asked.0 d asks.0) name words is
    spared (request.Normalise d paths) at asks name words is holds =
        moved has_oob (codes "normalise") at (oob_passes asked.0 d asks.0) name words is
    spared (request.Compare how d left right) at asks name words is holds =
        moved has_oob (comparing_command how).name at (oob_passes asked.0 d asks.0) name words is
    spared (request.Change d change) at asks name words is holds =
        moved has_oob (codes "change") at (maybe_bytes_pass most_number asked.0 (codes "oob") asks.0.2.0 asks.0.2.1) name words is
    spared (request.Rename d rename) at asks name words is holds =
        moved has_oob (codes "rename") at (maybe_bytes_pass most_number asked.0 (codes "oob") asks.0.2.0 asks.0.2.1) name words is
    spared (request.Update d update) at asks name words is holds =
        moved has_oob (codes "update") at (maybe_bytes_pass most_number asked.0 (codes "oob") asks.0.2.0 asks.0.2.1) name words is
    spared _ at asks name words is holds = other reads_dump _ refl at name words is holds

-- words that name just one volume name it by a number or by a text
module _ (rows : List Row) (each : EachRow rows) where
  by_rows : (i n : Option Row) → find (λ r. bytes_eq r.id (codes "id")) rows ≡ i → find (λ r. bytes_eq r.id (codes "name")) rows ≡ n
      → is_some (first_of (codes "name") rows) ≡ not (is_some (first_of (codes "id") rows)) → (k : VolumeKey) × AsksKey rows k
  by_rows (Some r) None is none one =
      let number = number_in_row rows (codes "id") refl (found_row (codes "id") rows each r is) in
      (key.Id number.0, (number.1, ap (option_and_then (λ (x : Row). slice_get x.values 0)) none))
  by_rows None (Some r) none is one =
      let name = text_in_row rows (codes "name") (found_row (codes "name") rows each r is) in
      (key.Name name.0, (name.1, ap (option_and_then (λ (x : Row). slice_get x.values 0)) none))
  by_rows None None none nothing one =
      let no_id : is_some (first_of (codes "id") rows) ≡ false =
      ap (λ (o : Option Row). is_some (option_and_then (λ (x : Row). slice_get x.values 0) o)) none in
      let no_name : is_some (first_of (codes "name") rows) ≡ false =
      ap (λ (o : Option Row). is_some (option_and_then (λ (x : Row). slice_get x.values 0) o)) nothing in
      absurd (true≢false (sym (ap not no_id) ∙ sym one ∙ no_name))
  by_rows (Some r) (Some q) is at one =
      let id = text_in_row rows (codes "id") (found_row (codes "id") rows each r is) in
      let name = text_in_row rows (codes "name") (found_row (codes "name") rows each q at) in
      absurd (true≢false (sym (ap is_some name.1) ∙ one ∙ ap (λ (o : Option Text). not (is_some o)) id.1))

  pub key_asked : is_some (first_of (codes "name") rows) ≡ not (is_some (first_of (codes "id") rows)) → (k : VolumeKey) × AsksKey rows k
  key_asked one = by_rows (find (λ r. bytes_eq r.id (codes "id")) rows) (find (λ r. bytes_eq r.id (codes "name")) rows) refl refl one
