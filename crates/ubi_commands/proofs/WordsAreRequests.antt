-- Words that the command line takes are a request.
use Rattle.ubi_commands.proofs.Prelude.{◌≡◌, ◌∙◌, ◌&&◌, ◌||◌, ◌∷◌, [], Bool, List, Some, ap, cond, false, not, refl, sym, subst, true, true≢false, ℕ, Bor, then_some, ForSome, is_some, option_map, unwrap_or, find, list_all, list_any, bytes_eq, same_Some, bytes_eq-Decides, fault_of, level_fault, Shape, argument_words, label_of, subcommand_of, Row, Text, answers_to, first_of, nothing_held, rows_after, both, is_block_list, Asks, AsksAsked, AsksBlank, AsksDump, AsksNewImage, AsksNumbers, AsksPart, AsksPaths, AsksPlan, IsRequest, HasNumber, HasText, MayHaveNumber, MayHaveText, command_name, gives_word, gives_bytes, gives_no_geometry, most_bytes, takes_geometry, takes_part, Mean, Takes, finds, plans, reads_dump, tool, Asked, Change, Dump, Extract, NewImage, Paths, Plan, Rename, Request, Sought, Numbers, FilePart, inl, inr, ◌⊎◌, AsksFormat, format_word, formats, Format, None, most_number, Option, Update}
use Rattle.std.proofs.Common.{codes}
use Rattle.ubi_reading.specs.declared.format.Format.TheVariants as told
use Rattle.clap.specs.Simple.{built}
use Rattle.ubi_dumps.specs.declared.asked.Asked.TheVariants as way
use Rattle.ubi_reading.specs.declared.readers.Reading.TheVariants as reading
use Rattle.ubi_commands.specs.declared.requests.Request.TheVariants as request
use Rattle.ubi_reading.specs.declared.comparison.Comparison.TheVariants as comparison
use Rattle.ubi_commands.proofs.GivenKey.{key_asked}
use Rattle.ubi_commands.proofs.GivenBytes.{bytes_in, bytes_of_text}
use Rattle.ubi_commands.proofs.GivenWords.{needs, number_asked, number_in, text_asked, texts_in}
use Rattle.ubi_commands.proofs.Uses.{is_number, takes_one}
use Rattle.ubi_commands.proofs.Levels.{AreGiven, IsMet, leaf_given, met}

-- the rows are a request of the command
abbrev IsAsked : Text → List Row → Type 0
IsAsked name rows = (r : Request) × (command_name r ≡ name) × Asks rows r

-- the command needs an argument of this name
abbrev Needs : Shape → Text → Type 0
Needs s id = needs s.rules id ≡ true

-- a command that reads a dump takes a geometry and a part
dump_takes : (name : Text) → reads_dump name ≡ true → (takes_geometry name ≡ true) × (takes_part name ≡ true)
dump_takes name reads = go (bytes_eq name (codes "geometry")) refl
  where
    go : (b : Bool) → bytes_eq name (codes "geometry") ≡ b → (takes_geometry name ≡ true) × (takes_part name ≡ true)
    go true is =
        let bad : not (true || list_any (bytes_eq name) (codes "compose" ∷ codes "build" ∷ [])) ≡ true = rw is at reads in
        absurd (true≢false (sym bad))
    go false is = (ap not is, rw is at reads)

module _ (s : Shape) (rows : List Row) (given : AreGiven s rows) where
  text : (id : Text) → Needs s id → (t : Bor Text) × HasText rows id t
  text id wants = text_asked s.rules rows id given.each given.needed wants

  number : (id : Text) → is_number id ≡ true → Needs s id → (n : ℕ) × HasNumber rows id n
  number id is wants = number_asked s.rules rows id given.each given.needed wants is

  -- the numbers of a geometry of which the two sizes are given
  numbers_of : (name : Text) → takes_geometry name ≡ true → Mean (Some (name, rows)) → gives_word rows (codes "peb") ≡ true
      → gives_word rows (codes "page") ≡ true → (n : Numbers) × AsksNumbers rows n
  numbers_of name takes mean peb page =
      let one = both (gives_bytes most_number rows (codes "peb")) _ (mean.sizes name rows refl takes) in
      let two = both (gives_bytes most_number rows (codes "page")) _ one.1 in
      let three = both (gives_bytes most_number rows (codes "vid")) _ two.1 in
      let four = both (gives_bytes most_number rows (codes "data")) _ three.1 in
      let size = bytes_of_text most_number rows (codes "peb") peb one.0 in
      let page_size = bytes_of_text most_number rows (codes "page") page two.0 in
      let vid = bytes_in most_number rows (codes "vid") three.0 in
      let data_at = bytes_in most_number rows (codes "data") four.0 in
      let pebs = number_in rows (codes "pebs") in (
        record {
          peb_size = size.0;
          page = page_size.0;
          vid_offset = vid.0;
          data_offset = data_at.0;
          pebs = pebs.0;
        },
        (size.1, page_size.1, vid.1, data_at.1, pebs.1),
      )

  numbers : (name : Text) → takes_geometry name ≡ true → Mean (Some (name, rows)) → Needs s (codes "peb") → Needs s (codes "page")
      → (n : Numbers) × AsksNumbers rows n
  numbers name takes mean peb page =
      numbers_of name takes mean (ap is_some (text (codes "peb") peb).1) (ap is_some (text (codes "page") page).1)

  -- a text that may be left out
  text_in : (id : Text) → (t : Option (Bor Text)) × MayHaveText rows id t
  text_in id = go (first_of id rows)
    where
      go : (o : Option Text) → (t : Option (Bor Text)) × (option_map (λ x. x.now) t ≡ o)
      go None = (None, refl)
      go (Some t) = (Some (record { ref_ptr = (0, 0); now = t }), refl)

  -- the part of a file
  part : (name : Text) → takes_part name ≡ true → Mean (Some (name, rows)) → (p : FilePart) × AsksPart rows p
  part name takes mean =
      let one = both (gives_bytes most_bytes rows (codes "start")) _ (mean.part name rows refl takes) in
      let two = both (gives_bytes most_bytes rows (codes "length")) _ one.1 in
      let start = bytes_in most_bytes rows (codes "start") one.0 in
      let len = bytes_in most_bytes rows (codes "length") two.0 in
      (record { start = unwrap_or start.0 0; length = len.0 }, (start.0, start.1, refl, len.1))

  -- a dump with these numbers
  dump_of : (name : Text) → reads_dump name ≡ true → Mean (Some (name, rows)) → (n : Numbers) → AsksNumbers rows n
      → (d : Dump) × AsksDump rows d
  dump_of name reads mean n asks =
      let p = part name (dump_takes name reads).1 mean in
      let oob = bytes_in most_number rows (codes "oob") (mean.oob name rows refl reads) in
      let bad = text_in (codes "bad") in (
        record {
          numbers = n;
          part = p.0;
          oob = unwrap_or oob.0 0;
          bad = bad.0;
          counts_before = true;
        },
        (
          asks,
          p.1,
          (oob.0, oob.1, refl),
          bad.1,
          λ t is. mean.list name rows refl reads t.now (sym bad.1 ∙ ap (option_map (λ (x : Bor Text). x.now)) is),
          refl,
        ),
      )

  dump : (name : Text) → reads_dump name ≡ true → Mean (Some (name, rows)) → Needs s (codes "peb") → Needs s (codes "page")
      → (d : Dump) × AsksDump rows d
  dump name reads mean peb page =
      let n = numbers name (dump_takes name reads).0 mean peb page in
      dump_of name reads mean n.0 n.1

  -- how a dump is read: by the sizes that are given, or by its headers
  asked_dump : (name : Text) → reads_dump name ≡ true → finds name ≡ true → Mean (Some (name, rows)) → (d : Asked) × AsksAsked rows d
  asked_dump name reads found mean =
      go (gives_word rows (codes "peb") && gives_word rows (codes "page")) refl (mean.geometry name rows refl found)
    where
      bad : (t : Option (Bor Text)) × MayHaveText rows (codes "bad") t
      bad = text_in (codes "bad")

      pebs : (n : Option ℕ) × MayHaveNumber rows (codes "pebs") n
      pebs = number_in rows (codes "pebs")

      list : ForSome bad.0 (λ l. is_block_list l.now ≡ true)
      list = λ t is. mean.list name rows refl reads t.now (sym bad.1 ∙ ap (option_map (λ (x : Bor Text). x.now)) is)

      go : (b : Bool) → (gives_word rows (codes "peb") && gives_word rows (codes "page")) ≡ b → (b || gives_no_geometry rows) ≡ true
          → (d : Asked) × AsksAsked rows d
      go true two h =
          let sizes = both _ _ two in
          let n = numbers_of name (dump_takes name reads).0 mean sizes.0 sizes.1 in
          let d = dump_of name reads mean n.0 n.1 in
          (way.Given d.0, d.1)
      go false two h =
          let p = part name (dump_takes name reads).1 mean in
          let sought : Sought = record { part = p.0; pebs = pebs.0; bad = bad.0 } in
          (way.Sought sought, (h, (p.1, pebs.1, bad.1, list)))

  paths : Needs s (codes "IMAGE") → Needs s (codes "out") → (p : Paths) × AsksPaths rows p
  paths image out =
      let i = text (codes "IMAGE") image in
      let o = text (codes "out") out in
      (record { image = i.0; out = o.0 }, (i.1, o.1))

  blank : (name : Text) → plans name ≡ true → Mean (Some (name, rows)) → (b : Bool) × AsksBlank rows b
  blank name planned mean = go (first_of (codes "blank") rows) (mean.blank name rows refl planned)
    where
      go : (o : Option Text) → ForSome o (λ word. word ≡ codes "keep") → (b : Bool) × (o ≡ then_some b (codes "keep"))
      go None each = (false, refl)
      go (Some word) each = (true, ap (λ (x : Text). Some x) (each word refl))

  format : (name : Text) → formats name ≡ true → Mean (Some (name, rows)) → (f : Format) × AsksFormat rows f
  format name tells mean = go (first_of (codes "format") rows) (mean.format name rows refl tells)
    where
      go : (o : Option Text) → ForSome o (λ word. (word ≡ codes "text") ⊎ (word ≡ codes "json"))
          → (f : Format) × (unwrap_or o (codes "text") ≡ format_word f)
      go None each = (told.Text, refl)
      go (Some word) each = elim (each word refl) [ inl e ↦ (told.Text, e) | inr e ↦ (told.Json, e) ]

  plan : (name : Text) → plans name ≡ true → Mean (Some (name, rows)) → Needs s (codes "IMAGE") → Needs s (codes "out")
      → (p : Plan) × AsksPlan rows p
  plan name planned mean image out =
      let p = paths image out in
      let stop = number_in rows (codes "stop") in
      let keeps = blank name planned mean in
      let pages = text_in (codes "pages") in (
        record {
          paths = p.0;
          stop = stop.0;
          keeps_blank = keeps.0;
          pages = pages.0;
        },
        (p.1, stop.1, keeps.1, pages.1),
      )

  new_image : (name : Text) → Needs s name → Needs s (codes "out") → (new : NewImage) × AsksNewImage rows name new
  new_image name from out =
      let t = text name from in
      let o = text (codes "out") out in
      let spares = number_in rows (codes "spares") in
      let seq = number_in rows (codes "seq") in (
        record {
          from = t.0;
          out = o.0;
          spares = unwrap_or spares.0 0;
          image_seq = unwrap_or seq.0 0;
        },
        (t.1, o.1, (spares.0, spares.1, refl), (seq.0, seq.1, refl)),
      )

  geometry_asked : Mean (Some (codes "geometry", rows)) → Needs s (codes "IMAGE") → IsAsked (codes "geometry") rows
  geometry_asked mean image =
      let i = text (codes "IMAGE") image in
      let f = format (codes "geometry") refl mean in
      let p = part (codes "geometry") refl mean in
      (request.Geometry p.0 i.0 f.0, refl, (p.1, i.1, f.1))

  list_asked : Mean (Some (codes "list", rows)) → Needs s (codes "IMAGE") → IsAsked (codes "list") rows
  list_asked mean image =
      let n = asked_dump (codes "list") refl refl mean in
      let i = text (codes "IMAGE") image in
      let f = format (codes "list") refl mean in
      (request.Tell n.0 i.0 (reading.List f.0), refl, (n.1, i.1, f.1))

  check_asked : Mean (Some (codes "check", rows)) → Needs s (codes "IMAGE") → IsAsked (codes "check") rows
  check_asked mean image =
      let n = asked_dump (codes "check") refl refl mean in
      let i = text (codes "IMAGE") image in
      let f = format (codes "check") refl mean in
      (request.Tell n.0 i.0 (reading.Check f.0), refl, (n.1, i.1, f.1))

  show_asked : Mean (Some (codes "show", rows)) → Needs s (codes "IMAGE") → Needs s (codes "block")
      → IsAsked (codes "show") rows
  show_asked mean image block =
      let n = asked_dump (codes "show") refl refl mean in
      let i = text (codes "IMAGE") image in
      let b = number (codes "block") refl block in
      (request.Tell n.0 i.0 (reading.Show b.0), refl, (n.1, i.1, b.1))

  map_asked : Mean (Some (codes "map", rows)) → Needs s (codes "IMAGE") → IsAsked (codes "map") rows
  map_asked mean image =
      let n = asked_dump (codes "map") refl refl mean in
      let i = text (codes "IMAGE") image in
      let page = text_in (codes "out") in
      (request.Map n.0 i.0 page.0, refl, (n.1, i.1, page.1))

  extract_asked : Mean (Some (codes "extract", rows)) → Needs s (codes "IMAGE") → Needs s (codes "out")
      → IsAsked (codes "extract") rows
  extract_asked mean image out =
      let n = asked_dump (codes "extract") refl refl mean in
      let p = paths image out in
      let k = key_asked rows given.each (mean.volume rows refl) in
      let extract : Extract = record { paths = p.0; key = k.0 } in
      (request.Extract n.0 extract, refl, (n.1, (p.1, k.1)))

  unpack_asked : Mean (Some (codes "unpack", rows)) → Needs s (codes "IMAGE") → Needs s (codes "out")
      → IsAsked (codes "unpack") rows
  unpack_asked mean image out =
      let n = asked_dump (codes "unpack") refl refl mean in
      let p = paths image out in
      (request.Unpack n.0 p.0, refl, (n.1, p.1))

  compose_asked : Mean (Some (codes "compose", rows)) → Needs s (codes "peb") → Needs s (codes "page") → Needs s (codes "SPEC")
      → Needs s (codes "out") → IsAsked (codes "compose") rows
  compose_asked mean peb page spec out =
      let n = numbers (codes "compose") refl mean peb page in
      let new = new_image (codes "SPEC") spec out in
      (request.Compose n.0 new.0, refl, (n.1, new.1))

  build_asked : Mean (Some (codes "build", rows)) → Needs s (codes "peb") → Needs s (codes "page") → Needs s (codes "CONFIG")
      → Needs s (codes "out") → IsAsked (codes "build") rows
  build_asked mean peb page config out =
      let n = numbers (codes "build") refl mean peb page in
      let new = new_image (codes "CONFIG") config out in
      (request.Build n.0 new.0, refl, (n.1, new.1))

  normalise_asked : Mean (Some (codes "normalise", rows)) → Needs s (codes "IMAGE") → Needs s (codes "out")
      → IsAsked (codes "normalise") rows
  normalise_asked mean image out =
      let n = asked_dump (codes "normalise") refl refl mean in
      let p = paths image out in
      (request.Normalise n.0 p.0, refl, (n.1, p.1))

  same_asked : Mean (Some (codes "same", rows)) → Needs s (codes "IMAGE") → Needs s (codes "OTHER")
      → IsAsked (codes "same") rows
  same_asked mean image other =
      let n = asked_dump (codes "same") refl refl mean in
      let i = text (codes "IMAGE") image in
      let o = text (codes "OTHER") other in
      let f = format (codes "same") refl mean in
      (request.Compare (comparison.Same f.0) n.0 i.0 o.0, refl, (n.1, i.1, o.1, f.1))

  diff_asked : Mean (Some (codes "diff", rows)) → Needs s (codes "IMAGE") → Needs s (codes "OTHER")
      → IsAsked (codes "diff") rows
  diff_asked mean image other =
      let n = asked_dump (codes "diff") refl refl mean in
      let i = text (codes "IMAGE") image in
      let o = text (codes "OTHER") other in
      let f = format (codes "diff") refl mean in
      (request.Compare (comparison.Diff f.0) n.0 i.0 o.0, refl, (n.1, i.1, o.1, f.1))

  change_asked : Mean (Some (codes "change", rows)) → Needs s (codes "peb") → Needs s (codes "page") → Needs s (codes "IMAGE") → Needs s (codes "id")
      → Needs s (codes "lnum") → Needs s (codes "from") → Needs s (codes "out") → IsAsked (codes "change") rows
  change_asked mean peb page image id lnum from out =
      let n = dump (codes "change") refl mean peb page in
      let p = plan (codes "change") refl mean image out in
      let v = number (codes "id") refl id in
      let l = number (codes "lnum") refl lnum in
      let f = text (codes "from") from in
      let change : Change = record {
        plan = p.0;
        id = v.0;
        lnum = l.0;
        from = f.0;
      } in
      (request.Change n.0 change, refl, (n.1, (p.1, v.1, l.1, f.1)))

  rename_asked : Mean (Some (codes "rename", rows)) → Needs s (codes "peb") → Needs s (codes "page") → Needs s (codes "IMAGE") → Needs s (codes "id")
      → Needs s (codes "name") → Needs s (codes "out") → IsAsked (codes "rename") rows
  rename_asked mean peb page image id name out =
      let n = dump (codes "rename") refl mean peb page in
      let p = plan (codes "rename") refl mean image out in
      let v = number (codes "id") refl id in
      let new = text (codes "name") name in
      let rename : Rename = record {
        plan = p.0;
        id = v.0;
        name = new.0;
      } in
      (request.Rename n.0 rename, refl, (n.1, (p.1, v.1, new.1)))

  update_asked : Mean (Some (codes "update", rows)) → Needs s (codes "peb") → Needs s (codes "page") → Needs s (codes "IMAGE")
      → Needs s (codes "out") → IsAsked (codes "update") rows
  update_asked mean peb page image out =
      let n = dump (codes "update") refl mean peb page in
      let p = plan (codes "update") refl mean image out in
      let names = texts_in rows (codes "rename") in
      let sizes = texts_in rows (codes "resize") in
      let removals = texts_in rows (codes "remove") in
      let contents = texts_in rows (codes "write") in
      let config = text_in (codes "config") in
      let update : Update = record {
        plan = p.0;
        names = names.0;
        sizes = sizes.0;
        removals = removals.0;
        contents = contents.0;
        config = config.0;
      } in
      (request.Update n.0 update, refl, (n.1, (p.1, names.1, sizes.1, removals.1, contents.1, config.1)))

-- ---- whichever command was met

or_false : (b : Bool) → (b || false) ≡ true → b ≡ true
or_false true e = refl
or_false false e = e

-- words behind the name of this command that are taken are a request of it
abbrev AsksIt : Shape → Type 0
AsksIt s = (name : Text) (words : List Text) → answers_to name (label_of s) ≡ true
    → bytes_eq name (codes "help") ≡ false → level_fault s [] nothing_held words false [] ≡ []
    → Mean (Some (s.name, rows_after s.rules [] words)) → IsAsked s.name (rows_after s.rules [] words)

data EachAsks : List Shape → Type 0 where
  none : EachAsks []
  also : {s : Shape} {rest : List Shape} → AsksIt s → EachAsks rest → EachAsks (s ∷ rest)

found_asks : (p : Shape → Bool) {shapes : List Shape} (s : Shape) → EachAsks shapes → find p shapes ≡ Some s
    → AsksIt s × (p s ≡ true)
found_asks p s none e = absurd (cc)
found_asks p s (also {s = x} {rest = rest} here behind) e = go (p x) refl e (λ h. found_asks p s behind h)
  where
    go : (b : Bool) → p x ≡ b → cond b (Some x) (find p rest) ≡ Some s
        → (find p rest ≡ Some s → AsksIt s × (p s ≡ true)) → AsksIt s × (p s ≡ true)
    go true is h later =
        let same : x ≡ s = same_Some _ _ h in
        (subst AsksIt same here, ap p (sym same) ∙ is)
    go false is h later = later h

-- of a command of which each argument takes one value
asks_it : (s : Shape) → s.args_override_self ≡ false → s.subcommand_negates_reqs ≡ false
    → list_all takes_one s.rules ≡ true
    → ((rows : List Row) → AreGiven s rows → Mean (Some (s.name, rows)) → IsAsked s.name rows) → AsksIt s
asks_it s once negates ok asked name words named no_help fault mean =
    asked (rows_after s.rules [] words) (leaf_given s words once negates ok fault) mean

-- `help` isn't met
help_asks : (s : Shape) → s.name ≡ codes "help" → s.aliases ≡ [] → AsksIt s
help_asks s is alone name words named no_help fault mean =
    let same : (bytes_eq (codes "help") name || false) ≡ true = rw (is, alone) at named in
    let help : codes "help" ≡ name = (bytes_eq-Decides (codes "help") name).0 (or_false _ same) in
    absurd (true≢false (sym ((bytes_eq-Decides name (codes "help")).1 (sym help)) ∙ no_help))

each_asks : EachAsks (built tool).subs
unfolding tool
each_asks =
    also (asks_it _ refl refl refl (λ rows given mean. geometry_asked _ rows given mean refl))
    (also (asks_it _ refl refl refl (λ rows given mean. list_asked _ rows given mean refl))
    (also (asks_it _ refl refl refl (λ rows given mean. check_asked _ rows given mean refl))
    (also (asks_it _ refl refl refl (λ rows given mean. show_asked _ rows given mean refl refl))
    (also (asks_it _ refl refl refl (λ rows given mean. map_asked _ rows given mean refl))
    (also (asks_it _ refl refl refl (λ rows given mean. extract_asked _ rows given mean refl refl))
    (also (asks_it _ refl refl refl (λ rows given mean. unpack_asked _ rows given mean refl refl))
    (also (asks_it _ refl refl refl (λ rows given mean. compose_asked _ rows given mean refl refl refl refl))
    (also (asks_it _ refl refl refl (λ rows given mean. build_asked _ rows given mean refl refl refl refl))
    (also (asks_it _ refl refl refl (λ rows given mean. normalise_asked _ rows given mean refl refl))
    (also (asks_it _ refl refl refl (λ rows given mean. same_asked _ rows given mean refl refl))
    (also (asks_it _ refl refl refl (λ rows given mean. diff_asked _ rows given mean refl refl))
    (also (asks_it _ refl refl refl (λ rows given mean. change_asked _ rows given mean refl refl refl refl refl refl refl))
    (also (asks_it _ refl refl refl (λ rows given mean. rename_asked _ rows given mean refl refl refl refl refl refl))
    (also (asks_it _ refl refl refl (λ rows given mean. update_asked _ rows given mean refl refl refl refl))
    (also (help_asks _ refl refl) none)))))))))))))))

tool_met : (words : List Text) → fault_of tool words ≡ [] → IsMet (built tool) (argument_words tool words)
unfolding tool
tool_met words takes = met (built tool) (argument_words tool words) refl refl takes

-- words that are taken are a request
pub taken_asked : (words : List Text) → Takes words → (r : Request) × IsRequest (subcommand_of tool words) r
taken_asked words takes =
    let m = tool_met words takes.0 in
    let asks = found_asks (λ s. answers_to m.name (label_of s)) m.shape each_asks m.found in
    let rows = rows_after m.shape.rules [] m.behind in
    let mean : Mean (Some (m.shape.name, rows)) = subst Mean m.is takes.1 in
    let asked = asks.0 m.name m.behind asks.1 m.no_help m.fault mean in
    (asked.0, (rows, m.is ∙ ap (λ (name : Text). Some (name, rows)) (sym asked.1), asked.2))
