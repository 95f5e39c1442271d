-- The commands: a row for each, with what it takes, what its words ask for, what it can answer, and which files it leaves alone.
use Rattle.std.specs.Prelude.{◌≡◌, ◌∷◌, ◌++◌, [], All, IfSome, List, Option, Some, codes, false, true, ℕ}
use Rattle.clap.specs.Faults.{fault_of}
use Rattle.clap.specs.Simple.{App, Shape, new_rule, new_shape, subcommand_of}
use Rattle.clap.specs.Walk.{Row, Text}
use Rattle.ubi_files.specs.Answer.{Gives, says}
use Rattle.ubi_writing.specs.Build.{Builds}
use Rattle.ubi_writing.specs.Change.{ChangesFrom, HasPlan}
use Rattle.ubi_commands.specs.CommandLine.{AsksAsked, AsksChange, AsksDump, AsksExtract, AsksFormat, AsksNewImage, AsksNumbers, AsksPart, AsksPaths, AsksRename, AsksUpdate, HasNumber, HasText, MayHaveText}
use Rattle.ubi_reading.specs.Comparisons.{ComparesOf, comparison_format}
use Rattle.ubi_writing.specs.Asks.{value_in}
use Rattle.ubi_writing.specs.Compose.{ComposesInto}
use Rattle.ubi_writing.specs.Contents.{OfConfig, OfContents, all_asked_edits, config_path}
use Rattle.ubi_files.specs.Disk.{AllStay, Files, OthersStay, OutsideStay, Stays}
use Rattle.ubi_files.specs.Dump.{greatest_dump}
use Rattle.ubi_writing.specs.Extract.{ExtractsOf, HasTextIn}
use Rattle.ubi_reading.specs.Geometry.{DetectsOf}
use Rattle.ubi_reading.specs.Map.{AnswersMap, LeavesMap}
use Rattle.ubi_writing.specs.Normalise.{HasMeaning, NormalisesOf}
use Rattle.ubi_dumps.specs.Asked.{OfAsked}
use Rattle.ubi_writing.specs.PlanImage.{WithHidden}
use Rattle.ubi_writing.specs.Outputs.{KeepsImage, KeepsPart, OfText, OnGrid, PlanStays, WithList, WritesInto, WritesPlan, avoided}
use Rattle.ubi_files.specs.OverFile.{OfFile, OfImage}
use Rattle.ubi_reading.specs.InFormat.{OfAskedIn, OfBothIn, OfFileIn}
use Rattle.ubi_reading.specs.Reads.{format_of, reads}
use Rattle.ubi_writing.specs.Rename.{HasRename, RenamesFrom}
use Rattle.ubi_commands.specs.Tool.{Mean, answer_format, command as takes, edit_options, image_part, needed, number, on_image, option, output, plan_options, volume}
use Rattle.ubi_writing.specs.Unpack.{UnpacksOf}
use Rattle.ubi_writing.specs.Update.{HasUpdate, UpdatesFrom}
use Rattle.ubi_files.specs.declared.outcome.Outcome.{Outcome}
use Rattle.ubi_reading.specs.declared.comparison.Comparison.{Comparison}
use Rattle.ubi_reading.specs.declared.comparison.Comparison.TheVariants as comparison
use Rattle.ubi_reading.specs.declared.readers.Reading.{Reading}
use Rattle.ubi_reading.specs.declared.readers.Reading.TheVariants as reading
use Rattle.ubi_commands.specs.declared.requests.Request.{Request}
use Rattle.ubi_commands.specs.declared.requests.Request.TheVariants as request

-- `geometry`, over an image alone, with the format of the answer
abbrev pub geometry : Shape
geometry = record (new_shape (codes "geometry")) { rules = image_part ++ answer_format ∷ [] }

-- `list`, over an image, with the format of the answer
abbrev pub list : Shape
list = on_image false (codes "list") (answer_format ∷ [])

-- `check`, over an image, with the format of the answer
abbrev pub check : Shape
check = on_image false (codes "check") (answer_format ∷ [])

-- `show`, over an image, with the eraseblock to show
abbrev pub show : Shape
show = on_image false (codes "show") (needed (number (codes "block")) ∷ [])

-- `map`, over an image, with the page to write, if one is asked for
abbrev pub map : Shape
map = on_image false (codes "map") (option (codes "out") ∷ [])

-- `extract`, over an image, with the file to write, and the number or the name of the volume
abbrev pub extract : Shape
extract = on_image false (codes "extract") (output ∷ number (codes "id") ∷ option (codes "name") ∷ [])

-- `unpack`, over an image, with the folder to write
abbrev pub unpack : Shape
unpack = on_image false (codes "unpack") (output ∷ [])

-- `compose`, over a text, with the file to write, and the spare eraseblocks and the image sequence number if given
abbrev pub compose : Shape
compose =
    takes true (codes "compose")
    (needed (new_rule (codes "SPEC")) ∷ output ∷ number (codes "spares") ∷ number (codes "seq") ∷ [])

-- `build`, over a config, with the file to write, and the spare eraseblocks and the image sequence number if given
abbrev pub build : Shape
build =
    takes true (codes "build")
    (needed (new_rule (codes "CONFIG")) ∷ output ∷ number (codes "spares") ∷ number (codes "seq") ∷ [])

-- `normalise`, over an image, with the file to write
abbrev pub normalise : Shape
normalise = on_image false (codes "normalise") (output ∷ [])

-- `same`, over an image and another, with the format of the answer
abbrev pub same : Shape
same = on_image false (codes "same") (needed (record (new_rule (codes "OTHER")) { value_names = 1 }) ∷ answer_format ∷ [])

-- `diff`, over an image and another, with the format of the answer
abbrev pub diff : Shape
diff = on_image false (codes "diff") (needed (record (new_rule (codes "OTHER")) { value_names = 1 }) ∷ answer_format ∷ [])

-- `change`, over an image, with the file to write, the volume, the LEB and the file of its bytes
abbrev pub change : Shape
change =
    on_image true (codes "change")
    (output ∷ volume ∷ needed (number (codes "lnum")) ∷ needed (option (codes "from")) ∷ plan_options)

-- `rename`, over an image, with the file to write, the volume and its name
abbrev pub rename : Shape
rename = on_image true (codes "rename") (output ∷ volume ∷ needed (option (codes "name")) ∷ plan_options)

-- `update`, over an image, with the file to write, and what is asked of its volumes
abbrev pub update : Shape
update = on_image true (codes "update") (output ∷ edit_options ++ plan_options)

-- all commands, in the order of the help
abbrev pub commands : List Shape
commands =
    geometry ∷ list ∷ check ∷ show ∷ map ∷ extract ∷ unpack ∷ compose ∷ build ∷ normalise ∷ same ∷ diff ∷ change ∷ rename ∷ update ∷ []

-- the program: it has a version, and a command has to be named
unfoldable pub tool : App
tool = record {
  top = record (new_shape (codes "ubi_tool")) { is_leaf = false; has_version = true; subcommand_required = true };
  subs = commands;
}

-- the command that reads one image, and writes no file
abbrev pub reading_command : Reading → Shape
reading_command (reading.Geometry part format) = geometry
reading_command (reading.List format) = list
reading_command (reading.Check format) = check
reading_command (reading.Show block) = show
reading_command reading.Map = map
reading_command reading.Page = map

-- the command that makes this comparison of two images
abbrev pub comparing_command : Comparison → Shape
comparing_command (comparison.Same format) = same
comparing_command (comparison.Diff format) = diff

-- what the words of a reading command say beside the dump and the image; a geometry and a map have requests of their own
abbrev pub AsksReading : List Row → Reading → Type 0
AsksReading words (reading.Geometry part format) = ⊥
AsksReading words (reading.List format) = AsksFormat words format
AsksReading words (reading.Check format) = AsksFormat words format
AsksReading words (reading.Show block) = HasNumber words (codes "block") block
AsksReading words reading.Map = ⊥
AsksReading words reading.Page = ⊥

-- what is said about a request: which command makes it; that the words give what it says; what can be answered, from the files
-- before and after; and which of these hold what they held
pub record Said : Type 1 where
  pub command : Shape
  pub asks : List Row → Type 0
  pub answers : Files → Files → Outcome → Type 0
  pub leaves : Files → Files → Type 0

-- what is said about each request
abbrev pub said_of : Request → Said
said_of (request.Geometry part image format) = record {
  command = geometry;
  asks = λ words. AsksPart words part × HasText words (codes "IMAGE") image × AsksFormat words format;
  answers = λ d e. OfFileIn format d (greatest_dump part) image.now (λ _. DetectsOf format part);
  leaves = AllStay;
}
said_of (request.Tell dump image what) = record {
  command = reading_command what;
  asks = λ words. AsksAsked words dump × HasText words (codes "IMAGE") image × AsksReading words what;
  answers = λ d e. OfAskedIn (format_of what) d e dump image.now (reads what);
  leaves = AllStay;
}
said_of (request.Map dump image page) = record {
  command = map;
  asks = λ words. AsksAsked words dump × HasText words (codes "IMAGE") image × MayHaveText words (codes "out") page;
  answers = λ d e. AnswersMap d e dump image.now page;
  leaves = λ d e. LeavesMap d e image.now page;
}
said_of (request.Extract dump extract_it) =
    let out = extract_it.paths.out.now in
    let key = extract_it.key in record {
      command = extract;
      asks = λ words. AsksAsked words dump × AsksExtract words extract_it;
      answers = λ d e. OfAsked d e dump extract_it.paths.image.now
          (λ s k agrees. WritesInto out d e (ExtractsOf key s k agrees) (HasTextIn key s agrees));
      leaves = λ d e. OthersStay d e out × Stays d e extract_it.paths.image.now;
    }
said_of (request.Unpack dump paths) = record {
  command = unpack;
  asks = λ words. AsksAsked words dump × AsksPaths words paths;
  answers = λ d e. OfAsked d e dump paths.image.now (UnpacksOf paths.out.now d e);
  leaves = λ d e. OutsideStay d e paths.out.now;
}
said_of (request.Compose numbers new) = record {
  command = compose;
  asks = λ words. AsksNumbers words numbers × AsksNewImage words (codes "SPEC") new;
  answers = λ d e. OfText d numbers new.from.now (λ s t. ComposesInto new.out.now d e s t new.spares new.image_seq);
  leaves = λ d e. OthersStay d e new.out.now × Stays d e new.from.now;
}
said_of (request.Build numbers new) = record {
  command = build;
  asks = λ words. AsksNumbers words numbers × AsksNewImage words (codes "CONFIG") new;
  answers = λ d e. OfText d numbers new.from.now (λ s t. Builds d e new.from.now new.out.now s t new.spares new.image_seq);
  leaves = λ d e. OthersStay d e new.out.now × Stays d e new.from.now;
}
said_of (request.Normalise dump paths) = record {
  command = normalise;
  asks = λ words. AsksAsked words dump × AsksPaths words paths;
  answers = λ d e o. OfAsked d e dump paths.image.now
      (λ s k agrees. WritesInto paths.out.now d e (NormalisesOf s k agrees) (HasMeaning s agrees)) o × KeepsImage d e paths.image.now o;
  leaves = λ d e. OthersStay d e paths.out.now;
}
said_of (request.Compare how dump left right) = record {
  command = comparing_command how;
  asks = λ words. AsksAsked words dump × HasText words (codes "IMAGE") left × HasText words (codes "OTHER") right
      × AsksFormat words (comparison_format how);
  answers = λ d e. OfBothIn (comparison_format how) d dump left.now right.now (ComparesOf how);
  leaves = AllStay;
}
said_of (request.Change dump change_it) =
    let plan = change_it.plan in
    let image = plan.paths.image.now in
    let out = plan.paths.out.now in
    record {
      command = change;
      asks = λ words. AsksDump words dump × AsksChange words change_it;
      answers = λ d e o. WithList d e dump.bad image (OnGrid d e dump image (WithHidden d dump image
          (λ hidden. OfFile d dump image (λ s k agrees. OfImage d dump.numbers change_it.from.now
          (λ f. WritesPlan out plan.pages d e
          (ChangesFrom (avoided dump plan hidden) change_it.id change_it.lnum f.bytes plan.stop s k agrees)
          (HasPlan (avoided dump plan hidden) change_it.id change_it.lnum f.bytes s k agrees)))))) o × KeepsImage d e image o;
      leaves = λ d e. PlanStays d e plan × Stays d e change_it.from.now × KeepsPart d e dump image;
    }
said_of (request.Rename dump rename_it) =
    let plan = rename_it.plan in
    let image = plan.paths.image.now in
    let out = plan.paths.out.now in
    record {
      command = rename;
      asks = λ words. AsksDump words dump × AsksRename words rename_it;
      answers = λ d e o. WithList d e dump.bad image (OnGrid d e dump image (WithHidden d dump image
          (λ hidden. OfFile d dump image (λ s k agrees. WritesPlan out plan.pages d e
          (RenamesFrom (avoided dump plan hidden) rename_it.id rename_it.name.now plan.stop s k agrees)
          (HasRename (avoided dump plan hidden) rename_it.id rename_it.name.now s k agrees))))) o × KeepsImage d e image o;
      leaves = λ d e. PlanStays d e plan × KeepsPart d e dump image;
    }
said_of (request.Update dump update_it) =
    let plan = update_it.plan in
    let image = plan.paths.image.now in
    let out = plan.paths.out.now in
    record {
      command = update;
      asks = λ words. AsksDump words dump × AsksUpdate words update_it;
      answers = λ d e o. WithList d e dump.bad image (OnGrid d e dump image (WithHidden d dump image
          (λ hidden. OfFile d dump image (λ s k agrees. OfConfig d dump.numbers update_it.config
          (λ xs. OfContents d dump.numbers update_it.contents.now (config_path update_it.config) xs
          (λ fs gs bytes. WritesPlan out plan.pages d e
          (UpdatesFrom (avoided dump plan hidden) (all_asked_edits update_it xs fs gs) bytes plan.stop s k agrees)
          (HasUpdate (avoided dump plan hidden) (all_asked_edits update_it xs fs gs) bytes s k agrees))))))) o × KeepsImage d e image o;
      leaves = λ d e. PlanStays d e plan × All (λ word. Stays d e (value_in word.now)) update_it.contents.now
          × IfSome update_it.config (λ path. Stays d e path.now) × KeepsPart d e dump image;
    }

-- the name of the command that makes a request
abbrev pub command_name : Request → List ℕ
command_name r = (said_of r).command.name

-- the words give what the request says
abbrev pub Asks : List Row → Request → Type 0
Asks words r = (said_of r).asks words

-- what can be answered to a request: what its command answers, for its own numbers, paths and volume, over the files
-- that are named, as they are seen, and with what becomes of the files that are written
abbrev pub IsAnswerTo : Files → Files → Request → Outcome → Type 0
IsAnswerTo d e r = (said_of r).answers d e

-- each file holds what it held, except the one that a request writes, or those in the folder that it writes; a text or a
-- file with new bytes holds what it held even if it is also named for the output
abbrev pub IsAllElse : Request → Files → Files → Type 0
IsAllElse r d e = (said_of r).leaves d e

-- the command that was named, with its words, is the request
abbrev pub IsRequest : Option (Text × List Row) → Request → Type 0
IsRequest named r = (words : List Row) × (named ≡ Some (command_name r, words)) × Asks words r

-- the command line takes the words, the program's name first: they have no fault, they ask for no help, those of `extract` name one
-- volume, what lists bad eraseblocks is a list, `--blank` has the word `keep`, a geometry is whole or left out, `--format` has the
-- word `text` or `json`, and what is given for a number of bytes is one
abbrev pub Takes : List Text → Type 0
Takes words = (fault_of tool words ≡ []) × Mean (subcommand_of tool words)

-- the words are taken, and are this request
abbrev pub Requests : List Text → Request → Type 0
Requests words r = Takes words × IsRequest (subcommand_of tool words) r

-- what the program can answer: nothing if the command line doesn't take the words, or else what can be answered to the
-- request that they are; and no file is changed except the one that it names
pub data IsAnswer (words : List (List ℕ)) (d e : Files) : Outcome → Type 0 where
  wrong_words : {o : Outcome} → (Takes words → ⊥) → Gives o (says [] 2) → AllStay d e → IsAnswer words d e o
  answered : {o : Outcome} (request : Request) → Requests words request → IsAnswerTo d e request o → IsAllElse request d e
      → IsAnswer words d e o
