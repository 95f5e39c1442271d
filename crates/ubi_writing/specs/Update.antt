-- What updating volumes of an image answers.
use Rattle.std.specs.Prelude.{◌≡◌, ◌⊎◌, ℕ, ◌++◌, List, [], ◌∷◌, Option, Some, None, codes, count_by, decimal, filter_map, get_or, if◌then◌else◌, is_some, slice_get, take, ◌==◌}
use Rattle.std.specs.Io.KnownBytes.{Keeps}
use Rattle.std.specs.Option.{option_map_or}
use Rattle.ubi_media.specs.Geometry.{Sizes}
use Rattle.ubi_media.specs.declared.refusal.Refusal.{Refusal}
use Rattle.ubi_change.specs.Avoided.{Avoided}
use Rattle.ubi_change.specs.Cuts.{turn}
use Rattle.ubi_change.specs.Edited.{edited_in}
use Rattle.ubi_change.specs.EditsAsked.{all_asked}
use Rattle.ubi_change.specs.ErrorTexts.{edit_fault_text, update_error_text, update_refusal_text}
use Rattle.ubi_change.specs.Laying.{all_layings}
use Rattle.ubi_change.specs.Pages.{programmed}
use Rattle.ubi_change.specs.RenamePlan.{table_pages}
use Rattle.ubi_change.specs.UpdatePlanned.{ArePlannedSteps, IsAskedAt, IsUpdateErrorIn}
use Rattle.ubi_change.specs.UpdateRefused.{asked_parts}
use Rattle.ubi_change.specs.declared.edit.Edit.{Edit}
use Rattle.ubi_change.specs.declared.edit.Edit.TheVariants as edit
use Rattle.ubi_change.specs.declared.errors.UpdateError.{UpdateError}
use Rattle.ubi_change.specs.declared.errors.UpdateError.TheVariants as error
use Rattle.ubi_change.specs.declared.errors.UpdateRefusal.{UpdateRefusal}
use Rattle.ubi_change.specs.declared.errors.UpdateRefusal.TheVariants as refusal
use Rattle.ubi_change.specs.declared.laying.Laying.{Laying}
use Rattle.ubi_change.specs.declared.step.Step.{Step}
use Rattle.ubi_laid.specs.declared.part.Part.{Part}
use Rattle.ubi_scan.specs.Image.{Image, image_of, of_blocks}
use Rattle.ubi_scan.specs.Source.{Agreed, Source, WhereHeld}
use Rattle.ubi_scan.specs.declared.errors.StreamError.TheVariants as stream
use Rattle.ubi_volume.specs.Attached.{AttachValue, IsAttached}
use Rattle.ubi_volume.specs.Meant.{records_of}
use Rattle.ubi_volume.specs.Places.{ArePlacesError}
use Rattle.ubi_volume.specs.Wrote.{All, Wrote}
use Rattle.ubi_files.specs.Answer.{Gives, says}
use Rattle.ubi_files.specs.Lines.{file_line, refusal_line, refused_line}
use Rattle.ubi_files.specs.declared.outcome.Outcome.{Outcome}
use Rattle.ubi_files.specs.declared.outcome.ToolError.{ToolError}
use Rattle.ubi_files.specs.declared.outcome.ToolError.TheVariants as tool
use Rattle.ubi_words.specs.Shown.{shown}
use Rattle.ubi_table.specs.Records.{Records}
use Rattle.ubi_writing.specs.Asks.{AskedEdits, IsNoEdit, all_edits, asked_names, name_of, named_by}
use Rattle.ubi_writing.specs.Plan.{CutAccepts, IsCarryFault, cut_text, not_blank_line, plan_lines, steps_done}
use Rattle.ubi_writing.specs.declared.asks.Ask.{Ask}
use Rattle.ubi_writing.specs.declared.asks.Ask.TheVariants as ask

-- the volume that an edit replaces, if it writes one
abbrev pub replaced_by : Edit → Option (Option ℕ)
replaced_by (edit.Replace id v) = Some (Some id)
replaced_by (edit.Create v) = Some None
replaced_by _ = None

-- the volumes that those of edits replace, in their order
abbrev pub all_replaced : List Edit → List (Option ℕ)
all_replaced es = filter_map replaced_by es

-- what a volume replaces, in words
abbrev pub replaced_words : Option ℕ → List ℕ
replaced_words (Some id) = codes " replaces " ++ decimal id
replaced_words None = codes " new"

-- the line of a volume that is written, by how many of its LEBs are, and what it replaces
abbrev pub volume_line : ℕ → Part → Option ℕ → List ℕ
volume_line lebs p old =
    codes "volume " ++ decimal p.id ++ replaced_words old ++ codes " lebs=" ++ decimal lebs ++ codes " name=" ++ shown p.entry.name ++ codes "\n"

-- how many of the LEBs that are written belong to a volume
abbrev pub written_lebs : List Laying → ℕ → ℕ
written_lebs ls id = count_by (λ l. l.piece.header.vol_id == id) ls

-- the lines of volumes that are written, with what each replaces
abbrev pub written_lines : List Laying → List Part → List (Option ℕ) → List ℕ
written_lines ls (p ∷ ps) (old ∷ olds) = volume_line (written_lebs ls p.id) p old ++ written_lines ls ps olds
written_lines ls _ _ = []

-- the name under which something is asked, in words; there is none where nothing is
abbrev pub asked_words : AskedEdits → ℕ → List ℕ
asked_words w i = option_map_or (λ name. codes " name=" ++ name) (slice_get (asked_names w) i) []

-- the line of edits that aren't planned: one that isn't made is told by the name of its volume; there is none if memory ran out
abbrev pub update_line : AskedEdits → UpdateRefusal → Option (List ℕ)
update_line w refusal.Memory = None
update_line w (refusal.Edit i f) = Some (refused_line (edit_fault_text f ++ asked_words w i))
update_line w c = Some (refused_line (update_refusal_text c))

-- the line of contents that can't be read, by the paths of their files, in the order of the volumes that are written
abbrev pub unread_contents_line : List (List ℕ) → ℕ → List ℕ
unread_contents_line paths i = file_line (codes "cannot read ") (get_or paths i [])

-- the line of an error of a plan; there is none if a read of the image failed or memory ran out
abbrev pub error_line : AskedEdits → UpdateError → Option (List ℕ)
error_line w (error.Refused c) = update_line w c
error_line w (error.NotBlank p) = Some (not_blank_line p)
error_line w (error.Beyond i) = Some (refused_line (update_error_text (error.Beyond i)))
error_line w (error.Contents i) = Some (unread_contents_line w.paths i)
error_line w (error.Read p) = None

-- an image is attached, and these are the edits that are asked for
pub record AreEditsOf (image : Image) (w : AskedEdits) (es : List Edit) : Type 0 where
  pub from : AttachValue
  pub attached : IsAttached image from
  pub edits : all_edits (records_of from.meaning) w ≡ Some es

-- what is wrong with the value of a word
abbrev pub unfit_text : Ask → List ℕ
unfit_text (ask.Resize word) = codes "U9 BadSize"
unfit_text _ = codes "N1 BadName"

-- the line of what stands for no edit: its name is that of no volume, or its value isn't what it has to be
abbrev pub no_edit_line : Records → AskedEdits → ℕ → Ask → List ℕ
no_edit_line t w i a =
    refused_line ((if is_some (named_by t (name_of a)) then unfit_text a else codes "U1 NoVolume") ++ asked_words w i)

-- an image is attached, and this is the line of the first that stands for no edit
pub record IsNoEditOf (image : Image) (w : AskedEdits) (line : List ℕ) : Type 0 where
  pub from : AttachValue
  pub attached : IsAttached image from
  pub at : ℕ
  pub no_edit : IsNoEdit (records_of from.meaning) w.asks at
  pub said : line ≡ no_edit_line (records_of from.meaning) w at no_edit.ask

-- the lines of the volumes that edits of an image write
pub record AreLinesOf (image : Image) (av : Avoided) (contents : List ℕ) (es : List Edit) (lines : List ℕ) : Type 0 where
  pub from : AttachValue
  pub attached : IsAttached image from
  pub are : let parts = of_blocks asked_parts image av.ends from es in
      lines ≡ written_lines (all_layings image.sizes contents parts) parts (all_replaced es)

-- the image after the first k steps is accepted: before the commit point it means what it meant at first, and from it on what the
-- edits make of it
abbrev pub CutIsEdited : Image → Avoided → List ℕ → List Edit → List Step → ℕ → Type 0
CutIsEdited image av contents es steps k =
    (a : AttachValue) × IsAttached image a
    × (let n = of_blocks edited_in image av.ends a.meaning (all_asked image.sizes contents es) in
    CutAccepts image steps (turn image.sizes steps (table_pages image.sizes (records_of n))) a.meaning n k)

-- the steps that are planned for what is asked
pub record ArePlanned (av : Avoided) (w : AskedEdits) (contents : List ℕ) (s : Sizes) (k : Source) (agrees : Agreed) (es : List Edit)
    (steps : List Step) : Type 0 where
  pub asked : WhereHeld agrees (λ bytes. AreEditsOf (image_of s bytes) w es)
  pub plan : ArePlannedSteps s k agrees av contents es steps

-- something is planned for what is asked
abbrev pub HasUpdate : Avoided → AskedEdits → List ℕ → Sizes → Source → Agreed → Type 0
HasUpdate av w contents s k agrees = (es : List Edit) × (steps : List Step) × ArePlanned av w contents s k agrees es steps

module _ (av : Avoided) (w : AskedEdits) (contents : List ℕ) (stop : Option ℕ) (s : Sizes) (k : Source) (agrees : Agreed) where
  -- what is answered for a source: the lines of the volumes that are written, and of a plan that avoids some eraseblocks, with
  -- the pages that the steps done program; and the writer received what the file holds, whatever the source may hold. Or the line of an
  -- image that is refused, of what stands for no edit, of why nothing is planned, or of contents that can't be read, and the writer received
  -- nothing
  pub data UpdatesFrom (pages : List ℕ) (old now : Option (List ℕ)) : Outcome → Type 0 where
    planned_from : {o : Outcome} (es : List Edit) (steps : List Step) (lines : List ℕ) → ArePlanned av w contents s k agrees es steps
        → WhereHeld agrees (λ bytes. AreLinesOf (image_of s bytes) av contents es lines)
        → Gives o (says (lines ++ plan_lines steps) 0) → pages ≡ programmed (take (steps_done steps stop) steps)
        → Wrote agrees old now (cut_text s steps (steps_done steps stop)) All 0 k.size
        → WhereHeld agrees (λ bytes. CutIsEdited (image_of s bytes) av contents es steps (steps_done steps stop)) → UpdatesFrom pages old now o
    refused_from : {o : Outcome} (c : Refusal) → ArePlacesError s k agrees (stream.Refused c) → Gives o (says (refusal_line c) 1)
        → Keeps old now → UpdatesFrom pages old now o
    unasked_from : {o : Outcome} (line : List ℕ) → WhereHeld agrees (λ bytes. IsNoEditOf (image_of s bytes) w line)
        → Gives o (says line 1) → Keeps old now → UpdatesFrom pages old now o
    unplanned_from : {o : Outcome} (es : List Edit) (e : UpdateError) (line : List ℕ)
        → WhereHeld agrees (λ bytes. AreEditsOf (image_of s bytes) w es) → IsUpdateErrorIn s k agrees av contents es e
        → error_line w e ≡ Some line → Gives o (says line 1) → Keeps old now → UpdatesFrom pages old now o
    unread_from : {o : Outcome} (es : List Edit) (i at : ℕ) → WhereHeld agrees (λ bytes. AreEditsOf (image_of s bytes) w es)
        → WhereHeld agrees (λ bytes. IsAskedAt (image_of s bytes) av es i at) → Gives o (says (unread_contents_line w.paths i) 1) → Keeps old now
        → UpdatesFrom pages old now o

  -- why there is no answer: memory ran out, and the writer received nothing; or a read or a write failed, and it received
  -- the first of what the plan leaves
  abbrev pub IsUpdateFault : Option (List ℕ) → Option (List ℕ) → ToolError → Type 0
  IsUpdateFault old now tool.Memory = Keeps old now
  IsUpdateFault old now tool.Read =
      Keeps old now
      ⊎ ((es : List Edit) × (steps : List Step) × ArePlanned av w contents s k agrees es steps
      × IsCarryFault s agrees steps (steps_done steps stop) old now tool.Read)
  IsUpdateFault old now tool.Write =
      (es : List Edit) × (steps : List Step) × ArePlanned av w contents s k agrees es steps
      × IsCarryFault s agrees steps (steps_done steps stop) old now tool.Write
