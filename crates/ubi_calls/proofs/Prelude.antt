-- The names that the proofs of this crate speak of, and where they come from.
pub use Rattle.std.proofs.Common.{Bool, List, [], ap, append-nil, append_assoc, ap₂, arith, codes, cond, drop, false, get_or, le_refl, length, nat_le, nat_lt, refl, subst, suc, sym, take, true, zero, ℕ, ◌*◌, ◌++◌, ◌+◌, ◌-◌, ◌/◌, ◌<◌, ◌==◌, ◌∙◌, ◌∷◌, ◌≡◌, ◌≢◌, ◌≤◌}
pub use Rattle.std.proofs.Math.Nat.{div-mul-le_self}
pub use Rattle.std.proofs.lemmas.Bool.{eqb-true, le-ltb, leb-true, ltb-true, ne_eqb}
pub use Rattle.std.proofs.lemmas.List.{drop-drop, drop_all, get_or-drop, get_or-replicate, get_or-take, length-drop, length-replicate, length-take, length-take-le, nil_from_length, same_lists, take-append-drop, take_all, with_items_is}
pub use Rattle.std.proofs.lemmas.List.Sums.{passes_at_first}
pub use Rattle.std.proofs.lemmas.Nat.{div-mul-add, mul-le}
pub use Rattle.std.proofs.lemmas.Option.{none-some, same_Some}
pub use Rattle.std.proofs.lemmas.Result.{IfOk-at_ok, IfOk-weaker}
pub use Rattle.std.proofs.lemmas.Slice.{drop-put_mid}
pub use Rattle.std.specs.Bool.{then_some}
pub use Rattle.std.specs.Borrow.{Bor}
pub use Rattle.std.specs.FinMap.{get}
pub use Rattle.std.specs.List.{onto_first, position_or_len, slice_split}
pub use Rattle.std.specs.Option.{option_map_or}
pub use Rattle.std.specs.Prelude.{Err, IfErr, IfOk, None, Ok, OnOk, Option, Result, Some, fold, if◌then◌else◌, is_err, option_and_then, option_map, slice_range, unwrap_or}
pub use Rattle.std.specs.declared.alloc.AllocError.{AllocError}
pub use Rattle.ubi_change.specs.Avoided.{Avoided, IsNotBlank, ReadBlank}
pub use Rattle.ubi_change.specs.EditsAsked.{first_beyond, is_beyond}
pub use Rattle.ubi_change.specs.Listed.{Hidden, hidden_in}
pub use Rattle.ubi_change.specs.Pages.{programmed}
pub use Rattle.ubi_change.specs.UpdatePlanned.{IsUpdateCause, IsUpdateErrorIn}
pub use Rattle.ubi_change.specs.declared.edit.Edit.{Edit}
pub use Rattle.ubi_change.specs.declared.errors.UpdateError.{UpdateError}
pub use Rattle.ubi_change.specs.declared.errors.UpdateRefusal.{UpdateRefusal}
pub use Rattle.ubi_change.specs.declared.step.Step.{Step}
unfoldable pub use Rattle.ubi_compose.specs.Normal.{normal_bytes}
pub use Rattle.ubi_compose.specs.Streamed.{IsNormalisedTo}
pub use Rattle.ubi_files.proofs.MaskedBytes.{get_or-masked, length-masked, masked_none}
pub use Rattle.ubi_files.specs.AfterRun.{after_run}
pub use Rattle.ubi_files.specs.Answer.{Gives, says}
pub use Rattle.ubi_files.specs.BadBlocks.{marks_by_number, masked}
pub use Rattle.ubi_files.specs.Lines.{geometry_line}
pub use Rattle.ubi_files.specs.Views.{whole_file}
pub use Rattle.ubi_files.specs.declared.outcome.Outcome.{Outcome}
pub use Rattle.ubi_files.specs.declared.outcome.ToolError.{ToolError}
unfoldable pub use Rattle.ubi_media.specs.Ec.{ec_reading}
pub use Rattle.ubi_media.specs.Fields.{blank}
pub use Rattle.ubi_media.specs.Geometry.{IsGeometry, Sizes}
unfoldable pub use Rattle.ubi_media.specs.Limits.{first_broken}
pub use Rattle.ubi_media.specs.declared.geometry.GeometryError.{GeometryError}
pub use Rattle.ubi_media.specs.declared.record.VolumeRecord.{VolumeRecord}
pub use Rattle.ubi_reading.specs.Geometry.{Detects}
pub use Rattle.ubi_scan.proofs.Chunks.{length-first_chunks}
pub use Rattle.ubi_scan.proofs.InMemory.{still}
pub use Rattle.ubi_scan.proofs.Parts.{blank_ec}
pub use Rattle.ubi_scan.proofs.ReadParts.{part_of_block}
pub use Rattle.ubi_scan.specs.Image.{Image, IsWholeSize, block, ec, image_of, of_blocks}
pub use Rattle.ubi_scan.specs.Marks.{is_listed}
pub use Rattle.ubi_scan.specs.Source.{Narrows, Source, WhereHeld, blocks_of, holds, memory}
pub use Rattle.ubi_volume.proofs.OneMeaning.{Accepts-unique, never_accepted_and_refused}
pub use Rattle.ubi_volume.proofs.PlacesOf.{refused_in_memory}
pub use Rattle.ubi_volume.specs.Extract.{extent_len}
pub use Rattle.ubi_volume.specs.Meant.{Meant, records_of}
pub use Rattle.ubi_volume.specs.Places.{ArePlaces, ArePlacesOf, Placed}
pub use Rattle.ubi_volume.specs.Reading.{read_volume, volume_len}
pub use Rattle.ubi_writing.proofs.Extracted.{has_text}
pub use Rattle.ubi_writing.specs.Asks.{all_edits, edit_for, edit_of, edits_for, name_of, named_by, with_edit_for}
pub use Rattle.ubi_writing.specs.ByteNumbers.{at_most}
pub use Rattle.ubi_writing.specs.Change.{ChangesFrom}
pub use Rattle.ubi_writing.specs.Extract.{Extracts, IsExtractError}
pub use Rattle.ubi_writing.specs.Normalise.{IsNormaliseError, Normalises}
pub use Rattle.ubi_writing.specs.Pages.{pages_made}
pub use Rattle.ubi_writing.specs.Rename.{RenamesFrom}
pub use Rattle.ubi_writing.specs.Update.{AreEditsOf, UpdatesFrom, error_line, update_line}
pub use Rattle.ubi_writing.specs.declared.asks.Ask.{Ask}
pub use Rattle.ubi_writing.specs.declared.pages.Made.{Made}
pub use Rattle.ubi_writing.specs.declared.volume_key.VolumeKey.TheVariants.{Id}
pub use Rattle.ubi_calls.specs.Calls.{Fills, FillsBoth, MayTell, Streams, Under, bad_limit, both, ended, filled, named_sizes, neither, no_memory, printed, put_into, uncounted, under}
pub use Rattle.ubi_calls.specs.Contents.{Normal, ReadsContents, no_normal, normal, read, refused, unread}
pub use Rattle.ubi_calls.specs.EditLines.{AreAsksOf, AskFor, AsksFor, IsLineFor, IsWrongLine, by_words, edit_lines, has_value, length_in, taken_by, without_end}
pub use Rattle.ubi_calls.specs.Edits.{PlansChange, PlansRename, PlansUpdate, image_without, spared}
pub use Rattle.ubi_calls.specs.declared.numbers.DeviceSizes.{DeviceSizes}
pub use Rattle.ubi_calls.specs.declared.plans.Spared.{Spared}
pub use Rattle.ubi_calls.specs.declared.streams.Content.{Content}
pub use Rattle.ubi_calls.specs.inner.Asking.{answers}
pub use Rattle.ubi_calls.specs.inner.Editing.{HandsPlan, edit_plan, given_pages, spared_plan}
pub use Rattle.ubi_calls.specs.inner.Handing.{HandsOver, Leaves}
pub use Rattle.ubi_calls.specs.inner.Streaming.{IsUnwritten, Writes, said, wanted, wrote}
