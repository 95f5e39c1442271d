-- The names that the proofs of this crate speak of, and where they come from.
pub use Rattle.std.proofs.Common.{Bool, List, Some, [], ap, append-nil, append_assoc, ap₂, arith, cond, decimal, drop, false, get_or, inl, inr, length, map, not, refl, string_bytes, subst, suc, sym, take, true, true≢false, vec_items, zero, zero-add, ℕ, ◌&&◌, ◌*◌, ◌++◌, ◌+◌, ◌-◌, ◌/◌, ◌<◌, ◌==◌, ◌^◌, ◌∙◌, ◌∷◌, ◌≡◌, ◌≢◌, ◌≤◌, ◌⊎◌}
pub use Rattle.std.proofs.KnownBytes.{Appends-trans, Keeps-refl}
pub use Rattle.std.proofs.Math.Nat.{mul-le-mul_left}
pub use Rattle.std.proofs.lemmas.Bool.Decides.{nat_tests}
pub use Rattle.std.proofs.lemmas.Grind.{flat_map-append}
pub use Rattle.std.proofs.lemmas.List.{at_drop_more, length-append, length-map, map-append, same_lists, take_all, take_more, with_items_is}
pub use Rattle.std.proofs.lemmas.List.Elements.{All-cons, All-contains_itself, All-head, All-map, All-nil, All-tail, filter_map-append}
pub use Rattle.std.proofs.lemmas.List.Folds.{list_all_more}
pub use Rattle.std.proofs.lemmas.List.Sums.{fold-append, fold_more, sum_by-append}
pub use Rattle.std.proofs.lemmas.Option.{get_or_from_slice_get, same_Some, slice_get-get_or, slice_get_cases, slice_get_read, slice_get_within}
pub use Rattle.std.proofs.lemmas.Result.{IfErr-at_err, IfErr-weaker, IfOk-at_ok, IfOk-weaker, err_from_is_err_and, on_ok_weaker}
pub use Rattle.std.specs.Bool.{then_some}
pub use Rattle.std.specs.Borrow.{Bor}
pub use Rattle.std.specs.Char.{digit_value, is_digit}
pub use Rattle.std.specs.FinMap.{entries, get}
pub use Rattle.std.specs.Io.KnownBytes.{Appends}
pub use Rattle.std.specs.List.{AllByRecursion, concat, cons_option, flat_map, list_all, position_or_len}
pub use Rattle.std.specs.Option.{ForSome, option_map_or}
unfoldable pub use Rattle.std.specs.Path.{path_with_file_name}
pub use Rattle.std.specs.Prelude.{Contains, Err, IfErr, IfOk, IfSome, IsOk, IsSome, MatchOption, MatchResult, None, Ok, OnErr, OnOk, Option, Result, codes, fold, if◌then◌else◌, is_ok, is_some, min, nat_le, nat_lt, option_and_then, option_map, replicate, slice_get, sum_by, unwrap_or}
pub use Rattle.std.specs.Result.{result_map_both}
pub use Rattle.std.specs.declared.alloc.AllocError.{AllocError}
pub use Rattle.std.specs.declared.alloc.Global.{Global}
pub use Rattle.std.specs.declared.vec.Vec.{Vec}
pub use Rattle.ubi_change.proofs.AllGroups.{groups_count, in_order_more}
pub use Rattle.ubi_change.proofs.CutBlocks.{first_of_both, first_within}
pub use Rattle.ubi_change.proofs.CutSizes.{blocks-cut, length-cut}
pub use Rattle.ubi_change.proofs.PlanGroups.{groups_beside, groups_within}
pub use Rattle.ubi_change.specs.Avoided.{AllBeside, Avoided, avoiding, nothing}
pub use Rattle.ubi_change.specs.CommitPlanned.{SurvivesCommit}
pub use Rattle.ubi_change.specs.Cuts.{changed, turn}
pub use Rattle.ubi_change.specs.Edited.{edited_in}
pub use Rattle.ubi_change.specs.EditsAsked.{all_asked, first_beyond}
pub use Rattle.ubi_change.specs.Fitting.{AllWithin}
pub use Rattle.ubi_change.specs.Laying.{StaysOpen, after_contents, all_layings}
pub use Rattle.ubi_change.specs.Listed.{Hidden, hidden_in}
pub use Rattle.ubi_change.specs.Pages.{line_of, programmed}
pub use Rattle.ubi_change.specs.Planned.{IsChangeError, PlanFactsOfSource}
pub use Rattle.ubi_change.specs.RenamePlan.{renamed_pages, table_pages}
pub use Rattle.ubi_change.specs.RenamePlanned.{IsPlannedRename, IsRenameError}
pub use Rattle.ubi_change.specs.Renamed.{renamed}
pub use Rattle.ubi_change.specs.Steps.{after_text, blocks_after, step_done}
pub use Rattle.ubi_change.specs.UpdatePlan.{IsLaidFrom, IsPlanOf, base_of, in_order, plan_groups}
pub use Rattle.ubi_change.specs.UpdatePlanned.{ArePlannedSteps, AreUpdateSteps, IsAskedAt, IsPlannedUpdate, IsUpdateCause, IsUpdateError, IsUpdateErrorIn, IsUpdateFor}
pub use Rattle.ubi_change.specs.UpdateRefused.{asked_parts}
pub use Rattle.ubi_change.specs.declared.edit.Edit.{Edit}
pub use Rattle.ubi_change.specs.declared.edit.NewVolume.{NewVolume}
pub use Rattle.ubi_change.specs.declared.errors.ContentsError.{ContentsError}
pub use Rattle.ubi_change.specs.declared.errors.UpdateError.{UpdateError}
pub use Rattle.ubi_change.specs.declared.errors.UpdateRefusal.{UpdateRefusal}
pub use Rattle.ubi_change.specs.declared.laying.Laying.{Laying}
pub use Rattle.ubi_change.specs.declared.step.Step.{Step}
pub use Rattle.ubi_change.specs.declared.update.UpdatePlan.{UpdatePlan}
pub use Rattle.ubi_compose.proofs.NormalForm.{count-composed, count-normal_bytes}
pub use Rattle.ubi_compose.specs.Building.{CanBuild, IsBuildError, WhereNotBegun, image_built, known_after}
pub use Rattle.ubi_compose.specs.Built.{HaveMeaning, Parts}
pub use Rattle.ubi_compose.specs.Composed.{HasRoom}
pub use Rattle.ubi_compose.specs.Normal.{normal_blocks}
pub use Rattle.ubi_compose.specs.Streamed.{HasGot, IsStreamed}
pub use Rattle.ubi_compose.specs.TextLaws.{ComesTo}
unfoldable pub use Rattle.ubi_compose.specs.Words.{shown_name}
pub use Rattle.ubi_compose.specs.declared.errors.BuildError.{BuildError}
pub use Rattle.ubi_config.specs.Config.{sections_of}
unfoldable pub use Rattle.ubi_config.specs.Config.{first_config_fault}
pub use Rattle.ubi_config.specs.Words.{is_no_digit, most_bytes}
unfoldable pub use Rattle.ubi_config.specs.Words.{unit_named}
pub use Rattle.ubi_config.specs.Written.{config_text}
pub use Rattle.ubi_config.specs.declared.errors.ConfigCause.{ConfigCause}
pub use Rattle.ubi_config.specs.declared.section.Section.{Section}
pub use Rattle.ubi_config.specs.declared.volume.ConfigVolume.{ConfigVolume}
pub use Rattle.ubi_dumps.proofs.Ended.{OfFile-weaker, after_error, after_outcome, at_places, both, by_bytes, ends, is_open, of_any, read_at_places, told_at_places, told_by_bytes}
pub use Rattle.ubi_dumps.proofs.Outcomes.{holds_received, kept_after, kept_since, not_both, others_stay, told}
pub use Rattle.ubi_dumps.specs.Asked.{of_dump, untold}
pub use Rattle.ubi_dumps.specs.Ended.{IsEnded, Works, answered, no_read, no_source, no_write, outcome, read_failed, unopened}
pub use Rattle.ubi_dumps.specs.FileAnswers.{WritesFile}
pub use Rattle.ubi_files.proofs.FileRows.{row_sized, sum_cons}
pub use Rattle.ubi_files.proofs.MaskedBytes.{get_or-masked, length-masked, masked-take}
pub use Rattle.ubi_files.proofs.Tells.{Tells-weaker}
pub use Rattle.ubi_files.specs.AfterRun.{WhereNotDone, after_run}
pub use Rattle.ubi_files.specs.Answer.{Gives, says}
pub use Rattle.ubi_files.specs.BadBlocks.{bad_marks, masked}
pub use Rattle.ubi_files.specs.Disk.{AllStay, Files, Holds, IsJudgedOf, IsKept, IsLeft, IsTextOf, OthersStay, OutsideStay, Receives, Stays, fresh, full_of}
pub use Rattle.ubi_files.specs.Dump.{FitsWhole, before, blocks_before, marks_of, seen, viewed}
pub use Rattle.ubi_files.specs.Late.{contents_of}
pub use Rattle.ubi_files.specs.Lines.{file_line, refused_line}
pub use Rattle.ubi_files.specs.Numbers.{sizes_of}
pub use Rattle.ubi_files.specs.OverFile.{IsRead, IsUnread, IsUnseen, OfFile, bad_limit, cannot_read, file, image, no_file, places, unfit, unfit_whole, unreadable, whole}
pub use Rattle.ubi_files.specs.Row.{row_bytes}
pub use Rattle.ubi_files.specs.Views.{pages_of, part_of}
pub use Rattle.ubi_files.specs.declared.dump.Dump.{Dump}
pub use Rattle.ubi_files.specs.declared.numbers.Numbers.{Numbers}
pub use Rattle.ubi_files.specs.declared.outcome.Outcome.{Outcome}
pub use Rattle.ubi_files.specs.declared.outcome.ToolError.{ToolError}
pub use Rattle.ubi_laid.proofs.Lists.{all_append}
pub use Rattle.ubi_laid.specs.declared.part.Part.{Part}
pub use Rattle.ubi_media.specs.Fields.{blank, same_bytes}
pub use Rattle.ubi_media.specs.Geometry.{IsGeometry, Sizes}
unfoldable pub use Rattle.ubi_media.specs.Limits.{first_broken}
pub use Rattle.ubi_media.specs.Record.{rec_fault}
pub use Rattle.ubi_media.specs.declared.record.VolumeRecord.{VolumeRecord}
pub use Rattle.ubi_scan.proofs.InMemory.{still}
pub use Rattle.ubi_scan.proofs.NarrowedSource.{source_narrowed}
pub use Rattle.ubi_scan.specs.Image.{Image, IsWholeImage, IsWholeSize, eraseblocks, image_of, of_blocks, seen_of}
pub use Rattle.ubi_scan.specs.Marks.{is_listed}
pub use Rattle.ubi_scan.specs.Promised.{keeps_promise}
pub use Rattle.ubi_scan.specs.Source.{Agreed, Narrows, Source, WhereHeld, blocks_in, blocks_of, holds, known_by, memory}
pub use Rattle.ubi_scan.specs.declared.errors.StreamError.{StreamError}
pub use Rattle.ubi_table.specs.Records.{AreRecords, Records}
pub use Rattle.ubi_volume.proofs.Extracted.{len_none, len_some}
pub use Rattle.ubi_volume.proofs.Gathered.{listed_at}
pub use Rattle.ubi_volume.proofs.NarrowedPlaces.{places_narrowed}
pub use Rattle.ubi_volume.proofs.Received.{error_as, wrote_as}
pub use Rattle.ubi_volume.proofs.Unattached.{refuses}
pub use Rattle.ubi_volume.specs.Accepts.{Accepts, AcceptsBlocks}
pub use Rattle.ubi_volume.specs.Extract.{extent_in, extent_len, extent_of, read_text}
pub use Rattle.ubi_volume.specs.Meant.{Meant, records_of}
pub use Rattle.ubi_volume.specs.Places.{ArePlaces, ArePlacesOf, AreWithin, Placed}
pub use Rattle.ubi_volume.specs.Reading.{read_volume, volume_len}
pub use Rattle.ubi_volume.specs.Survey.{IsSurvey, Seen}
pub use Rattle.ubi_volume.specs.Wrote.{All, First, IsWroteError, NotAll, Wanted, Wrote}
pub use Rattle.ubi_volume.specs.declared.errors.ReadError.{ReadError}
pub use Rattle.ubi_volume.specs.declared.places.Extent.{Extent}
pub use Rattle.ubi_volume.specs.declared.places.PlaceContent.{PlaceContent}
pub use Rattle.ubi_words.specs.Shown.{shown}
pub use Rattle.ubi_words.specs.Words.{most_number}
pub use Rattle.ubi_writing.specs.Asks.{AskedEdits, IsNoEdit, all_edits, asked_edits, edit_for, edits_for, name_of, named_after, record_after, record_after_all, value_in, with_edit_for, with_written, written_edit}
pub use Rattle.ubi_writing.specs.Build.{AreBesideOut, AreGathered, ArePartsOf, Builds, BuildsParts, HaveImage, IsNoVolume, IsSized, IsUngathered, IsUnreadLine, Sized, built, config_line, faulty, gathered, image_path, image_paths, len_of, no_image, no_path, no_record, numbered_parts, section_part, ungathered}
pub use Rattle.ubi_writing.specs.ByteNumbers.{at_most, byte_number, bytes_within, decimal_number, hexadecimal_value, unit_after, with_hexadecimal}
pub use Rattle.ubi_writing.specs.Change.{Changes, ChangesFrom, CutMeans, HasPlan, IsChangeFault, not_blank_from, unplanned_from}
pub use Rattle.ubi_writing.specs.Compose.{Composes, ComposesInto, ComposesOf, crowded, fits, unmade, unread}
pub use Rattle.ubi_writing.specs.Contents.{Filled, Imaged, IsConfigOf, IsFaultyLine, IsFilled, IsImaged, IsOpenedAt, IsUnfilled, IsUnimaged, OfConfig, OfContents, all_asked_edits, all_bytes, all_reads, config_path, image_len, named_asks, no_contents, section_path, with_contents, with_section}
pub use Rattle.ubi_writing.specs.Extract.{Extracts, HasTextIn, HasVolumeText, IsExtractError, ReadsVolume, accepted, read, read_key, refused, refused_from, unread_from, wrote}
pub use Rattle.ubi_writing.specs.Key.{number_in}
pub use Rattle.ubi_writing.specs.Lines.{blocks_line, bytes_line}
pub use Rattle.ubi_writing.specs.Normalise.{HasMeaning, IsNormaliseError, Normalises, wrote_nothing}
pub use Rattle.ubi_writing.specs.Outputs.{OfText, OnGrid, WithList, WritesInto, WritesPlan, avoided, no_bytes, no_first_pages, no_last_image, no_list, no_pages, no_sizes, no_text, off_grid, on_grid, planned, text_limit, unwritten, with_list, written}
pub use Rattle.ubi_writing.specs.Pages.{IsReadyFor, IsSoundPlan, made_steps, pages_made}
pub use Rattle.ubi_writing.specs.Plan.{CutAccepts, IsCarryFault, IsWriteFault, cut_bytes, cut_text, plan_answer, plan_lines, step_line, steps_done}
pub use Rattle.ubi_writing.specs.PlanImage.{IsHiddenAt, bare, hiding, no_dump}
pub use Rattle.ubi_writing.specs.Rename.{CutIsNamed, HasRename, IsRenameFault, Renames, RenamesFrom, nameless_from}
pub use Rattle.ubi_writing.specs.Unpack.{AreUnpacked, AreUnpackedUntil, IsNewFile, IsUnpacked, Listed, Unpacks, UnpacksOf, all_described, described, file_byte, file_path, folder_config, listed, no_config, no_folder, unpacked, unpacked_line, unpacked_lines, unpacked_status}
unfoldable pub use Rattle.ubi_writing.specs.Unpack.{file_name}
pub use Rattle.ubi_writing.specs.Update.{AreEditsOf, AreLinesOf, ArePlanned, CutIsEdited, HasUpdate, IsNoEditOf, IsUpdateFault, UpdatesFrom, all_replaced, asked_words, no_edit_line, replaced_by, volume_line, written_lebs, written_lines}
pub use Rattle.ubi_writing.specs.Writes.{HasWork, HasWorkOf, writes, writes_of}
pub use Rattle.ubi_writing.specs.declared.asks.Ask.{Ask}
pub use Rattle.ubi_writing.specs.declared.build.Answers.{Answers}
pub use Rattle.ubi_writing.specs.declared.contents.Contents.{Contents}
pub use Rattle.ubi_writing.specs.declared.orders.Plan.{Plan}
pub use Rattle.ubi_writing.specs.declared.orders.Update.{Update}
pub use Rattle.ubi_writing.specs.declared.pages.Made.{Made}
pub use Rattle.ubi_writing.specs.declared.pages.MadeEdits.{MadeEdits}
pub use Rattle.ubi_writing.specs.declared.unpack.VolumeFile.{VolumeFile}
pub use Rattle.ubi_writing.specs.declared.volume_key.VolumeKey.{VolumeKey}
pub use Rattle.ubi_writing.specs.declared.writers.Writing.{Writing}
pub use Rattle.ubi_writing.specs.inner.Built.{AreAnswers, IsNotBegun, IsToldOf}
pub use Rattle.ubi_writing.specs.inner.Editing.{AreNoEdits, AreStepCounts, IsHeldPlan}
pub use Rattle.ubi_writing.specs.inner.Extracting.{HasFirst, IsExtractFault}
pub use Rattle.ubi_writing.specs.inner.Filling.{IsAllAsked, IsFilledBy, IsImagedBy, IsUnaskedBy, IsVolumeOf, bytes_in}
pub use Rattle.ubi_writing.specs.inner.Folder.{AreFilesOf, Ends, IsFileOf, config_in}
pub use Rattle.ubi_writing.specs.inner.Gathering.{AreSoFar, AreUnread, IsFoundFile, IsSectionPart, as_list}
pub use Rattle.ubi_writing.specs.inner.Planning.{AreCut, HasFile, IsCutAfter, NamesNoBlocks, Plans, TheseStay, done, refused_file}
pub use Rattle.ubi_writing.specs.inner.Replaced.{FinishesAtOnce, Replaces, both_written, not_replaced, output_unwritten, pages_unwritten, replaced, undone}
