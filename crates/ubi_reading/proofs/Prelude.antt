-- The names that the proofs of this crate speak of, and where they come from.
pub use Rattle.std.proofs.Common.{Bool, Err, List, Some, [], ap, append-nil, append_assoc, arith, codes, false, get_or, inl, inr, length, map, refl, string_bytes, subst, suc, sym, take, true, true≢false, vec_items, zero, ℕ, ◌++◌, ◌+◌, ◌<◌, ◌↔◌, ◌∙◌, ◌∷◌, ◌≡◌, ◌≤◌, ◌⊎◌}
pub use Rattle.std.proofs.lemmas.Bool.{false≢true}
pub use Rattle.std.proofs.lemmas.Grind.{common_steps, flat_map-append}
pub use Rattle.std.proofs.lemmas.List.{map-append, take_all, take_more}
pub use Rattle.std.proofs.lemmas.List.Elements.{All-append}
pub use Rattle.std.proofs.lemmas.Result.{IfOk-at_ok, IfOk-weaker, err_from_is_err_and}
pub use Rattle.std.specs.FinMap.{entries}
unfoldable pub use Rattle.std.specs.Fmt.{digits}
pub use Rattle.std.specs.List.{flat_map}
pub use Rattle.std.specs.Prelude.{All, IfErr, IfOk, IfSome, IsTrue, None, Ok, Result, decimal}
pub use Rattle.std.specs.declared.alloc.AllocError.{AllocError}
pub use Rattle.ubi_compare.specs.declared.difference.Difference.{Difference}
pub use Rattle.ubi_detect.specs.Detected.{AreDetectedOf, IsDetectError}
pub use Rattle.ubi_detect.specs.Images.{AreImagesBeside}
pub use Rattle.ubi_detect.specs.declared.detect.Detected.{Detected}
pub use Rattle.ubi_detect.specs.declared.detect.Undetected.{Undetected}
pub use Rattle.ubi_detect.specs.declared.images.Images.{Images}
pub use Rattle.ubi_dumps.proofs.Ended.{OfFile-weaker, Works-weaker, at_places, beside_bytes, beside_places, both, by_bytes, dumps_at_places, dumps_by_bytes, read_at_places, read_by_bytes, unread_side}
pub use Rattle.ubi_dumps.proofs.Found.{no_read, tells_less}
pub use Rattle.ubi_dumps.specs.Asked.{OfAsked, OfBoth, alike, no_left, no_right, of_dump, unlike, untold}
pub use Rattle.ubi_dumps.specs.Ended.{answered, left_failed, right_failed}
pub use Rattle.ubi_dumps.specs.FileAnswers.{WritesFile, kept, lost}
pub use Rattle.ubi_dumps.specs.Lines.{undetected_line}
pub use Rattle.ubi_dumps.specs.Read.{IsUnreadOfAsked, IsUnreadOfBoth, OfRead, OfReadAsked, OfReadBoth}
pub use Rattle.ubi_dumps.specs.declared.asked.Asked.{Asked}
pub use Rattle.ubi_files.proofs.Tells.{Tells-weaker}
pub use Rattle.ubi_files.specs.AfterRun.{after_run}
pub use Rattle.ubi_files.specs.Answer.{Gives, says}
pub use Rattle.ubi_files.specs.Disk.{Files, IsJudgedOf}
pub use Rattle.ubi_files.specs.Dump.{Fits, FitsWhole, seen}
pub use Rattle.ubi_files.specs.Lines.{refusal_line}
pub use Rattle.ubi_files.specs.Numbers.{greatest_numbers, sizes_of}
pub use Rattle.ubi_files.specs.OverFile.{IsRead, IsUnseen, OfFile, WhereRead, file, no_file, places, unreadable, whole}
pub use Rattle.ubi_files.specs.Told.{Tells}
pub use Rattle.ubi_files.specs.Views.{whole_file}
pub use Rattle.ubi_files.specs.declared.dump.Dump.{Dump}
pub use Rattle.ubi_files.specs.declared.image_file.Unread.{Unread}
pub use Rattle.ubi_files.specs.declared.outcome.Outcome.{Outcome}
pub use Rattle.ubi_files.specs.declared.outcome.ToolError.{ToolError}
pub use Rattle.ubi_files.specs.declared.view.FilePart.{FilePart}
pub use Rattle.ubi_json.specs.Differences.{are_none}
pub use Rattle.ubi_json.specs.Line.{json_line}
pub use Rattle.ubi_json.specs.List.{list_data, listed_data, listed_volume}
pub use Rattle.ubi_json.specs.declared.list.ListedVolume.{ListedVolume}
pub use Rattle.ubi_laid.proofs.ListedVolumes.{count, volume_at}
pub use Rattle.ubi_map.specs.Headers.{block_lines}
pub use Rattle.ubi_map.specs.Letters.{header_letters, rows}
pub use Rattle.ubi_map.specs.Map.{block_texts, refused_page_data, surveyed_data}
pub use Rattle.ubi_map.specs.Page.{page_of}
pub use Rattle.ubi_media.specs.Geometry.{Sizes}
unfoldable pub use Rattle.ubi_media.specs.Limits.{first_broken}
pub use Rattle.ubi_media.specs.Record.{rec_fault}
pub use Rattle.ubi_media.specs.declared.record.VolumeRecord.{VolumeRecord}
pub use Rattle.ubi_media.specs.declared.refusal.Refusal.{Refusal}
pub use Rattle.ubi_scan.proofs.NarrowedSource.{source_narrowed}
pub use Rattle.ubi_scan.proofs.ReadParts.{count_blocks}
pub use Rattle.ubi_scan.specs.Image.{IsLengthFault, IsWholeSize, block, image_of}
pub use Rattle.ubi_scan.specs.Promised.{keeps_promise}
pub use Rattle.ubi_scan.specs.Source.{Agreed, IsSource, Narrows, Source, WhereHeld, blocks_in, blocks_of, holds, known_by, memory}
pub use Rattle.ubi_table.specs.Records.{AreRecords, Records}
pub use Rattle.ubi_volume.proofs.Gathered.{listed_at, listed_item}
pub use Rattle.ubi_volume.proofs.NarrowedPlaces.{places_narrowed}
pub use Rattle.ubi_volume.proofs.OfSurvey.{survey_narrowed}
pub use Rattle.ubi_volume.proofs.Unattached.{refuses}
pub use Rattle.ubi_volume.specs.Accepts.{Refuses}
pub use Rattle.ubi_volume.specs.Amounts.{AmountIs}
pub use Rattle.ubi_volume.specs.Meant.{Meant}
pub use Rattle.ubi_volume.specs.Places.{ArePlaces, ArePlacesError, ArePlacesOf, Placed}
pub use Rattle.ubi_volume.specs.Survey.{IsSurvey, Seen}
pub use Rattle.ubi_volume.specs.declared.block.Amount.{Amount}
pub use Rattle.ubi_volume.specs.declared.content.Volume.{Volume}
pub use Rattle.ubi_reading.specs.Check.{accepted, refused, state_line, surveyed, unsurveyed}
unfoldable pub use Rattle.ubi_reading.specs.Check.{printed_states}
pub use Rattle.ubi_reading.specs.Comparisons.{AnswersOf, ComparesOf, compared, compared_from, comparison_format, comparison_status, difference_line, differences_told, left_refused, left_refused_from, right_refused, right_refused_from, same_told}
pub use Rattle.ubi_reading.specs.Formats.{undetected_in}
pub use Rattle.ubi_reading.specs.Geometry.{Detects, detected, detected_from, geometry_told, options_lines, span_line, undetected, undetected_from}
unfoldable pub use Rattle.ubi_reading.specs.Geometry.{options, sizes_options}
pub use Rattle.ubi_reading.specs.InFormat.{OfAskedIn, OfBothIn, OfFileIn, failed}
pub use Rattle.ubi_reading.specs.Lines.{no_block_line}
pub use Rattle.ubi_reading.specs.List.{list_lines, listed, record_line, unlisted, volume_line}
unfoldable pub use Rattle.ubi_reading.specs.List.{room_words, sizes_line}
pub use Rattle.ubi_reading.specs.Map.{IsPageOf, Maps, MapsFrom, PicturesInto, accepted_page, mapped, mapped_from, no_blocks, no_blocks_from, no_page, pictured, refused_map, refused_map_from, refused_page, unpictured}
pub use Rattle.ubi_reading.specs.Reads.{format_of, reads}
pub use Rattle.ubi_reading.specs.Show.{Shows, no_block, no_block_from, no_image, no_size, shown, shown_from}
pub use Rattle.ubi_reading.specs.declared.comparison.Comparison.{Comparison}
pub use Rattle.ubi_reading.specs.declared.format.Format.{Format}
pub use Rattle.ubi_reading.specs.inner.Formatted.{IsLineIn, IsToldIn, its_own, printed}
pub use Rattle.ubi_reading.specs.inner.Pictured.{IsPageBy, by_cause, by_meaning}
