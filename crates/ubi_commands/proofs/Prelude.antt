-- The names that the proofs of this crate speak of, and where they come from.
pub use Rattle.std.proofs.Common.{Bool, Less, List, None, Option, Some, [], ap, append-nil, ap₂, arith, cond, drop, false, get_or, inl, inr, length, map, not, refl, replicate, rules, slice_range, string_bytes, subst, suc, sym, take, true, true≢false, zero, ℕ, ◌%◌, ◌&&◌, ◌*◌, ◌++◌, ◌+◌, ◌-◌, ◌/◌, ◌<◌, ◌==◌, ◌^◌, ◌||◌, ◌↔◌, ◌∙◌, ◌∷◌, ◌≡◌, ◌≤◌, ◌⊎◌}
pub use Rattle.std.proofs.Math.Nat.{mod-add-div', mul-le-mul_right, mul-mod_left}
pub use Rattle.std.proofs.Math.Seq.{drop-append-add}
pub use Rattle.std.proofs.lemmas.Bool.{eqb-true, le-leb, ne_eqb}
pub use Rattle.std.proofs.lemmas.Bool.Decides.{nat_tests}
pub use Rattle.std.proofs.lemmas.Cmp.{nat_cmp_total, ranked}
pub use Rattle.std.proofs.lemmas.Fmt.{digits_decimal, digits_value-decimal}
pub use Rattle.std.proofs.lemmas.Int.{ints}
pub use Rattle.std.proofs.lemmas.List.{append_assoc, drop_at, get_or-append_right, get_or-replicate, length-append, length-map, length-take-le, take-append-le, take_all, take_at}
pub use Rattle.std.proofs.lemmas.List.Elements.{All-append, All-from_recursion, All-map, All-replicate, All-weaker}
pub use Rattle.std.proofs.lemmas.List.Folds.{list_all_at}
pub use Rattle.std.proofs.lemmas.List.Sums.{fold_more}
pub use Rattle.std.proofs.lemmas.Option.{get_or_from_slice_get, none-some, same_Some, slice_get_within}
pub use Rattle.std.proofs.lemmas.Result.{IfOk-weaker}
pub use Rattle.std.proofs.lemmas.Slice.Eq.{bytes_eq-Decides}
pub use Rattle.std.proofs.lemmas.Str.Parse.{IsNumeralModel, digit_from_value, numerals_by_fold}
pub use Rattle.std.specs.Bool.{then_some}
pub use Rattle.std.specs.Borrow.{Bor}
pub use Rattle.std.specs.Char.{is_ascii_digit}
pub use Rattle.std.specs.FinMap.{entries, nat_cmp-IsAntisymmetric}
pub use Rattle.std.specs.Io.KnownBytes.{Appends}
pub use Rattle.std.specs.List.{AllByRecursion, concat, cons_option, find, flat_map, list_all, list_any, range_with_len, slice_split}
unfoldable pub use Rattle.std.specs.List.{IsDistinct}
pub use Rattle.std.specs.Option.{ForSome, option_map_or}
pub use Rattle.std.specs.Ordering.{nat_cmp}
pub use Rattle.std.specs.Prelude.{Contains, Err, IfOk, IfSome, IsErr, IsSome, IsTrue, MatchOption, Ok, Result, codes, decimal, filter_map, fold, if◌then◌else◌, is_ok, is_some, option_and_then, option_map, pos, slice_get, sum_by, unwrap_or}
pub use Rattle.std.specs.Str.{bytes_eq}
unfoldable pub use Rattle.std.specs.Str.{chars}
pub use Rattle.std.specs.Str.Parse.{ExplainsUnsignedError, HasUnsignedDigitsIfOk, IsNumeral, ParsesUnsigned, digits_value, starts_with_minus, without_leading_plus}
pub use Rattle.std.specs.declared.alloc.AllocError.{AllocError}
pub use Rattle.byteorder.specs.Endian.{big_number}
pub use Rattle.byteorder.specs.Numbers.{big_number-reads_back}
pub use Rattle.clap.proofs.CutLemmas.{Lacks, after_first-at, before_first-at, slice_split-at}
unfoldable pub use Rattle.clap.proofs.OnLiterals.{clap_on_literals}
pub use Rattle.clap.proofs.ValueTestLemmas.{Accepts-accepts, accepts-Accepts}
pub use Rattle.clap.proofs.WalkLemmas.{both, first_value-rows, one_text-rows, raw_values-rows}
pub use Rattle.clap.specs.Built.{AddsArg, AddsSubcommand, subcommand_names}
pub use Rattle.clap.specs.Facts.{explicit_source, parser_of_value, unwrap_or_range}
pub use Rattle.clap.specs.Faults.{action_fault, built_fault, bundle_fault, bundle_step_fault, check_fault, entered_fault, fault_of, flag_word_fault, is_simple_and_free, level_fault, long_fault, option_fault, other_fault, positional_fault, react_fault, set_fault, settle_fault, short_fault, step_fault, turn_fault, use_fault, values_fault, word_fault}
unfoldable pub use Rattle.clap.specs.Faults.{defaults_fault, flags_fault, walk_fault}
pub use Rattle.clap.specs.Kinds.{HasKind, IsAmong, Kinds, check_kinds, or_else, range_kinds}
pub use Rattle.clap.specs.Lexer.{long_of, short_of, without_minus}
pub use Rattle.clap.specs.Matches.{ReadsOne, first_value, found_of, matched_of, one_text, raw_values}
pub use Rattle.clap.specs.Simple.{App, HasMatchesOf, Shape, app_of, app_of_fields, argument_words, entered, is_simple, label_of, names_of, new_app, on_top, rows_at, shape_of, subcommand_of, subcommand_rows_of, with_rule, with_subcommand}
pub use Rattle.clap.specs.Takes.{is_given, value_passes}
pub use Rattle.clap.specs.ValueTests.{accepts}
pub use Rattle.clap.specs.Values.{IsSignedIn, is_request, kind_of, read_as, reading_of}
pub use Rattle.clap.specs.Walk.{Held, Names, Row, Rule, Step, Text, Waiting, Walk, action_of, after_flag, after_step, all_of, answers_to, arg_by_id, arg_by_index, arg_by_long, arg_by_short, at_row, attached_value, bundle, bundle_step, default_rows, done, finished, first_of, flag_met, has_row, idle, is_empty, is_pending, long_met, long_or_other, more_values, most_values, next, nothing_held, one_of, option, option_met, option_word, plain, plain_word, positional, pushed, reacted, reading_by, refused, row_text, rows_after, rows_of, rule_of, settled, settled_rows, short_met, short_or_plain, stop_after, stronger, subcommand, subcommand_met, subcommand_or_other, takes_several, takes_values, to_positional, trailing, used, used_as, used_by_id, value, values_or_missing, waits, walk, walk_from, walked_from, with_default, with_values, without, word_met}
unfoldable pub use Rattle.clap.specs.Walk.{bundle_met, walked}
pub use Rattle.clap.specs.declared.builder.action.ArgAction.{ArgAction}
pub use Rattle.clap.specs.declared.builder.arg.Arg.{Arg}
pub use Rattle.clap.specs.declared.builder.command.Command.{Command}
pub use Rattle.clap.specs.declared.builder.command.Command.TheViews.{out-Command}
pub use Rattle.clap.specs.declared.builder.value_parser.Reading.{Reading}
pub use Rattle.clap.specs.declared.builder.value_parser.ValueParser.{ValueParser}
pub use Rattle.clap.specs.declared.error.Error.{Error}
pub use Rattle.clap.specs.declared.error.kind.ErrorKind.TheVariants.{DisplayHelp, InvalidSubcommand, TooManyValues}
pub use Rattle.clap.specs.declared.parser.matches.ArgMatches.{ArgMatches}
pub use Rattle.clap.specs.declared.parser.matches.Found.{Found}
pub use Rattle.clap.specs.declared.parser.matches.ValueSource.TheVariants.{CommandLine}
pub use Rattle.ubi_change.proofs.Carried.{rebuilt_within}
pub use Rattle.ubi_change.proofs.CommitKept.{commit_survives_tears}
pub use Rattle.ubi_change.proofs.PlanSurvives.{plan_survives_law}
pub use Rattle.ubi_change.proofs.TornPlan.{plan_survives_tears_law, rename_survives_tears_law}
pub use Rattle.ubi_change.specs.Fitting.{FitsBlock}
pub use Rattle.ubi_change.specs.Pages.{line_of, programmed, with_pages}
pub use Rattle.ubi_change.specs.Steps.{target}
pub use Rattle.ubi_compose.proofs.Accepted.{length-composed}
pub use Rattle.ubi_compose.proofs.Blocks.{new_ec_back}
pub use Rattle.ubi_compose.proofs.BuiltReads.{built_reads}
pub use Rattle.ubi_compose.proofs.BuiltRoom.{built_accepted}
pub use Rattle.ubi_compose.proofs.Image.{concat-image_blocks, image_blocks, length-image_blocks}
pub use Rattle.ubi_compose.proofs.LesserPage.{normal_kept}
pub use Rattle.ubi_compose.proofs.Normal.{fine_normal}
pub use Rattle.ubi_compose.proofs.NormalForm.{normalising}
pub use Rattle.ubi_compose.proofs.PartsAgain.{parts_build_again, read_fits, read_some}
pub use Rattle.ubi_compose.specs.Building.{image_built}
pub use Rattle.ubi_compose.specs.Built.{Parts}
pub use Rattle.ubi_compose.specs.BuiltAgain.{AreItsParts}
pub use Rattle.ubi_compose.specs.BuiltLaws.{text_read}
pub use Rattle.ubi_compose.specs.Composed.{composed, spare}
pub use Rattle.ubi_compose.specs.Normal.{IsNormalised, laid_bytes, layout_block, new_ec, normal_blocks}
unfoldable pub use Rattle.ubi_compose.specs.Normal.{normal_bytes}
pub use Rattle.ubi_compose.specs.Spec.{volumes_of}
pub use Rattle.ubi_compose.specs.TextLaws.{ComesTo}
pub use Rattle.ubi_compose.specs.declared.errors.SpecCause.{SpecCause}
pub use Rattle.ubi_config.proofs.CanSay.{is_said, reserved_some}
pub use Rattle.ubi_config.proofs.GivenRecord.{section_gives_record}
pub use Rattle.ubi_config.proofs.WrittenReads.{written_reads}
pub use Rattle.ubi_config.specs.Config.{line_number, sections_of}
unfoldable pub use Rattle.ubi_config.specs.Records.{record_in}
pub use Rattle.ubi_config.specs.Words.{most_bytes}
unfoldable pub use Rattle.ubi_config.specs.Words.{unit_named}
pub use Rattle.ubi_config.specs.Written.{bytes_reserved, may_grow, volume_lines}
unfoldable pub use Rattle.ubi_config.specs.Written.{left_out}
pub use Rattle.ubi_config.specs.WrittenLaws.{AreVolumes, section_at, section_for, sections_at}
pub use Rattle.ubi_config.specs.declared.section.Section.{Section}
pub use Rattle.ubi_config.specs.declared.volume.ConfigVolume.{ConfigVolume}
pub use Rattle.ubi_config.specs.declared.volume.LeftOut.{LeftOut}
pub use Rattle.ubi_detect.proofs.JoinedKeys.{owns_itself}
pub use Rattle.ubi_detect.proofs.LeastWay.{IsLesserTold, least_first}
pub use Rattle.ubi_detect.proofs.ShownFound.{image_is_found}
pub use Rattle.ubi_detect.proofs.Surveyed.{inner_range}
pub use Rattle.ubi_detect.specs.FoundLaws.{AreHeadersOf, HoldsTable, ShowsImage, way_without}
pub use Rattle.ubi_detect.specs.Heads.{key_at, key_by, key_in, step}
pub use Rattle.ubi_detect.specs.Layout.{layout_sizes}
pub use Rattle.ubi_detect.specs.Place.{end_of_image, start_of_image, told, told_by}
pub use Rattle.ubi_detect.specs.Sure.{all_are, block_at, number_at}
pub use Rattle.ubi_detect.specs.declared.detect.Detected.{Detected}
pub use Rattle.ubi_detect.specs.declared.groups.Group.{Group}
pub use Rattle.ubi_detect.specs.declared.heads.Key.{Key}
pub use Rattle.ubi_dumps.proofs.Outcomes.{not_both}
pub use Rattle.ubi_dumps.specs.Asked.{IsDump, OfAsked, TellFirst, told_dump}
pub use Rattle.ubi_dumps.specs.Read.{OfRead}
pub use Rattle.ubi_dumps.specs.declared.asked.Asked.{Asked}
pub use Rattle.ubi_dumps.specs.declared.asked.Paths.{Paths}
pub use Rattle.ubi_dumps.specs.declared.asked.Sought.{Sought}
pub use Rattle.ubi_files.proofs.FileRows.{sum_cons}
pub use Rattle.ubi_files.specs.Answer.{Answer, Gives, says}
pub use Rattle.ubi_files.specs.BadBlocks.{is_block_list}
pub use Rattle.ubi_files.specs.Disk.{AllStay, Files, Holds, fresh}
pub use Rattle.ubi_files.specs.Row.{row_bytes}
pub use Rattle.ubi_files.specs.declared.dump.Dump.{Dump}
pub use Rattle.ubi_files.specs.declared.numbers.Numbers.{Numbers}
pub use Rattle.ubi_files.specs.declared.outcome.Outcome.{Outcome}
pub use Rattle.ubi_files.specs.declared.view.FilePart.{FilePart}
pub use Rattle.ubi_json.specs.Line.{json_line}
pub use Rattle.ubi_json.specs.Told.{error_data}
pub use Rattle.ubi_laid.proofs.Lists.{all_from}
pub use Rattle.ubi_laid.specs.Laid.{CanBeLaid, Laid}
pub use Rattle.ubi_laid.specs.Parts.{Reaches, text_of}
pub use Rattle.ubi_laid.specs.declared.part.Part.{Part}
pub use Rattle.ubi_media.proofs.Cases.{below_same_or_above}
pub use Rattle.ubi_media.proofs.EmptyRecord.{length-empty_record}
pub use Rattle.ubi_media.proofs.KeptLimits.{kept_limits}
pub use Rattle.ubi_media.proofs.Padding.{reserved_within}
pub use Rattle.ubi_media.proofs.RecordBytes.{length-rec_front}
pub use Rattle.ubi_media.proofs.Starts.{valid_starts}
pub use Rattle.ubi_media.specs.Ec.{ec_bytes, offsets_in}
unfoldable pub use Rattle.ubi_media.specs.Ec.{ec_fields}
pub use Rattle.ubi_media.specs.Fields.{blank, field, same_bytes}
pub use Rattle.ubi_media.specs.Geometry.{IsGeometry, Sizes, leb_size, slots}
unfoldable pub use Rattle.ubi_media.specs.Limits.{first_broken}
pub use Rattle.ubi_media.specs.OtherPage.{with_page}
pub use Rattle.ubi_media.specs.Record.{rec_fault, rec_front, record_size, usable}
unfoldable pub use Rattle.ubi_media.specs.Record.{empty_record, rec_bytes}
pub use Rattle.ubi_media.specs.Vid.{vid_bytes, vid_magic}
unfoldable pub use Rattle.ubi_media.specs.Vid.{fields_from}
pub use Rattle.ubi_media.specs.declared.record.VolumeRecord.{VolumeRecord}
pub use Rattle.ubi_reading.specs.Comparisons.{comparison_format}
pub use Rattle.ubi_reading.specs.Formats.{format_word}
pub use Rattle.ubi_reading.specs.InFormat.{OfAskedIn}
pub use Rattle.ubi_reading.specs.List.{Lists, accepted, list_lines}
pub use Rattle.ubi_reading.specs.Map.{MapsOf, PicturesInto, PicturesOf}
pub use Rattle.ubi_reading.specs.Reads.{format_of, reads}
pub use Rattle.ubi_reading.specs.declared.format.Format.{Format}
pub use Rattle.ubi_scan.proofs.Chunks.{first_chunks-concat, get_or-first_chunks}
pub use Rattle.ubi_scan.proofs.FilledWithBlanks.{filled-by, filled-is, length-filled}
pub use Rattle.ubi_scan.proofs.Finite.{rising_at}
pub use Rattle.ubi_scan.specs.Image.{Image, block, image_of}
pub use Rattle.ubi_scan.specs.Members.{layout}
pub use Rattle.ubi_scan.specs.Source.{Agreed, Source, known_by}
pub use Rattle.ubi_table.proofs.Entries.{few_kept}
pub use Rattle.ubi_table.proofs.NamedTable.{entries_kept}
pub use Rattle.ubi_table.proofs.ReadBack.{length-table_bytes, pieces_more}
pub use Rattle.ubi_table.specs.Coded.{AreKept}
pub use Rattle.ubi_table.specs.Records.{AreRecords, Records, first_named, table_bytes, twice}
pub use Rattle.ubi_volume.proofs.AcceptedOrRefused.{accepted_or_refused}
pub use Rattle.ubi_volume.proofs.FirstCause.{one_first}
pub use Rattle.ubi_volume.proofs.Gathered.{listed_at}
pub use Rattle.ubi_volume.proofs.LesserPage.{lesser_page}
pub use Rattle.ubi_volume.proofs.MeantRecords.{meant_by, records_are, volume_is}
pub use Rattle.ubi_volume.proofs.OneCause.{one_cause}
pub use Rattle.ubi_volume.proofs.OneMeaning.{Accepts-unique, never_accepted_and_refused}
pub use Rattle.ubi_volume.specs.Accepts.{Accepts}
pub use Rattle.ubi_volume.specs.Meant.{IsMeaning, Meant, records_of}
pub use Rattle.ubi_volume.specs.PageLaws.{meaning_with_page}
pub use Rattle.ubi_volume.specs.Reading.{read_volume, volume_len, volume_read}
pub use Rattle.ubi_volume.specs.Wrote.{All, Wrote}
pub use Rattle.ubi_volume.specs.declared.content.Volume.{Volume}
pub use Rattle.ubi_volume.specs.declared.errors.MeaningCause.{MeaningCause}
pub use Rattle.ubi_volume.specs.declared.errors.ReadError.{ReadError}
pub use Rattle.ubi_words.specs.Words.{decimal_value, most_number, with_digit}
pub use Rattle.ubi_writing.proofs.FolderConfigs.{sound_described}
pub use Rattle.ubi_writing.specs.Build.{AreGathered, ArePartsOf, HaveImage, IsNoVolume, IsSized, Sized, built, crowded, faulty, gathered, image_path, image_paths, len_of, no_image, no_path, no_record, numbered_parts, section_part, ungathered, unmade, unread, unwritten}
pub use Rattle.ubi_writing.specs.ByteNumbers.{bytes_within}
pub use Rattle.ubi_writing.specs.Compose.{Composes, ComposesOf, fits, meaning_line, spec_line}
pub use Rattle.ubi_writing.specs.Plan.{step_line, step_words}
pub use Rattle.ubi_writing.specs.Unpack.{Listed, all_described, described, folder_config, listed}
unfoldable pub use Rattle.ubi_writing.specs.Unpack.{file_name}
pub use Rattle.ubi_writing.specs.declared.orders.Change.{Change}
pub use Rattle.ubi_writing.specs.declared.orders.Extract.{Extract}
pub use Rattle.ubi_writing.specs.declared.orders.NewImage.{NewImage}
pub use Rattle.ubi_writing.specs.declared.orders.Plan.{Plan}
pub use Rattle.ubi_writing.specs.declared.orders.Rename.{Rename}
pub use Rattle.ubi_writing.specs.declared.orders.Update.{Update}
pub use Rattle.ubi_writing.specs.declared.volume_key.VolumeKey.{VolumeKey}
pub use Rattle.ubi_commands.specs.BuildLaws.{AreTold, BuildReads, ReadsItsFile, file_of}
pub use Rattle.ubi_commands.specs.CommandLine.{AsksAsked, AsksBlank, AsksChange, AsksDump, AsksExtract, AsksFormat, AsksKey, AsksNewImage, AsksNumbers, AsksPart, AsksPaths, AsksPlan, AsksRename, AsksUpdate, HasBytes, HasNumber, HasText, HasTexts, MayHaveBytes, MayHaveNumber, MayHaveText, gives_no_geometry, gives_word}
pub use Rattle.ubi_commands.specs.Commands.{Asks, IsAllElse, IsAnswer, IsAnswerTo, IsRequest, Takes, answered, command_name, comparing_command, reading_command, wrong_words}
unfoldable pub use Rattle.ubi_commands.specs.Commands.{tool}
pub use Rattle.ubi_commands.specs.ComposedLaws.{ComposedIsFound, IsDetectable, group_composed, own_detected}
pub use Rattle.ubi_commands.specs.FolderLaws.{AreAllDescribed, BuildsTheImage, FolderConfigReads, HoldVolumes}
pub use Rattle.ubi_commands.specs.PageLaws.{AreOfFirst, LeastTold}
pub use Rattle.ubi_commands.specs.PlanLaws.{LinesReadBack, behind, step_of_line, steps_read}
pub use Rattle.ubi_commands.specs.Printed.{any_names_output}
pub use Rattle.ubi_commands.specs.Tool.{HasOneVolume, Mean, finds, formats, gives_bytes, gives_part, gives_sizes, plans, reads_dump, takes_geometry, takes_part}
pub use Rattle.ubi_commands.specs.UntypedLaws.{FindsNothing, UntypedIsTyped}
pub use Rattle.ubi_commands.specs.declared.command_line.Argument.{Argument}
pub use Rattle.ubi_commands.specs.declared.command_line.CommandRow.{CommandRow}
pub use Rattle.ubi_commands.specs.declared.requests.Request.{Request}
pub use Rattle.ubi_commands.specs.inner.CommandLine.{IsAskedBy, IsOneOf, bare_tool, rule, words_in}
unfoldable pub use Rattle.ubi_commands.specs.inner.CommandLine.{command_row, telling_tool, with_commands, with_groups, with_rows}
