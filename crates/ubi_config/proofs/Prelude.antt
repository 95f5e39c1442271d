-- The names that the proofs of this crate speak of, and where they come from.
pub use Rattle.std.proofs.Common.{Bool, Bor, List, [], ap, append-nil, append_assoc, arith, drop, false, get_or, if◌then◌else◌, length, length-append, length-drop, lit<, nat_lt, refl, rules, slice_range, subst, suc, sym, take, tests, true, zero, ℕ, ◌%◌, ◌&&◌, ◌*◌, ◌++◌, ◌+◌, ◌-◌, ◌/◌, ◌<◌, ◌^◌, ◌||◌, ◌∙◌, ◌∷◌, ◌≡◌, ◌≤◌}
pub use Rattle.std.proofs.Math.Nat.{mul-div_cancel, mul-mod_left}
pub use Rattle.std.proofs.Math.Seq.{drop-append-add, take-append_seam, take-length}
pub use Rattle.std.proofs.lemmas.Bool.{and_parts}
pub use Rattle.std.proofs.lemmas.Bool.Decides.{nat_tests}
pub use Rattle.std.proofs.lemmas.Fmt.{decimal_digit, decimal_injective, decimal_nonempty, digits_decimal, digits_value-decimal, first_decimal, length-decimal-le}
pub use Rattle.std.proofs.lemmas.Iterator.Consumers.{YieldsList-end, YieldsList-turn}
pub use Rattle.std.proofs.lemmas.Iterator.Splits.{YieldsList-from_slice_split}
pub use Rattle.std.proofs.lemmas.List.{drop_all, drop_more, get_or-append_right, get_or_append_left, length-map, length_push, map-append, reverse-append, take-append-drop, take_all, take_at}
pub use Rattle.std.proofs.lemmas.List.Elements.{filter_map-append}
pub use Rattle.std.proofs.lemmas.List.Folds.{list_any-append, list_any_none}
pub use Rattle.std.proofs.lemmas.List.Splits.{slice_split-cons_no, slice_split-cons_yes}
pub use Rattle.std.proofs.lemmas.List.Sums.{AllPass-from_list_all, position_or_len_is, prefix_len-le-length, suffix_len_is, sum_by-append}
pub use Rattle.std.proofs.lemmas.Nat.{mul-le}
pub use Rattle.std.proofs.lemmas.Result.{err_from_is_err_and}
pub use Rattle.std.proofs.lemmas.Str.Parse.{IsNumeralModel, numerals_by_fold}
pub use Rattle.std.specs.Bool.{then_some}
pub use Rattle.std.specs.Char.{is_ascii_digit, to_ascii_lowercase}
pub use Rattle.std.specs.Cmp.Lexicographic.{same_text}
unfoldable pub use Rattle.std.specs.Fmt.{digits}
pub use Rattle.std.specs.Int.{div_ceil}
pub use Rattle.std.specs.List.{AllByRecursion, before_first, cons_option, enumerate_from, flat_map, join_with_byte, list_all, list_any, onto_first, position_or_len, suffix_len, take_while}
unfoldable pub use Rattle.std.specs.List.{IsDistinct}
pub use Rattle.std.specs.Option.{ok_or, option_map_or, option_or}
pub use Rattle.std.specs.Prelude.{All, Err, None, Ok, Option, Result, Some, codes, cond, count_by, decimal, filter_map, fold, is_some, map, min, nat_le, not, option_and_then, option_map, option_to_list, position, replicate, reverse, unwrap_or, ⊤, ◌==◌}
pub use Rattle.std.specs.Result.{result_err, result_ok, result_unwrap_or}
pub use Rattle.std.specs.Str.{str_eq_ignore_ascii_case, str_to_ascii_lowercase}
pub use Rattle.ubi_media.proofs.Records.{kept, name_kept, signs_kept, usable_some}
pub use Rattle.ubi_media.proofs.Words.{small}
pub use Rattle.ubi_media.specs.Fields.{same_bytes}
pub use Rattle.ubi_media.specs.Geometry.{IsGeometry, Sizes, slots}
pub use Rattle.ubi_media.specs.Kind.{is_static}
pub use Rattle.ubi_media.specs.Name.{is_name}
pub use Rattle.ubi_media.specs.Record.{rec_fault, usable}
unfoldable pub use Rattle.ubi_media.specs.Record.{breaks, fields_from, first_fault}
pub use Rattle.ubi_media.specs.Vid.{is_negative}
pub use Rattle.ubi_media.specs.declared.record.VolumeRecord.{VolumeRecord}
pub use Rattle.ubi_media.specs.declared.vid.VolKind.{VolKind}
pub use Rattle.ubi_words.specs.Words.{decimal_value, most_number, with_digit}
unfoldable pub use Rattle.ubi_words.specs.Words.{is_number, number_within}
pub use Rattle.ubi_config.specs.Above.{first_some, gives_id, gives_name, is_autoresize, is_heading, is_setting, is_titled, own, sets, shared_cause}
unfoldable pub use Rattle.ubi_config.specs.Above.{heading_cause, later_cause, setting_cause}
pub use Rattle.ubi_config.specs.Config.{Fault, Group, IsFault, cause_after, group_of, groups, groups_of, lack_of, line_at, line_number, lines, section_of, sections_of}
unfoldable pub use Rattle.ubi_config.specs.Config.{cause_at, first_config_fault, line_fault, saying, sayings, section_fault, sections_in}
pub use Rattle.ubi_config.specs.ErrorTexts.{config_error_text}
pub use Rattle.ubi_config.specs.Laws.{SectionsDiffer}
pub use Rattle.ubi_config.specs.Lines.{is_special, is_title, ◌>>=◌}
unfoldable pub use Rattle.ubi_config.specs.Lines.{flag_of, heading_line, is_one_line, kind_named, line_of, line_said, setting, setting_at, setting_line, title_of}
pub use Rattle.ubi_config.specs.Records.{blocks_for, fitting, reserving}
unfoldable pub use Rattle.ubi_config.specs.Records.{record_in}
pub use Rattle.ubi_config.specs.Sections.{no_draft, with_line}
unfoldable pub use Rattle.ubi_config.specs.Sections.{draft_of, finished}
pub use Rattle.ubi_config.specs.Values.{is_mark, is_quotable, is_quote, is_remark}
unfoldable pub use Rattle.ubi_config.specs.Values.{key_of, plain_value, quoted_value, value_of}
pub use Rattle.ubi_config.specs.Words.{is_no_digit, is_space, is_visible, most_bytes}
unfoldable pub use Rattle.ubi_config.specs.Words.{size_of, trimmed, unit_named, unit_of}
pub use Rattle.ubi_config.specs.Written.{bytes_reserved, config_lines, config_text, ended, flag_lines, has_words, is_growing, is_no_value, is_writable, kind_word, left_out_words, lines_by, longest_value, may_grow, path_of, quote_of, quoted, section_lines, text_of, title, volume_lines}
unfoldable pub use Rattle.ubi_config.specs.Written.{head, left_out}
pub use Rattle.ubi_config.specs.WrittenLaws.{AreVolumes, SectionGivesRecord, WrittenReads, section_at, section_for, sections_at}
pub use Rattle.ubi_config.specs.declared.drafts.Draft.{Draft}
pub use Rattle.ubi_config.specs.declared.errors.ConfigCause.{ConfigCause}
pub use Rattle.ubi_config.specs.declared.errors.ConfigError.{ConfigError}
pub use Rattle.ubi_config.specs.declared.errors.LineError.{LineError}
pub use Rattle.ubi_config.specs.declared.key.Key.{Key}
pub use Rattle.ubi_config.specs.declared.line.Line.{Line}
pub use Rattle.ubi_config.specs.declared.section.Section.{Section}
pub use Rattle.ubi_config.specs.declared.volume.ConfigVolume.{ConfigVolume}
pub use Rattle.ubi_config.specs.declared.volume.LeftOut.{LeftOut}
pub use Rattle.ubi_config.specs.inner.Reading.{IsCause, IsRefused, error_at}
