-- The names that the proofs of this crate speak of, and where they come from.
pub use Rattle.std.proofs.Common.{Bool, Bor, Less, List, [], add-zero, ap, append-nil, append_assoc, arith, cond, drop, false, get_or, inl, inr, length, length-append, length-drop, length-take-le, lit<, map, not, refl, replicate, rules, set, slice_range, subst, suc, sym, take, take-append-drop, tests, true, vec_items, zero, zero-add, ℕ, ◌%◌, ◌&&◌, ◌*◌, ◌++◌, ◌+◌, ◌-◌, ◌/◌, ◌<◌, ◌==◌, ◌^◌, ◌||◌, ◌∙◌, ◌∷◌, ◌≡◌, ◌≢◌, ◌≤◌, ◌⊎◌}
pub use Rattle.std.proofs.KnownBytes.{Appends-nil}
pub use Rattle.std.proofs.Math.Nat.{mul-add-mod_self_right, mul-div_cancel}
pub use Rattle.std.proofs.Math.Path.{ap₂}
pub use Rattle.std.proofs.Math.Seq.{drop-append-add, take-append-add}
pub use Rattle.std.proofs.lemmas.Bool.{and_parts, cases_eq, cases_order, eqb-true}
pub use Rattle.std.proofs.lemmas.Bool.Decides.{nat_tests}
pub use Rattle.std.proofs.lemmas.Cmp.{ranked}
pub use Rattle.std.proofs.lemmas.Grind.{common_steps, flat_map-append}
pub use Rattle.std.proofs.lemmas.Iterator.{YieldsList-from_take}
pub use Rattle.std.proofs.lemmas.Iterator.Consumers.{YieldsList-end, YieldsList-turn}
pub use Rattle.std.proofs.lemmas.Iterator.Search.{any_from_yields_List}
pub use Rattle.std.proofs.lemmas.Iterator.Splits.{YieldsList-from_slice_split}
pub use Rattle.std.proofs.lemmas.List.{drop-append-le, drop_all, drop_more, get_or-append_right, get_or-replicate, get_or_at, length-map, length-replicate, length-take, length_push, map-append, map-id, map-set, replicate-append-replicate, set-get_or, set_at, take-append-le, take-replicate, take_all, take_at, take_more}
pub use Rattle.std.proofs.lemmas.List.Concat.{concat_is, length-flat_map}
pub use Rattle.std.proofs.lemmas.List.Elements.{All-from_recursion, All-get_or, filter-append, filter_map-append}
pub use Rattle.std.proofs.lemmas.List.Folds.{find-append, flat_map-map, list_all-append, list_any-append}
pub use Rattle.std.proofs.lemmas.List.FromFn.{get_or-range_with_len, length-map-range_with_len, length-range_with_len}
pub use Rattle.std.proofs.lemmas.List.Sums.{sum_by-cons, sum_by-take-le, sum_by_more}
pub use Rattle.std.proofs.lemmas.Nat.{div-mul-add, mul-le}
pub use Rattle.std.proofs.lemmas.Nat.Gcd.{dvd_of_mod-eq-zero}
pub use Rattle.std.proofs.lemmas.Option.{get_or_from_slice_get, none-some, same_Some, slice_get-get_or, slice_get-map, slice_get_cases, slice_get_read, slice_get_within}
pub use Rattle.std.proofs.lemmas.Result.{err_from_is_err_and, on_ok_weaker}
pub use Rattle.std.proofs.lemmas.Simd.{map-map}
pub use Rattle.std.specs.BTreeMap.{BTreeMap, IsOrdered, is_at}
pub use Rattle.std.specs.Bool.{then_some}
pub use Rattle.std.specs.Cmp.{nat_cmp_total}
pub use Rattle.std.specs.FinMap.{FinMap, from_entries, from_entries_push, nat_cmp-IsAntisymmetric, put}
pub use Rattle.std.specs.FinMap.Entries.{by_order}
unfoldable pub use Rattle.std.specs.Fmt.{digits}
pub use Rattle.std.specs.Int.{◌∣◌}
pub use Rattle.std.specs.Io.KnownBytes.{Appends}
pub use Rattle.std.specs.Iterator.Adapters.{take_source}
pub use Rattle.std.specs.List.{AllByRecursion, concat, enumerate_from, list_all, list_any, position_from, range_with_len, repeat, slice_split}
pub use Rattle.std.specs.Option.{ok_or, option_copied, option_map_or, option_or}
pub use Rattle.std.specs.Ordering.{eq_by_cmp, nat_cmp}
pub use Rattle.std.specs.Prelude.{Contains, Err, IfOk, IfSome, IsSome, MatchResult, None, Ok, Option, Result, Some, codes, filter_map, find, flat_map, fold, is_none, is_some, min, nat_le, nat_lt, option_and_then, option_map, slice_get, slice_index, slice_set, sum_by, unwrap_or, ⊤, ◌↔◌}
pub use Rattle.std.specs.Result.{result_map_both, result_ok}
pub use Rattle.std.specs.Simd.{first_chunks}
pub use Rattle.std.specs.declared.cmp.Ordering.TheVariants.{Equal, Greater}
pub use Rattle.hex.proofs.HexLemmas.{decode_of-ok}
pub use Rattle.hex.specs.Hex.{decode_of, decode_sized, digit_or_error, hex_digit_value, ◌>>=◌}
unfoldable pub use Rattle.hex.specs.Hex.{decode_pairs}
pub use Rattle.hex.specs.declared.error.FromHexError.{FromHexError}
pub use Rattle.ubi_laid.proofs.AllVolumes.{apart_blocks, fine_blocks, its_volume, own_like}
pub use Rattle.ubi_laid.proofs.Contents.{laid_read}
pub use Rattle.ubi_laid.proofs.DistinctLebs.{one_place}
pub use Rattle.ubi_laid.proofs.EntriesByNumber.{entries_by_number, find-map, flat_map-flat_map, get_made}
pub use Rattle.ubi_laid.proofs.Lists.{Holds, all_at, all_from, held_entry, slice_get_left}
pub use Rattle.ubi_laid.proofs.PartContents.{content_fits, leb_there, leb_within, long_misfits, text_size}
pub use Rattle.ubi_laid.proofs.PartPieces.{blank_filled, share_read}
pub use Rattle.ubi_laid.proofs.ReadBytes.{text_held, text_is}
pub use Rattle.ubi_laid.proofs.Rising.{Rises, entries_rise}
pub use Rattle.ubi_laid.specs.Laid.{AreApart, CanBeLaid, Differ, Laid, damaged_block, dynamic_block, laid_blocks, piece_header, static_block, static_blocks, static_part, volume_blocks}
pub use Rattle.ubi_laid.specs.LaidIn.{AreLaidIn, IsLaidAt}
pub use Rattle.ubi_laid.specs.Parts.{Reaches, content_of, is_long_part, item_of, items_of, lebs_of, pieces_of, text_of}
pub use Rattle.ubi_laid.specs.Pieces.{IsInBuffer, IsReadOf, IsReadable, LiesIn, built_piece, checked_header, given_check, is_left_out, part_header, piece_of_kind}
pub use Rattle.ubi_laid.specs.declared.part.Part.{Part}
pub use Rattle.ubi_laid.specs.declared.pieces.Origin.{Origin}
pub use Rattle.ubi_laid.specs.declared.pieces.Piece.{Piece}
pub use Rattle.ubi_media.proofs.Cases.{within_or_past}
pub use Rattle.ubi_media.proofs.First.{found_passes}
pub use Rattle.ubi_media.proofs.Headers.{ec_read_back, fields_fit, vid_read_back}
pub use Rattle.ubi_media.proofs.KeptLimits.{kept_limits}
pub use Rattle.ubi_media.proofs.Padding.{reserved_some, reserved_within}
pub use Rattle.ubi_media.proofs.Readings.{one_ec_reading, one_vid_reading}
pub use Rattle.ubi_media.proofs.Records.{usable_some}
pub use Rattle.ubi_media.proofs.Words.{small}
pub use Rattle.ubi_media.specs.Check.{crc_of}
unfoldable pub use Rattle.ubi_media.specs.Check.{check_from, remainder}
pub use Rattle.ubi_media.specs.Ec.{ec_bytes}
unfoldable pub use Rattle.ubi_media.specs.Ec.{ec_reading}
pub use Rattle.ubi_media.specs.Fields.{blank, is_blank, same_bytes}
unfoldable pub use Rattle.ubi_media.specs.Fields.{filled}
pub use Rattle.ubi_media.specs.Geometry.{IsGeometry, Sizes, leb_size, slots}
unfoldable pub use Rattle.ubi_media.specs.Limits.{first_broken}
pub use Rattle.ubi_media.specs.Record.{data_pad, rec_fault, usable}
unfoldable pub use Rattle.ubi_media.specs.Record.{breaks, empty_record, fields_from, first_fault, rec_bytes}
pub use Rattle.ubi_media.specs.Vid.{plain, vid_bytes, vid_fault}
unfoldable pub use Rattle.ubi_media.specs.Vid.{vid_reading}
pub use Rattle.ubi_media.specs.Widths.{VidFits}
pub use Rattle.ubi_media.specs.declared.record.RecFault.{RecFault}
pub use Rattle.ubi_media.specs.declared.record.VolumeRecord.{VolumeRecord}
pub use Rattle.ubi_media.specs.declared.refusal.Refusal.{Refusal}
pub use Rattle.ubi_media.specs.declared.vid.VidHeader.{VidHeader}
pub use Rattle.ubi_media.specs.declared.vid.VolKind.{VolKind}
pub use Rattle.ubi_scan.proofs.Chunks.{first_chunks-concat, length-concat}
pub use Rattle.ubi_scan.proofs.Clean.{none_from_clean}
pub use Rattle.ubi_scan.proofs.Decided.{Wins-unique}
pub use Rattle.ubi_scan.proofs.Entries.{sorted_entries}
pub use Rattle.ubi_scan.proofs.FilledWithBlanks.{behind, drop_blank, filled-by, filled-is, filled-none, length-blank, length-filled}
pub use Rattle.ubi_scan.proofs.Finite.{rising_at}
pub use Rattle.ubi_scan.proofs.Keys.{apart_test, at_itself, same_test}
pub use Rattle.ubi_scan.proofs.Parts.{blank_vid}
pub use Rattle.ubi_scan.proofs.Seq.{seq_is}
pub use Rattle.ubi_scan.specs.Clean.{IsSound}
pub use Rattle.ubi_scan.specs.Faults.{IsMislaid, NoFault}
pub use Rattle.ubi_scan.specs.Held.{anything, sound}
pub use Rattle.ubi_scan.specs.Image.{Image, IsWholeImage, block, ec, eraseblocks, image_of, leb, vid, vid_area}
pub use Rattle.ubi_scan.specs.Members.{IsMember, Leb, NoMember, Wins, foreign, foreign_if, good_in, is_good, layout, leb_of, member, member_if, named_in, sqnum_at, sqnum_in}
pub use Rattle.ubi_scan.specs.Numbers.{image_seq, seq_if, seq_of}
pub use Rattle.ubi_scan.specs.Source.{Agreed, Narrows, Source, blocks_in, blocks_of}
pub use Rattle.ubi_table.proofs.NoRecords.{no_entries}
pub use Rattle.ubi_table.proofs.ReadBack.{length-table_bytes, pieces_more}
pub use Rattle.ubi_table.proofs.TableOfBytes.{table_written}
pub use Rattle.ubi_table.specs.Records.{AreRecords, Records, table_bytes}
pub use Rattle.ubi_table.specs.Table.{IsTable}
pub use Rattle.ubi_volume.proofs.AcceptedOrRefused.{are_lebs}
pub use Rattle.ubi_volume.proofs.Alike.{member_valid}
pub use Rattle.ubi_volume.proofs.Arranged.{fits_without_blank, keeps_no_blank}
pub use Rattle.ubi_volume.proofs.Blanks.{blank_text, other_text}
pub use Rattle.ubi_volume.proofs.ContentAt.{case_fits}
pub use Rattle.ubi_volume.proofs.Extracted.{front_of, same_range, static_whole}
pub use Rattle.ubi_volume.proofs.FirstCause.{one_first}
pub use Rattle.ubi_volume.proofs.LebsText.{length-lebs}
pub use Rattle.ubi_volume.proofs.LesserPage.{greater_breaks, lesser_page}
pub use Rattle.ubi_volume.proofs.Listed.{listed_volume}
pub use Rattle.ubi_volume.proofs.MeantRecords.{meant_by, records_are, records_fit, volume_is}
pub use Rattle.ubi_volume.proofs.NarrowedPlaces.{places_narrowed, wrote_narrowed, wrote_where}
pub use Rattle.ubi_volume.proofs.OneMeaning.{Accepts-unique}
pub use Rattle.ubi_volume.proofs.Pieces.{length-share, piece_begins, pieces_few, pieces_suffice, share_more, share_most}
pub use Rattle.ubi_volume.proofs.Received.{Splits, error_behind, error_front, wrote_as, wrote_cut, wrote_more, wrote_text}
pub use Rattle.ubi_volume.proofs.Recorded.{record_of}
pub use Rattle.ubi_volume.proofs.Shares.{header_at, share_at, share_of_pieces}
pub use Rattle.ubi_volume.proofs.VolumeAt.{found_or_none, found_wins, in_table, reads_of, table}
pub use Rattle.ubi_volume.proofs.WithoutBlank.{get_without_blank, is_kept}
pub use Rattle.ubi_volume.specs.Accepts.{Accepts, AcceptsBlocks, IsWithin, NoMismatch, Refuses}
pub use Rattle.ubi_volume.specs.Extract.{share_len}
pub use Rattle.ubi_volume.specs.Made.{IsBefore, IsFirstMade, IsItem, Items, NoCause, Stands, cause_rank, item_without_blank, lebs_without_blank, without_blank}
pub use Rattle.ubi_volume.specs.Means.{HoldContents, LebReads, SlotMeans, StaticReads, VolumeReads, piece}
pub use Rattle.ubi_volume.specs.Meant.{Fits, HasDistinctNames, IsMeaning, IsVolume, KeepsNoBlank, Meant, VolumeMap, pieces, records_of, share}
pub use Rattle.ubi_volume.specs.PageLaws.{image_with_page, meaning_with_page}
pub use Rattle.ubi_volume.specs.Places.{ArePlaces, ArePlacesOf, AreWithin, CaseFits, IsCountedPlace, IsNextPlace, Placed, case_of}
pub use Rattle.ubi_volume.specs.Reading.{leb_text, lebs_text, read_volume, volume_read}
pub use Rattle.ubi_volume.specs.Wrote.{All, First, NotAll, Wrote}
pub use Rattle.ubi_volume.specs.declared.content.Content.{Content}
pub use Rattle.ubi_volume.specs.declared.content.Volume.{Volume}
pub use Rattle.ubi_volume.specs.declared.errors.MeaningCause.{MeaningCause}
pub use Rattle.ubi_volume.specs.declared.places.PlaceContent.{PlaceContent}
unfoldable pub use Rattle.ubi_words.specs.Words.{is_number, number_within}
pub use Rattle.ubi_compose.specs.Building.{CanBuild, those}
pub use Rattle.ubi_compose.specs.Built.{HaveMeaning, Parts, built, most_blocks}
pub use Rattle.ubi_compose.specs.BuiltAgain.{AreItsParts, AreVolumesOf, BuiltAgain, PartsBuildAgain}
pub use Rattle.ubi_compose.specs.BuiltLaws.{text_read}
pub use Rattle.ubi_compose.specs.Composed.{HasRoom, composed, spare}
pub use Rattle.ubi_compose.specs.ErrorTexts.{spec_error_text}
pub use Rattle.ubi_compose.specs.Laws.{MeanTheSame, Normalising}
pub use Rattle.ubi_compose.specs.Lines.{first_word, forms, is_form, is_skipped, is_spelled, number_word, said, volume_of, word, word_count, words}
unfoldable pub use Rattle.ubi_compose.specs.Lines.{damaged_line, leb_line, line_form, line_of, line_of_volume, text_line, updating_line}
pub use Rattle.ubi_compose.specs.Normal.{IsNormalised, laid_bytes, layout_block, new_ec, normal_blocks}
unfoldable pub use Rattle.ubi_compose.specs.Normal.{normal_bytes}
pub use Rattle.ubi_compose.specs.PageLaws.{LesserAcceptsMore, NormalWithLesserPage}
pub use Rattle.ubi_compose.specs.Spec.{IsSpecError, cause_after, cause_at, first_some, gives, heading, is_content, is_damaged, is_dynamic, is_updating, is_whole, leb_in, line_number, lines, may_follow, numbered_volume, of_volume, record_in, suits, text_in, volumes_of}
unfoldable pub use Rattle.ubi_compose.specs.Spec.{cause_of, content_cause, first_cause, later_cause, record_in_lines, saying, sayings, volume_from, volumes_in}
pub use Rattle.ubi_compose.specs.Streamed.{HasGot, IsNormaliseToError, IsNormalisedTo}
pub use Rattle.ubi_compose.specs.TextLaws.{ComesTo}
pub use Rattle.ubi_compose.specs.Words.{escaped, escaped_byte, is_escape, only_byte, some_name}
unfoldable pub use Rattle.ubi_compose.specs.Words.{flags_of, hex_of, kind_named, shown_bytes, shown_name}
pub use Rattle.ubi_compose.specs.declared.errors.LineError.{LineError}
pub use Rattle.ubi_compose.specs.declared.errors.PutError.{PutError}
pub use Rattle.ubi_compose.specs.declared.errors.SpecCause.{SpecCause}
pub use Rattle.ubi_compose.specs.declared.line.Form.{Form}
pub use Rattle.ubi_compose.specs.declared.line.Line.{Line}
pub use Rattle.ubi_compose.specs.declared.sourced.Device.{Device}
pub use Rattle.ubi_compose.specs.inner.Building.{HasParts, built_pieces, empty_of, part_at, stand_in, stand_in_item, table_of}
pub use Rattle.ubi_compose.specs.inner.Drafts.{AreDrafts, AreFaultless, IsRefusedLine, changed, changed_at, error_at, opened, place_of, read, taken, with_line}
pub use Rattle.ubi_compose.specs.inner.Pieces.{HasPut, IsFirstFrom, IsNext, IsReadIn, NoRead, Pieces, first_lebs, first_volumes, image_bytes, known_put, leb_written, piece_bytes, spares_bytes, table_block, tables_bytes, volume_bytes}
pub use Rattle.ubi_compose.specs.inner.Stored.{dynamic_piece, static_piece, stored_count, stored_piece, stored_pieces}
