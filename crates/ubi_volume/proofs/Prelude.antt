-- The names that the proofs of this crate speak of, and where they come from.
pub use Rattle.std.proofs.Common.{Bool, Decides, List, T, [], ap, append-nil, ap₂, arith, below_more, cond, drop, eq-eqb, eqb-true, false, filter, get_or, inl, inr, length, length-append, length-drop, length-take, length-take-le, map, nat_lt, not, refl, replicate, rules, set, slice_range, subst, suc, sym, take, true, vec_items, zero, zero-add, ℕ, ◌%◌, ◌&&◌, ◌*◌, ◌++◌, ◌+◌, ◌-◌, ◌/◌, ◌<◌, ◌==◌, ◌^◌, ◌∙◌, ◌∷◌, ◌≡◌, ◌≢◌, ◌≤◌, ◌⊎◌}
pub use Rattle.std.proofs.KnownBytes.{Appends-nil, Appends-trans}
pub use Rattle.std.proofs.Math.Nat.{div-add-mod, div-mul-le_self, mod-lt}
pub use Rattle.std.proofs.Math.Seq.{drop-append-add, get_or-append_seam, take-add, take-append-add, take-append_seam}
pub use Rattle.std.proofs.lemmas.Bool.{cases_eq, cases_lt, cases_order}
pub use Rattle.std.proofs.lemmas.Bool.Decides.{Decides-and, Decides-by_and, Decides-like, Decides-ltb, nat_tests}
pub use Rattle.std.proofs.lemmas.Grind.{common_steps, flat_map-append, same_number_lists}
pub use Rattle.std.proofs.lemmas.List.{drop-drop, drop-take, get_or-map, get_or-replicate, get_or_append_left, length-map, length-replicate, map-append, replicate-append-replicate, same_lists, take-append-drop, take-append-le, take-replicate, take-take, take_all, take_more, take_rest}
pub use Rattle.std.proofs.lemmas.List.Edits.{map_over_more}
pub use Rattle.std.proofs.lemmas.List.Elements.{All-append, All-cons, All-head, All-replicate, All-tail}
pub use Rattle.std.proofs.lemmas.List.Folds.{list_all-append}
pub use Rattle.std.proofs.lemmas.List.Quantifiers.{position-Some}
pub use Rattle.std.proofs.lemmas.List.Sorted.{Contains-permutation, IsNonDecreasingBy-from_sort_by_key, IsPermutation-keeps, IsPermutation-map, IsPermutation-sym}
pub use Rattle.std.proofs.lemmas.List.Sums.{fails_before_first}
pub use Rattle.std.proofs.lemmas.Map.Entries.{lookup-filter-values, option_filter, sum_by_values_permutation}
pub use Rattle.std.proofs.lemmas.Map.Keys.{IsDistinct-IsPermutation, IsDistinct-from_apart, IsDistinct-from_sorted, IsDistinct-head, IsDistinct-tail}
pub use Rattle.std.proofs.lemmas.Map.Lookups.{exact_unsigned}
pub use Rattle.std.proofs.lemmas.Map.Made.{filter_same_pairs}
pub use Rattle.std.proofs.lemmas.Nat.{div_below, mul-le}
pub use Rattle.std.proofs.lemmas.Option.{IfSome_then, get_or_from_slice_get, none-some, same_Some, slice_get-get_or, slice_get-map, slice_get_past, slice_get_read, slice_get_within}
pub use Rattle.std.proofs.lemmas.Result.{IfOk-weaker, err_from_is_err_and}
pub use Rattle.std.proofs.lemmas.Slice.Eq.{slice_eq-Decides}
pub use Rattle.std.specs.BTreeMap.{BTreeMap}
pub use Rattle.std.specs.Bool.{then_some}
pub use Rattle.std.specs.Cmp.{booleans_Decides, eq_by_cmp_equiv, nat_cmp_total, tied_itself, unsigned_Decides}
pub use Rattle.std.specs.Cmp.Lexicographic.{pointwise}
pub use Rattle.std.specs.FinMap.{FinMap, find, from_entries, get, is_sorted, nat_cmp-IsAntisymmetric, same_entries_map}
pub use Rattle.std.specs.FinMap.Entries.{below_all, length-put}
pub use Rattle.std.specs.Int.{◌∣◌}
pub use Rattle.std.specs.Io.KnownBytes.{Appends}
pub use Rattle.std.specs.List.{AllByRecursion, list_all, position_or_len, range_with_len, sum_by}
unfoldable pub use Rattle.std.specs.List.{IsDistinct}
pub use Rattle.std.specs.List.Sorted.{IsNonDecreasingBy, IsPermutation}
pub use Rattle.std.specs.Map.{keys_of, lookup, values_of}
pub use Rattle.std.specs.Option.{option_map_or}
pub use Rattle.std.specs.Ordering.{eq_by_cmp, is_eq, is_lt, nat_cmp}
pub use Rattle.std.specs.Prelude.{Err, IfSome, IsSome, IsTrue, MatchOption, None, Ok, Option, Result, Some, flat_map, fold, if◌then◌else◌, is_some, min, option_and_then, option_map, position, slice_get, slice_index, swap, unwrap_or, ◌↔◌}
pub use Rattle.std.specs.Result.{result_map_both}
pub use Rattle.ubi_media.proofs.ByteLists.{bytes-drop, bytes-take, field_narrow}
pub use Rattle.ubi_media.proofs.Cases.{below_or_last, below_same_or_above, within_or_past}
pub use Rattle.ubi_media.proofs.LesserPage.{sound_kept}
pub use Rattle.ubi_media.proofs.Readings.{blank_of, ec_is_of, not_blank_of}
pub use Rattle.ubi_media.proofs.Records.{usable_some}
pub use Rattle.ubi_media.proofs.Sizes.{static_full, static_size, static_some}
pub use Rattle.ubi_media.specs.Check.{crc_of}
unfoldable pub use Rattle.ubi_media.specs.Ec.{ec_fields, ec_reading}
pub use Rattle.ubi_media.specs.Fields.{AreBytes, blank, field, is_blank, padded, same_bytes}
pub use Rattle.ubi_media.specs.Geometry.{IsGeometry, Sizes, leb_size, slots}
pub use Rattle.ubi_media.specs.Header.{IsBlank}
pub use Rattle.ubi_media.specs.OtherPage.{with_page}
pub use Rattle.ubi_media.specs.Record.{data_pad, rec_fault, usable}
unfoldable pub use Rattle.ubi_media.specs.Vid.{vid_reading}
pub use Rattle.ubi_media.specs.declared.ec.EcHeader.{EcHeader}
pub use Rattle.ubi_media.specs.declared.ec.EcRead.{EcRead}
pub use Rattle.ubi_media.specs.declared.record.RecFault.{RecFault}
pub use Rattle.ubi_media.specs.declared.record.VolumeRecord.{VolumeRecord}
pub use Rattle.ubi_media.specs.declared.refusal.Refusal.{Refusal}
pub use Rattle.ubi_media.specs.declared.vid.VidHeader.{VidHeader}
pub use Rattle.ubi_media.specs.declared.vid.VidRead.{VidRead}
pub use Rattle.ubi_media.specs.declared.vid.VolKind.{VolKind}
pub use Rattle.ubi_media.specs.declared.vid.VolKind.TheVariants.{Dynamic, Static}
pub use Rattle.ubi_scan.proofs.AnyPage.{clean_of_page, member_of_page, no_member_of_page, scan_of_page, seq_of_page, some_more, wins_of_page}
pub use Rattle.ubi_scan.proofs.BlocksReordered.{IsMoved, clean_to, inside_of, moved_back, no_member_to, same_back, seq_to, swapped, trade, wins_to}
pub use Rattle.ubi_scan.proofs.Choice.{false_or_true}
pub use Rattle.ubi_scan.proofs.Chunks.{get_or-first_chunks, length-first_chunks, length-of_chunk}
pub use Rattle.ubi_scan.proofs.Clean.{seq_from}
pub use Rattle.ubi_scan.proofs.Decided.{Wins-unique, winner_or_none}
pub use Rattle.ubi_scan.proofs.Entries.{first_entry, sorted_entries}
pub use Rattle.ubi_scan.proofs.FailedReads.{names_part}
pub use Rattle.ubi_scan.proofs.FaultOrNone.{fault_or_none}
pub use Rattle.ubi_scan.proofs.Finite.{entries_tree, find_at, get_tree, insert_tree, place_of}
pub use Rattle.ubi_scan.proofs.InMemory.{still}
pub use Rattle.ubi_scan.proofs.Keys.{apart_test, same_test, told}
pub use Rattle.ubi_scan.proofs.Least.{least_or}
pub use Rattle.ubi_scan.proofs.NarrowedSource.{narrows_more, scan_narrowed, source_narrowed}
pub use Rattle.ubi_scan.proofs.OneFault.{one_scan_fault}
pub use Rattle.ubi_scan.proofs.OneScan.{blank_sort, corrupt_sort, dropped_sort, each_alike, free_sort, garbage_sort, one_leb, one_scan, sort_at, sort_of_member}
pub use Rattle.ubi_scan.proofs.ReadParts.{data_of_read, length-leb}
pub use Rattle.ubi_scan.proofs.Revalued.{find_revalued, get_revalued, order_same, revalued_is, sum_revalued, sums_same}
pub use Rattle.ubi_scan.proofs.TrueTests.{both_are, true_is}
pub use Rattle.ubi_scan.specs.Faults.{IsScanFault, NoFault}
pub use Rattle.ubi_scan.specs.Image.{Image, IsLengthFault, IsSizeFault, IsWholeImage, IsWholeSize, block, ec, ec_area, eraseblocks, image_of, leb, of_blocks, seen_of, vid, vid_area}
pub use Rattle.ubi_scan.specs.Members.{IsMember, Leb, NoMember, Wins, has_members, header, is_right, layout, leb_of, member, member_if, named_in}
pub use Rattle.ubi_scan.specs.Numbers.{image_seq, seq_if, seq_of}
pub use Rattle.ubi_scan.specs.Scan.{Found, IsNextWinner, IsScan, kept_header, leb_cmp}
pub use Rattle.ubi_scan.specs.Source.{Agreed, IsSource, Narrows, Source, WhereHeld, blocks_in, blocks_of, holds, memory}
pub use Rattle.ubi_scan.specs.Stream.{IsReadFault, IsScanOf}
pub use Rattle.ubi_scan.specs.declared.errors.StreamError.{StreamError}
pub use Rattle.ubi_scan.specs.declared.found.ScanState.{ScanState}
pub use Rattle.ubi_table.proofs.LesserPage.{resized, table_back, table_kept}
pub use Rattle.ubi_table.proofs.NarrowedTable.{table_narrowed}
pub use Rattle.ubi_table.proofs.NoRecords.{no_space}
pub use Rattle.ubi_table.proofs.OneTable.{fault_unique, never_table_and_fault, table_unique}
pub use Rattle.ubi_table.proofs.ReadBack.{pieces_more}
pub use Rattle.ubi_table.proofs.TableOfBytes.{table_records}
pub use Rattle.ubi_table.proofs.TableOrFault.{table_or_refused}
pub use Rattle.ubi_table.proofs.TableReordered.{table_to}
pub use Rattle.ubi_table.specs.Records.{AreRecords, HasSpace, Records, space}
pub use Rattle.ubi_table.specs.Stream.{IsTableOf}
pub use Rattle.ubi_table.specs.Table.{IsTable}
pub use Rattle.ubi_volume.specs.Accepts.{Accepts, AcceptsBlocks, IsMismatched, IsUnlike, IsVolumeFault, IsWithin, NoMismatch, Refuses, RefusesBlocks}
pub use Rattle.ubi_volume.specs.Amounts.{AmountIs, amount_of}
pub use Rattle.ubi_volume.specs.Attached.{AreBlockStates, AttachValue, BlockStateIs, IsAttached, IsOutside}
pub use Rattle.ubi_volume.specs.EqualLebs.{same_lebs}
pub use Rattle.ubi_volume.specs.EqualMeanings.{same_meaning}
pub use Rattle.ubi_volume.specs.Extract.{extent_in, extent_len, extent_of, leb_bytes, read_text, share_len}
pub use Rattle.ubi_volume.specs.Made.{IsFirstMade, IsItem, Items, NoCause, Stands, cause_rank, item, item_without_blank, lebs_without_blank, without_blank}
pub use Rattle.ubi_volume.specs.MeaningLaws.{JudgedAlone}
pub use Rattle.ubi_volume.specs.Means.{HoldContents, IsPiece, LebReads, Means, SlotMeans, StaticReads, VolumeReads, piece}
pub use Rattle.ubi_volume.specs.Meant.{Fits, HasDistinctNames, IsMeaning, IsVolume, KeepsNoBlank, Meant, VolumeMap, pieces, records_of, share}
pub use Rattle.ubi_volume.specs.MeantCoded.{AreVolumes}
pub use Rattle.ubi_volume.specs.PageLaws.{LesserPage, image_with_page, meaning_with_page}
pub use Rattle.ubi_volume.specs.Places.{AreListed, ArePlaces, ArePlacesError, ArePlacesOf, AreWithin, CaseFits, Placed, case_of}
pub use Rattle.ubi_volume.specs.Reading.{leb_text, lebs_text, volume_len, volume_read}
pub use Rattle.ubi_volume.specs.Survey.{IsAttachedOf, IsSurvey, IsSurveyOf, Seen}
pub use Rattle.ubi_volume.specs.Texts.{AreRead, PieceIs, RawIs, SizeIsRead, TextLebs, UsedIs, used_in}
pub use Rattle.ubi_volume.specs.Wrote.{All, First, IsWroteError, NotAll, Wanted, Wrote}
pub use Rattle.ubi_volume.specs.declared.attached.BlockState.{BlockState}
pub use Rattle.ubi_volume.specs.declared.cases.RawPiece.{RawPiece}
pub use Rattle.ubi_volume.specs.declared.content.Content.{Content}
pub use Rattle.ubi_volume.specs.declared.content.Volume.{Volume}
pub use Rattle.ubi_volume.specs.declared.errors.MeaningCause.{MeaningCause}
pub use Rattle.ubi_volume.specs.declared.errors.ReadError.{ReadError}
pub use Rattle.ubi_volume.specs.declared.places.Extent.{Extent}
pub use Rattle.ubi_volume.specs.declared.places.PlaceContent.{PlaceContent}
pub use Rattle.ubi_volume.specs.inner.Cases.{AreCases, AreNumbered, CaseIs, PieceSizeIs, case_in}
pub use Rattle.ubi_volume.specs.inner.Gathered.{AreContents, AreGatheredLebs, AreKeptLebs, AreKeptTexts, ContentIs, IsContentOf}
pub use Rattle.ubi_volume.specs.inner.Headers.{Disagrees, WinnerHeaderIs, winner_header}
pub use Rattle.ubi_volume.specs.inner.Making.{IsFirstOf, NoneBelow, leb_fits}
pub use Rattle.ubi_volume.specs.inner.Pieces.{leb_at, lebs_at, lebs_bytes}
pub use Rattle.ubi_volume.specs.inner.Surveying.{AreChecked, AreStatesOf, MemberStateIs}
