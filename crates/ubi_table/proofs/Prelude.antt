-- The names that the proofs of this crate speak of, and where they come from.
pub use Rattle.std.proofs.Common.{Bool, List, T, [], add-one, add-zero, ap, append_assoc, arith, cond, drop, drop-cons, false, get_or, inl, inr, length, length-append, lit<, map, not, refl, replicate, slice_range, subst, suc, sym, take, true, true≢false, vec_items, zero, zero-add, ℕ, ◌*◌, ◌++◌, ◌+◌, ◌-◌, ◌/◌, ◌<◌, ◌==◌, ◌^◌, ◌∙◌, ◌∷◌, ◌≡◌, ◌≢◌, ◌≤◌, ◌⊎◌}
pub use Rattle.std.proofs.Math.Seq.{take-suc}
pub use Rattle.std.proofs.lemmas.Bool.{cases_eq, cases_lt, cases_order}
pub use Rattle.std.proofs.lemmas.Bool.Decides.{nat_tests}
pub use Rattle.std.proofs.lemmas.Cmp.{nat_cmp_total, ranked}
pub use Rattle.std.proofs.lemmas.Float.{T_from_true}
pub use Rattle.std.proofs.lemmas.Grind.{common_steps}
pub use Rattle.std.proofs.lemmas.List.{append-nil, drop_at, get_or-map, get_or_default, length-map, take-append-drop, take_all, take_at, take_more}
pub use Rattle.std.proofs.lemmas.List.Elements.{filter_map-append}
pub use Rattle.std.proofs.lemmas.List.Folds.{find-append}
pub use Rattle.std.proofs.lemmas.List.FromFn.{get_or-enumerate_from, length-enumerate_from}
pub use Rattle.std.proofs.lemmas.List.Sorted.{IsPermutation-keeps}
pub use Rattle.std.proofs.lemmas.Option.{same_Some}
pub use Rattle.std.proofs.lemmas.Result.{IfOk-weaker, err_from_is_err_and}
pub use Rattle.std.specs.BTreeMap.{BTreeMap, IsOrdered}
pub use Rattle.std.specs.Cmp.{eq_by_cmp_equiv, nat_cmp_is}
pub use Rattle.std.specs.Cmp.Lexicographic.{other_text, same_text}
pub use Rattle.std.specs.FinMap.{FinMap, empty, from_entries, is_sorted, nat_cmp-IsAntisymmetric}
pub use Rattle.std.specs.FinMap.Entries.{below_all}
pub use Rattle.std.specs.Int.{◌∣◌}
pub use Rattle.std.specs.List.{AllPairs, cons_option, enumerate_from, flat_map, range_with_len, sum_by}
pub use Rattle.std.specs.List.Sorted.{IsPermutation}
pub use Rattle.std.specs.Option.{ForSome, option_copied, option_map_or, option_or}
pub use Rattle.std.specs.Ordering.{eq_by_cmp, is_eq, is_lt, nat_cmp, ordering_reverse}
pub use Rattle.std.specs.Prelude.{All, IfSome, IsSome, IsTrue, MatchOption, None, Option, Some, find, fold, nat_lt, option_map, swap, ⊤}
pub use Rattle.std.specs.Simd.{first_chunks}
pub use Rattle.std.specs.declared.cmp.Ordering.TheVariants.{Less}
pub use Rattle.ubi_media.proofs.Cases.{within_or_past}
pub use Rattle.ubi_media.proofs.EmptyRecord.{length-empty_record}
pub use Rattle.ubi_media.proofs.First.{found_passes, none_found, none_passes}
pub use Rattle.ubi_media.proofs.LesserPage.{reading_kept}
pub use Rattle.ubi_media.proofs.Names.{IsName, name_facts, padded_begins, padded_ends}
pub use Rattle.ubi_media.proofs.RecordBytes.{length-rec_front, slot_read_back}
pub use Rattle.ubi_media.proofs.Records.{kept, one_rec_reading}
pub use Rattle.ubi_media.proofs.SoundRecords.{valid_sound}
pub use Rattle.ubi_media.proofs.Words.{small, words}
unfoldable pub use Rattle.ubi_media.specs.Check.{check_from, remainder}
unfoldable pub use Rattle.ubi_media.specs.Ec.{ec_reading}
pub use Rattle.ubi_media.specs.Fields.{same_bytes}
pub use Rattle.ubi_media.specs.Geometry.{IsGeometry, Sizes, leb_size, slots}
pub use Rattle.ubi_media.specs.Name.{is_name}
pub use Rattle.ubi_media.specs.OtherPage.{with_page}
pub use Rattle.ubi_media.specs.Record.{rec_fault, rec_front, record_size, slot_reading}
unfoldable pub use Rattle.ubi_media.specs.Record.{breaks, empty_record, fields_from, first_fault, judged, rec_bytes, rec_fields, rec_reading, record_of}
pub use Rattle.ubi_media.specs.declared.ec.EcRead.{EcRead}
pub use Rattle.ubi_media.specs.declared.record.RecFault.{RecFault}
pub use Rattle.ubi_media.specs.declared.record.RecRead.{RecRead}
pub use Rattle.ubi_media.specs.declared.record.VolumeRecord.{VolumeRecord}
pub use Rattle.ubi_media.specs.declared.refusal.Refusal.{Refusal}
pub use Rattle.ubi_media.specs.declared.vid.VidHeader.{VidHeader}
pub use Rattle.ubi_media.specs.declared.vid.VolKind.TheVariants.{Dynamic}
pub use Rattle.ubi_scan.proofs.AnyPage.{no_member_of_page, wins_of_page}
pub use Rattle.ubi_scan.proofs.BlocksReordered.{IsMoved, inside_of, no_member_to, same_back, swapped, trade, wins_to}
pub use Rattle.ubi_scan.proofs.Choice.{false_or_true}
pub use Rattle.ubi_scan.proofs.Chunks.{get_or-first_chunks, length-first_chunks}
pub use Rattle.ubi_scan.proofs.Decided.{Wins-unique, winner_or_none}
pub use Rattle.ubi_scan.proofs.Entries.{entry_place, first_entry, sorted_entries}
pub use Rattle.ubi_scan.proofs.Finite.{find_at, get_tree, insert_tree, rising_at}
pub use Rattle.ubi_scan.proofs.InMemory.{scan_of_memory, still}
pub use Rattle.ubi_scan.proofs.Keys.{apart_test, at_itself, at_other, same_test}
pub use Rattle.ubi_scan.proofs.Least.{least_or}
pub use Rattle.ubi_scan.proofs.ReadParts.{leb_of_read}
pub use Rattle.ubi_scan.proofs.Revalued.{revalued_is, sorted_revalued}
pub use Rattle.ubi_scan.proofs.TrueTests.{both_are, both_left, both_right, true_is}
pub use Rattle.ubi_scan.specs.Faults.{NoFault}
pub use Rattle.ubi_scan.specs.Image.{block, ec, eraseblocks, leb, slots_in, vid}
pub use Rattle.ubi_scan.specs.Members.{Leb, NoMember, Wins, layout, leb_of, member, member_if, named_in}
pub use Rattle.ubi_scan.specs.Scan.{Found, IsScan}
pub use Rattle.ubi_scan.specs.Source.{Agreed, Narrows, Source, WhereHeld, blocks_of, holds, memory}
pub use Rattle.ubi_scan.specs.declared.errors.StreamError.{StreamError}
pub use Rattle.ubi_table.specs.Coded.{AreKept}
pub use Rattle.ubi_table.specs.Drafted.{AreDrafted, IsHeld, with_record, without_record}
pub use Rattle.ubi_table.specs.Named.{IsFreeName, records_named, with_name}
pub use Rattle.ubi_table.specs.Records.{AreRecords, HasSpace, Records, entries_of, first_named, is_faulty, no_records, readings, records_in, space, table_bytes, twice, valid}
pub use Rattle.ubi_table.specs.Stream.{HasSizes, IsTableOf, IsTableOfError}
pub use Rattle.ubi_table.specs.Table.{AllBlank, CopyIs, Decides, IsTable, IsTableFault, can_decide, copy_by, named_copy, table_in}
unfoldable pub use Rattle.ubi_table.specs.Table.{copy_of}
pub use Rattle.ubi_table.specs.declared.copy.CopyRead.{CopyRead}
pub use Rattle.ubi_table.specs.inner.Naming.{entry_named}
pub use Rattle.ubi_table.specs.inner.OneCopy.{IsCopyFault, IsCopyOfError, IsCopyTable}
