-- The names that the proofs of this crate speak of, and where they come from.
pub use Rattle.std.proofs.Common.{Bool, Less, List, [], ap, append-nil, append_assoc, ap₂, arith, cond, drop, false, get_or, get_or-set_other, get_or-set_same, inl, inr, length, length-append, length-drop, length-set, map, not, refl, replicate, rules, set, slice_range, subst, suc, sym, take, take-add, true, true≢false, zero, ℕ, ◌%◌, ◌*◌, ◌++◌, ◌+◌, ◌-◌, ◌/◌, ◌<◌, ◌^◌, ◌∙◌, ◌∷◌, ◌≡◌, ◌≢◌, ◌≤◌, ◌⊎◌}
pub use Rattle.std.proofs.KnownBytes.{Appends-nil}
pub use Rattle.std.proofs.Math.Nat.{div-add-mod, div-eq_of_lt, div-le_of_le-mul, div-mul-le_self, le-max_left, le-max_right, mod-lt}
pub use Rattle.std.proofs.Math.Seq.{drop-append_seam, take-append-add, take-append_seam}
pub use Rattle.std.proofs.lemmas.Bool.{and_parts, cases_eq, cases_lt, eqb-true, ltb-true, not-true}
pub use Rattle.std.proofs.lemmas.Bool.Decides.{Decides-and, Decides-like, nat_tests}
pub use Rattle.std.proofs.lemmas.Grind.{common_steps, flat_map-append, same_number_lists}
pub use Rattle.std.proofs.lemmas.Iterator.Adapters.{position_from-zero}
pub use Rattle.std.proofs.lemmas.List.{at_drop_more, drop-drop, drop-take, drop_all, drop_at, get_or-map, get_or_default, length-map, length-replicate, length-take, length-take-le, map-append, set-get_or, set-set, take-append-drop, take-append-le, take-replicate, take-take, take_all, take_at, take_min, take_more}
pub use Rattle.std.proofs.lemmas.List.Elements.{All-head, All-tail, filter-append, filter_map-append}
pub use Rattle.std.proofs.lemmas.List.Folds.{concat-append, list_all-append}
pub use Rattle.std.proofs.lemmas.List.FromFn.{get_or-enumerate_from, get_or-map-range_with_len, length-enumerate_from, length-map-range_with_len, map-range_with_len_more}
pub use Rattle.std.proofs.lemmas.List.Sums.{count_by_more_no, count_by_more_yes, fold-append, fold_more, sum_by-append, sum_by-cons, sum_by-le}
pub use Rattle.std.proofs.lemmas.Nat.{div-mul-add, mod-mul-add, mul-le}
pub use Rattle.std.proofs.lemmas.Option.{get_or_from_slice_get, same_Some, slice_get-get_or, slice_get_within}
pub use Rattle.std.proofs.lemmas.Result.{IfOk-weaker, err_from_is_err_and, on_ok_weaker}
pub use Rattle.std.proofs.lemmas.Slice.Eq.{slice_eq-Decides}
pub use Rattle.std.specs.Bool.{then_some}
pub use Rattle.std.specs.Cmp.{nat_cmp_is, nat_cmp_total, unsigned_Decides}
pub use Rattle.std.specs.Cmp.Lexicographic.{pointwise, same_text}
pub use Rattle.std.specs.FinMap.{FinMap, empty, entries, get, get-empty, get-insert, get-remove, gets, insert, nat_cmp-IsAntisymmetric, same_entries_map}
pub use Rattle.std.specs.FinMap.Entries.{by_order, put}
pub use Rattle.std.specs.Int.{byte_at, bytes_high_first, div_ceil}
pub use Rattle.std.specs.Int.Bits.{and_self}
pub use Rattle.std.specs.List.{AllByRecursion, concat, cons_option, enumerate_from, position_from, position_or_len, range_with_len, sum_by}
pub use Rattle.std.specs.Option.{option_map_or, option_or}
pub use Rattle.std.specs.Ordering.{eq_by_cmp, nat_cmp}
pub use Rattle.std.specs.Prelude.{All, Contains, Err, IfSome, IsSome, MatchOption, None, Ok, OnOk, Option, Result, Some, bit_and, count_by, filter, filter_map, find, flat_map, fold, if◌then◌else◌, is_none, is_some, max, min, nat_eq, nat_lt, option_and_then, option_copied, option_map, slice_get, slice_index, sum, unwrap_or, ⊤, ◌&&◌, ◌==◌, ◌||◌}
pub use Rattle.std.specs.Result.{is_ok}
pub use Rattle.std.specs.Simd.{first_chunks}
pub use Rattle.ubi_laid.proofs.AllVolumes.{apart_blocks, fine_blocks, its_volume, own_like, plain_blocks}
pub use Rattle.ubi_laid.proofs.Contents.{laid_read}
pub use Rattle.ubi_laid.proofs.Lists.{Holds, all_append, all_at, all_from, held_entry}
pub use Rattle.ubi_laid.proofs.PartContents.{content_fits}
pub use Rattle.ubi_laid.proofs.PartPieces.{part_laid}
pub use Rattle.ubi_laid.proofs.PieceCounts.{div_ceil-pieces}
pub use Rattle.ubi_laid.proofs.ReadBytes.{text_held}
pub use Rattle.ubi_laid.proofs.Rising.{Rises, entries_rise, range_rises}
pub use Rattle.ubi_laid.specs.Laid.{AreApart, CanBeLaid, Laid, laid_blocks, static_block}
pub use Rattle.ubi_laid.specs.LaidIn.{AreLaidIn, IsLaidAt, IsNoneOf}
pub use Rattle.ubi_laid.specs.Laws.{EachIsVolume}
pub use Rattle.ubi_laid.specs.Parts.{content_of, pieces_of, text_of}
pub use Rattle.ubi_laid.specs.Pieces.{IsInBuffer, LiesIn, built_piece, checked_header, is_left_out, kept_piece, kept_pieces, laid_piece, laid_text, part_header, piece_text}
pub use Rattle.ubi_laid.specs.declared.part.Part.{Part}
pub use Rattle.ubi_laid.specs.declared.pieces.Origin.{Origin}
pub use Rattle.ubi_laid.specs.declared.pieces.Piece.{Piece}
pub use Rattle.ubi_media.proofs.ByteLists.{bytes-append, bytes-blank, bytes-drop, bytes-take, bytes_each}
pub use Rattle.ubi_media.proofs.Cases.{below_or_last, below_same_or_above, within_or_past, zero_or_more}
pub use Rattle.ubi_media.proofs.Checks.{check_from-append, check_from-empty, check_from-lt}
pub use Rattle.ubi_media.proofs.First.{found_passes, none_found, none_passes}
pub use Rattle.ubi_media.proofs.Headers.{ec_read_back, fields_fit, vid_read_back}
pub use Rattle.ubi_media.proofs.Padding.{half_pad, reserved_within}
pub use Rattle.ubi_media.proofs.Readings.{counter_within, ec_is_of, one_ec_reading, one_vid_reading}
pub use Rattle.ubi_media.proofs.Records.{usable_some}
pub use Rattle.ubi_media.proofs.Writes.{put_all}
pub use Rattle.ubi_media.specs.Check.{crc_of}
unfoldable pub use Rattle.ubi_media.specs.Check.{check_from, remainder}
pub use Rattle.ubi_media.specs.Ec.{ec_bytes, ec_front}
unfoldable pub use Rattle.ubi_media.specs.Ec.{ec_fields, ec_reading}
pub use Rattle.ubi_media.specs.Fields.{AreBytes, blank, is_blank, same_bytes}
unfoldable pub use Rattle.ubi_media.specs.Fields.{filled, form_of, overwrite}
pub use Rattle.ubi_media.specs.Geometry.{IsGeometry, Sizes, leb_size, slots}
pub use Rattle.ubi_media.specs.Kind.{is_static}
pub use Rattle.ubi_media.specs.Name.{is_name}
pub use Rattle.ubi_media.specs.Record.{data_pad, rec_fault, usable}
pub use Rattle.ubi_media.specs.Vid.{kind_number, plain, vid_bytes, vid_fault, vid_front}
unfoldable pub use Rattle.ubi_media.specs.Vid.{breaks, fields_from, first_fault, vid_fields, vid_reading}
pub use Rattle.ubi_media.specs.Widths.{VidFits}
pub use Rattle.ubi_media.specs.declared.ec.EcFault.{EcFault}
pub use Rattle.ubi_media.specs.declared.ec.EcHeader.{EcHeader}
pub use Rattle.ubi_media.specs.declared.ec.EcRead.{EcRead}
pub use Rattle.ubi_media.specs.declared.record.RecFault.{RecFault}
pub use Rattle.ubi_media.specs.declared.record.VolumeRecord.{VolumeRecord}
pub use Rattle.ubi_media.specs.declared.refusal.Refusal.{Refusal}
pub use Rattle.ubi_media.specs.declared.vid.VidHeader.{VidHeader}
pub use Rattle.ubi_media.specs.declared.vid.VidRead.{VidRead}
pub use Rattle.ubi_media.specs.declared.vid.VolKind.{VolKind}
pub use Rattle.ubi_media.specs.declared.vid.VolKind.TheVariants.{Static}
pub use Rattle.ubi_scan.proofs.Choice.{false_or_true}
pub use Rattle.ubi_scan.proofs.Chunks.{first_chunks-concat, first_chunks-put, get_or-first_chunks, length-concat, length-first_chunks, length-of_chunk, piece_within}
pub use Rattle.ubi_scan.proofs.Clean.{clean_from_none, none_from_clean}
pub use Rattle.ubi_scan.proofs.Decided.{Wins-unique, winner_or_none}
pub use Rattle.ubi_scan.proofs.Entries.{entry_place, sorted_entries}
pub use Rattle.ubi_scan.proofs.FailedReads.{names_part}
pub use Rattle.ubi_scan.proofs.FilledWithBlanks.{behind, drop_blank, filled-by, filled-is, filled-none, filled_inner, filled_more, join_blank, length-blank, length-filled, overwrite_filled, overwrite_front}
pub use Rattle.ubi_scan.proofs.InMemory.{still}
pub use Rattle.ubi_scan.proofs.Keys.{apart_test, at_itself, at_other, same_test}
pub use Rattle.ubi_scan.proofs.NarrowedSource.{source_narrowed}
pub use Rattle.ubi_scan.proofs.Parts.{blank_ec, blank_vid, ec-laid, laid, leb-laid, vid-laid}
pub use Rattle.ubi_scan.proofs.ReadParts.{count_blocks}
pub use Rattle.ubi_scan.proofs.Revalued.{revalued_is, sum_revalued}
pub use Rattle.ubi_scan.proofs.Seq.{Agrees, seq_agrees, seq_is}
pub use Rattle.ubi_scan.proofs.Tops.{used_by}
pub use Rattle.ubi_scan.specs.Clean.{IsClean, IsSound}
pub use Rattle.ubi_scan.specs.Faults.{IsMislaid, NoFault}
pub use Rattle.ubi_scan.specs.Image.{Image, IsWholeImage, IsWholeSize, block, ec, ec_area, eraseblocks, image_of, leb, of_blocks, vid, vid_area}
pub use Rattle.ubi_scan.specs.Marks.{is_listed}
pub use Rattle.ubi_scan.specs.Members.{IsMember, Leb, NoMember, Wins, foreign, foreign_if, good_at, good_in, has_members, header, header_if, is_good, is_right, layout, leb_of, member, member_if, named_in, sqnum_at, sqnum_in}
pub use Rattle.ubi_scan.specs.Numbers.{carriers, counters, image_seq, is_carrier, mean, mean_ec, seq_if, seq_of, sqnum_in_use, top_sqnum, valid_ec}
pub use Rattle.ubi_scan.specs.Scan.{AreWinners, Found, IsNextWinner, IsScan, leb_cmp}
pub use Rattle.ubi_scan.specs.Source.{Agreed, IsSource, Narrows, Source, WhereHeld, blocks_in, blocks_of, holds, memory}
pub use Rattle.ubi_scan.specs.declared.errors.StreamError.{StreamError}
pub use Rattle.ubi_table.proofs.NameRules.{sound_named}
pub use Rattle.ubi_table.proofs.Names.{Entry, once_first}
pub use Rattle.ubi_table.proofs.OneTable.{blank_none, copy_unique, decides_unique}
pub use Rattle.ubi_table.proofs.ReadBack.{length-table_bytes, reads_back}
pub use Rattle.ubi_table.proofs.Streamed.{copy_sizes}
pub use Rattle.ubi_table.specs.Drafted.{with_record, without_record}
pub use Rattle.ubi_table.specs.Named.{with_name}
pub use Rattle.ubi_table.specs.Records.{AreRecords, HasSpace, Records, first_named, space, table_bytes, twice}
pub use Rattle.ubi_table.specs.Stream.{HasSizes}
pub use Rattle.ubi_table.specs.Table.{AllBlank, CopyIs, Decides, IsTable}
unfoldable pub use Rattle.ubi_table.specs.Table.{copy_of}
pub use Rattle.ubi_table.specs.declared.copy.CopyRead.{CopyRead}
pub use Rattle.ubi_volume.proofs.Alike.{short_piece}
pub use Rattle.ubi_volume.proofs.Arranged.{fits_without_blank, keeps_no_blank}
pub use Rattle.ubi_volume.proofs.Blanks.{blank_holds, blank_text, other_text, part_is}
pub use Rattle.ubi_volume.proofs.Equal.{bytes_Decides, record_Decides}
pub use Rattle.ubi_volume.proofs.MeantRecords.{meant_by, records_are, records_fit, volume_is}
pub use Rattle.ubi_volume.proofs.NarrowedPlaces.{error_where, wrote_narrowed, wrote_where}
pub use Rattle.ubi_volume.proofs.OfSurvey.{survey_narrowed}
pub use Rattle.ubi_volume.proofs.Pieces.{most_pieces, piece_begins, pieces_few, pieces_suffice}
pub use Rattle.ubi_volume.proofs.PlacesOf.{refused_in_memory}
pub use Rattle.ubi_volume.proofs.Received.{Splits, error_behind, error_front, wrote_as, wrote_cut, wrote_more, wrote_none, wrote_text}
pub use Rattle.ubi_volume.proofs.Recorded.{record_of, records_meant, space_of}
pub use Rattle.ubi_volume.proofs.Winners.{found_wins, no_some}
pub use Rattle.ubi_volume.specs.Accepts.{Accepts, AcceptsBlocks, IsUnlike, IsWithin, NoMismatch}
pub use Rattle.ubi_volume.specs.Attached.{AreBlockStates, AttachValue, BlockStateIs, IsAttached, IsOutside}
pub use Rattle.ubi_volume.specs.Extract.{share_len}
pub use Rattle.ubi_volume.specs.Made.{without_blank}
pub use Rattle.ubi_volume.specs.Means.{HoldContents, IsPiece, LebReads, Means, SlotMeans, StaticReads, VolumeReads, piece}
pub use Rattle.ubi_volume.specs.Meant.{Fits, IsMeaning, IsVolume, KeepsNoBlank, Meant, VolumeMap, pieces, records_of}
pub use Rattle.ubi_volume.specs.Places.{ArePlacesError, case_of}
pub use Rattle.ubi_volume.specs.Survey.{IsSurvey, IsSurveyOf, Seen, TellsCase}
pub use Rattle.ubi_volume.specs.Wrote.{First, IsWroteError, NotAll, Wanted, Wrote}
pub use Rattle.ubi_volume.specs.declared.attached.BlockState.{BlockState}
pub use Rattle.ubi_volume.specs.declared.content.Content.{Content}
pub use Rattle.ubi_volume.specs.declared.content.Volume.{Volume}
pub use Rattle.ubi_volume.specs.declared.places.PlaceContent.{PlaceContent}
pub use Rattle.ubi_change.specs.Avoided.{AllBeside, Avoided, Avoids, BlankBelow, MayTouch, ReadBlank, avoiding, is_avoided, is_blank_one, nothing, raised, state_avoiding, states_avoiding, touchable}
pub use Rattle.ubi_change.specs.CommitAllowed.{AllThere, IsWhole, MayBeCommitted, MayBeSized, commit_needs}
pub use Rattle.ubi_change.specs.CommitPlan.{commit_plan, edits_plan, lay, lay_all, numbered, table_plan, trimmed, whole_text}
pub use Rattle.ubi_change.specs.CommitPlanned.{IsFrugalCommit, LeavesBoth, SurvivesCommit, WritesBytes}
pub use Rattle.ubi_change.specs.Cuts.{SurvivesCuts, changed, header_in, is_copy, programs_copy, turn, volume_with, with_leb}
pub use Rattle.ubi_change.specs.EditFaults.{all_records_left, fault_of, fault_on, first_edit_fault, is_at_least, is_taken, is_too_large, is_used, reads_whole, records_left, sizing_fault, with_changed, with_size, writing_fault}
pub use Rattle.ubi_change.specs.Edited.{Create, Remove, Rename, Replace, Resize, edited, edited_in, edits_volume, fresh, is_fresh, is_of, left_by, left_by_all, made_in, placed, volume_sized, with_volume, written}
pub use Rattle.ubi_change.specs.EditsAsked.{all_asked, asked, first_beyond, is_beyond, new_of, news_of, part_in, volume_of}
pub use Rattle.ubi_change.specs.Fitting.{AllFit, AllWithin, FitsBlock, fits, only_clears, page_of}
pub use Rattle.ubi_change.specs.Frugal.{CountsErases, IsFrugal, TouchesOnly, counter_after, erases, given_up, touched}
pub use Rattle.ubi_change.specs.Laws.{AcceptsHarmed, AcceptsTorn, CommitAvoiding, CommitSurvives, CommitSurvivesTears, EditsAllowed, PlanSurvives, PlanSurvivesTears, RenameSurvives, RenameSurvivesTears, left}
pub use Rattle.ubi_change.specs.Laying.{StaysOpen, after_contents, all_layings, laying_of, laying_with, layings_of, piece_bytes}
pub use Rattle.ubi_change.specs.Listed.{Hidden, end_named, is_hidden, listed_end_of, listed_header, listed_top_of, sqnum_named}
pub use Rattle.ubi_change.specs.Order.{ComesFirst, Erases, NoErase, Programs, RisesBetweenErases}
pub use Rattle.ubi_change.specs.Pages.{PagesCarry, line_of, programmed, with_pages}
pub use Rattle.ubi_change.specs.Placed.{autoresized_twice, edited_parts, edited_records, flagged_twice, free_slots, is_free, parts_of, records_with}
pub use Rattle.ubi_change.specs.Plan.{atomic_copy, blank_header, copy_header, leb_header, mapped_plan, mount, needs, next_ec, plan_of, prepare, program_header, program_text, ready_bytes, ready_ec, release, renew, taken, unmapped_plan, vid_page}
pub use Rattle.ubi_change.specs.Planned.{IsChangeError, IsChangeRefusal, IsChangeRefusalAvoiding, IsFrugalAvoiding, IsFrugalOf, IsPlanAvoiding, IsThePlan, PlanFacts, PlanFactsOfSource}
pub use Rattle.ubi_change.specs.Refused.{causes, first_cause, first_of, is_bad_length}
pub use Rattle.ubi_change.specs.RenamePlan.{copy_plan, holder, layout_header, rename_plan, renamed_pages, table_pages}
pub use Rattle.ubi_change.specs.RenamePlanned.{IsFrugalRename, IsFrugalRenameAvoiding, IsFrugalRenameOf, IsPlannedRename, IsRenameAvoiding, IsRenameError, IsRenameRefusal, IsRenameRefusalAvoiding, IsTheRename, KeepsReading, LeavesBothGood, RenameFacts, SurvivesRename}
pub use Rattle.ubi_change.specs.RenameRefused.{BothGood, HasName, IsFirstCause, MayBeNamed, RenameStands, rename_rank}
pub use Rattle.ubi_change.specs.Renamed.{ReadSame, nameless, renamed, volume_named}
pub use Rattle.ubi_change.specs.Sites.{BothFit, FitsIn, copy_on, is_sole_on, lay_on, mount_on, release_on, stays_on}
pub use Rattle.ubi_change.specs.Steps.{after_text, block_after, block_cut, block_step, blocks_after, step_done, target}
pub use Rattle.ubi_change.specs.Takeable.{able, ec_at, is_clean, is_sole_carrier, is_takeable, is_unused, is_worn, stays, takeable}
pub use Rattle.ubi_change.specs.Tears.{IsHarmless, MayBeHarmed, MayBeLeft, NoChance, OnlyClears, SurvivesHarm, SurvivesTears, TearsCover}
pub use Rattle.ubi_change.specs.UpdatePlan.{FitsUpdate, IsBeside, IsLaidFrom, IsOutline, IsPlanOf, base_of, contents_after_update, copy_steps, groups_from, header_at, in_order, lay_steps, plan_groups, table_groups}
pub use Rattle.ubi_change.specs.UpdatePlanned.{IsUpdateCause, IsUpdateError, IsUpdateFor, StopsIfRenames}
pub use Rattle.ubi_change.specs.UpdateRefused.{IsRename, RecordsStand, UpdateStands, asked_records, update_rank}
pub use Rattle.ubi_change.specs.Weak.{is_weak, is_whole, pages_needed, pages_of, torn, weak_pages}
pub use Rattle.ubi_change.specs.declared.change.Prepared.{Prepared}
pub use Rattle.ubi_change.specs.declared.copies.Holders.{Holders}
pub use Rattle.ubi_change.specs.declared.edit.Edit.{Edit}
pub use Rattle.ubi_change.specs.declared.edit.NewVolume.{NewVolume}
pub use Rattle.ubi_change.specs.declared.errors.ChangeRefusal.{ChangeRefusal}
pub use Rattle.ubi_change.specs.declared.errors.ContentsError.{ContentsError}
pub use Rattle.ubi_change.specs.declared.errors.EditFault.{EditFault}
pub use Rattle.ubi_change.specs.declared.errors.PlanError.{PlanError}
pub use Rattle.ubi_change.specs.declared.errors.RenameRefusal.{RenameRefusal}
pub use Rattle.ubi_change.specs.declared.errors.UpdateError.{UpdateError}
pub use Rattle.ubi_change.specs.declared.errors.UpdateRefusal.{UpdateRefusal}
pub use Rattle.ubi_change.specs.declared.ground.Ground.{Ground}
pub use Rattle.ubi_change.specs.declared.judging.Judged.{Judged}
pub use Rattle.ubi_change.specs.declared.known.Known.{Known}
pub use Rattle.ubi_change.specs.declared.laying.Laying.{Laying}
pub use Rattle.ubi_change.specs.declared.plan_steps.Target.{Target}
pub use Rattle.ubi_change.specs.declared.sites.Site.{Site}
pub use Rattle.ubi_change.specs.declared.step.Step.{Step}
pub use Rattle.ubi_change.specs.declared.update.UpdatePlan.{UpdatePlan}
pub use Rattle.ubi_change.specs.declared.updating.Based.{Based}
pub use Rattle.ubi_change.specs.declared.written_out.Ready.{Ready}
pub use Rattle.ubi_change.specs.inner.Drafting.{TellsUsed}
pub use Rattle.ubi_change.specs.inner.Judging.{IsFirstJudged, IsJudged, IsMade, IsUnjudged}
pub use Rattle.ubi_change.specs.inner.Known.{AreWholes, IsKnown, is_whole_case}
pub use Rattle.ubi_change.specs.inner.Laying.{IsContentsError, IsLastPage, IsPartReadable, IsPartUnread, IsPieceUnread, contents_error, full_laying}
pub use Rattle.ubi_change.specs.inner.Making.{AreSites, AreStepsOf, FitsPrepared, IsPrepared, IsSitesRefusal, IsTarget, IsTooFew, IsUnplanned, change_error, change_needs, image_causes, own_causes, shown, steps_on, target_header}
pub use Rattle.ubi_change.specs.inner.Outline.{HavePageNumbers, lay_lines, page_lines, release_lines, renew_lines}
pub use Rattle.ubi_change.specs.inner.Ready.{IsReady, IsSitesError, IsUnready}
pub use Rattle.ubi_change.specs.inner.Renaming.{AreHolders, AreHoldersOf, rename_cause, rename_error}
pub use Rattle.ubi_change.specs.inner.Sites.{IsSiteAt, ready_on, site_at}
pub use Rattle.ubi_change.specs.inner.Taking.{AreTaken, IsGroundOf, ListedIs, NotBlankIs, SayBlank, TakeableIs, first_taken, listed_site, with_next}
pub use Rattle.ubi_change.specs.inner.Updating.{IsApart, IsBased, IsUnbased, listed_in, update_error}
pub use Rattle.ubi_change.specs.inner.Writing.{block_text, front_text}
