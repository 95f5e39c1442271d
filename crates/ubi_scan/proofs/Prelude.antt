-- The names that the proofs of this crate speak of, and where they come from.
pub use Rattle.std.proofs.Common.{Bool, List, MutBor, T, [], ap, append_assoc, ap₂, arith, below_more, cond, drop, eqb, false, get_or, get_or-set_other, get_or-set_same, inl, inr, length, length-append, length-drop, length-set, length-take, length-take-le, map, not, refl, replicate, rules, set, slice_range, subst, suc, sym, take, true, w64, zero, ℕ, ◌&&◌, ◌*◌, ◌++◌, ◌+◌, ◌-◌, ◌/◌, ◌<◌, ◌==◌, ◌^◌, ◌||◌, ◌∙◌, ◌∷◌, ◌≡◌, ◌≢◌, ◌≤◌, ◌⊎◌}
pub use Rattle.std.proofs.Math.Nat.{div-le_of_le-mul, div-mul-le_self, le-max_left, le-max_right}
pub use Rattle.std.proofs.Math.Seq.{take-add, take-append-add}
pub use Rattle.std.proofs.lemmas.Bool.{cases_eq, cases_lt, cases_order}
pub use Rattle.std.proofs.lemmas.Bool.Decides.{nat_tests}
pub use Rattle.std.proofs.lemmas.Float.{T_from_true}
pub use Rattle.std.proofs.lemmas.Grind.{common_steps}
pub use Rattle.std.proofs.lemmas.List.{drop-append-le, drop-drop, drop-replicate, drop-take, drop_at, get_or-take, get_or_append_left, get_or_at, get_or_default, length-replicate, map-append, replicate-append-replicate, same_lists, take-append-le, take-replicate, take-take, take_all, take_at, take_min, take_more}
pub use Rattle.std.proofs.lemmas.List.Edits.{length-swap}
pub use Rattle.std.proofs.lemmas.List.Elements.{All-replicate, filter_map-append}
pub use Rattle.std.proofs.lemmas.List.FromFn.{sum_by-map-range_with_len_more}
pub use Rattle.std.proofs.lemmas.List.Sorted.{IsPermutation-keeps}
pub use Rattle.std.proofs.lemmas.List.Sums.{fold-append, sum_by-append}
pub use Rattle.std.proofs.lemmas.Map.Keys.{le_from_not_gt, sorted_head, sorted_tail}
pub use Rattle.std.proofs.lemmas.Map.Lookups.{CmpEqualImpliesEq, exact_pairs, exact_unsigned}
pub use Rattle.std.proofs.lemmas.Nat.{div-mul-add, mul-le}
pub use Rattle.std.proofs.lemmas.Option.{same_Some, slice_get-get_or}
pub use Rattle.std.specs.BTreeMap.{BTreeMap, is_at}
pub use Rattle.std.specs.BTreeMap.Range.{IsRangeOf}
pub use Rattle.std.specs.Bool.{then_some}
pub use Rattle.std.specs.Cmp.{IsTotalOrder, eq_by_cmp_equiv, nat_cmp_is, nat_cmp_total, on_total, then_total, tied_itself}
pub use Rattle.std.specs.FinMap.{FinMap, IsAntisymmetric, find, from_entries, get, is_sorted, nat_cmp-IsAntisymmetric}
pub use Rattle.std.specs.FinMap.Entries.{below_all, same_entries}
pub use Rattle.std.specs.List.{AllByRecursion, concat, list_any, sum_by}
pub use Rattle.std.specs.List.Sorted.{IsPermutation}
unfoldable pub use Rattle.std.specs.List.Sorted.{IsStrictlySortedBy}
pub use Rattle.std.specs.Map.{keys_of, lookup}
pub use Rattle.std.specs.Option.{ForSome, option_map_or, option_or}
pub use Rattle.std.specs.Ordering.{eq_by_cmp, is_eq, is_gt, is_lt, nat_cmp, ordering_reverse, ordering_then}
pub use Rattle.std.specs.Prelude.{Contains, Err, IfErr, IfSome, IsSome, IsTrue, MatchOption, None, Ok, OnErr, Option, Result, Some, filter_map, fold, if◌then◌else◌, max, min, nat_le, nat_lt, option_and_then, option_map, slice_get, slice_index_or, sum, swap, unwrap_or, ⊤, ◌↔◌}
pub use Rattle.std.specs.Simd.{first_chunks}
pub use Rattle.std.specs.declared.cmp.Ordering.{Ordering}
pub use Rattle.std.specs.declared.cmp.Ordering.TheVariants.{Equal, Greater, Less}
pub use Rattle.std.specs.declared.ops.Bound.TheVariants.{Included, Unbounded}
pub use Rattle.ubi_media.proofs.Cases.{below_or_last, below_same_or_above}
pub use Rattle.ubi_media.proofs.Readings.{counter_within, ec_is_of, one_ec_reading, one_vid_reading, vid_is_of}
pub use Rattle.ubi_media.proofs.Words.{small, words}
pub use Rattle.ubi_media.specs.Check.{crc_of}
unfoldable pub use Rattle.ubi_media.specs.Check.{check_from, remainder}
pub use Rattle.ubi_media.specs.Ec.{ec_magic}
unfoldable pub use Rattle.ubi_media.specs.Ec.{ec_reading}
pub use Rattle.ubi_media.specs.Fields.{blank, field}
unfoldable pub use Rattle.ubi_media.specs.Fields.{filled, form_of, overwrite}
pub use Rattle.ubi_media.specs.Geometry.{IsGeometry, Sizes, leb_size, slots}
pub use Rattle.ubi_media.specs.Kind.{is_static}
pub use Rattle.ubi_media.specs.OtherPage.{with_page}
pub use Rattle.ubi_media.specs.Record.{record_size}
pub use Rattle.ubi_media.specs.Vid.{VidIs, faults, vid_magic}
unfoldable pub use Rattle.ubi_media.specs.Vid.{breaks, first_fault, header_of, judged, vid_fields, vid_reading}
pub use Rattle.ubi_media.specs.declared.ec.EcFault.{EcFault}
pub use Rattle.ubi_media.specs.declared.ec.EcHeader.{EcHeader}
pub use Rattle.ubi_media.specs.declared.ec.EcRead.{EcRead}
pub use Rattle.ubi_media.specs.declared.refusal.Refusal.{Refusal}
pub use Rattle.ubi_media.specs.declared.vid.VidFault.{VidFault}
pub use Rattle.ubi_media.specs.declared.vid.VidHeader.{VidHeader}
pub use Rattle.ubi_media.specs.declared.vid.VidRead.{VidRead}
pub use Rattle.ubi_media.specs.declared.vid.VolKind.{VolKind}
pub use Rattle.ubi_scan.specs.Clean.{IsClean, IsSound}
pub use Rattle.ubi_scan.specs.Coded.{places_of}
pub use Rattle.ubi_scan.specs.Faults.{HasFault, IsFirstFault, IsIncompatible, IsMislaid, IsScanFault, NoFault, NoFaultBelow, fault_rank}
pub use Rattle.ubi_scan.specs.Image.{Image, IsLengthFault, IsWholeImage, IsWholeSize, block, ec, eraseblocks, leb, of_blocks, slots_in, vid}
pub use Rattle.ubi_scan.specs.Members.{IsMember, Leb, NoMember, Wins, foreign, foreign_if, good_at, good_in, has_members, header, header_if, is_right, layout, leb_of, member, member_if, named_in, sqnum_at, sqnum_in}
pub use Rattle.ubi_scan.specs.Numbers.{CounterFits, carriers, counters, image_seq, is_carrier, mean_ec, seq_if, seq_of, sqnum_in_use, top_sqnum, valid_ec}
pub use Rattle.ubi_scan.specs.PassedOver.{NoneAnchors, count_passed_over, passes_over}
pub use Rattle.ubi_scan.specs.Placed.{StandsAt}
pub use Rattle.ubi_scan.specs.Scan.{AreStates, AreWinners, Found, IsDropped, IsHeader, IsScan, StateIs, kept_header, leb_cmp}
pub use Rattle.ubi_scan.specs.Source.{Agreed, IsSource, Narrows, Source, WhereHeld, blocks_in, blocks_of, holds, memory}
pub use Rattle.ubi_scan.specs.Stream.{IsScanOf, IsScanOfError, LiesWithin, NamesBlock}
pub use Rattle.ubi_scan.specs.declared.candidate.Candidate.{Candidate}
pub use Rattle.ubi_scan.specs.declared.candidate.Meeting.{Meeting}
pub use Rattle.ubi_scan.specs.declared.counts.Counts.{Counts}
pub use Rattle.ubi_scan.specs.declared.errors.StreamError.{StreamError}
pub use Rattle.ubi_scan.specs.declared.found.MemberHeader.{MemberHeader}
pub use Rattle.ubi_scan.specs.declared.found.ScanState.{ScanState}
pub use Rattle.ubi_scan.specs.declared.pass.Pass.{Pass}
pub use Rattle.ubi_scan.specs.declared.trace.Trace.{Trace}
pub use Rattle.ubi_scan.specs.declared.window.Window.{Window}
pub use Rattle.ubi_scan.specs.inner.Ahead.{HoldsAt}
pub use Rattle.ubi_scan.specs.inner.Choice.{beaten, beats, candidate, held_of, kept, known, takes_over}
pub use Rattle.ubi_scan.specs.inner.Counts.{carrier_if, counted_if, counter_if, first_seq, sqnum_if}
pub use Rattle.ubi_scan.specs.inner.Pass.{AreAtMost, AreCounted, IsEntered, IsMeeting, IsNominated, IsPassed, IsPutAside, IsTaken, Puts, Stamp, beaten_in, ec_fault, fault_if, found_by, header_fault, held_in, is_incompatible, is_mislaid, member_state, quiet_state, stamp_cmp, stamp_of, twin_aside, twin_by, twin_held, twin_in, vid_refusal}
