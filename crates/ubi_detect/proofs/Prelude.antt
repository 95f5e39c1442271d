-- The names that the proofs of this crate speak of, and where they come from.
pub use Rattle.std.proofs.Common.{Bool, List, [], ap, ap₂, arith, codes, cond, decimal, drop, false, get_or, inl, inr, length, length-append, refl, rules, slice_range, subst, suc, sym, take, true, vec_len, zero, ℕ, ◌%◌, ◌*◌, ◌++◌, ◌+◌, ◌-◌, ◌/◌, ◌<◌, ◌∙◌, ◌∷◌, ◌≡◌, ◌≢◌, ◌≤◌, ◌⊎◌}
pub use Rattle.std.proofs.Math.Nat.{add-mod_left, div-zero, dvd-add, dvd-mul_left, dvd-sub, le-div_iff_mul-le, lt_of_mul-lt-mul_right, mod-add-div', mod-eq_of_lt, mod-lt, mod_self, mul-div-le, mul-div_cancel, mul-le-mul_right, mul-mod_left, mul_assoc, mul_comm, pow-le-pow_right}
pub use Rattle.std.proofs.Math.Seq.{get_or-append_seam}
pub use Rattle.std.proofs.lemmas.Bool.{and_cases, and_from, and_left, and_parts, and_right, eq-eqb, eqb-false, eqb-true, false≢true, le-leb, le-ltb, leb-true, lt-leb, lt-ltb, ltb-false, ltb-true, ne_eqb, not-true, not_from_false, or_cases, or_from, or_left, or_parts, or_right, true≢false}
pub use Rattle.std.proofs.lemmas.Bool.Decides.{nat_tests}
pub use Rattle.std.proofs.lemmas.Cmp.{nat_eq_equiv}
pub use Rattle.std.proofs.lemmas.Grind.{flat_map-append}
pub use Rattle.std.proofs.lemmas.List.{append-nil, append_assoc, drop-drop, drop-take, drop_all, ext_get_or, get_or-map, get_or-set_other, get_or-set_same, get_or_append_left, get_or_default, length-map, length-set, map-append, map-id, map_more, nil_from_length, take-take, take_all, take_more}
pub use Rattle.std.proofs.lemmas.List.Elements.{All-append, All-cons, All-contains, All-from_recursion, All-head, All-map, All-nil, All-push, All-tail, All-weaker, filter-append, filter_map-append, filter_more}
pub use Rattle.std.proofs.lemmas.List.Folds.{list_all-append, list_all-map, list_any-append, list_any_at, list_any_none}
pub use Rattle.std.proofs.lemmas.List.FromFn.{map-range_with_len_more}
pub use Rattle.std.proofs.lemmas.List.Kept.{AllPairs-cons, AllPairs-filter}
pub use Rattle.std.proofs.lemmas.List.Sums.{fold-append}
pub use Rattle.std.proofs.lemmas.Nat.Gcd.{IsGcd-from_mod, IsGcd-from_zero, dvd-zero, dvd_antisymm, dvd_of_mod-eq-zero, dvd_refl, dvd_trans, le_of_dvd, mod-eq-zero_of_dvd}
pub use Rattle.std.proofs.lemmas.Option.{none-some, same_Some}
pub use Rattle.std.proofs.lemmas.Result.{IfErr-weaker, IfOk-weaker}
pub use Rattle.std.specs.Bool.{then_some}
unfoldable pub use Rattle.std.specs.Fmt.{digits}
pub use Rattle.std.specs.Int.{IsGcd, div_ceil, ◌∣◌}
pub use Rattle.std.specs.List.{All, AllByRecursion, AllPairs, cons_option, filter, filter_map, flat_map, fold, last_or, list_all, list_any, range_with_len}
pub use Rattle.std.specs.Option.{option_to_list}
pub use Rattle.std.specs.Prelude.{Contains, Err, IfErr, IfOk, IfSome, IsFalse, IsTrue, MatchOption, None, Ok, Option, Result, Some, count_by, find, is_none, map, max, min, nat_le, nat_lt, not, option_map, replicate, slice_index_or, slice_set, unwrap_or, ⊤, ◌&&◌, ◌==◌, ◌^◌, ◌||◌}
pub use Rattle.byteorder.specs.Endian.{big_number}
pub use Rattle.ubi_media.proofs.Cases.{below_or_last, below_same_or_above, within_or_past}
pub use Rattle.ubi_media.proofs.First.{none_passes}
pub use Rattle.ubi_media.proofs.KeptLimits.{kept_limits}
pub use Rattle.ubi_media.proofs.Words.{words}
unfoldable pub use Rattle.ubi_media.specs.Check.{check_from, remainder}
pub use Rattle.ubi_media.specs.Ec.{ec_magic, offsets_of, reading_by, sizes_naming, start_by}
unfoldable pub use Rattle.ubi_media.specs.Ec.{breaks, ec_fields, ec_reading, ec_start, first_fault, judged}
pub use Rattle.ubi_media.specs.Fields.{field, is_blank, is_sealed}
unfoldable pub use Rattle.ubi_media.specs.Fields.{form_of}
pub use Rattle.ubi_media.specs.Geometry.{IsGeometry, Sizes, page_sizes, slots}
unfoldable pub use Rattle.ubi_media.specs.Limits.{first_broken}
pub use Rattle.ubi_media.specs.OtherPage.{with_page}
pub use Rattle.ubi_media.specs.Record.{record_size}
pub use Rattle.ubi_media.specs.Vid.{vid_magic}
pub use Rattle.ubi_media.specs.declared.ec.EcOffsets.{EcOffsets}
pub use Rattle.ubi_scan.specs.Members.{layout}
pub use Rattle.ubi_scan.specs.Source.{Agreed, Narrows, Source, WhereHeld}
pub use Rattle.ubi_scan.specs.declared.source.BlockSource.{Ghosts}
pub use Rattle.ubi_detect.specs.DetectLaws.{DetectedOrNot, DetectedOrRefused, EachOnGrid, GeometryOfImage, GreatestSize, OneDetection, OneFound, OneImage, OneUndetected, OutOfBandOfImage, PlaceOnGrid, SizeOfImage, TwoHeaders}
pub use Rattle.ubi_detect.specs.Detected.{AreDetected, AreDetectedOf, IsDetectError, IsFound, IsUndetected, IsWholeGroup, Looks, NonePlain, after_detecting}
pub use Rattle.ubi_detect.specs.ErrorTexts.{undetected_text}
pub use Rattle.ubi_detect.specs.FoundLaws.{AreHeadersOf, HoldsTable, HoldsTables, ImageIsFound, NoHeaderOutside, PowersOfTwo, ShownAmongOthers, ShowsImage, way_without}
pub use Rattle.ubi_detect.specs.Groups.{AreGroups, Divides, IsGroup, IsImage, IsSpacing, Says, greatest_size, no_key, says_size, speaks_among, spoken}
pub use Rattle.ubi_detect.specs.Heads.{first_place, head_at, heads_of, heads_to, is_of, key_at, key_by, key_count, key_in, keys_of, last_place, most_keys, places, same_key, same_offsets, speaks, step, with_key}
pub use Rattle.ubi_detect.specs.Images.{are_apart, are_headers, block_with, holds_member, is_image, span_of, spans_of}
pub use Rattle.ubi_detect.specs.Layout.{data_place, is_laid_out, layout_sizes}
pub use Rattle.ubi_detect.specs.PartLaws.{HoldsPart, LiesAt, NoneOutside, PartOfFile, SureOfPart, ToldOfPart, moved, placed_in}
pub use Rattle.ubi_detect.specs.Place.{end_of_image, end_of_last, has_no_page, has_vid, has_vote, is_voted, is_without, start_of_image, told, told_by, told_ways, top_vote, votes, ways_with, ways_without}
pub use Rattle.ubi_detect.specs.Plain.{IsPlain, IsSurelyPlain}
pub use Rattle.ubi_detect.specs.Sure.{all_are, are_no_halves, are_no_parts, block_at, blocks, copy_at, count_starts, end_in, ends_blank, goes_on, has_inner_start, has_part_start, has_room, have_copies, holds_table, is_blank_at, is_borne_out, is_even, is_filled, is_hole, is_member, is_prime, is_seen, is_start, is_sure, is_whole_size, looked_at, may_be_parts, may_be_size, meet_in, meets, number_at, says_so, some_ends_blank, some_inner, some_part, some_start, tables_meet}
pub use Rattle.ubi_detect.specs.Ways.{has_no_way, page_counts, plain_way, plain_ways, put, way_of, ways}
pub use Rattle.ubi_detect.specs.declared.detect.DetectError.{DetectError}
pub use Rattle.ubi_detect.specs.declared.detect.Detected.{Detected}
pub use Rattle.ubi_detect.specs.declared.detect.Undetected.{Undetected}
pub use Rattle.ubi_detect.specs.declared.groups.Group.{Group}
pub use Rattle.ubi_detect.specs.declared.heads.Head.{Head}
pub use Rattle.ubi_detect.specs.declared.heads.Key.{Key}
pub use Rattle.ubi_detect.specs.declared.way.Way.{Way}
pub use Rattle.ubi_detect.specs.declared.ways.Ways.{Ways}
pub use Rattle.ubi_detect.specs.inner.Detecting.{AreAdded, AreReady, AreWays, IsAdded, IsBestOf, IsReadAt, IsReadError, IsUntold, IsWithin, LiesIn, NoneSays, first_with, group_with, has_key, head_in, is_most_voted, speaks_for_more, unnumbered}
pub use Rattle.ubi_detect.specs.inner.Joined.{AreJoined, HasHeadOf, IsFirstHead, IsJoined, IsPlainSize, NoHeads, NoneAlone, NoneJoined, NoneOwns, NotPlain}
