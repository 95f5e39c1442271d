-- The names that the proofs of this crate speak of, and where they come from.
pub use Rattle.std.proofs.Common.{Bool, List, [], ap, ap₂, arith, cond, drop, false, get_or, inl, inr, is_some, le_refl, length, map, min, nat_le, nat_lt, refl, replicate, rules, subst, suc, sym, take, true, vec_items, vec_len, zero, ℕ, ◌%◌, ◌&&◌, ◌*◌, ◌++◌, ◌+◌, ◌-◌, ◌/◌, ◌<◌, ◌==◌, ◌^◌, ◌||◌, ◌∙◌, ◌∷◌, ◌≡◌, ◌≢◌, ◌≤◌, ◌⊎◌}
pub use Rattle.std.proofs.KnownBytes.{Consumes-trans}
pub use Rattle.std.proofs.Math.Nat.{div-lt_iff_lt-mul, min-le_left, min-le_right}
pub use Rattle.std.proofs.Math.Seq.{drop-append-add, paste, take-append-add}
pub use Rattle.std.proofs.lemmas.Bool.{cases_lt}
pub use Rattle.std.proofs.lemmas.Bool.Decides.{nat_tests}
pub use Rattle.std.proofs.lemmas.List.{append-nil, drop-append-le, drop-drop, drop-replicate, drop-take, drop_all, drop_at, get_or-append_right, get_or-drop, get_or-replicate, get_or-take, get_or_append_left, length-append, length-drop, length-replicate, length-take, length-take-le, map-append, nil_from_length, same_lists, take-append-drop, take-append-le, take-replicate, take-take, take_all, take_at, take_min, take_more, take_rest, with_items_is}
pub use Rattle.std.proofs.lemmas.List.Edits.{drop-paste, length-paste, take-paste}
pub use Rattle.std.proofs.lemmas.List.Elements.{filter_map-append}
pub use Rattle.std.proofs.lemmas.List.Splits.{length-slice_split}
pub use Rattle.std.proofs.lemmas.List.Sums.{sum_by-append}
pub use Rattle.std.proofs.lemmas.Nat.{div-add-mod', div-mul-add, mod-mul-add, mod_below, mul-le}
pub use Rattle.std.proofs.lemmas.Result.{err_from_is_err_and}
pub use Rattle.std.specs.Bool.{then_some}
pub use Rattle.std.specs.Borrow.{Bor}
pub use Rattle.std.specs.Io.{ReadsAtMost}
pub use Rattle.std.specs.Io.KnownBytes.{Consumes}
pub use Rattle.std.specs.List.{cons_option, enumerate_from, list_all, list_any, slice_split}
pub use Rattle.std.specs.Option.{ForSome, option_map_or}
pub use Rattle.std.specs.Prelude.{Err, IfOk, IfSome, None, Ok, OnErr, Option, Result, Some, filter_map, if◌then◌else◌, option_and_then, option_map, sum_by, unwrap_or}
pub use Rattle.ubi_media.specs.Fields.{blank}
pub use Rattle.ubi_media.specs.Geometry.{Sizes, page_sizes}
unfoldable pub use Rattle.ubi_media.specs.Limits.{first_broken}
pub use Rattle.ubi_scan.proofs.BytesAtPlace.{stand_within}
pub use Rattle.ubi_scan.specs.Image.{seen_of}
pub use Rattle.ubi_scan.specs.Marks.{is_listed}
pub use Rattle.ubi_scan.specs.Placed.{StandsAt}
pub use Rattle.ubi_files.specs.BadBlocks.{has_number, masked, one_block, range_of, range_of_parts, ranges_of, with_ranges}
pub use Rattle.ubi_files.specs.Disk.{Files}
pub use Rattle.ubi_files.specs.Dump.{Fits, as_read, before, blocks_before, marks_of, misfit_of, most_of, viewed}
pub use Rattle.ubi_files.specs.Numbers.{sizes_of}
pub use Rattle.ubi_files.specs.OverFile.{bad_limit, cannot_read, unfit, unfit_whole, unreadable}
pub use Rattle.ubi_files.specs.Row.{row_bytes}
pub use Rattle.ubi_files.specs.Told.{Tells}
pub use Rattle.ubi_files.specs.Views.{misfit, pages_from, pages_of, part_len, part_of}
pub use Rattle.ubi_files.specs.declared.bad_blocks.BlockRange.{BlockRange}
pub use Rattle.ubi_files.specs.declared.dump.Dump.{Dump}
pub use Rattle.ubi_files.specs.declared.image_file.Unread.{Unread}
pub use Rattle.ubi_files.specs.declared.image_file.Unread.TheVariants.{Memory, Told}
pub use Rattle.ubi_files.specs.declared.outcome.Outcome.{Outcome}
pub use Rattle.ubi_files.specs.declared.view.FilePart.{FilePart}
pub use Rattle.ubi_files.specs.declared.whole_dump.PartRead.{PartRead}
pub use Rattle.ubi_files.specs.inner.PartRead.{IsReadOf}
