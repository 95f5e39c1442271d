-- The names that the proofs of this crate speak of, and where they come from.
pub use Rattle.std.proofs.Common.{Bool, List, [], ap, arith, drop, false, if◌then◌else◌, inl, inr, length, refl, subst, sym, take, true, vec_items, ℕ, ◌*◌, ◌++◌, ◌+◌, ◌-◌, ◌∙◌, ◌∷◌, ◌≡◌, ◌≢◌, ◌≤◌, ◌⊎◌}
pub use Rattle.std.proofs.Math.Nat.{mod-add-div'}
pub use Rattle.std.proofs.lemmas.Bool.{ltb-false}
pub use Rattle.std.proofs.lemmas.Grind.{common_steps}
pub use Rattle.std.proofs.lemmas.List.{drop-drop, drop-take, length-drop, length-take, take-take}
pub use Rattle.std.proofs.lemmas.Result.{IfOk-at_ok, IfOk-weaker, err_from_is_err_and}
pub use Rattle.std.specs.Borrow.{Bor}
pub use Rattle.std.specs.Io.KnownBytes.{Appends}
pub use Rattle.std.specs.List.{flat_map}
pub use Rattle.std.specs.Option.{ForSome, IsSomeAnd, option_map_or}
pub use Rattle.std.specs.Prelude.{Contains, Err, IfErr, IfOk, IfSome, IsFalse, IsSome, MatchResult, None, Ok, OnErr, Option, Result, Some, codes, is_some, map, option_map, slice_index_or, unwrap_or}
pub use Rattle.std.specs.declared.alloc.AllocError.{AllocError}
pub use Rattle.std.specs.declared.alloc.Global.{Global}
pub use Rattle.std.specs.declared.vec.Vec.{Vec}
pub use Rattle.ubi_detect.proofs.OnGrid.{each_on_grid}
pub use Rattle.ubi_detect.specs.Detected.{AreDetected, AreDetectedOf, IsFound}
pub use Rattle.ubi_detect.specs.Heads.{first_place, heads_of, places}
pub use Rattle.ubi_detect.specs.Images.{AreImages, AreImagesBeside}
pub use Rattle.ubi_detect.specs.Place.{end_of_image, end_of_last, start_of_image, told_by, told_ways}
pub use Rattle.ubi_detect.specs.declared.detect.Detected.{Detected}
pub use Rattle.ubi_detect.specs.declared.groups.Group.{Group}
pub use Rattle.ubi_detect.specs.declared.images.Images.{Images}
pub use Rattle.ubi_detect.specs.declared.way.Way.{Way}
pub use Rattle.ubi_files.proofs.MaskedBytes.{masked_none}
pub use Rattle.ubi_files.proofs.OpensAtPlaces.{never_opened}
pub use Rattle.ubi_files.proofs.PageBytes.{pages_none}
pub use Rattle.ubi_files.proofs.Tells.{Tells-weaker}
pub use Rattle.ubi_files.specs.AfterRun.{after_left, after_right, after_run}
pub use Rattle.ubi_files.specs.Answer.{Gives, says}
pub use Rattle.ubi_files.specs.Disk.{Files, Holds, IsJudgedOf, IsKept, OthersStay, Receives, fresh}
pub use Rattle.ubi_files.specs.Dump.{Fits, FitsWhole, as_read, blocks_before, greatest_dump, misfit_of, seen, viewed, whole_len}
pub use Rattle.ubi_files.specs.Kept.{IsPartOf}
pub use Rattle.ubi_files.specs.Late.{contents_of}
pub use Rattle.ubi_files.specs.Lines.{file_line}
pub use Rattle.ubi_files.specs.Numbers.{sizes_of}
pub use Rattle.ubi_files.specs.Opened.{IsOpened}
pub use Rattle.ubi_files.specs.OverFile.{IsRead, IsUnseen, OfFile, WhereRead, cannot_read, file, no_file, unreadable, whole}
pub use Rattle.ubi_files.specs.Told.{Tells}
pub use Rattle.ubi_files.specs.Views.{misfit, pages_of, part_of}
pub use Rattle.ubi_files.specs.declared.dump.Dump.{Dump}
pub use Rattle.ubi_files.specs.declared.image_file.Unread.{Unread}
pub use Rattle.ubi_files.specs.declared.image_file.Unread.TheVariants.{Memory, Told}
pub use Rattle.ubi_files.specs.declared.open_image.OpenImage.{OpenImage}
pub use Rattle.ubi_files.specs.declared.outcome.Outcome.{Outcome}
pub use Rattle.ubi_files.specs.declared.outcome.SidesError.{SidesError}
pub use Rattle.ubi_files.specs.declared.outcome.ToolError.{ToolError}
pub use Rattle.ubi_files.specs.declared.view.FilePart.{FilePart}
pub use Rattle.ubi_media.specs.Geometry.{Sizes}
unfoldable pub use Rattle.ubi_media.specs.Limits.{first_broken}
pub use Rattle.ubi_scan.specs.Image.{seen_of}
pub use Rattle.ubi_scan.specs.Promised.{keeps_promise}
pub use Rattle.ubi_scan.specs.Source.{Agreed, Narrows, Source, WhereHeld, holds, known_by, memory}
pub use Rattle.ubi_dumps.specs.Asked.{IsDump, IsToldFirst, TellsNothing, given, is_split, no_geometry, several, told, told_dump}
pub use Rattle.ubi_dumps.specs.Ended.{IsEnded, IsTold, IsUnreadSide, Works, answered, done, left_failed, no_read, no_source, no_write, outcome, read_failed, right_failed, unopened}
pub use Rattle.ubi_dumps.specs.FileAnswers.{kept, lost}
pub use Rattle.ubi_dumps.specs.Lines.{span_words}
unfoldable pub use Rattle.ubi_dumps.specs.Lines.{layout_words}
pub use Rattle.ubi_dumps.specs.Read.{OfRead, OfReadDumps}
pub use Rattle.ubi_dumps.specs.declared.asked.Sought.{Sought}
