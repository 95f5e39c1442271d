-- The names that the proofs of this crate speak of, and where they come from.
pub use Rattle.std.proofs.Common.{Bool, Bor, Decides, List, [], ap, append-nil, append_assoc, ap₂, arith, cond, false, inl, inr, length, length-take-le, map, not, refl, subst, suc, sym, take, true, zero, ℕ, ◌%◌, ◌&&◌, ◌*◌, ◌++◌, ◌+◌, ◌-◌, ◌<◌, ◌==◌, ◌∙◌, ◌∷◌, ◌≡◌, ◌≢◌, ◌≤◌}
pub use Rattle.std.proofs.lemmas.Bool.{cases_lt, false≢true, le-ltb, lt-ltb}
pub use Rattle.std.proofs.lemmas.Bool.Decides.{Decides-and, Decides-like}
pub use Rattle.std.proofs.lemmas.Grind.{flat_map-append}
pub use Rattle.std.proofs.lemmas.List.Elements.{filter-append}
pub use Rattle.std.proofs.lemmas.Result.{IfErr-weaker, IfOk-weaker, on_ok_weaker}
pub use Rattle.std.proofs.lemmas.Slice.Eq.{slice_eq-Decides}
pub use Rattle.std.specs.Cmp.{nat_cmp_total, unsigned_Decides}
pub use Rattle.std.specs.Cmp.Lexicographic.{pointwise}
pub use Rattle.std.specs.FinMap.{FinMap, nat_cmp-IsAntisymmetric, same_entries_map}
pub use Rattle.std.specs.List.{range_with_len}
pub use Rattle.std.specs.Option.{option_copied}
pub use Rattle.std.specs.Ordering.{nat_cmp}
pub use Rattle.std.specs.Prelude.{Err, IfSome, IsTrue, None, Ok, Option, Result, Some, filter, flat_map, if◌then◌else◌, min, nat_lt, ◌↔◌}
pub use Rattle.ubi_media.proofs.Records.{usable_some}
pub use Rattle.ubi_media.specs.Fields.{blank, same_bytes}
pub use Rattle.ubi_media.specs.Geometry.{IsGeometry, Sizes, leb_size, slots}
pub use Rattle.ubi_media.specs.Record.{rec_fault, usable}
pub use Rattle.ubi_media.specs.declared.record.VolumeRecord.{VolumeRecord}
pub use Rattle.ubi_media.specs.declared.vid.VolKind.{VolKind}
pub use Rattle.ubi_scan.specs.Image.{IsWholeSize, image_of}
pub use Rattle.ubi_scan.specs.Source.{Agreed, Narrows, Source, WhereHeld, blocks_in, blocks_of}
pub use Rattle.ubi_table.specs.Records.{Records}
pub use Rattle.ubi_volume.proofs.Blanks.{leb_long}
pub use Rattle.ubi_volume.proofs.CaseSizes.{size_more, size_none}
pub use Rattle.ubi_volume.proofs.Equal.{bytes_Decides, record_Decides}
pub use Rattle.ubi_volume.proofs.Extracted.{leb_is, piece_is, same_Ok}
pub use Rattle.ubi_volume.proofs.OfSurvey.{entry_of, has_entry, no_volume, placed_of, places_of, survey_narrowed}
pub use Rattle.ubi_volume.proofs.OfTexts.{piece_text, text_case}
pub use Rattle.ubi_volume.proofs.OneMeaning.{kept_alike, outside}
pub use Rattle.ubi_volume.proofs.Pieces.{pieces_few, share_more, shares_all}
pub use Rattle.ubi_volume.proofs.Unattached.{read_refused}
pub use Rattle.ubi_volume.proofs.VolumeAt.{content_has, reads_of}
pub use Rattle.ubi_volume.specs.Accepts.{Accepts}
pub use Rattle.ubi_volume.specs.Extract.{extent_of, leb_bytes, share_len}
pub use Rattle.ubi_volume.specs.Meant.{Fits, IsMeaning, IsVolume, KeepsNoBlank, Meant, pieces, share}
pub use Rattle.ubi_volume.specs.Places.{case_of}
pub use Rattle.ubi_volume.specs.Reading.{leb_read, leb_text}
pub use Rattle.ubi_volume.specs.Survey.{IsSurvey, IsSurveyOf, Seen}
pub use Rattle.ubi_volume.specs.Texts.{PieceIs, SizeIsRead}
pub use Rattle.ubi_volume.specs.declared.content.Content.{Content}
pub use Rattle.ubi_volume.specs.declared.content.Volume.{Volume}
pub use Rattle.ubi_volume.specs.declared.errors.ReadError.{ReadError}
pub use Rattle.ubi_volume.specs.declared.places.Extent.{Extent}
pub use Rattle.ubi_volume.specs.declared.places.PlaceContent.{PlaceContent}
pub use Rattle.ubi_compare.specs.Compared.{IsCompareFault, WhereBothHeld}
pub use Rattle.ubi_compare.specs.Differences.{condition_of, content_differences, differences, leb_differences, lebs_apart, length_differences, ranges_after, read_apart, record_differences, same_condition, same_kind, unless, volume_differences}
pub use Rattle.ubi_compare.specs.Laws.{NothingDiffers}
pub use Rattle.ubi_compare.specs.declared.difference.Condition.{Condition}
pub use Rattle.ubi_compare.specs.declared.difference.Difference.{Difference}
pub use Rattle.ubi_compare.specs.declared.difference.Side.{Side}
pub use Rattle.ubi_compare.specs.declared.errors.CompareFault.{CompareFault}
pub use Rattle.ubi_compare.specs.declared.found.Found.{Found}
pub use Rattle.ubi_compare.specs.declared.pieces.LebsOfBoth.{LebsOfBoth}
pub use Rattle.ubi_compare.specs.declared.pieces.Pieces.{Pieces}
pub use Rattle.ubi_compare.specs.declared.ranges.Ranges.{Ranges}
pub use Rattle.ubi_compare.specs.declared.sides.OneSide.{OneSide}
pub use Rattle.ubi_compare.specs.declared.texts.Texts.{Texts}
pub use Rattle.ubi_compare.specs.inner.Found.{Adds, Tells}
pub use Rattle.ubi_compare.specs.inner.Ranges.{AddsLeb, HaveFound, HaveTold, ranges_told, told_with}
pub use Rattle.ubi_compare.specs.inner.Sides.{IsSideOf, IsSidesError, OfMeanings, OfVolumes, case_condition, case_lengths, first_differences}
pub use Rattle.ubi_compare.specs.inner.Texts.{ArePieces, AreReadTexts, AreToldApart, AreWholeTexts, IsText}
