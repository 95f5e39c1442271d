-- The names that the proofs of this crate speak of, and where they come from.
pub use Rattle.std.proofs.Common.{Bool, List, T, [], ap, arith, cond, drop, false, get_or, inl, inr, length, length-drop, length-take-le, map, not, refl, slice_range, subst, suc, sym, take, true, zero, zero-add, ℕ, ◌&&◌, ◌*◌, ◌++◌, ◌+◌, ◌-◌, ◌/◌, ◌<◌, ◌==◌, ◌^◌, ◌∙◌, ◌∷◌, ◌≡◌, ◌≤◌, ◌⊎◌}
pub use Rattle.std.proofs.Math.Seq.{drop-append_seam, take-append_seam}
pub use Rattle.std.proofs.lemmas.Bool.Decides.{nat_tests}
pub use Rattle.std.proofs.lemmas.Cmp.{ranked}
pub use Rattle.std.proofs.lemmas.Grind.{div_ceil_times, flat_map-append}
pub use Rattle.std.proofs.lemmas.List.{drop-drop, drop-take, get_or-map, length-map, length-take, map-append, take-replicate, take-take, take_all, take_at}
pub use Rattle.std.proofs.lemmas.List.Folds.{list_all-append}
pub use Rattle.std.proofs.lemmas.Map.Lookups.{exact_unsigned}
pub use Rattle.std.proofs.lemmas.Nat.{mul-le}
pub use Rattle.std.proofs.lemmas.Option.{get_or_from_slice_get, same_Some, slice_get-get_or, slice_get-map, slice_get_within}
pub use Rattle.std.proofs.lemmas.Result.{on_ok_weaker}
pub use Rattle.std.specs.Cmp.{nat_cmp_total}
pub use Rattle.std.specs.FinMap.{FinMap, find, is_sorted, nat_cmp-IsAntisymmetric}
pub use Rattle.std.specs.FinMap.Entries.{below_all}
pub use Rattle.std.specs.Int.{div_ceil}
pub use Rattle.std.specs.List.{AllByRecursion, range_with_len}
pub use Rattle.std.specs.Option.{option_map_or}
pub use Rattle.std.specs.Ordering.{is_lt, nat_cmp}
pub use Rattle.std.specs.Prelude.{IfSome, None, Option, Some, flat_map, min, option_map, slice_get, unwrap_or}
pub use Rattle.std.specs.declared.cmp.Ordering.{Ordering}
pub use Rattle.std.specs.declared.cmp.Ordering.TheVariants.{Equal, Greater, Less}
pub use Rattle.ubi_media.proofs.Cases.{within_or_past}
pub use Rattle.ubi_media.proofs.Checks.{check_from-lt}
pub use Rattle.ubi_media.proofs.Padding.{half_pad, reserved_within}
pub use Rattle.ubi_media.proofs.Records.{usable_some}
pub use Rattle.ubi_media.specs.Check.{crc_of}
unfoldable pub use Rattle.ubi_media.specs.Check.{check_from, remainder}
pub use Rattle.ubi_media.specs.Fields.{blank, is_blank}
unfoldable pub use Rattle.ubi_media.specs.Fields.{filled}
pub use Rattle.ubi_media.specs.Geometry.{IsGeometry, Sizes, leb_size}
pub use Rattle.ubi_media.specs.Record.{data_pad, rec_fault, usable}
pub use Rattle.ubi_media.specs.Vid.{plain, vid_fault}
unfoldable pub use Rattle.ubi_media.specs.Vid.{breaks, fields_from, first_fault, vid_reading}
pub use Rattle.ubi_media.specs.Widths.{VidFits}
pub use Rattle.ubi_media.specs.declared.record.VolumeRecord.{VolumeRecord}
pub use Rattle.ubi_media.specs.declared.vid.VidHeader.{VidHeader}
pub use Rattle.ubi_media.specs.declared.vid.VolKind.{VolKind}
pub use Rattle.ubi_scan.proofs.Chunks.{get_or-first_chunks}
pub use Rattle.ubi_scan.proofs.Entries.{first_entry}
pub use Rattle.ubi_scan.proofs.FilledWithBlanks.{filled-is, length-filled}
pub use Rattle.ubi_scan.proofs.Finite.{find_at, place_of}
pub use Rattle.ubi_scan.proofs.Keys.{told}
pub use Rattle.ubi_scan.proofs.Revalued.{entries_revalued}
pub use Rattle.ubi_scan.proofs.TrueTests.{both_left, both_right}
pub use Rattle.ubi_scan.specs.Faults.{IsMislaid, NoFault}
pub use Rattle.ubi_scan.specs.Image.{block, image_of, leb, vid_area}
pub use Rattle.ubi_scan.specs.Members.{Leb, NoMember, has_members, leb_of}
pub use Rattle.ubi_scan.specs.Source.{blocks_of}
pub use Rattle.ubi_table.specs.Records.{Records}
pub use Rattle.ubi_volume.proofs.Gathered.{record_at}
pub use Rattle.ubi_volume.proofs.Pieces.{length-share, piece_begins, pieces_few, pieces_suffice, share_full, share_more, share_most, share_none, share_some, shares_all}
pub use Rattle.ubi_volume.proofs.Static.{damaged_piece, piece_checked, piece_unchecked, read_more, read_none, static_reads}
pub use Rattle.ubi_volume.proofs.WithoutBlank.{get_without_blank, is_kept}
pub use Rattle.ubi_volume.specs.Extract.{share_len}
pub use Rattle.ubi_volume.specs.Made.{lebs_without_blank, without_blank}
pub use Rattle.ubi_volume.specs.Means.{LebReads, VolumeReads}
pub use Rattle.ubi_volume.specs.Meant.{Fits, IsVolume, Meant, VolumeMap, pieces, records_of, share}
pub use Rattle.ubi_volume.specs.Places.{ArePlaces, Placed}
pub use Rattle.ubi_volume.specs.Texts.{AreRead, PieceIs, UsedIs}
pub use Rattle.ubi_volume.specs.declared.content.Content.{Content}
pub use Rattle.ubi_volume.specs.declared.content.Volume.{Volume}
pub use Rattle.ubi_laid.specs.Laid.{AreApart, CanBeLaid, Differ, Laid, damaged_block, dynamic_block, laid_blocks, piece_header, static_blocks, static_part, volume_blocks}
pub use Rattle.ubi_laid.specs.LaidIn.{AreLaidIn, IsLaidAt}
pub use Rattle.ubi_laid.specs.Laws.{AllApart, EachCanBeLaid, EachIsVolume, LaidRead}
pub use Rattle.ubi_laid.specs.Parts.{content_of, lebs_of, pieces_of, text_of}
pub use Rattle.ubi_laid.specs.Pieces.{IsInBuffer, kept_piece, kept_pieces, laid_piece, piece_of_kind, piece_text}
pub use Rattle.ubi_laid.specs.declared.part.Part.{Part}
pub use Rattle.ubi_laid.specs.declared.pieces.Origin.{Origin}
