-- The names that the proofs of this crate speak of, and where they come from.
pub use Rattle.std.proofs.Common.{Bool, IfSome, List, [], ap, append_assoc, arith, bit_and, bit_xor, codes, cond, drop, eq-eqb, eqb-true, false, get_or, inl, inr, length, length-append, length-take, lit<, map, min, nat_lt, not, position, refl, replicate, rules, set, slice_index, slice_range, subst, suc, sym, take, true, zero, zero-add, ℕ, ◌%◌, ◌&&◌, ◌*◌, ◌++◌, ◌+◌, ◌-◌, ◌/◌, ◌<◌, ◌==◌, ◌^◌, ◌∙◌, ◌∷◌, ◌≡◌, ◌≢◌, ◌≤◌, ◌⊎◌}
pub use Rattle.std.proofs.Math.ListN.{drop_of_length-le}
pub use Rattle.std.proofs.Math.Nat.{add-zero, add_comm, div-add-mod, div-eq_of_lt, div-lt_iff_lt-mul, mod-eq_of_lt, mod-lt, mul-le-mul_right, pow-suc}
pub use Rattle.std.proofs.Math.Pow.{pow_mono}
pub use Rattle.std.proofs.Math.Seq.{drop-cons}
pub use Rattle.std.proofs.lemmas.Bool.{and_parts, cases_lt, false≢true, or_cases}
pub use Rattle.std.proofs.lemmas.Bool.Decides.{nat_tests}
pub use Rattle.std.proofs.lemmas.Grind.{flat_map-append}
pub use Rattle.std.proofs.lemmas.List.{append-nil, drop-drop, drop-replicate, drop_all, drop_at, get_or-append_right, get_or-drop, get_or-take, get_or_append_left, get_or_at, get_or_default, get_or_past, length-drop, length-replicate, length-take-le, take-append-drop, take_all, take_at, take_more}
pub use Rattle.std.proofs.lemmas.List.Concat.{concat_is}
pub use Rattle.std.proofs.lemmas.List.Folds.{concat-append, list_any_at, list_any_none}
pub use Rattle.std.proofs.lemmas.List.FromFn.{get_or-range_with_len}
pub use Rattle.std.proofs.lemmas.List.Quantifiers.{position-Some}
pub use Rattle.std.proofs.lemmas.List.Sums.{AllPass-from_list_all, list_all-from_AllPass, position_or_len_is}
pub use Rattle.std.proofs.lemmas.Nat.{and_mask, from_le_bytes-to_le_bytes_8, mod-pow-add, mod_below, mul-le, pow-add, pow_pos, shl_below, shr_below, shr_high, shr_split, xor_block, xor_comm, xor_lt, xor_mod, xor_shr}
pub use Rattle.std.proofs.lemmas.Nat.Bits.{bit_at-lt, bit_at-suc, bit_at_above, bit_at_lowest, bit_at_xor}
pub use Rattle.std.proofs.lemmas.Nat.Gcd.{dvd_of_mod-eq-zero, dvd_trans, mod-eq-zero_of_dvd}
pub use Rattle.std.proofs.lemmas.Option.{none-some}
pub use Rattle.std.specs.Cmp.Lexicographic.{other_text, pointwise, same_text}
unfoldable pub use Rattle.std.specs.Fmt.{digits}
pub use Rattle.std.specs.Int.{bit_at, byte_at, bytes_low_first, from_le_bytes, to_le_bytes, w32, w64, ◌∣◌}
pub use Rattle.std.specs.List.{AllByRecursion, CopiedTo, SameBelow, concat, flat_map, list_all, list_any, position_or_len, range_with_len}
pub use Rattle.std.specs.Option.{ForSome, option_copied, option_map_or}
pub use Rattle.std.specs.Prelude.{All, None, Option, Some, find, if◌then◌else◌, nat_eq, ⊤, ◌↔◌}
pub use Rattle.std.specs.Simd.{first_chunks}
pub use Rattle.byteorder.specs.Endian.{big_bytes, big_number}
pub use Rattle.byteorder.specs.Numbers.{big_from-lt, big_number-reads_back}
pub use Rattle.ubi_media.specs.Check.{add_to_front, bits, crc_of, dividend, generator, polynomial}
unfoldable pub use Rattle.ubi_media.specs.Check.{check_from, remainder}
pub use Rattle.ubi_media.specs.Ec.{EcIs, ec_bytes, ec_front, ec_magic, reading_by}
unfoldable pub use Rattle.ubi_media.specs.Ec.{ec_fields, ec_reading, ec_start}
pub use Rattle.ubi_media.specs.ErrorTexts.{geometry_error_text, refusal_text}
pub use Rattle.ubi_media.specs.Fields.{AreBytes, blank, field, is_blank, is_sealed, padded, same_bytes, sealed}
unfoldable pub use Rattle.ubi_media.specs.Fields.{form_of, overwrite}
pub use Rattle.ubi_media.specs.First.{IsFirst}
pub use Rattle.ubi_media.specs.Geometry.{IsGeometry, Sizes, leb_size, page_sizes, slots}
pub use Rattle.ubi_media.specs.Header.{FormIs, IsBlank, IsSealed}
pub use Rattle.ubi_media.specs.Limits.{keeps}
unfoldable pub use Rattle.ubi_media.specs.Limits.{first_broken}
pub use Rattle.ubi_media.specs.Name.{is_name}
pub use Rattle.ubi_media.specs.OtherPage.{with_page}
pub use Rattle.ubi_media.specs.Record.{RecIs, data_pad, ends_at, faults, rec_fault, rec_front, record_size, slot_reading, usable}
unfoldable pub use Rattle.ubi_media.specs.Record.{breaks, empty_record, fields_from, first_fault, judged, rec_bytes, rec_fields, rec_reading, record_of}
pub use Rattle.ubi_media.specs.Remainder.{IsRemainder, product}
pub use Rattle.ubi_media.specs.Vid.{VidIs, kind_number, kind_of, says_static, vid_bytes, vid_fault, vid_front, vid_magic, vid_usable}
unfoldable pub use Rattle.ubi_media.specs.Vid.{header_of, vid_fields, vid_reading}
pub use Rattle.ubi_media.specs.Widths.{EcFits, IsNumberFault, RecFits, VidFits}
pub use Rattle.ubi_media.specs.declared.ec.EcFault.{EcFault}
pub use Rattle.ubi_media.specs.declared.ec.EcFault.TheVariants.{Counter, Offsets, Version}
pub use Rattle.ubi_media.specs.declared.ec.EcFields.{EcFields}
pub use Rattle.ubi_media.specs.declared.ec.EcHeader.{EcHeader}
pub use Rattle.ubi_media.specs.declared.ec.EcRead.{EcRead}
pub use Rattle.ubi_media.specs.declared.ec.EcRead.TheVariants.{Blank, Corrupt, Fault}
pub use Rattle.ubi_media.specs.declared.header.Form.{Form}
pub use Rattle.ubi_media.specs.declared.header.Form.TheVariants.{Sealed}
pub use Rattle.ubi_media.specs.declared.record.RecFault.{RecFault}
pub use Rattle.ubi_media.specs.declared.record.RecFields.{RecFields}
pub use Rattle.ubi_media.specs.declared.record.RecRead.{RecRead}
pub use Rattle.ubi_media.specs.declared.record.RecRead.TheVariants.{BadCrc, Empty}
pub use Rattle.ubi_media.specs.declared.record.VolumeRecord.{VolumeRecord}
pub use Rattle.ubi_media.specs.declared.tables.TheConstants.{TABLES}
pub use Rattle.ubi_media.specs.declared.vid.VidFault.{VidFault}
pub use Rattle.ubi_media.specs.declared.vid.VidFields.{VidFields}
pub use Rattle.ubi_media.specs.declared.vid.VidHeader.{VidHeader}
pub use Rattle.ubi_media.specs.declared.vid.VidRead.{VidRead}
pub use Rattle.ubi_media.specs.declared.vid.VidRead.TheVariants.{Valid}
pub use Rattle.ubi_media.specs.declared.vid.VolKind.{VolKind}
pub use Rattle.ubi_media.specs.declared.vid.VolKind.TheVariants.{Dynamic, Static}
pub use Rattle.ubi_media.specs.inner.Division.{Carries, IsPieceRemainder, IsQuotient, left_of, powers, sum_behind, word_at}
unfoldable pub use Rattle.ubi_media.specs.inner.Division.{bytes_of}
