-- The names that the proofs of this crate speak of, and where they come from.
pub use Rattle.std.proofs.Common.{Bool, List, [], ap, append-nil, append_assoc, arith, codes, cond, false, inl, inr, map, nat_lt, refl, subst, suc, sym, take, true, zero, ℕ, ◌%◌, ◌&&◌, ◌++◌, ◌+◌, ◌/◌, ◌<◌, ◌==◌, ◌^◌, ◌∙◌, ◌∷◌, ◌≡◌, ◌≤◌, ◌⊎◌}
pub use Rattle.std.proofs.lemmas.Bool.{cases_lt, le-leb}
pub use Rattle.std.proofs.lemmas.List.Folds.{list_all-append}
pub use Rattle.std.proofs.lemmas.Result.{IfOk-weaker}
pub use Rattle.std.specs.Fmt.{digit_glyph, digits_onto}
unfoldable pub use Rattle.std.specs.Fmt.{digits}
pub use Rattle.std.specs.List.{list_all}
pub use Rattle.std.specs.Prelude.{count_by, decimal, nat_le, negsuc, pos}
pub use Rattle.json.proofs.Printed.Strings.{escape_byte_plain}
pub use Rattle.json.specs.Print.{escape, quoted}
unfoldable pub use Rattle.json.specs.Print.{escape_byte}
pub use Rattle.serde_json.specs.Data.{Data, Items, Members, Num, array, boolean, depth, float, item, items_depth, member, members_depth, negative, no_items, no_members, null, number, object, string, unsigned}
pub use Rattle.serde_json.specs.View.{items_of, members_view, view}
pub use Rattle.serde_json.specs.Written.{comma_if, compact_text, has_float, items_have_float, items_text, members_have_float, members_text, number_text}
pub use Rattle.ubi_compare.specs.ErrorTexts.{compare_error_text}
pub use Rattle.ubi_compare.specs.declared.difference.Difference.{Difference}
pub use Rattle.ubi_compare.specs.declared.difference.Side.{Side}
pub use Rattle.ubi_detect.specs.ErrorTexts.{undetected_text}
pub use Rattle.ubi_detect.specs.declared.detect.Detected.{Detected}
pub use Rattle.ubi_detect.specs.declared.detect.Undetected.{Undetected}
pub use Rattle.ubi_detect.specs.declared.images.Span.{Span}
pub use Rattle.ubi_files.specs.declared.view.FilePart.{FilePart}
pub use Rattle.ubi_media.specs.ErrorTexts.{refusal_text}
pub use Rattle.ubi_media.specs.Geometry.{Sizes}
pub use Rattle.ubi_media.specs.declared.record.VolumeRecord.{VolumeRecord}
pub use Rattle.ubi_media.specs.declared.refusal.Refusal.{Refusal}
pub use Rattle.ubi_volume.specs.declared.block.Amount.{Amount}
pub use Rattle.ubi_json.specs.Check.{states_data}
pub use Rattle.ubi_json.specs.Differences.{difference_data, differences_data}
pub use Rattle.ubi_json.specs.Geometry.{detected_data, geometries_data, place_data, span_data}
pub use Rattle.ubi_json.specs.Laws.{refused_at}
pub use Rattle.ubi_json.specs.List.{listed_data, record_members, volume_data, with_amount}
pub use Rattle.ubi_json.specs.Told.{refusal_told, told_text, undetected_told, with_numbers}
pub use Rattle.ubi_json.specs.Words.{same_state, side_word}
pub use Rattle.ubi_json.specs.declared.list.ListedVolume.{ListedVolume}
