-- The names that the proofs of this crate speak of, and where they come from.
pub use Rattle.std.proofs.Common.{Bool, List, [], ap, append-nil, append_assoc, arith, codes, cond, false, map, not, refl, rules, string_bytes, subst, suc, sym, take, true, zero, ℕ, ◌++◌, ◌+◌, ◌==◌, ◌∙◌, ◌∷◌, ◌≡◌}
pub use Rattle.std.proofs.lemmas.Grind.{common_steps}
pub use Rattle.std.proofs.lemmas.List.{drop_min, map-append, take_min}
pub use Rattle.std.proofs.lemmas.List.Folds.{list_all-append}
pub use Rattle.std.proofs.lemmas.List.FromFn.{map-range_with_len_more}
pub use Rattle.std.proofs.lemmas.Result.{IfOk-weaker}
pub use Rattle.std.specs.List.{flat_map, list_all, range_with_len}
pub use Rattle.serde_json.specs.Data.{Data, string}
pub use Rattle.serde_json.specs.View.{items_of, view}
pub use Rattle.serde_json.specs.Written.{compact_text, has_float, items_have_float}
pub use Rattle.ubi_json.proofs.ListedWhole.{listed_whole}
pub use Rattle.ubi_json.specs.Told.{refusal_data}
pub use Rattle.ubi_json.specs.declared.list.ListedVolume.{ListedVolume}
pub use Rattle.ubi_media.specs.Geometry.{Sizes}
pub use Rattle.ubi_media.specs.declared.refusal.Refusal.{Refusal}
pub use Rattle.ubi_scan.proofs.FailedReads.{names_part}
pub use Rattle.ubi_scan.specs.Image.{block, ec, vid}
pub use Rattle.ubi_scan.specs.Source.{Narrows, WhereHeld, blocks_of}
pub use Rattle.ubi_volume.specs.Survey.{Seen}
pub use Rattle.ubi_map.specs.Headers.{block_lines}
pub use Rattle.ubi_map.specs.Letters.{header_letter, header_letters, row, state_letter}
pub use Rattle.ubi_map.specs.Map.{block_texts, refused_page_data, surveyed_data}
pub use Rattle.ubi_map.specs.Page.{page_of, script_byte}
