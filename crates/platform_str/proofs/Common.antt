-- The names that most proofs cite, re-exported from one file. Declares nothing.
pub use Rattle.platform_str.specs.{Bulk.begins_pair, Bulk.pairs, Display.fill_before, Laws.IsFirstUnit, Laws.IsReplaced, Laws.PlatformLaws, Lossy.IsFirstText, Lossy.IsLeft, Lossy.IsLeftToRead, Lossy.IsReplacedUpTo}
pub use Rattle.platform_str.specs.platforms.Wasm.{never_uncovered}
pub use Rattle.std.proofs.Common.{Bool, Err, List, Ok, Result, Some, [], ap, append_assoc, arith, cond, drop, eqb, leb, length, length-append, length-drop, map, refl, rules, slice_index, subst, suc, sym, take, true, vec_capacity, vec_len, w16, w8, zero, ℕ, ◌%◌, ◌*◌, ◌/◌, ◌++◌, ◌+◌, ◌-◌, ◌<◌, ◌^◌, ◌∙◌, ◌∷◌, ◌≡◌, ◌≤◌}
pub use Rattle.std.proofs.{Math.ListN.length-set, Math.ListN.set, Math.Seq.take-add, Math.Seq.take-append-add}
pub use Rattle.std.proofs.lemmas.{Bool.cond_both, Bool.false≢true, Bool.Decides.nat_tests, Grind.common_steps}
pub use Rattle.std.proofs.lemmas.List.{append-nil, drop-drop, drop_at, get_or-take, length-map, length-take, length-take-le, take-append-drop, take-take, take_all, take_at, with_items_is}
pub use Rattle.std.proofs.lemmas.{List.Elements.All-from_get_or, List.Elements.recursion_from_All, List.Sums.count_by-le-length, List.Sums.sum_by-cons, Str.IsUtf8-append, Str.IsUtf8-string_bytes}
unfoldable pub use Rattle.std.specs.Char.{encode_utf8}
pub use Rattle.std.specs.{Fmt.HasWrittenStyled, Fmt.IsFlush, Fmt.formatter_spec, Fmt.spec_align, Fmt.spec_fill, Fmt.spec_width, List.All, List.AllByRecursion, List.count_by, List.flat_map, Result.OnErr, Result.OnOk}
pub use Rattle.std.specs.Str.{IsUtf8, IsValidUpTo}
pub use Rattle.wtf8_core.proofs.lemmas.{characters.AtIndices.none_at, characters.AtIndices.none_begins, characters.AtIndices.text_of_character, forms.Shapes.form_ascii, forms.Shapes.form_two, forms.Shapes.form_three, forms.Shapes.form_past}
pub use Rattle.wtf8_core.proofs.lemmas.{reader.FirstErr.ok_values_of_oks, reader.FirstErr.units_whole, texts.AreWtf8.lossy_is_utf8, texts.AreWtf8.lossy_text, texts.AreWtf8.part_at_start}
pub use Rattle.wtf8_core.proofs.lemmas.units.AsFunction.{code_points_in-encoded, has_units_of, units_of-is}
pub use Rattle.wtf8_core.proofs.lemmas.{units.OneToOne.IsUnit, units.OneToOne.encoded_units, units.OneToOne.units_once, units.OneToOne.wide_single, units.PrefixTests.end_tested, units.PrefixTests.prefix_tested}
pub use Rattle.wtf8_core.specs.CodePoint.{IsCodePoint}
unfoldable pub use Rattle.wtf8_core.specs.CodePoint.{encode, encode_utf16}
pub use Rattle.wtf8_core.specs.{Covered.StartsWithNoCharacter, Items.AreItems, Items.AreUnitItems, Items.unit_items, Join.IsJoin, Join.IsPairBetween, Lossy.IsLossyText, Lossy.replacement}
pub use Rattle.wtf8_core.specs.{Surrogate.IsHigh, Surrogate.IsLow, Surrogate.is_pair, Surrogate.paired, Truncated.IsTruncated, UnitsOf.ok_values, UnitsOf.units_of, Wtf8.HasUnits, Wtf8.IsWtf8, Wtf8.units}
pub use Rattle.wtf8_core.specs.declared.fault.EncodingError.{EncodingError}
pub use lib.Lanes.{chunk, mask_l, put_chunk, top, zip2}
