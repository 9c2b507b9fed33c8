-- The names that most proofs cite, re-exported from one file. Declares nothing.
pub use Rattle.std.proofs.Common.{◌≡◌, ℕ, zero, suc, ◌-◌, ◌<◌, ◌/◌, ◌%◌, [], ◌∷◌, ◌++◌, true, refl, sym, ap, ◌∙◌, arith, rules, sub-one, codes, ◌+◌, List, take, subst, MatchResult, length, append_assoc, map, Result, Err, append-nil, ⊎_elim, Bool, false, drop, Ok, Fits, w8, get_or, length-append, length-drop, take-append-drop, ◌≤◌, Some, inl, inr, get_or-drop, ◌≢◌, ◌⊎◌, ◌*◌, ltb, leb, eqb, ◌&&◌, ◌||◌, not, eqb-true, Bor, None, eq-eqb, MatchOption, Option, get_or-take, ◌^◌, cond, bit_or, replicate, ◌↔◌, true≢false, length-take, drop-drop, w16, min, max, bit_and, bit_xor, take-take, take-add, leb-false, set}
pub use Rattle.std.proofs.{Math.Seq.drop-append_seam, Math.Seq.take-append_seam, Math.Seq.take-length, Math.Seq.drop-append-add, Math.Seq.take-append-add, Math.Utf8.scalar, Math.Utf8.low_scalar, Math.Utf8.scalar_cases, Math.Utf8.scalars}
pub use Rattle.std.proofs.lemmas.Bool.{cond-true, cond-false, and_parts, cases_lt, cases_eq, cases_Bool, or_cases, leb-true, not-true, cond_both, lt-ltb, le-ltb, not-false, false≢true, cases_order, and_from, eqb-false}
pub use Rattle.std.proofs.lemmas.{Bool.Decides.nat_tests, Bool.Decides.Decides-eqb, Grind.common_steps, Grind.flat_map-append}
pub use Rattle.std.proofs.lemmas.List.{get_or_append_left, append_cancel_left, append_cancel_right, length-take-le, map-append, length-map, length-replicate, get_or-map, drop_all, take_at, drop_at, nil_from_length, take_all, get_or-append_right, get_or_past, drop-take, take_rest}
pub use Rattle.std.proofs.lemmas.List.Elements.{recursion_from_All, All-drop, All-from_get_or, All-from_recursion, All-append, All-nil, All-get_or}
pub use Rattle.std.proofs.lemmas.Str.{encode_ascii, encodes_same, encode_same, cons_from_encodes, IsCharBoundary-from_drop, IsCharBoundary-from_take, IsUtf8-drop, IsUtf8-nil, IsUtf8-encode, IsUtf8-append, IsUtf8-from_is_utf8, is_utf8-from_IsUtf8, utf8_lossy-IsUtf8, utf8_lossy_step, utf8_valid_len-IsValidUpTo}
pub use Rattle.std.specs.Bool.{if◌then◌else◌, IsTrue}
pub use Rattle.std.specs.Char.{IsScalar}
unfoldable pub use Rattle.std.specs.Char.{encode_utf8}
pub use Rattle.std.specs.{Cmp.Lexicographic.pointwise, Cmp.Lexicographic.slice_cmp, Cmp.Lexicographic.nat_list_cmp_total, Fmt.decimal, Int.is_in_range, Int.IsInRange, Int.bit_at}
pub use Rattle.std.specs.{List.AllByRecursion, List.AllByRecursion-prop, List.All, List.flat_map, List.fold, List.range_with_len, List.repeat, Option.unwrap_or}
pub use Rattle.std.specs.Str.{IsUtf8, all_scalars, encode_utf8_all, IsCharBoundary, IsValidUpTo, is_utf8}
pub use Rattle.std.specs.Str.Lossy.{second_byte_min, second_byte_max, utf8_lossy, utf8_invalid_len, valid_len_up_to}
unfoldable pub use Rattle.std.specs.Str.Lossy.{utf8_error_len, utf8_valid_len}
pub use mathlib.Core.Bool.{Bool-set, beq}
pub use Rattle.wtf8_core.specs.{Boundary.IsBoundary, Byte.IsByte, Byte.IsContinuation, Byte.is_continuation, Byte.needed_continuations, Byte.lead_bits, Character.WholeCharacter, Character.IsCharacterAt, Character.IsFirstChar}
pub use Rattle.wtf8_core.specs.Checker.{IsInState, IsFaulty, Gives, Row, needed, rows, SomeRow, IsOpen, kept_bits, joined_bits, fault_at, is_between, OnlyEnds, HasFirstFault, Progress, progress, Describes}
pub use Rattle.wtf8_core.specs.{Chunks.Chunk, Chunks.joined, Chunks.AreChunks, CodePoint.IsCodePoint}
unfoldable pub use Rattle.wtf8_core.specs.CodePoint.{encode, encode_utf16}
pub use Rattle.wtf8_core.specs.{Covered.IsCovered, Covered.CrossesNoCharacter, Covered.StartsWithNoCharacter, Covered.HasNoCharacter, Decoder.decoder_bytes}
unfoldable pub use Rattle.wtf8_core.specs.Decoder.{code_points_of}
pub use Rattle.wtf8_core.specs.Fault.{IsFirstFault, BeginsFault, IsFaultAt, IsWholeSequence, sequence_value, IsIncomplete, IsBadSequence, IsRefused, IsSequenceStart}
pub use Rattle.wtf8_core.specs.FaultText.{upper_hex_digit, not_representable, fault_text}
unfoldable pub use Rattle.wtf8_core.specs.FaultText.{upper_hex}
pub use Rattle.wtf8_core.specs.{Items.AreItems, Items.AreUnitItems, Items.unit_items, Lossy.replacement, Lossy.IsWtf8LossyText, Lossy.without_surrogate, Lossy.IsLossyText}
pub use Rattle.wtf8_core.specs.Neighbours.{EachMayFollow, Steps, IsBetweenCodePoints, MayFollowAll, MayFollow}
pub use Rattle.wtf8_core.specs.Reader.{is_high_item, IsFirstItem, least_value, items_after, then_items, first_split, items_from}
unfoldable pub use Rattle.wtf8_core.specs.Reader.{first_item, after_item, items_skipping, with_continuations, checked_value, and_then_checked, continuations, split_within}
pub use Rattle.wtf8_core.specs.EncodedPrefix.{IsEncodedPrefix, IsReadUpTo, with_zeros_before, KeepsPattern}
pub use Rattle.wtf8_core.specs.Occurrence.{OccursAt, IsPrefix, IsSuffix, OccursNowhere, IsFirstIndex, IsLastIndex, Finds}
pub use Rattle.wtf8_core.specs.OccurrenceLaws.{OccurrenceLaws, IsCutAround}
pub use Rattle.wtf8_core.specs.{Surrogate.is_high, Surrogate.IsSurrogate, Surrogate.is_surrogate, Surrogate.IsHigh, Surrogate.IsLow, Surrogate.high_unit, Surrogate.low_unit, Surrogate.paired, Surrogate.is_pair, Table.state_index}
unfoldable pub use Rattle.wtf8_core.specs.Table.{class_at, next_at}
pub use Rattle.wtf8_core.specs.{UnitIndex.IsByteIndex, UnitIndex.IsUnitIndexOf, UnitIndex.FindsInUnits, UnitsOf.units_of, UnitsOf.ok_values, UnitsOf.wtf8_lossy}
unfoldable pub use Rattle.wtf8_core.specs.UnitsOf.{code_points_in}
pub use Rattle.wtf8_core.specs.Utf8.{IsUtf8Fault, IsPrefixOfCharacter, IsProperPrefix, IsIllFormed, part_end, IsIllFormedPart, BeginsWith}
pub use Rattle.wtf8_core.specs.{Wtf8.HasNoSurrogatePair, Wtf8.MayPrecede, Wtf8.Encodes, Wtf8.IsWtf8, Wtf8.last_or, Wtf8.units, Wtf8.HasUnits, declared.fault.EncodingError.EncodingError}
pub use Rattle.wtf8_core.specs.declared.fault.EncodingError.TheVariants.{Utf8, Byte, CodePoint, End}
pub use Rattle.wtf8_core.specs.{declared.table.Class.Class, declared.table.State.State}
pub use Rattle.wtf8_core.specs.declared.table.State.TheVariants.{Between, AfterHigh, BadFourth, Refused, BadThird}
