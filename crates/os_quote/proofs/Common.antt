-- The names that most proofs cite, re-exported from one file. Declares nothing.
pub use Rattle.memchr.specs.Find.{NoneBefore, Passes, is_byte}
pub use Rattle.os_quote.specs.{Parts.text_escape, Parts.token_of, Escape.BeginsNoToken, Escape.IsBadEscapeBy, Escape.IsEscape, Escape.IsEscapeBy, Escape.IsLineEscape, Escape.chunk_items, Escape.items_of, Escape.items_in}
pub use Rattle.os_quote.specs.Ending.{before_ending, ending, ends_in_space, has_ending, space}
pub use Rattle.os_quote.specs.Escaped.{escape_of, escape_in, escaped_text}
pub use Rattle.os_quote.specs.Item.{Backslash, ByteUnit, Character, HasLongTokens, IsItem, IsLong, Item, LongCharacter, WideUnit, backslash, byte_digits, character_item, hidden_item, high_digits, item_text, item_texts, long_digits, unit_item, wide_digits}
pub use Rattle.os_quote.specs.Plain.{IsCutAfterPlain, IsPlain, IsPlainUpTo}
pub use Rattle.os_quote.specs.Reading.{HasNoBackslash, HasNoClosed, HasNoFive, HasNoLong, HasNoNumber, HasNoWide, AreBytesRead, IsClosed, IsCutAtFirst, IsFive, IsRead, item_bytes, token_item}
pub use Rattle.os_quote.specs.{Shown.is_any, Shown.shown_by, Shown.stays_on_line, HiddenCharacters.hidden_ranges, HiddenCharacters.is_in_ranges}
pub use Rattle.os_quote.specs.Hidden.{AllClear, AreUnchanged, IsCutAtToken, IsNextSuspect, IsUnchanged, byte_bits, is_suspect, kind_bits, kind_bits_of_two, second_bits, suspect_bits, third_bits}
pub use Rattle.os_quote.specs.declared.find_tables.TheConstants.{FIRST_HIGH, FIRST_LOW, SECOND_HIGH, SECOND_LOW, THIRD_HIGH, THIRD_LOW, OTHER_HIGH, OTHER_LOW}
pub use Rattle.os_str_ext.proofs.lemmas.EachChunk.{are_chunks_of}
pub use Rattle.os_str_ext.specs.{Chunks.IsChunkOf, Chunks.chunks_of, Parts.part_bytes, Parts.unit_number}
pub use Rattle.platform_str.specs.{BufferSink.Pushes, Laws.PartLaws, Strings.bytes}
pub use Rattle.std.proofs.Common.{Bool, IsTrue, List, [], ap, append-nil, append_assoc, arith, bit_and, bit_xor, codes, cond, drop, eqb, eqb-true, false, get_or, get_or-drop, inl, inr, length, length-append, length-drop, ltb, map, not, refl, replicate, rules, subst, suc, sym, take, take-append-drop, true, w8, zero, ℕ, ⊎_elim, ◌%◌, ◌&&◌, ◌*◌, ◌++◌, ◌+◌, ◌-◌, ◌/◌, ◌<◌, ◌^◌, ◌||◌, ◌∙◌, ◌∷◌, ◌≡◌, ◌≢◌, ◌≤◌, ◌⊎◌}
pub use Rattle.std.proofs.{Math.Nat.sub-zero, Math.Utf8.scalar, Math.Utf8.scalar_cases}
pub use Rattle.std.proofs.lemmas.{Bool.and_parts, Bool.cases_Bool, Bool.cases_eq, Bool.cases_lt, Bool.le-ltb, Bool.lt-ltb, Bool.ltb-false, Bool.ne_eqb, Bool.not-false, Bool.true≢false, Bool.Decides.nat_tests, Grind.common_steps}
pub use Rattle.std.proofs.lemmas.{Grind.flat_map-append, List.append_cancel_right, List.drop_at, List.drop_more, List.length-map, List.length-take-le, List.map-append, List.nil_from_length, List.take_all, List.take_at}
pub use Rattle.std.proofs.lemmas.List.Elements.{All-from_recursion, recursion_from_All}
pub use Rattle.std.proofs.lemmas.Str.{IsCharBoundary-before_ascii, IsCharBoundary-at_seam, IsCharBoundary-end, IsCharBoundary-from_take, IsUtf8-append, IsUtf8-between, IsUtf8-drop, IsUtf8-encode, IsUtf8-from_ascii, IsUtf8-nil, IsUtf8-past_char, IsUtf8-take, chars-IsAscii, chars-append, chars-nil, chars_past_char, encode_ascii, encode_same, encodes-chars, len_utf8_bounds, length-encode, scalars-chars}
pub use Rattle.std.specs.{Char.IsScalar, Char.OutOfScalarRange, Char.encode_utf8, Fmt.HasWrittenStyled, Fmt.IsFlush, Int.IsInRange, Int.is_in_range, Int.Bits.and_zero_l, Int.Bits.xor_self}
pub use Rattle.std.specs.{List.All, List.AllByRecursion, List.flat_map, List.slice_index, Str.IsAscii, Str.IsCharBoundary, Str.IsUtf8, Str.all_scalars, Str.chars, Str.encode_utf8_all, declared.fmt.Formatter.Formatter}
pub use Rattle.wtf8_core.proofs.lemmas.characters.Seams.{Covered, covered_after, covered_within, over_none, seam_at_start, text_covered}
pub use Rattle.wtf8_core.proofs.lemmas.chunks.OneList.{AreChunksFrom, are_chunks, chunks_from_start, chunks_once, one_more_chunk, some_chunks}
pub use Rattle.wtf8_core.proofs.lemmas.{forms.ByStd.form_encode, forms.Shapes.form_ascii, forms.Shapes.form_bounds, forms.Shapes.form_two, forms.Shapes.form_three, forms.Shapes.form_past}
pub use Rattle.wtf8_core.proofs.lemmas.vectors.ComputedTests.{all_below, copies, each_below, fails, fails_within}
pub use Rattle.wtf8_core.proofs.lemmas.vectors.Lanes.{none_passes_before, none_passes_left_before, none_set}
pub use Rattle.wtf8_core.specs.Chunks.{AreChunks, Chunk, joined}
unfoldable pub use Rattle.wtf8_core.specs.CodePoint.{encode}
pub use Rattle.wtf8_core.specs.{Covered.HasNoCharacter, Covered.IsCovered, Covered.CrossesNoCharacter, FaultText.upper_hex_digit}
pub use denote.Shadow.{shadow}
pub use denote.Text.{Utf8}
