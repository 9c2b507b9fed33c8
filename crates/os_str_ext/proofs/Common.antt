-- The names that most proofs cite, re-exported from one file. Declares nothing.
pub use Rattle.memchr.proofs.lemmas.MatchLemmas.{OccursAt-from_part, OccursAt-part}
pub use Rattle.memchr.specs.Find.{FindsLastNeedle, FindsNeedle, IsFirstByte, Nowhere, OccursAt as NeedleOccursAt, Passes, is_byte}
pub use Rattle.os_str_ext.specs.{Characters.IsOneCharacter, Chunks.IsUncoveredUpTo, Chunks.IsChunkOf, Chunks.IsFirstChunk, Chunks.chunks_of, Cuts.AreOfRest, Cuts.ArePieces, Cuts.pieces_left}
pub use Rattle.os_str_ext.specs.{Symbols.chunks_symbols, Symbols.symbols_of, Symbols.unit_symbol, declared.symbols.Symbol.TheVariants.Character}
pub use Rattle.platform_str.specs.{Laws.IsFirstUnit, Strings.bytes}
pub use Rattle.std.proofs.Common.{List, None, Option, Some, [], ap, append-nil, append_assoc, arith, drop, drop-drop, false, false-eqb, get_or, inl, inr, length, length-append, length-drop, map, refl, subst, suc, sym, take, take-append-drop, true, zero, ℕ, ⊎_elim, ◌++◌, ◌+◌, ◌-◌, ◌<◌, ◌^◌, ◌∙◌, ◌∷◌, ◌≡◌, ◌≢◌, ◌≤◌, ◌⊎◌}
pub use Rattle.std.proofs.Math.Seq.{take-add, take-length}
pub use Rattle.std.proofs.lemmas.Bool.{cases_Bool, cases_eq, cases_lt, cond-false, cond-true, eq-eqb, eqb-true, false≢true}
pub use Rattle.std.proofs.lemmas.{List.drop-take, List.drop_at, List.get_or-drop, List.length-take-le, List.nil_from_length, List.take-take, List.take_at, List.Elements.All-from_recursion}
pub use Rattle.std.proofs.lemmas.Str.{IsUtf8-append, IsUtf8-encode, IsUtf8-had, IsUtf8-nil, encode_same}
pub use Rattle.std.specs.{Char.IsScalar, Char.encode_utf8, Int.from_le_bytes, Int.to_le_bytes, List.All, List.AllByRecursion, List.flat_map, List.repeat, Option.is_some, Option.option_map, Prelude.slice_index}
pub use Rattle.std.specs.Str.{IsUtf8, chars, encode_utf8_all}
pub use Rattle.wtf8_core.proofs.lemmas.{characters.AtIndices.begins_at, characters.AtIndices.character_fits, characters.AtIndices.whole_at, characters.Overlaps.in_rest, characters.Seams.whole_within}
pub use Rattle.wtf8_core.proofs.lemmas.{chunks.OneList.chunks_once, chunks.OneList.some_chunks, forms.ByStd.form_encode, forms.Shapes.form_ascii, forms.Shapes.form_bounds, occurrence.Indices.no_units}
pub use Rattle.wtf8_core.specs.{Boundary.IsBoundary, Character.IsFirstChar, Character.WholeCharacter, Chunks.AreChunks, Chunks.Chunk, Chunks.joined, CodePoint.encode, Covered.HasNoCharacter, Covered.IsCovered, Covered.StartsWithNoCharacter}
pub use Rattle.os_str_ext.specs.Pieces.{SplitsAt}
pub use Rattle.wtf8_core.specs.{Occurrence.IsFirstIndex, Occurrence.IsLastIndex, Occurrence.IsPrefix, Occurrence.IsSuffix, Occurrence.OccursAt, Occurrence.OccursNowhere, OccurrenceLaws.OccurrenceLaws}
