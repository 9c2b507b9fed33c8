-- A string's one list of symbols, and the bytes of them.
use Rattle.os_str_ext.proofs.Common.{◌≡◌, ℕ, List, [], ◌∷◌, ◌++◌, map, take, drop, refl, sym, ap, ◌∙◌, append_assoc, AllByRecursion, flat_map, IsUtf8, chars, encode_utf8_all, IsBoundary, Chunk, joined, HasNoCharacter, some_chunks, chunks_once, chunks_of, IsChunkOf, chunks_symbols, symbols_of, unit_symbol, Character}
use Rattle.std.proofs.lemmas.{Grind.flat_map-append, Str.chars-encodes}
use Rattle.wtf8_core.specs.PartUnits.{unit_bytes}
use Rattle.os_str_ext.specs.{Symbols.AreSymbols, Symbols.chunk_symbols, Symbols.symbol_bytes, declared.symbols.Symbol.Symbol}
use Rattle.os_str_ext.proofs.lemmas.EachChunk.{are_chunks_of}

unit_symbols_bytes : (us : List ℕ) → flat_map symbol_bytes (map unit_symbol us) ≡ flat_map unit_bytes us
unit_symbols_bytes [] = refl
unit_symbols_bytes (u ∷ us) = ap (λ x. unit_bytes u ++ x) (unit_symbols_bytes us)

characters_bytes : (cs : List ℕ) → flat_map symbol_bytes (map Character cs) ≡ encode_utf8_all cs
characters_bytes [] = refl
characters_bytes (c ∷ cs) = ap (λ x. symbol_bytes (Character c) ++ x) (characters_bytes cs)

text_bytes : (t : List ℕ) → IsUtf8 t → encode_utf8_all (chars t) ≡ t
text_bytes t u = ap encode_utf8_all (sym (ap chars u.1.1) ∙ chars-encodes u.0 u.1.0) ∙ u.1.1

module _ (units : List ℕ → List ℕ) where
  pub some_symbols : (s : List ℕ) → (symbols : List Symbol) × AreSymbols units s symbols
  some_symbols s = (symbols_of units s, record { chunks = chunks_of s; are_chunks = (some_chunks s).1; are = refl })

  pub symbols_once : (s : List ℕ) (xs ys : List Symbol) → AreSymbols units s xs → AreSymbols units s ys → xs ≡ ys
  symbols_once s xs ys h k = h.are ∙ ap (chunks_symbols units) (chunks_once s h.chunks k.chunks h.are_chunks k.are_chunks) ∙ sym k.are

  module _ (well_formed : List ℕ → Type 0) (encoded : (b : List ℕ) → well_formed b → HasNoCharacter b → b ≡ flat_map unit_bytes (units b)) where
    chunk_bytes : (c : Chunk) → IsChunkOf well_formed c → flat_map symbol_bytes (chunk_symbols units c) ≡ c.0 ++ c.1
    chunk_bytes c h =
        flat_map-append symbol_bytes (map unit_symbol (units c.0)) (map Character (chars c.1))
        ∙ ap (λ x. x ++ flat_map symbol_bytes (map Character (chars c.1))) (unit_symbols_bytes (units c.0) ∙ sym (encoded c.0 h.formed h.uncovered))
        ∙ ap (λ x. c.0 ++ x) (characters_bytes (chars c.1) ∙ text_bytes c.1 h.text)

    chunks_bytes : (cs : List Chunk) → AllByRecursion (IsChunkOf well_formed) cs → flat_map symbol_bytes (chunks_symbols units cs) ≡ joined cs
    chunks_bytes [] h = refl
    chunks_bytes (c ∷ cs) h =
        flat_map-append symbol_bytes (chunk_symbols units c) (chunks_symbols units cs)
        ∙ ap (λ x. x ++ flat_map symbol_bytes (chunks_symbols units cs)) (chunk_bytes c h.0)
        ∙ ap (λ x. (c.0 ++ c.1) ++ x) (chunks_bytes cs h.1)
        ∙ append_assoc c.0 c.1 (joined cs)

    pub symbols_joined : ((b : List ℕ) (i : ℕ) → well_formed b → IsBoundary b i → well_formed (take i b)) → ((b : List ℕ) (i : ℕ) → well_formed b → IsBoundary b i → well_formed (drop i b))
        → (s : List ℕ) → well_formed s → (xs : List Symbol) → AreSymbols units s xs → flat_map symbol_bytes xs ≡ s
    symbols_joined cut_prefix cut_suffix s w xs h =
        ap (flat_map symbol_bytes) h.are ∙ chunks_bytes h.chunks (are_chunks_of well_formed cut_prefix cut_suffix s h.chunks w h.are_chunks) ∙ h.are_chunks.joins
