-- What whole walks give.
use Rattle.std.proofs.Common.{◌≡◌, ℕ, Bool, true, false, List, [], ◌∷◌, length, take, drop, refl, sym, ap, ◌∙◌, subst, arith}
use Rattle.std.proofs.lemmas.List.{take_all, drop_all}
use Rattle.wtf8_core.specs.Chunks.{Chunk, AreChunks}
use Rattle.os_str_ext.specs.Pieces.{SplitsAt, IsSplit, IsRSplit}
use Rattle.os_str_ext.specs.Pieces.SplitsInto.{whole, cut}
use Rattle.wtf8_core.specs.Occurrence.{IsFirstIndex, IsLastIndex}
use Rattle.wtf8_core.proofs.lemmas.chunks.OneList.{some_chunks, chunks_once}
use Rattle.os_str_ext.specs.Symbols.{AreSymbols}
use Rattle.os_str_ext.specs.declared.symbols.Symbol.{Symbol}
use Rattle.os_str_ext.specs.declared.symbols.Symbol.TheVariants as symbol
use Rattle.os_str_ext.proofs.lemmas.FirstChunk.{no_chunks}
use Rattle.os_str_ext.proofs.lemmas.SymbolBytes.{symbols_once}
use Rattle.os_str_ext.proofs.lemmas.SymbolSteps.{no_symbols}
use Rattle.osbytes_c.specs.Platforms.{units_on}
use Rattle.osbytes_c.specs.Steps.{part, IsFirstPiece, IsLastPiece, Reports}
use Rattle.osbytes_c.proofs.lemmas.Symbols.{symbols_are}
use Rattle.osbytes_c.specs.Walks.{SplitWalk, RSplitWalk, ChunkWalk, SymbolWalk}

-- what holds after a step that isn't the last
later : (A B C : Type 0) (last : Bool) → (A → B) → elim last as (λ b. Type 0) [ true ↦ C | false ↦ A ] → elim last as (λ b. Type 0) [ true ↦ C | false ↦ B ]
later A B C true f more = more
later A B C false f more = f more

-- one step of a split, by whether it is the last
pub split_step : (p s : List ℕ) (at edge rest : ℕ) (last : Bool) (piece : List ℕ) (pieces : List (List ℕ)) → IsFirstPiece p s at (record { edge = edge; rest = rest; last = last }) → piece ≡ part s at edge
    → elim last as (λ b. Type 0) [ true ↦ pieces ≡ [] | false ↦ IsSplit p (drop rest s) pieces ] → IsSplit p (drop at s) (piece ∷ pieces)
split_step p s at edge rest true piece pieces h e more =
    let all : piece ≡ drop at s = e ∙ ap (λ k. drop at (take k s)) h.1 ∙ ap (drop at) (take_all (length s) s (omega arith)) in
    subst (λ ps. IsSplit p (drop at s) (piece ∷ ps)) (sym more) (subst (λ x. IsSplit p (drop at s) (x ∷ [])) (sym all) (whole h.0))
split_step p s at edge rest false piece pieces h e more =
    cut (subst (λ x. SplitsAt IsFirstIndex p (drop at s) x (drop rest s)) (sym e) h) more

pub split_walk : (p s : List ℕ) (at : ℕ) (pieces : List (List ℕ)) → SplitWalk p s at pieces → IsSplit p (drop at s) pieces
split_walk p s at [] w = absurd w
split_walk p s at (piece ∷ pieces) w = split_step p s at w.0.edge w.0.rest w.0.last piece pieces w.1.0 w.1.1.0 (later (SplitWalk p s w.0.rest pieces) (IsSplit p (drop w.0.rest s) pieces) (pieces ≡ []) w.0.last (split_walk p s w.0.rest pieces) w.1.1.1)

-- the same from the end
pub rsplit_step : (p s : List ℕ) (at edge rest : ℕ) (last : Bool) (piece : List ℕ) (pieces : List (List ℕ)) → IsLastPiece p s at (record { edge = edge; rest = rest; last = last }) → piece ≡ part s edge at
    → elim last as (λ b. Type 0) [ true ↦ pieces ≡ [] | false ↦ IsRSplit p (take rest s) pieces ] → IsRSplit p (take at s) (piece ∷ pieces)
rsplit_step p s at edge rest true piece pieces h e more =
    let all : piece ≡ take at s = e ∙ ap (λ k. drop k (take at s)) h.1 in
    subst (λ ps. IsRSplit p (take at s) (piece ∷ ps)) (sym more) (subst (λ x. IsRSplit p (take at s) (x ∷ [])) (sym all) (whole h.0))
rsplit_step p s at edge rest false piece pieces h e more =
    cut (subst (λ x. SplitsAt IsLastIndex p (take at s) (take rest s) x) (sym e) h) more

pub rsplit_walk : (p s : List ℕ) (at : ℕ) (pieces : List (List ℕ)) → RSplitWalk p s at pieces → IsRSplit p (take at s) pieces
rsplit_walk p s at [] w = absurd w
rsplit_walk p s at (piece ∷ pieces) w = rsplit_step p s at w.0.edge w.0.rest w.0.last piece pieces w.1.0 w.1.1.0 (later (RSplitWalk p s w.0.rest pieces) (IsRSplit p (take w.0.rest s) pieces) (pieces ≡ []) w.0.last (rsplit_walk p s w.0.rest pieces) w.1.1.1)

nothing_left : (s : List ℕ) (at : ℕ) → at ≡ length s → drop at s ≡ []
nothing_left s at e = drop_all at s (omega (arith, e))

pub chunk_walk : (s : List ℕ) (at : ℕ) (chunks : List Chunk) → ChunkWalk s at chunks → AreChunks (drop at s) chunks
chunk_walk s at [] w = subst (AreChunks (drop at s)) (no_chunks (drop at s) (nothing_left s at w)) (some_chunks (drop at s)).1
chunk_walk s at (chunk ∷ chunks) w =
    let step = w.1.0 in
    let later = chunk_walk s w.0.text chunks w.1.1.1 in
    let same = chunks_once (drop w.0.text s) step.after chunks step.rest later in
    subst (λ c. AreChunks (drop at s) (c ∷ chunks)) (sym w.1.1.0) (subst (λ cs. AreChunks (drop at s) ((part s at w.0.part, part s w.0.part w.0.text) ∷ cs)) same step.all)

-- a kind and a value mean one symbol
one_symbol : (kind value : ℕ) (x y : Symbol) → Reports x kind value → Reports y kind value → x ≡ y
one_symbol kind value (symbol.Character c) (symbol.Character d) h k = ap symbol.Character (sym h.1 ∙ k.1)
one_symbol kind value (symbol.Character c) (symbol.Unit u) h k = absurd (omega (arith, h.0, k.0))
one_symbol kind value (symbol.Unit u) (symbol.Character d) h k = absurd (omega (arith, h.0, k.0))
one_symbol kind value (symbol.Unit u) (symbol.Unit v) h k = ap (λ n. symbol.Unit (record { number = n })) (sym h.1 ∙ k.1)

pub symbol_walk : (platform : ℕ) (s : List ℕ) (at : ℕ) (symbols : List Symbol) → SymbolWalk platform s at symbols → AreSymbols (units_on platform) (drop at s) symbols
symbol_walk platform s at [] w = symbols_are (units_on platform) (drop at s) [] (no_symbols (units_on platform) (drop at s) (nothing_left s at w))
symbol_walk platform s at (x ∷ symbols) w =
    let step = w.1.0 in
    let later = symbol_walk platform s w.0.end symbols w.1.1.1 in
    let same = symbols_once (units_on platform) (drop w.0.end s) step.after symbols step.rest later in
    let first = one_symbol w.0.kind w.0.value step.first x step.is w.1.1.0 in
    subst (λ y. AreSymbols (units_on platform) (drop at s) (y ∷ symbols)) first (subst (λ xs. AreSymbols (units_on platform) (drop at s) (step.first ∷ xs)) same step.all)

-- the walk of a step that is the first and the last
pub one_piece : (p s : List ℕ) (edge rest : ℕ) (last : Bool) → IsFirstPiece p s 0 (record { edge = edge; rest = rest; last = last }) → last ≡ true → SplitWalk p s 0 (s ∷ [])
one_piece p s edge rest true h e =
    (record { edge = edge; rest = rest; last = true }, (h, (sym (ap (λ k. take k s) h.1 ∙ take_all (length s) s (omega arith)), refl)))
one_piece p s edge rest false h e = cc

-- the same from the end
pub one_last_piece : (p s : List ℕ) (edge rest : ℕ) (last : Bool) → IsLastPiece p s (length s) (record { edge = edge; rest = rest; last = last }) → last ≡ true → RSplitWalk p s (length s) (s ∷ [])
one_last_piece p s edge rest true h e =
    (record { edge = edge; rest = rest; last = true }, (h, (sym (ap (λ k. drop k (take (length s) s)) h.1 ∙ take_all (length s) s (omega arith)), refl)))
one_last_piece p s edge rest false h e = cc
