-- The first chunk of a string.
use Rattle.std.proofs.Common.{◌≡◌, ℕ, List, [], ◌∷◌, ◌++◌, sym, ap, ◌∙◌}
use Rattle.std.proofs.lemmas.List.{append-nil}
use Rattle.wtf8_core.specs.Chunks.{Chunk, AreChunks, joined}

-- where its text is empty, its part is the whole string
pub part_is_whole : (s : List ℕ) (c : Chunk) (rest chunks : List Chunk) → AreChunks s chunks → chunks ≡ c ∷ rest → c.1 ≡ [] → c.0 ≡ s
part_is_whole s c rest chunks are begins empty =
    let none : rest ≡ [] = (are.each [] rest c begins).text_last empty in
    let nothing : c.1 ++ joined rest ≡ [] = ap (λ x. x ++ joined rest) empty ∙ ap joined none in
    sym (append-nil c.0) ∙ ap (λ x. c.0 ++ x) (sym nothing) ∙ ap joined (sym begins) ∙ are.joins
