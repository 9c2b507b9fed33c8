-- A string has no more chunks than bytes.
use Rattle.std.proofs.Common.{◌≡◌, ℕ, ◌<◌, ◌≤◌, List, [], ◌∷◌, ◌++◌, length, refl, ap, subst, arith}
use Rattle.std.proofs.lemmas.List.{length-append}
use Rattle.wtf8_core.specs.Chunks.{Chunk, joined, AreChunks}

fewer_than_bytes : (cs : List Chunk) → ((before after : List Chunk) (c : Chunk) → cs ≡ before ++ c ∷ after → 0 < length (c.0 ++ c.1)) → length cs ≤ length (joined cs)
fewer_than_bytes [] some = omega arith
fewer_than_bytes (c ∷ cs) some =
    let first = some [] cs c refl in
    let both = length-append c.0 c.1 in
    let all = length-append c.0 (c.1 ++ joined cs) in
    let after = length-append c.1 (joined cs) in
    let rest = fewer_than_bytes cs (λ before after d is. some (c ∷ before) after d (ap (λ ds. c ∷ ds) is)) in
    omega arith

pub few_chunks : (s : List ℕ) (cs : List Chunk) → AreChunks s cs → length cs ≤ length s
few_chunks s cs chunks =
    subst (λ b. length cs ≤ length b) chunks.joins (fewer_than_bytes cs (λ before after c is. (chunks.each before after c is).some))
