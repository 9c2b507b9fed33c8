-- One step of an iterator, from an index on.
use Rattle.std.proofs.Common.{◌≡◌, ℕ, ◌+◌, ◌-◌, ◌≤◌, List, ◌∷◌, ◌++◌, length, take, drop, refl, subst, sym, ap, ◌∙◌, arith, take-take}
use Rattle.std.proofs.lemmas.List.{drop-take, drop-drop, length-drop, length-append, length-take-le, drop-append-le, drop_all}
use Rattle.std.proofs.Math.Seq.{take-append_seam}
use Rattle.wtf8_core.specs.Chunks.{Chunk, AreChunks}
use Rattle.os_str_ext.specs.Pieces.{SplitsAt}
use Rattle.wtf8_core.specs.Occurrence.{IsFirstIndex, IsLastIndex}
use Rattle.os_str_ext.proofs.lemmas.Searches.{parts_around}
use Rattle.osbytes_c.specs.Steps.{part, IsChunkAt}

-- the piece before the pattern's first index, and the rest after it
pub piece_at : (p s : List ℕ) (at i : ℕ) → IsFirstIndex p (drop at s) i → SplitsAt IsFirstIndex p (drop at s) (part s at (at + i)) (drop (at + i + length p) s)
piece_at p s at i least =
    let sum : at + i + length p ≡ at + (i + length p) = omega arith in
    parts_around IsFirstIndex p (drop at s) _ _ i least least.occurs (drop-take at i s) (ap (λ k. drop k s) sum ∙ sym (drop-drop (i + length p) at s))

-- the piece after the pattern's last index, and the rest before it
pub last_piece_at : (p s : List ℕ) (at i : ℕ) → at ≤ length s → IsLastIndex p (take at s) i → SplitsAt IsLastIndex p (take at s) (take i s) (part s (i + length p) at)
last_piece_at p s at i within greatest =
    let h = greatest.occurs in
    let size = ap length h.joined in
    let all = length-append h.before (p ++ h.after) in
    let most = length-take-le at s within in
    let index = h.index in
    parts_around IsLastIndex p (take at s) (take i s) (part s (i + length p) at) i greatest h (sym (take-take i at s (omega arith))) refl

drop_seam : (xs ys : List ℕ) → drop (length xs) (xs ++ ys) ≡ ys
drop_seam xs ys = drop-append-le (length xs) xs ys (omega arith) ∙ ap (λ x. x ++ ys) (drop_all (length xs) xs (omega arith))

-- the first chunk of what comes after an index, where r is left after it
pub chunk_at : (s : List ℕ) (at : ℕ) (p t r : List ℕ) (later : List Chunk) → at ≤ length s → AreChunks (drop at s) ((p, t) ∷ later) → AreChunks r later
    → IsChunkAt s at (record { part = at + length p; text = length s - length r })
chunk_at s at p t r later within chunks rest =
    let is : p ++ (t ++ r) ≡ drop at s = ap (λ x. p ++ (t ++ x)) (sym rest.joins) ∙ chunks.joins in
    let m = at + length p in
    let first : part s at m ≡ p = drop-take at (length p) s ∙ ap (take (length p)) (sym is) ∙ take-append_seam p (t ++ r) in
    let left : drop m s ≡ t ++ r = sym (drop-drop (length p) at s) ∙ ap (drop (length p)) (sym is) ∙ drop_seam p (t ++ r) in
    let second : part s m (m + length t) ≡ t = drop-take m (length t) s ∙ ap (take (length t)) left ∙ take-append_seam t r in
    let third : drop (m + length t) s ≡ r = sym (drop-drop (length t) m s) ∙ ap (drop (length t)) left ∙ drop_seam t r in
    let size = ap length is ∙ length-drop at s in
    let sizes = length-append p (t ++ r) in
    let others = length-append t r in
    let end : m + length t ≡ length s - length r = omega arith in
    let found : IsChunkAt s at (record { part = m; text = m + length t }) = record {
      after = later;
      all = subst (λ x. AreChunks (drop at s) ((x, part s m (m + length t)) ∷ later)) (sym first) (subst (λ x. AreChunks (drop at s) ((p, x) ∷ later)) (sym second) chunks);
      rest = subst (λ x. AreChunks x later) (sym third) rest;
      ordered = omega arith;
      text_ordered = omega arith;
      within = omega arith;
    } in
    subst (λ e. IsChunkAt s at (record { part = m; text = e })) end found
