-- A form written byte by byte over others.
use Rattle.wtf8_core.proofs.Common.{◌≡◌, ℕ, ◌+◌, ◌≤◌, ◌<◌, List, [], ◌∷◌, ◌++◌, length, take, drop, set, refl, ap, ◌∙◌, arith, append_assoc}
use Rattle.std.proofs.{Math.ListN.length-set, lemmas.List.drop-set-lt, lemmas.Grind.take-set_at}

-- one byte, two, three, and four
pub one_put : (s : List ℕ) (i a : ℕ) → i + 1 ≤ length s → take (i + 1) (set s i a) ≡ take i s ++ a ∷ []
one_put s i a h = take-set_at s i (i + 1) a refl (omega arith)

more_put : (s t : List ℕ) (i n m a : ℕ) (prefix : List ℕ) → length t ≡ length s → n ≡ i + m → n < length s → take n t ≡ take i s ++ prefix → take (i + (m + 1)) (set t n a) ≡ take i s ++ (prefix ++ a ∷ [])
more_put s t i n m a prefix l e h w = take-set_at t n (i + (m + 1)) a (omega arith) (omega arith) ∙ ap (λ x. x ++ a ∷ []) w ∙ append_assoc (take i s) prefix (a ∷ [])

pub two_put : (s : List ℕ) (i a b : ℕ) → i + 2 ≤ length s → take (i + 2) (set (set s i a) (i + 1) b) ≡ take i s ++ a ∷ b ∷ []
two_put s i a b h = more_put s (set s i a) i (i + 1) 1 b (a ∷ []) (length-set s i a) refl (omega arith) (one_put s i a (omega arith))

pub three_put : (s : List ℕ) (i a b c : ℕ) → i + 3 ≤ length s → take (i + 3) (set (set (set s i a) (i + 1) b) (i + 2) c) ≡ take i s ++ a ∷ b ∷ c ∷ []
three_put s i a b c h = more_put s (set (set s i a) (i + 1) b) i (i + 2) 2 c (a ∷ b ∷ []) (length-set (set s i a) (i + 1) b ∙ length-set s i a) refl (omega arith) (two_put s i a b (omega arith))

pub four_put : (s : List ℕ) (i a b c d : ℕ) → i + 4 ≤ length s → take (i + 4) (set (set (set (set s i a) (i + 1) b) (i + 2) c) (i + 3) d) ≡ take i s ++ a ∷ b ∷ c ∷ d ∷ []
four_put s i a b c d h =
    more_put s (set (set (set s i a) (i + 1) b) (i + 2) c) i (i + 3) 3 d (a ∷ b ∷ c ∷ []) (length-set (set (set s i a) (i + 1) b) (i + 2) c ∙ length-set (set s i a) (i + 1) b ∙ length-set s i a) refl (omega arith) (three_put s i a b c (omega arith))

-- the bytes after them stay
pub one_kept : (s : List ℕ) (i a : ℕ) → drop (i + 1) (set s i a) ≡ drop (i + 1) s
one_kept s i a = drop-set-lt (i + 1) s i a (omega arith)

pub two_kept : (s : List ℕ) (i a b : ℕ) → drop (i + 2) (set (set s i a) (i + 1) b) ≡ drop (i + 2) s
two_kept s i a b = drop-set-lt (i + 2) _ (i + 1) b (omega arith) ∙ drop-set-lt (i + 2) s i a (omega arith)

pub three_kept : (s : List ℕ) (i a b c : ℕ) → drop (i + 3) (set (set (set s i a) (i + 1) b) (i + 2) c) ≡ drop (i + 3) s
three_kept s i a b c = drop-set-lt (i + 3) _ (i + 2) c (omega arith) ∙ drop-set-lt (i + 3) _ (i + 1) b (omega arith) ∙ drop-set-lt (i + 3) s i a (omega arith)

pub four_kept : (s : List ℕ) (i a b c d : ℕ) → drop (i + 4) (set (set (set (set s i a) (i + 1) b) (i + 2) c) (i + 3) d) ≡ drop (i + 4) s
four_kept s i a b c d = drop-set-lt (i + 4) _ (i + 3) d (omega arith) ∙ drop-set-lt (i + 4) _ (i + 2) c (omega arith) ∙ drop-set-lt (i + 4) _ (i + 1) b (omega arith) ∙ drop-set-lt (i + 4) s i a (omega arith)

pub ruleset writing = (one_put, two_put, three_put, four_put, one_kept, two_kept, three_kept, four_kept)
