-- Facts with at most one proof.
use Rattle.wtf8_core.proofs.Common.{ℕ, List, [], ◌∷◌, true, sym, ◌∙◌, AllByRecursion, AllByRecursion-prop, IsCodePoint, HasNoSurrogatePair, MayPrecede, Encodes, IsWtf8, IsUtf8, all_scalars, encode_utf8_all, encodes_same, Bool-set}
use Rattle.std.proofs.Math.Bridge.{le_prop}
use mathlib.Core.HLevel.{Σ_prop, Σ_prop_path, hedberg}
use mathlib.Core.List.{is_set}
use native.Mathlib.Decide.{ℕ_discrete}
use Rattle.wtf8_core.proofs.lemmas.reader.Complete.{encoded_once}

-- paired-free lists
may_precede_prop : (c : ℕ) (cs : List ℕ) → IsProp (MayPrecede c cs)
may_precede_prop c [] = hlevel
may_precede_prop c (d ∷ cs) = hlevel

paired_prop : (cs : List ℕ) → IsProp (HasNoSurrogatePair cs)
paired_prop [] = hlevel
paired_prop (c ∷ cs) = hlevel (may_precede_prop, paired_prop cs)

-- lists of code points
points_prop : (cs : List ℕ) → IsProp (AllByRecursion IsCodePoint cs)
points_prop cs = AllByRecursion-prop IsCodePoint (λ c. le_prop) cs

-- what bytes encode
pub encodes_prop : (b cs : List ℕ) → IsProp (Encodes b cs)
encodes_prop b cs = hlevel (points_prop, paired_prop, is_set (hedberg ℕ_discrete))

-- WTF-8
pub wtf8_prop : (b : List ℕ) → IsProp (IsWtf8 b)
wtf8_prop b p q = Σ_prop_path (λ cs. encodes_prop b cs) (encoded_once b p.0 q.0 p.1 q.1)

-- UTF-8
pub utf8_prop : (b : List ℕ) → IsProp (IsUtf8 b)
utf8_prop b p q = Σ_prop_path (λ cs. Σ_prop (Bool-set (all_scalars cs) true) (λ _. is_set (hedberg ℕ_discrete) (encode_utf8_all cs) b)) (encodes_same p.0 q.0 (p.1.1 ∙ sym q.1.1))
