-- What one U+FFFD replaces contains no whole character: on Unix a maximal ill-formed part, on Windows a surrogate.
use Rattle.std.proofs.Common.{◌≡◌, ◌⊎◌, inl, inr, ⊎_elim, ℕ, ◌+◌, ◌<◌, ◌≤◌, List, [], ◌∷◌, ◌++◌, length, take, drop, Option, Some, None, refl, sym, ap, ◌∙◌, subst, arith, append_assoc, append-nil, length-append, length-take, take-append-drop}
use Rattle.std.proofs.lemmas.Bool.{cases_eq, cases_lt}
use Rattle.std.proofs.lemmas.Bool.Decides.{nat_tests}
use Rattle.std.proofs.lemmas.List.{length-take-le}
use Rattle.std.specs.Char.{IsScalar, encode_utf8}
use Rattle.std.specs.List.{flat_map}
use Rattle.std.specs.Str.{IsValidUpTo}
use Rattle.wtf8_core.specs.Boundary.{IsBoundary}
use Rattle.wtf8_core.specs.Character.{WholeCharacter}
unfoldable use Rattle.wtf8_core.specs.CodePoint.{encode}
use Rattle.wtf8_core.specs.Covered.{StartsWithNoCharacter}
use Rattle.wtf8_core.specs.Lossy.{IsLossyText}
use Rattle.wtf8_core.specs.Lossy.IsLossyText.{text, replaced}
use Rattle.wtf8_core.specs.Utf8.{IsIllFormedPart, IsUtf8Fault, part_end}
use Rattle.wtf8_core.specs.Wtf8.{IsWtf8}
use Rattle.test_uses.proofs.LossyOfChunks.{begins}

-- a code point of two bytes or fewer is no surrogate
small : (c : ℕ) → length (encode c) ≤ 2 → IsScalar c
unfolding encode
small c short = grind (arith, nat_tests, short)

module _ (fits : (s : List ℕ) (i j : ℕ) → WholeCharacter s i j → (i + 1 ≤ j) × (j ≤ i + 4) × (j ≤ length s)) where
  -- a maximal ill-formed part ends before each whole character
  module _ (forms : (c : ℕ) → encode c ≡ encode_utf8 c)
      (parts : (s : List ℕ) (n : ℕ) (l : Option ℕ) → IsUtf8Fault s n l → (i j : ℕ) → WholeCharacter s i j → (j ≤ n) ⊎ (part_end s n l ≤ i)) where
    ends_before : (b : List ℕ) (m : ℕ) → IsValidUpTo b 0 → IsIllFormedPart b m → (i j : ℕ) → WholeCharacter b i j → m ≤ i
    ends_before b m valid (inl p) i j w = let fit = (fits b i j w).0 in let size = p.1 in ⊎_elim (λ l. omega (arith, l, fit)) (λ l. omega (arith, l, size)) (parts b 0 None (record { valid = valid; part = p.0 }) i j w)
    ends_before b m valid (inr p) i j w = let fit = (fits b i j w).0 in ⊎_elim (λ l. omega (arith, l, fit)) (λ l. omega (arith, l)) (parts b 0 (Some m) (record { valid = valid; part = p }) i j w)

    pub part_alone : (b lossy : List ℕ) → IsLossyText b lossy → 0 < length b → StartsWithNoCharacter b → (n : ℕ) × (IsIllFormedPart b n × ((i j : ℕ) → WholeCharacter b i j → n ≤ i))
    part_alone b _ (text u) some uncovered = let w = begins forms b [] u some in absurd (uncovered w.0 (subst (λ x. WholeCharacter x 0 w.0) (append-nil b) w.1))
    part_alone b _ (replaced n m valid part rest) some uncovered =
        let short = valid.short in
        let none : n ≡ 0 = ⊎_elim (λ z. z) (λ nz. let w = begins forms (take n b) (drop n b) valid.front (simp length-take (omega (arith, nz, short))) in absurd (uncovered w.0 (subst (λ x. WholeCharacter x 0 w.0) (take-append-drop n b) w.1))) (cases_eq n 0) in
        let here : IsIllFormedPart b m = subst (λ k. IsIllFormedPart (drop k b) m) none part in
        (m, (here, ends_before b m (subst (IsValidUpTo b) none valid) here))

  -- the three bytes of a surrogate come before each whole character
  pub surrogate_alone : ((b : List ℕ) (i : ℕ) → IsWtf8 b → IsBoundary b i → IsWtf8 (take i b)) → (b : List ℕ) → IsWtf8 b → StartsWithNoCharacter b → (i j : ℕ) → WholeCharacter b i j → 3 ≤ i
  surrogate_alone cut b formed uncovered i j w =
      ⊎_elim (λ short. absurd (let prefix = cut b i formed (record { is = inr (inr (inl (j, w))) }) in by short prefix.0 prefix.1.joined)) (λ far. far) (cases_lt i 3)
    where
      by : i < 3 → (cs : List ℕ) → take i b ≡ flat_map encode cs → ⊥
      by short [] e =
          let fit = fits b i j w in
          let first : i ≡ 0 = let l = ap length e in omega (arith, l, length-take-le i b (omega (arith, fit))) in
          uncovered j (subst (λ k. WholeCharacter b k j) first w)
      by short (c ∷ cs) e =
          let fit = fits b i j w in
          let l = ap length e in
          let scalar = small c (omega (arith, l, short, length-take-le i b (omega (arith, fit)), length-append (encode c) (flat_map encode cs))) in
          uncovered (length (encode c)) (record {
            char = c;
            scalar = scalar;
            occurs = record { before = []; after = flat_map encode cs ++ drop i b; joined = sym (take-append-drop i b) ∙ ap (λ x. x ++ drop i b) e ∙ append_assoc (encode c) (flat_map encode cs) (drop i b); index = refl };
            end = omega arith;
          })
