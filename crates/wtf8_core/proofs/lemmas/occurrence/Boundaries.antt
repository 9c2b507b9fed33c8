-- Where a text that isn't empty occurs in a string, the string may be cut before and after it.
use Rattle.wtf8_core.proofs.Common.{◌≡◌, inl, inr, ⊎_elim, ℕ, ◌+◌, ◌-◌, ◌<◌, true, List, [], ◌∷◌, ◌++◌, length, refl, sym, ap, ◌∙◌, subst, arith, append_assoc, scalar, and_parts, cases_lt, flat_map, IsUtf8, all_scalars, encode, OccursAt, WholeCharacter, IsBoundary}
use Rattle.wtf8_core.proofs.lemmas.{forms.ByStd.forms_encode, characters.Overlaps.no_start_inside, characters.Seams.text_covered}

-- a whole character starts there
starts : (p s : List ℕ) (i : ℕ) → IsUtf8 p → 0 < length p → OccursAt p s i → (j : ℕ) × WholeCharacter s i j
starts p s i u some h = by u.0 u.1.0 (forms_encode u.0 ∙ u.1.1)
  where
    by : (cs : List ℕ) → all_scalars cs ≡ true → flat_map encode cs ≡ p → (j : ℕ) × WholeCharacter s i j
    by [] a e = absurd (omega (arith, ap length e))
    by (c ∷ cs) a e =
        let joined = h.joined ∙ ap (λ x. h.before ++ (x ++ h.after)) (sym e) ∙ ap (λ x. h.before ++ x) (append_assoc (encode c) (flat_map encode cs) h.after) in
        (i + length (encode c), record { char = c; scalar = (and_parts (scalar c) _ a).0; occurs = record { before = h.before; after = flat_map encode cs ++ h.after; joined = joined; index = h.index }; end = refl })

-- no whole character extends across its start, so none extends across its end, and the one around its last byte ends there
pub edges_of_text : (p s : List ℕ) (i : ℕ) → IsUtf8 p → 0 < length p → OccursAt p s i → IsBoundary s i × IsBoundary s (i + length p)
edges_of_text p s i u some h =
    let w = starts p s i u some h in
    let t = text_covered s h.before p h.after h.joined u (λ a b v low high. no_start_inside s a b i w.0 v w.1 (omega arith) (omega arith)) in
    let c = t.0 (i + length p - 1) (omega arith) (omega arith) in
    let end : c.end ≡ i + length p = ⊎_elim (λ past. absurd (t.1 c.start c.end c.whole (omega arith) past)) (λ le. omega arith) (cases_lt (length h.before + length p) c.end) in
    (record { is = inr (inr (inl w)) }, record { is = inr (inr (inr (c.start, subst (WholeCharacter s c.start) end c.whole))) })
