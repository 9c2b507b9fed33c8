-- Where a path is cut beside an ASCII byte, both parts are strings.
use Rattle.std.proofs.Common.{◌≡◌, inl, inr, ◌<◌, ◌+◌, ℕ, List, [], ◌∷◌, ◌++◌, length, take, drop, get_or, refl, sym, ap, ◌∙◌, subst, arith, append_assoc, length-append}
use Rattle.std.proofs.lemmas.List.{take_at, drop_at, get_or_at}
use Rattle.wtf8_core.specs.Boundary.{IsBoundary}
use Rattle.wtf8_core.specs.Character.{WholeCharacter}
use Rattle.os_str_ext.proofs.lemmas.Indices.{ascii_at}
use Rattle.path_rules.specs.Cut.{IsAsciiCut, at_start, at_end, before_ascii, after_ascii}
use Rattle.path_rules.specs.declared.rules.Style.{Style}
use Rattle.path_rules.specs.Trailing.{TrimsTrailing}
use Rattle.os_path.proofs.lemmas.Parts.{IsCutAtAscii}

-- an ASCII byte inside a list is a whole character
byte_at : (before : List ℕ) (b : ℕ) (after : List ℕ) → b < 0x80 → WholeCharacter (before ++ b ∷ after) (length before) (length before + 1)
byte_at before b after low =
    let s : List ℕ = before ++ b ∷ after in
    let i = length before in
    let inside : i < length s = omega (arith, length-append before (b ∷ after)) in
    ascii_at s i inside (subst (λ x. x < 0x80) (sym (get_or_at before b after 0 i refl)) low)

boundary_at : (before after : List ℕ) → IsAsciiCut before after → IsBoundary (before ++ after) (length before)
boundary_at before after (at_start e) = record { is = inl (ap length e) }
boundary_at before after (at_end e) = record { is = inr (inl (omega (arith, ap length e, length-append before after))) }
boundary_at before after (before_ascii b rest e low) =
    record { is = inr (inr (inl (length before + 1, subst (λ x. WholeCharacter (before ++ x) (length before) (length before + 1)) (sym e) (byte_at before b rest low)))) }
boundary_at before after (after_ascii start b e low) =
    let whole : WholeCharacter (start ++ b ∷ after) (length start) (length start + 1) = byte_at start b after low in
    let same : start ++ b ∷ after ≡ before ++ after = sym (append_assoc start (b ∷ []) after) ∙ ap (λ x. x ++ after) (sym e) in
    let long : length start + 1 ≡ length before = omega (arith, ap length e, length-append start (b ∷ [])) in
    record { is = inr (inr (inr (length start, subst (λ x. WholeCharacter (before ++ after) (length start) x) long (subst (λ x. WholeCharacter x (length start) (length start + 1)) same whole)))) }

-- each cut beside an ASCII byte is a boundary
pub cut_boundary : (s before after : List ℕ) → s ≡ before ++ after → IsAsciiCut before after → IsBoundary s (length before)
cut_boundary s before after e c = subst (λ x. IsBoundary x (length before)) (sym e) (boundary_at before after c)

-- a platform's strings are cut around an ASCII byte
module _ (formed : List ℕ → Type 0) (cut_prefix : (b : List ℕ) (i : ℕ) → formed b → IsBoundary b i → formed (take i b)) (cut_suffix : (b : List ℕ) (i : ℕ) → formed b → IsBoundary b i → formed (drop i b)) where
  pub cuts : IsCutAtAscii formed
  cuts before after b low f =
      let s : List ℕ = before ++ b ∷ after in
      let i = length before in
      let inside : i < length s = omega (arith, length-append before (b ∷ after)) in
      let here : get_or s i 0 < 0x80 = subst (λ x. x < 0x80) (sym (get_or_at before b after 0 i refl)) low in
      let whole = ascii_at s i inside here in
      let at : IsBoundary s i = record { is = inr (inr (inl (i + 1, whole))) } in
      let next : IsBoundary s (i + 1) = record { is = inr (inr (inr (i, whole))) } in
      let split : s ≡ (before ++ b ∷ []) ++ after = sym (append_assoc before (b ∷ []) after) in
      let long : length (before ++ b ∷ []) ≡ i + 1 = omega (arith, length-append before (b ∷ [])) in
      record {
        before = subst formed (take_at before (b ∷ after) i refl) (cut_prefix s i f at);
        after = subst formed (ap (drop (i + 1)) split ∙ drop_at (before ++ b ∷ []) after (i + 1) long) (cut_suffix s (i + 1) f next);
        up_to = subst formed (ap (take (i + 1)) split ∙ take_at (before ++ b ∷ []) after (i + 1) long) (cut_prefix s (i + 1) f next);
        from = subst formed (drop_at before (b ∷ after) i refl) (cut_suffix s i f at);
      }

  pub before_formed : (s before after : List ℕ) → s ≡ before ++ after → IsAsciiCut before after → formed s → formed before
  before_formed s before after e c f =
      subst formed (ap (take (length before)) e ∙ take_at before after (length before) refl) (cut_prefix s (length before) f (cut_boundary s before after e c))

  pub after_formed : (s before after : List ℕ) → s ≡ before ++ after → IsAsciiCut before after → formed s → formed after
  after_formed s before after e c f =
      subst formed (ap (drop (length before)) e ∙ drop_at before after (length before) refl) (cut_suffix s (length before) f (cut_boundary s before after e c))

  pub trimmed_formed : (w : Style) (s t : List ℕ) → TrimsTrailing w s t → formed s → formed t
  trimmed_formed w s t (inl h) f = subst formed (sym h.1) f
  trimmed_formed w s t (inr h) f = before_formed s t h.1.separators h.1.joined h.1.cut f
