-- A path is cut at a separator.
use Rattle.std.proofs.Common.{◌≡◌, ◌<◌, ◌+◌, ℕ, true, false, List, ◌++◌, length, take, drop, get_or, sym, ap, ◌∙◌, subst, arith, take-append-drop, length-drop, drop-drop}
use Rattle.std.proofs.lemmas.Bool.{false_from_ne_true}
use Rattle.std.proofs.lemmas.List.{drop_more, get_or-take, get_or-drop, length-take-le}
use Rattle.std.proofs.lemmas.List.Elements.{All-from_get_or}
use Rattle.memchr.specs.Find.{Passes, Nowhere, NoneBefore, NoneAfter}
use Rattle.wildcards.specs.declared.separators.Separators.{Separators}
use Rattle.wildcards.specs.Components.{separates}
use Rattle.wildcards.specs.Cuts.{IsPlain, IsCut}

module _ (r : Separators) (s : List ℕ) where
  pub none_cut : Nowhere (Passes (separates r) s) 0 (length s) → IsPlain r s
  none_cut h = All-from_get_or (λ b. separates r b ≡ false) s 0 (λ k l. false_from_ne_true _ (h k (omega arith) l))

  cut_at : (i : ℕ) → i < length s → separates r (get_or s i 0) ≡ true → IsCut r s (take i s) (drop (i + 1) s)
  cut_at i l e = record {
    separator = get_or s i 0;
    joined = sym (take-append-drop i s) ∙ ap (λ x. take i s ++ x) (drop_more s i 0 l);
    parts = e;
  }

  -- the bytes around the separator at i
  module _ (i : ℕ) (before rest after : List ℕ) (e : before ≡ take i s) (f : rest ≡ drop i s) (g : after ≡ drop 1 rest) where
    after_is : drop (i + 1) s ≡ after
    after_is = sym (g ∙ ap (drop 1) f ∙ drop-drop 1 i s)

    parts : i < length s → separates r (get_or s i 0) ≡ true → IsCut r s before after
    parts l t = subst (λ x. IsCut r s x after) (sym e) (subst (IsCut r s (take i s)) after_is (cut_at i l t))

    pub first_cut : NoneBefore (Passes (separates r) s) 0 (length s) i × Passes (separates r) s i → IsCut r s before after × IsPlain r before
    first_cut (h, t) = (
      parts h.high t,
      subst (IsPlain r) (sym e) (All-from_get_or (λ b. separates r b ≡ false) (take i s) 0 (λ k l.
          let high = h.high in
          let below : k < i = omega (arith, l, high, length-take-le i s (omega (arith, high))) in
          ap (separates r) (get_or-take i s k 0 below) ∙ false_from_ne_true _ (h.before k (omega arith) below))),
    )

    pub last_cut : NoneAfter (Passes (separates r) s) 0 (length s) i × Passes (separates r) s i → IsCut r s before after × IsPlain r after
    last_cut (h, t) = (
      parts h.high t,
      subst (IsPlain r) after_is (All-from_get_or (λ b. separates r b ≡ false) (drop (i + 1) s) 0 (λ k l.
          ap (separates r) (get_or-drop (i + 1) s k 0) ∙ false_from_ne_true _ (h.after (i + 1 + k) (omega arith) (omega (arith, l, length-drop (i + 1) s))))),
    )
