-- Where a test first passes or last passes, a list of bytes is cut.
use Rattle.std.proofs.Common.{◌≡◌, ◌<◌, ◌≤◌, ◌+◌, ◌-◌, ⊎_elim, ℕ, Bool, true, false, List, [], ◌++◌, length, take, drop, get_or, sym, ap, ◌∙◌, subst, arith, take-append-drop, length-drop, append-nil, ◌∷◌}
use Rattle.std.proofs.lemmas.List.{drop_more, get_or-take, get_or-drop, length-take-le}
use Rattle.std.proofs.lemmas.Bool.{cases_lt}
use Rattle.std.proofs.lemmas.List.Elements.{All-from_get_or, All-head, All-tail}
use Rattle.std.specs.List.{All}
use Rattle.path_rules.specs.declared.rules.Rules.{Rules}
use Rattle.path_rules.specs.Separators.{separates, IsCut, EdgeBy, IsFieldBy, IsPlain}

module _ (test : ℕ → Bool) (s : List ℕ) where
  -- up to i, and from i on, no byte separates
  abbrev pub NoneBelow : ℕ → Type 0
  NoneBelow i = (k : ℕ) → k < i → test (get_or s k 0) ≡ false

  abbrev pub NoneFrom : ℕ → Type 0
  NoneFrom i = (k : ℕ) → i ≤ k → k < length s → test (get_or s k 0) ≡ false

  -- and so up to i + n
  pub none_further : (i n : ℕ) → NoneBelow i → ((k : ℕ) → k < n → test (get_or s (i + k) 0) ≡ false) → NoneBelow (i + n)
  none_further i n h more k l =
      ⊎_elim
      (h k)
      (λ above. (let e : i + (k - i) ≡ k = omega (arith, above) in subst (λ m. test (get_or s m 0) ≡ false) e (more (k - i) (omega (arith, l, above)))))
      (cases_lt k i)

  pub plain_whole : (n : ℕ) → length s ≤ n → NoneBelow n → All (λ b. test b ≡ false) s
  plain_whole n l h = All-from_get_or (λ b. test b ≡ false) s 0 (λ k g. h k (omega arith))

  pub plain_from_start : NoneFrom 0 → All (λ b. test b ≡ false) s
  plain_from_start h = All-from_get_or (λ b. test b ≡ false) s 0 (λ k g. h k (omega arith) g)

  pub plain_before : (i : ℕ) → i ≤ length s → NoneBelow i → All (λ b. test b ≡ false) (take i s)
  plain_before i l h =
      All-from_get_or (λ b. test b ≡ false) (take i s) 0 (λ k g.
      let below : k < i = omega (arith, length-take-le i s l) in
      ap test (get_or-take i s k 0 below) ∙ h k below)

  pub plain_after : (i : ℕ) → NoneFrom i → All (λ b. test b ≡ false) (drop i s)
  plain_after i h =
      All-from_get_or (λ b. test b ≡ false) (drop i s) 0 (λ k g.
      ap test (get_or-drop i s k 0) ∙ h (i + k) (omega arith) (omega (arith, length-drop i s)))

  -- a field up to a separator, and one that is all there is
  edge_at : (i : ℕ) → i < length s → test (get_or s i 0) ≡ true → EdgeBy test (drop i s)
  edge_at i l e = subst (EdgeBy test) (sym (drop_more s i 0 l)) e

  pub field_at : (f t : List ℕ) (i : ℕ) → f ≡ take i s → t ≡ drop i s → i < length s → NoneBelow i → test (get_or s i 0) ≡ true → IsFieldBy test s f t
  field_at f t i p q l h e = record {
    joined = sym (take-append-drop i s) ∙ ap (λ x. x ++ drop i s) (sym p) ∙ ap (λ x. f ++ x) (sym q);
    plain = subst (All (λ b. test b ≡ false)) (sym p) (plain_before i (omega arith) h);
    edge = subst (EdgeBy test) (sym q) (edge_at i l e);
  }

  pub field_whole : (t : List ℕ) (n : ℕ) → t ≡ [] → length s ≤ n → NoneBelow n → IsFieldBy test s s t
  field_whole t n q l h = record {
    joined = sym (append-nil s) ∙ ap (λ x. s ++ x) (sym q);
    plain = plain_whole n l h;
    edge = subst (EdgeBy test) (sym q) tt;
  }

pub cut_at : (r : Rules) (s : List ℕ) (i : ℕ) → i < length s → separates r (get_or s i 0) ≡ true → IsCut r s (take i s) (drop (i + 1) s)
cut_at r s i l e = record {
  separator = get_or s i 0;
  joined = sym (take-append-drop i s) ∙ ap (λ x. take i s ++ x) (drop_more s i 0 l);
  parts = e;
}

-- a separator inside
pub no_separator_inside : (r : Rules) (before after : List ℕ) (c : ℕ) → separates r c ≡ true → IsPlain r (before ++ c ∷ after) → ⊥
no_separator_inside r [] after c e p = let no = All-head (λ b. separates r b ≡ false) c after p in let never : true ≡ false = sym e ∙ no in cc
no_separator_inside r (b ∷ before) after c e p = no_separator_inside r before after c e (All-tail (λ x. separates r x ≡ false) b (before ++ c ∷ after) p)
