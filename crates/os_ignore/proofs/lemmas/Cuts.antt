-- A path is cut at a separator.
use Rattle.std.proofs.Common.{◌≡◌, nat_eq, ◌<◌, ◌≤◌, ◌+◌, ℕ, true, false, List, [], ◌++◌, ◌∷◌, length, take, drop, get_or, refl, sym, ap, ◌∙◌, subst, arith, eq-eqb, take-append-drop, length-drop}
use Rattle.std.proofs.lemmas.List.{drop_more, get_or-take, get_or-drop, length-take-le}
use Rattle.std.proofs.lemmas.List.Elements.{All-from_get_or, All-head, All-tail}
use Rattle.os_ignore.specs.Components.{IsPlain, IsCut}

module _ (separator : ℕ) (s : List ℕ) where
  -- up to i, and from i on, no byte separates
  abbrev pub NoneBelow : ℕ → Type 0
  NoneBelow i = (k : ℕ) → k < i → nat_eq (get_or s k 0) separator ≡ false

  abbrev pub NoneFrom : ℕ → Type 0
  NoneFrom i = (k : ℕ) → i ≤ k → k < length s → nat_eq (get_or s k 0) separator ≡ false

  pub plain_whole : (n : ℕ) → length s ≤ n → NoneBelow n → IsPlain separator s
  plain_whole n l h = All-from_get_or (λ b. nat_eq b separator ≡ false) s 0 (λ k g. h k (omega arith))

  pub plain_from_start : NoneFrom 0 → IsPlain separator s
  plain_from_start h = All-from_get_or (λ b. nat_eq b separator ≡ false) s 0 (λ k g. h k (omega arith) g)

  pub plain_front : (i : ℕ) → i ≤ length s → NoneBelow i → IsPlain separator (take i s)
  plain_front i l h =
      All-from_get_or (λ b. nat_eq b separator ≡ false) (take i s) 0 (λ k g.
      let below : k < i = omega (arith, length-take-le i s l) in
      ap (λ b. nat_eq b separator) (get_or-take i s k 0 below) ∙ h k below)

  pub plain_back : (i : ℕ) → NoneFrom i → IsPlain separator (drop i s)
  plain_back i h =
      All-from_get_or (λ b. nat_eq b separator ≡ false) (drop i s) 0 (λ k g.
      ap (λ b. nat_eq b separator) (get_or-drop i s k 0) ∙ h (i + k) (omega arith) (omega (arith, length-drop i s)))

  pub cut_at : (i : ℕ) → i < length s → get_or s i 0 ≡ separator → IsCut separator s (take i s) (drop (i + 1) s)
  cut_at i l e = sym (take-append-drop i s) ∙ ap (λ x. take i s ++ x) (drop_more s i 0 l ∙ ap (λ z. z ∷ drop (i + 1) s) e)

-- a list with a separator has one
pub not_plain : (separator : ℕ) (front back : List ℕ) → IsPlain separator (front ++ separator ∷ back) → ⊥
not_plain c [] back h =
    let never : false ≡ true = sym (All-head (λ b. nat_eq b c ≡ false) c back h) ∙ eq-eqb c c refl in
    absurd cc
not_plain c (x ∷ front) back h = not_plain c front back (All-tail (λ b. nat_eq b c ≡ false) x (front ++ c ∷ back) h)

-- what comes before the first separator is one
pub same_front : (separator : ℕ) (f b g d : List ℕ) → f ++ separator ∷ b ≡ g ++ separator ∷ d → IsPlain separator f → IsPlain separator g → f ≡ g
same_front c [] b [] d e p q = refl
same_front c [] b (y ∷ g) d e p q = let same : y ≡ c = cc in absurd (not_plain c [] g (subst (λ z. IsPlain c (z ∷ g)) same q))
same_front c (x ∷ f) b [] d e p q = let same : x ≡ c = cc in absurd (not_plain c [] f (subst (λ z. IsPlain c (z ∷ f)) same p))
same_front c (x ∷ f) b (y ∷ g) d e p q =
    let head : x ≡ y = cc in
    let tail : f ++ c ∷ b ≡ g ++ c ∷ d = cc in
    ap (λ z. z ∷ f) head ∙ ap (λ z. y ∷ z) (same_front c f b g d tail (All-tail (λ b. nat_eq b c ≡ false) x f p) (All-tail (λ b. nat_eq b c ≡ false) y g q))

-- and what comes after the last
pub same_back : (separator : ℕ) (f b g d : List ℕ) → f ++ separator ∷ b ≡ g ++ separator ∷ d → IsPlain separator b → IsPlain separator d → b ≡ d
same_back c [] b [] d e p q = cc
same_back c [] b (y ∷ g) d e p q = let tail : b ≡ g ++ c ∷ d = cc in absurd (not_plain c g d (subst (IsPlain c) tail p))
same_back c (x ∷ f) b [] d e p q = let tail : f ++ c ∷ b ≡ d = cc in absurd (not_plain c f b (subst (IsPlain c) (sym tail) q))
same_back c (x ∷ f) b (y ∷ g) d e p q = let tail : f ++ c ∷ b ≡ g ++ c ∷ d = cc in same_back c f b g d tail p q
