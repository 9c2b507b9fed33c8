-- Paths up to a separator.
use Rattle.std.proofs.Common.{◌≡◌, ◌⊎◌, inl, inr, ℕ, List, [], ◌∷◌, ◌++◌, refl, sym, ap, ◌∙◌, append-nil, append_assoc}
use Rattle.path_rules.specs.declared.rules.Rules.{Rules}
use Rattle.path_rules.specs.Separators.{Edge, IsCut, IsUpTo}

module _ (r : Rules) where
  pub whole : (s : List ℕ) → IsUpTo r s s
  whole s = record { more = []; joined = sym (append-nil s); edge = tt }

  pub shorter_up_to : (s t rest part : List ℕ) → IsUpTo r s t → IsCut r t rest part → IsUpTo r s rest
  shorter_up_to s t rest part f c = record {
    more = c.separator ∷ (part ++ f.more);
    joined = f.joined ∙ ap (λ x. x ++ f.more) c.joined ∙ append_assoc rest (c.separator ∷ part) f.more;
    edge = c.parts;
  }

  -- up to a separator, twice
  pub up_to_again : (s t u : List ℕ) → (t ≡ []) ⊎ IsUpTo r s t → (u ≡ []) ⊎ IsUpTo r t u → (u ≡ []) ⊎ IsUpTo r s u
  up_to_again s t u h (inl n) = inl n
  up_to_again s t [] h (inr f) = inl refl
  up_to_again s t (b ∷ u) (inl n) (inr f) = let never : [] ≡ b ∷ (u ++ f.more) = sym n ∙ f.joined in cc
  up_to_again s t (b ∷ u) (inr g) (inr f) = inr (record {
    more = f.more ++ g.more;
    joined = g.joined ∙ ap (λ x. x ++ g.more) f.joined ∙ append_assoc (b ∷ u) f.more g.more;
    edge = edges f.more g.more f.edge g.edge;
  })
    where
      edges : (x y : List ℕ) → Edge r x → Edge r y → Edge r (x ++ y)
      edges [] y p q = q
      edges (c ∷ x) y p q = p
