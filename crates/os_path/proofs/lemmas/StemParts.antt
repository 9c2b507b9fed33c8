-- A path with another stem of its last name is well formed.
use Rattle.std.proofs.Common.{◌≡◌, inl, inr, ◌<◌, ℕ, List, [], ◌∷◌, ◌++◌, take, drop, sym, ap, ◌∙◌, subst, append-nil, lit<}
use Rattle.std.proofs.lemmas.List.{append_cancel_left}
use Rattle.wtf8_core.specs.Boundary.{IsBoundary}
use Rattle.wtf8_core.specs.OccurrenceLaws.{OccurrenceLaws}
use Rattle.path_rules.specs.declared.rules.Style.{Style}
use Rattle.path_rules.specs.Component.{Item, Normal}
use Rattle.path_rules.specs.Name.{IsStem}
use Rattle.path_building.specs.FileStem.{IsStemSet}
use Rattle.os_path.specs.Formed.{AreFormed}
use Rattle.os_path.proofs.lemmas.Cuts.{cuts}
use Rattle.os_path.proofs.lemmas.Joined.{around, named_formed}
use Rattle.os_path.proofs.lemmas.NormalParts.{of_items}

last_formed : (formed : List ℕ → Type 0) (xs : List Item) (s : List ℕ) → AreFormed formed (xs ++ Normal s ∷ []) → formed s
last_formed formed [] s f = f.0
last_formed formed (x ∷ xs) s f = last_formed formed xs s f.1

module _ (formed : List ℕ → Type 0) (units : List ℕ → List ℕ) (laws : OccurrenceLaws formed units) (cut_prefix : (b : List ℕ) (i : ℕ) → formed b → IsBoundary b i → formed (take i b)) (cut_suffix : (b : List ℕ) (i : ℕ) → formed b → IsBoundary b i → formed (drop i b)) where
  -- what comes after the stem of a name follows any other stem
  stem_followed : (name own after stem : List ℕ) → IsStem name own → name ≡ own ++ after → formed name → formed stem → formed (stem ++ after)
  stem_followed name own after stem (inl h) e fn fs =
      let is : after ≡ 0x2E ∷ h.0 = append_cancel_left own after (0x2E ∷ h.0) (sym e ∙ h.1.joined) in
      let extension : formed h.0 = (cuts formed cut_prefix cut_suffix own h.0 0x2E (lit< tt) (subst formed h.1.joined fn)).after in
      subst (λ x. formed (stem ++ x)) (sym is) (around formed units laws stem h.0 0x2E (lit< tt) fs extension)
  stem_followed name own after stem (inr h) e fn fs =
      let is : after ≡ [] = append_cancel_left own after [] (sym e ∙ sym h.1 ∙ sym (append-nil own)) in
      subst formed (sym (ap (λ x. stem ++ x) is ∙ append-nil stem)) fs

  pub stem_set_formed : (w : Style) (path stem made : List ℕ) → IsStemSet w path stem made → formed path → formed stem → formed made
  stem_set_formed w path stem made (inr h) fp fs = subst formed (sym h.1) fp
  stem_set_formed w path stem made (inl h) fp fs =
      let name = last_formed formed h.items h.name (of_items formed units laws cut_prefix cut_suffix w path (h.items ++ Normal h.name ∷ []) h.whole fp) in
      named_formed formed units laws (cuts formed cut_prefix cut_suffix) cut_prefix cut_suffix w path (stem ++ h.after) made h.named fp (stem_followed h.name h.own h.after stem h.own_is h.joined name fs)

-- by equal parts
pub stem_set_same : (v w : Style) (p q a b r s : List ℕ) → v ≡ w → p ≡ q → a ≡ b → r ≡ s → IsStemSet v p a r → IsStemSet w q b s
stem_set_same v w p q a b r s e f g h n = subst (λ x. IsStemSet x q b s) e (subst (λ x. IsStemSet v x b s) f (subst (λ x. IsStemSet v p x s) g (subst (IsStemSet v p a) h n)))
