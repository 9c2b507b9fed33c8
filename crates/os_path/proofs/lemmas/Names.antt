-- The parts of a name that is a string are strings.
use Rattle.std.proofs.Common.{inl, inr, ℕ, List, Option, Some, None, MatchOption, sym, subst, lit<}
use Rattle.path_rules.specs.Name.{IsExtension, HasNoExtension, IsStem, IsNamePrefix}
use Rattle.path_rules.specs.declared.rules.Style.{Style}
use Rattle.path_rules.specs.Parent.{HasFileName}
use Rattle.os_path.specs.Names.{HasExtension, LacksExtension}
use Rattle.os_path.proofs.lemmas.Parts.{IsCutAtAscii}

module _ (formed : List ℕ → Type 0) (cut : IsCutAtAscii formed) where
  pub stem_formed : (name stem : List ℕ) → IsStem name stem → formed name → formed stem
  stem_formed name stem (inl h) f = (cut stem h.0 0x2E (lit< tt) (subst formed h.1.joined f)).before
  stem_formed name stem (inr h) f = subst formed (sym h.1) f

  pub extension_formed : (name stem extension : List ℕ) → IsExtension name stem extension → formed name → formed extension
  extension_formed name stem extension h f = (cut stem extension 0x2E (lit< tt) (subst formed h.joined f)).after

  pub prefix_formed : (name prefix : List ℕ) → IsNamePrefix name prefix → formed name → formed prefix
  prefix_formed name prefix (inl h) f = (cut prefix h.0 0x2E (lit< tt) (subst formed h.1.joined f)).before
  prefix_formed name prefix (inr h) f = subst formed (sym h.0) f

-- the extension of the last name, as an option whose strings view sees as bytes
pub extension_last : {X : Type 0} (view : X → List ℕ) (w : Style) (path name : List ℕ) → HasFileName w path name → (r : Option X) → MatchOption r (HasNoExtension name) (λ x. (stem : List ℕ) × IsExtension name stem (view x))
    → MatchOption r (LacksExtension w path) (λ x. HasExtension w path (view x))
extension_last view w path name f (Some x) h = (name, (h.0, (f, h.1)))
extension_last view w path name f None h = inr (name, (f, h))
