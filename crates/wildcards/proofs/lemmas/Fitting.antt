-- What fits takes nothing that its wildcard doesn't take.
use Rattle.std.proofs.Common.{ℕ, Bool, true, false, not, nat_eq, ◌≡◌, List, [], ◌∷◌, refl, sym, ◌∙◌, subst}
use Rattle.wildcards.specs.declared.piece.Piece.{Piece}
use Rattle.wildcards.specs.declared.piece.Piece.TheVariants.{Many, One}
use Rattle.wildcards.specs.declared.piece.Item.{Item}
use Rattle.wildcards.specs.declared.piece.Item.TheVariants.{Any, Literal, EitherCase, OneOf}
use Rattle.wildcards.specs.declared.part.Part.{Part}
use Rattle.wildcards.specs.Components.{is_hidden}
use Rattle.wildcards.specs.Match.{Fits, TakesLetter, begins_with_dot, TakesComponent, FitsComponent}
use Rattle.wildcards.specs.Wild.{Wild}

pub none_hidden : (dot : Bool) → not dot ≡ true → (a : List ℕ) → TakesComponent dot a
none_hidden false e a = refl
none_hidden true e a = let never : false ≡ true = e in cc

pub letter_taken : (a : ℕ) → TakesLetter a
letter_taken a = tt

module _ {A : Type 0} where
  -- any letter is taken
  pub by_letters : (x : Item A) (a b : ℕ) → Fits x a → TakesLetter a → Fits x b → TakesLetter b
  by_letters x a b f t g = tt

  -- a part that fits a component that isn't hidden fits none that is
  pub by_components : (dot : Bool) (x : Part A) (a b : List ℕ) → FitsComponent dot x a → TakesComponent dot a → FitsComponent dot x b → TakesComponent dot b
  by_components false x a b f t g = refl
  by_components true x a b f t g = go (is_hidden true b) refl
    where
      starts : (ps : List (Piece (Item A))) (c : List ℕ) → begins_with_dot ps ≡ true → Wild TakesLetter Fits ps c → is_hidden true c ≡ true
      starts [] c e m = let never : false ≡ true = e in cc
      starts (Many ∷ ps) c e m = let never : false ≡ true = e in cc
      starts (One Any ∷ ps) c e m = let never : false ≡ true = e in cc
      starts (One (EitherCase small) ∷ ps) c e m = let never : false ≡ true = e in cc
      starts (One (OneOf class) ∷ ps) c e m = let never : false ≡ true = e in cc
      starts (One (Literal d) ∷ ps) c e m = subst (λ z. is_hidden true z ≡ true) (sym m.joined) (subst (λ z. nat_eq z 0x2E ≡ true) m.fits e)

      go : (v : Bool) → is_hidden true b ≡ v → is_hidden true b ≡ false
      go false e = e
      go true e = let never : true ≡ false = sym (starts x.pieces.items a (g.1 e) f.0) ∙ t in cc
