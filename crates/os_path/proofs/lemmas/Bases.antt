-- The rules of a base are those of its platform.
use Rattle.std.proofs.Common.{◌≡◌, refl}
use Rattle.std.proofs.Math.Logic.{∥∥₁_elim}
use Rattle.std.proofs.Props.{props}
use Rattle.path_rules.specs.declared.rules.Style.{Style}
use Rattle.path_rules.specs.declared.rules.Style.TheVariants.{Unix, Windows}

never : {A : Type 0} → ∥ A ∥₁ → ¬ A → ⊥
never e f = ∥∥₁_elim e (Prim.hlevel props) f

apart : Unix ≡ Windows → ⊥
apart e = cc

apart_too : Windows ≡ Unix → ⊥
apart_too e = cc

pub one_style : (x y : Style) → ∥ x ≡ y ∥₁ → x ≡ y
one_style Unix Unix e = refl
one_style Unix Windows e = absurd (never e apart)
one_style Windows Unix e = absurd (never e apart_too)
one_style Windows Windows e = refl
