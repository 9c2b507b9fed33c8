use Rattle.std.proofs.Common.{refl, subst, sym}
use Rattle.wildcards.specs.declared.piece.Item.TheVariants.{OneOf}
use Rattle.wildcards.specs.Classes.{IsItemClone}
use Rattle.wildcards.proofs.piece.ItemClone.clone.Goals as goal

pub returns-in_ok-clone-in-OneOf : goal.returns-in_ok-clone-in-OneOf
returns-in_ok-clone-in-OneOf g c =
    let clone = c.in_ok-clone-in-OneOf.field-0 in
    record { cases = subst (λ z. IsItemClone z (OneOf clone)) (sym c.in-OneOf.is) (clone, refl, c.in_ok-clone-in-OneOf.ensures.cases) }
