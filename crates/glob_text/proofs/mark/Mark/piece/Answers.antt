use Rattle.std.proofs.Common.{◌∙◌, ap, refl, subst, sym}
use Rattle.wildcards.specs.declared.piece.Item.TheVariants.{OneOf}
use Rattle.wildcards.specs.declared.piece.Piece.TheVariants.{One}
use Rattle.wildcards.specs.Ranges.{permits}
use Rattle.glob_text.specs.Marks.{mark_of}
use Rattle.glob_text.specs.Parts.{IsPieceOf}
use Rattle.glob_text.proofs.mark.Mark.piece.Goals as goal

pub returns-in_ok-class-in-OneOf : goal.returns-in_ok-class-in-OneOf
returns-in_ok-class-in-OneOf g c =
    subst (λ m. IsPieceOf m (One (OneOf c.in_ok-class-in-OneOf.class))) (sym (ap mark_of c.in-OneOf.is))
    (c.in_ok-class-in-OneOf.class, refl, λ letter. c.in_ok-class-in-OneOf.ensures letter ∙ ap (λ z. permits c.in-OneOf.members.negated z letter) (c.in_ok-ranges-in-OneOf.ensures.items ∙ c.deref.ensures.value))
