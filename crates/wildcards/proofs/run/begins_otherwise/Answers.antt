use Rattle.std.proofs.Common.{◌≡◌, ◌∷◌, ◌∙◌, true, false, not, ap, sym, subst}
use Rattle.wildcards.specs.Match.{Fits}
use Rattle.wildcards.proofs.lemmas.Readings.{first_ascii}
use Rattle.wildcards.proofs.run.begins_otherwise.Goals as goal

pub returns-then-byte-lt128 : goal.returns-then-byte-lt128
returns-then-byte-lt128 g c e =
    let no : ¬ (false ≡ true) = λ e. cc in
    let first = c.in-Some-One-default in
    let read = first_ascii g.L.Letters.formed g.L.Letters.letters g.met.L.Letters.laws _ _ _ c.if-byte-lt128.true c.in-Some.ensures.cases.0 c.requires in
    record {
      item = first.item;
      pieces = first.field-0-1.now;
      pieces_are = first.ensures.cases.0 ∙ ap (λ t. t ∷ first.field-0-1.now) first.field-0-0-is;
      letter = _;
      rest = _;
      letters_are = read.1;
      differs = λ f. no (sym (ap not (c.fits.ensures.1 (subst (Fits first.item) (sym c.from.ensures) f))) ∙ e);
    }
