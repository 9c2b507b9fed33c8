use Rattle.std.proofs.Common.{◌≡◌, ◌∷◌, ◌++◌, [], ◌∙◌, true, false, not, ap, sym, subst}
use Rattle.wildcards.specs.Match.{Fits}
use Rattle.wildcards.proofs.lemmas.Readings.{last_ascii}
use Rattle.wildcards.proofs.run.ends_otherwise.Goals as goal

pub returns-then-byte-lt128 : goal.returns-then-byte-lt128
returns-then-byte-lt128 g c e =
    let no : ¬ (false ≡ true) = λ e. cc in
    let last = c.in-Some-One-default in
    let read = last_ascii g.L.Letters.formed g.L.Letters.letters g.met.L.Letters.laws _ _ _ c.if-byte-lt128.true c.in-Some.ensures.cases.0 c.requires in
    record {
      pieces = last.field-0-1.now;
      item = last.item;
      pieces_are = last.ensures.cases.0 ∙ ap (λ t. last.field-0-1.now ++ t ∷ []) last.field-0-0-is;
      start = _;
      letter = _;
      letters_are = read.1;
      differs = λ f. no (sym (ap not (c.fits.ensures.1 (subst (Fits last.item) (sym c.from.ensures) f))) ∙ e);
    }
