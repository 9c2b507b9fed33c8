use Rattle.std.proofs.Common.{◌≡◌, ◌∙◌, true, ap, sym, subst}
use Rattle.wildcards.specs.Literals.{spells, spells_some}
use Rattle.wildcards.specs.Cuts.{IsPlain}
use Rattle.wildcards.proofs.lemmas.Beginnings.{text_says}
use Rattle.wildcards.specs.Ends.{BeginsOtherwise}
use Rattle.wildcards.proofs.lemmas.Ends.{first_differs}
use Rattle.wildcards.proofs.part.Part.strip_first.Goals as goal

pub returns-in-Some : goal.returns-in-Some
returns-in-Some g c =
    let own = c.args.self.now in
    let text = c.in-Some.text in
    let is : spells own.pieces.items text.items ≡ true = ap (spells_some own.pieces.items) (sym c.in-Some.is) ∙ own.text in
    let same = c.deref.ensures.value in
    text_says g.L.Letters.formed g.L.Letters.letters g.met.L.Letters.laws c.args.options own c.args.path.now c.deref.result.now
    (subst (λ z. spells own.pieces.items z ≡ true) (sym same) is)
    (subst (IsPlain c.args.options.separators) (sym same) (own.plain text c.in-Some.is c.args.options.separators))
    c.requires c.strip_text.result c.strip_text.ensures.begins c.strip_text.ensures.shorter

pub returns-then-begins_otherwise : goal.returns-then-begins_otherwise
returns-then-begins_otherwise g c =
    let path = g.L.Letters.letters c.args.path.now in
    first_differs g.L.Letters.formed g.L.Letters.letters c.args.options c.args.self.now c.args.path.now
    (subst (λ z. BeginsOtherwise z path) c.deref-2.ensures.value (c.begins_otherwise.ensures c.if-begins_otherwise.true))
