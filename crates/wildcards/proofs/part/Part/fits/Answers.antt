use Rattle.std.proofs.Common.{◌≡◌, ◌∙◌, true, ap, sym}
use Rattle.wildcards.specs.Literals.{spells_some}
use Rattle.wildcards.proofs.lemmas.Literals.{literal_fits, bytes_alike}
use Rattle.wildcards.proofs.part.Part.fits.Goals as goal

pub returns-in-Some : goal.returns-in-Some
returns-in-Some g c =
    let is : spells_some c.args.self.now.pieces.items c.args.self.now.literal ≡ true = c.args.self.now.text in
    let both = literal_fits _ g.L.Letters.formed g.L.Letters.letters g.met.L.Letters.laws c.args.dot c.args.self.now.pieces.items c.in-Some.text.items c.args.component.now (ap (spells_some c.args.self.now.pieces.items) (sym c.in-Some.is) ∙ is) c.requires in
    let alike = bytes_alike c.args.component.now c.as_slice.result.now in (
      λ e. both.0 (alike.0 (sym c.eq.ensures ∙ e) ∙ c.as_slice.ensures.value),
      λ m. c.eq.ensures ∙ alike.1 (both.1 m ∙ sym c.as_slice.ensures.value),
    )
