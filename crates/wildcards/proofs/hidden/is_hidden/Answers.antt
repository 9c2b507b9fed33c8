use Rattle.std.proofs.Common.{◌∙◌, true, sym, ap}
use Rattle.wildcards.specs.Components.{is_hidden}
use Rattle.wildcards.proofs.lemmas.Readings.{hidden_alike}
use Rattle.wildcards.proofs.hidden.is_hidden.Goals as goal

pub returns-in-Some : goal.returns-in-Some
returns-in-Some g c =
    ap (is_hidden true) (sym c.in-Some.ensures.cases.0)
    ∙ sym (hidden_alike g.L.Letters.formed g.L.Letters.letters g.met.L.Letters.laws true c.args.component.now c.requires)
    ∙ ap (λ d. is_hidden d (g.L.Letters.letters c.args.component.now)) (sym c.if-dot.true)
