use Rattle.std.proofs.Common.{◌≡◌, ◌∙◌, inr, true, false, sym}
use Rattle.platform_str.specs.Strings.{bytes}
use Rattle.glob_patterns.specs.Letters.{letters_of}
use Rattle.glob_patterns.proofs.lemmas.MixedSets.{of_way}
use Rattle.glob_patterns.proofs.mixed_set.pattern_of.Goals as goal

pub returns-then-is_way : goal.returns-then-is_way
returns-then-is_way g c =
    of_way g.E.Platform.well_formed (letters_of g.E.Platform.units) c.args.way (c.args.options, bytes c.args.text) c.compiled.result (c.is_way.ensures.0 c.if-is_way.true) c.compiled.ensures

pub returns : goal.returns
returns g c =
    let never : false ≡ true → ⊥ = λ f. cc in
    inr (λ e. never (sym c.if-is_way.false ∙ c.is_way.ensures.1 e), c.new-choices.ensures.items)
