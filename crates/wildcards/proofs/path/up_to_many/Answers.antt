use Rattle.std.proofs.Common.{◌∷◌, ◌∙◌, ap, sym, arith}
use Rattle.std.proofs.lemmas.List.{nil_from_length}
use Rattle.wildcards.specs.Match.{TakesComponent, FitsComponent}
use Rattle.wildcards.specs.Cuts.{left_components, left_size}
use Rattle.wildcards.proofs.lemmas.Fitting.{by_components}
use Rattle.wildcards.proofs.lemmas.Parts.{some_component}
use Rattle.wildcards.proofs.lemmas.Wilds.{to_many, one_more, differs, left_over}
use Rattle.wildcards.proofs.path.up_to_many.Goals as goal

pub returns-in-Many : goal.returns-in-Many
returns-in-Many g c =
    (to_many (TakesComponent c.args.options.literal_leading_dot) (FitsComponent c.args.options.literal_leading_dot) (by_components c.args.options.literal_leading_dot) _ _ _ _ c.loop-first.invariant.0 _ (c.in-Some.ensures.cases.0 ∙ ap (λ t. t ∷ c.in-Some.rest.now) c.in-Many.is), c.loop-first.invariant.1)

pub loop-first-preserved : goal.loop-first-preserved
loop-first-preserved g c =
    let dot = c.args.options.literal_leading_dot in
    let same = ap left_size c.in-Some-from.is in
    let h = c.loop-first.invariant.1.0 in
    let k = c.in-Some-strip_first.ensures.shorter in (
      one_more (TakesComponent dot) (FitsComponent dot) (by_components dot) _ _ _ _ c.loop-first.invariant.0 _ _ (c.in-Some.ensures.cases.0 ∙ ap (λ t. t ∷ c.in-Some.rest.now) c.in-One.is) _ _ (ap (left_components g.L.Letters.letters c.args.options.separators) c.in-Some-from.is ∙ c.in-Some-strip_first.ensures.parts) c.in-Some-strip_first.ensures.fits,
      (omega (arith, same, h, k), c.in-Some-strip_first.ensures.formed_left),
    )

pub returns-in_default-strip_first : goal.returns-in_default-strip_first
returns-in_default-strip_first g c =
    let dot = c.args.options.literal_leading_dot in
    let other = c.in_default-strip_first.ensures in
    differs (TakesComponent dot) (FitsComponent dot) (by_components dot) _ _ _ _ c.loop-first.invariant.0 _ _ (c.in-Some.ensures.cases.0 ∙ ap (λ t. t ∷ c.in-Some.rest.now) c.in-One.is) _ _ (ap (left_components g.L.Letters.letters c.args.options.separators) c.in-Some-from.is ∙ other.parts) other.differs

pub returns-in-Some-from-2 : goal.returns-in-Some-from-2
returns-in-Some-from-2 g c =
    left_over (TakesComponent c.args.options.literal_leading_dot) (FitsComponent c.args.options.literal_leading_dot) (by_components c.args.options.literal_leading_dot) _ _ _ _ c.loop-first.invariant.0 (nil_from_length _ c.in_default.ensures.cases) (λ e. some_component c.args.options.separators (g.L.Letters.letters c.in-Some-from-2.field-0.now) (sym (ap (left_components g.L.Letters.letters c.args.options.separators) c.in-Some-from-2.is) ∙ e))
