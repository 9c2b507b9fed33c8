use Rattle.std.proofs.Common.{◌≡◌, true, false, ◌∙◌, ap, sym, refl}
use Rattle.std.proofs.lemmas.Bool.{eqb-true}
use Rattle.std.proofs.lemmas.List.{nil_from_length}
use Rattle.wildcards.specs.Match.{TakesComponent, FitsComponent}
use Rattle.wildcards.specs.Cuts.{left_components}
use Rattle.wildcards.proofs.lemmas.Fitting.{by_components}
use Rattle.wildcards.proofs.lemmas.Fitting.{none_hidden}
use Rattle.wildcards.proofs.lemmas.Wilds.{takes_rest, all_after, next_many, next_place, none_after, stopped}
use Rattle.wildcards.proofs.path.is_after_many.Goals as goal

pub returns-in-All : goal.returns-in-All
returns-in-All g c = (λ e. all_after (TakesComponent c.args.options.literal_leading_dot) (FitsComponent c.args.options.literal_leading_dot) (by_components c.args.options.literal_leading_dot) _ _ _ _ c.loop-left.invariant.0 c.in-All.ensures, λ m. refl)

pub loop-left-preserved-in-Many : goal.loop-left-preserved-in-Many
loop-left-preserved-in-Many g c = (next_many (TakesComponent c.args.options.literal_leading_dot) (FitsComponent c.args.options.literal_leading_dot) (by_components c.args.options.literal_leading_dot) _ _ _ _ c.loop-left.invariant.0 _ _ c.in-Many.ensures.0, c.in-Many.ensures.1.1)

pub returns-in_default : goal.returns-in_default
returns-in_default g c =
    let no : ¬ (false ≡ true) = λ e. cc in
    (λ e. absurd (no e), λ m. absurd (none_after (TakesComponent c.args.options.literal_leading_dot) (FitsComponent c.args.options.literal_leading_dot) (by_components c.args.options.literal_leading_dot) _ _ _ _ c.loop-left.invariant.0 c.in-Differs.ensures (ap (left_components g.L.Letters.letters c.args.options.separators) c.in_default.is) m))

pub returns-then-is_hidden : goal.returns-then-is_hidden
returns-then-is_hidden g c =
    let no : ¬ (false ≡ true) = λ e. cc in
    (λ e. absurd (no e), λ m. absurd (stopped (TakesComponent c.args.options.literal_leading_dot) (FitsComponent c.args.options.literal_leading_dot) (by_components c.args.options.literal_leading_dot) _ _ _ _ c.loop-left.invariant.0 c.in-Differs.ensures _ _ (ap (left_components g.L.Letters.letters c.args.options.separators) c.in-Some.is ∙ c.split_first.ensures.parts) (λ t. no (sym t ∙ (sym c.is_hidden.ensures ∙ c.if-is_hidden.true))) m))

pub loop-left-preserved : goal.loop-left-preserved
loop-left-preserved g c =
    (next_place (TakesComponent c.args.options.literal_leading_dot) (FitsComponent c.args.options.literal_leading_dot) (by_components c.args.options.literal_leading_dot) _ _ _ _ c.loop-left.invariant.0 c.in-Differs.ensures _ _ (ap (left_components g.L.Letters.letters c.args.options.separators) c.in-Some.is ∙ c.split_first.ensures.parts) (sym c.is_hidden.ensures ∙ c.if-is_hidden.false), c.split_first.ensures.formed.1)

pub returns-then-not-options : goal.returns-then-not-options
returns-then-not-options g c =
    (λ e. c.loop-left.invariant.0.alike.1 (takes_rest (TakesComponent c.args.options.literal_leading_dot) (FitsComponent c.args.options.literal_leading_dot) (none_hidden c.args.options.literal_leading_dot c.if-not-options.true) _ _ (nil_from_length _ (eqb-true _ _ (sym c.is_empty.ensures ∙ c.if-is_empty.true)))), λ m. refl)
