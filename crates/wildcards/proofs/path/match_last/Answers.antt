use Rattle.std.proofs.Common.{◌≡◌, ◌∷◌, ◌++◌, [], ◌∙◌, true, false, ap, sym, append_assoc}
use Rattle.wildcards.specs.declared.piece.Piece.TheVariants.{One}
use Rattle.wildcards.specs.Match.{TakesComponent, FitsComponent}
use Rattle.wildcards.specs.Cuts.{left_components}
use Rattle.wildcards.proofs.lemmas.Wilds.{none_last, last_one, last_alike}
use Rattle.wildcards.proofs.path.match_last.Goals as goal

pub returns-in_default-from : goal.returns-in_default-from
returns-in_default-from g c ps m =
    none_last (TakesComponent c.args.options.literal_leading_dot) (FitsComponent c.args.options.literal_leading_dot) _ _ _ (ap (λ t. ps ++ t) (c.in-Some.ensures.cases.0 ∙ ap (λ t. c.in-Some.before.now ++ t ∷ []) c.in-One.is) ∙ sym (append_assoc ps c.in-Some.before.now (One c.in-One.part ∷ []))) _ (ap (left_components g.L.Letters.letters c.args.options.separators) c.in_default-from.is) ((c.loop-last.invariant.alike ps).0 m)

pub returns-then-not-fits : goal.returns-then-not-fits
returns-then-not-fits g c ps m =
    let no : ¬ (false ≡ true) = λ e. cc in
    no (c.if-not-fits.ensures.1 (last_one (TakesComponent c.args.options.literal_leading_dot) (FitsComponent c.args.options.literal_leading_dot) _ _ _ (ap (λ t. ps ++ t) (c.in-Some.ensures.cases.0 ∙ ap (λ t. c.in-Some.before.now ++ t ∷ []) c.in-One.is) ∙ sym (append_assoc ps c.in-Some.before.now (One c.in-One.part ∷ []))) _ _ _ (ap (left_components g.L.Letters.letters c.args.options.separators) c.in-Some-from.is ∙ c.split_last-in-One.ensures.parts) ((c.loop-last.invariant.alike ps).0 m)).0)

pub loop-last-preserved : goal.loop-last-preserved
loop-last-preserved g c = record {
  alike = λ ps.
      let alike = last_alike (TakesComponent c.args.options.literal_leading_dot) (FitsComponent c.args.options.literal_leading_dot) _ _ _ (ap (λ t. ps ++ t) (c.in-Some.ensures.cases.0 ∙ ap (λ t. c.in-Some.before.now ++ t ∷ []) c.in-One.is) ∙ sym (append_assoc ps c.in-Some.before.now (One c.in-One.part ∷ []))) _ _ _ (ap (left_components g.L.Letters.letters c.args.options.separators) c.in-Some-from.is ∙ c.split_last-in-One.ensures.parts) (c.fits.ensures.0 c.if-not-fits.false) in
      (λ m. alike.0 ((c.loop-last.invariant.alike ps).0 m), λ m. (c.loop-last.invariant.alike ps).1 (alike.1 m));
  formed_left = c.split_last-in-One.ensures.formed.0;
}
