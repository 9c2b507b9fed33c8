use Rattle.std.proofs.Common.{◌≡◌, ◌∙◌, true, false, refl, sym, subst}
use Rattle.std.proofs.lemmas.List.{nil_from_length}
use Rattle.wildcards.specs.Match.{Matches}
use Rattle.wildcards.proofs.lemmas.Hits.{first_choice, later_choice, no_choice}
use Rattle.wildcards.proofs.pattern.matches_any.Goals as goal

pub returns-then-matches : goal.returns-then-matches
returns-then-matches g c =
    let path = g.L.Letters.letters c.args.path.now in
    let m = subst (λ ps. Matches c.args.options ps path) c.deref.ensures.value (c.matches.ensures.0 c.if-matches.true) in
    (λ e. c.loop-choice.invariant.1 (first_choice c.args.options path _ _ _ c.in-Some.ensures.cases.0 m), λ m. refl)

pub loop-choice-preserved : goal.loop-choice-preserved
loop-choice-preserved g c =
    let path = g.L.Letters.letters c.args.path.now in
    let no : ¬ (false ≡ true) = λ e. cc in
    let later = later_choice c.args.options path _ _ _ c.in-Some.ensures.cases.0 (λ m. no (sym c.if-matches.false ∙ c.matches.ensures.1 (subst (λ ps. Matches c.args.options ps path) (sym c.deref.ensures.value) m))) in
    (λ m. later.0 (c.loop-choice.invariant.0 m), λ m. c.loop-choice.invariant.1 (later.1 m))

pub returns : goal.returns
returns g c =
    let no : ¬ (false ≡ true) = λ e. cc in
    (λ e. absurd (no e), λ m. absurd (no_choice c.args.options (g.L.Letters.letters c.args.path.now) _ (nil_from_length _ c.in_default.ensures.cases) (c.loop-choice.invariant.0 m)))
