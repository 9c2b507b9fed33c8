use Rattle.std.proofs.Common.{◌≡◌, drop, subst, sym, ap, ◌∙◌}
use Rattle.path_rules.specs.Name.{IsStem}
use Rattle.osbytes_c.specs.Steps.{part}
use Rattle.osbytes_c.proofs.lemmas.PathSpans.{stem_front, span_front}
use Rattle.osbytes_c.proofs.paths.spans.stem_in.Goals as goal

pub returns-clause-stem : goal.returns-clause-stem
returns-clause-stem c =
    let path = c.args.path.now in
    let i = c.args.start in
    let j = c.args.end in
    let stem = c.stem.result.now in
    let is : c.split_at-2.result.1.now ≡ part path i j = c.split_at-2.ensures.back ∙ ap (drop i) c.split_at.ensures.front in
    let found : IsStem (part path i j) stem = subst (λ x. IsStem x stem) is c.stem.ensures in
    let front = stem_front (part path i j) stem found in
    subst (IsStem (part path i j)) (sym (span_front path stem front.0 i j c.requires.0 c.requires.1 front.1)) found
