use Rattle.std.proofs.Common.{◌≡◌, [], ◌∷◌, ◌++◌, drop, subst, sym, ap, ◌∙◌}
use Rattle.path_rules.specs.Name.{IsExtension}
use Rattle.osbytes_c.specs.Steps.{part}
use Rattle.osbytes_c.proofs.lemmas.PathSpans.{extension_back, span_back}
use Rattle.osbytes_c.proofs.paths.spans.extension_in.Goals as goal

pub returns-clause-extension : goal.returns-clause-extension
returns-clause-extension c =
    let path = c.args.path.now in
    let i = c.args.start in
    let j = c.args.end in
    let extension = c.in-Some.found.now in
    let is : c.split_at-2.result.1.now ≡ part path i j = c.split_at-2.ensures.back ∙ ap (drop i) c.split_at.ensures.front in
    let named = c.in-Some.ensures in
    let found : IsExtension (part path i j) named.0 extension = subst (λ x. IsExtension x named.0 extension) is named.1 in
    let back = span_back path (named.0 ++ 0x2E ∷ []) extension i j c.requires.0 c.requires.1 (extension_back (part path i j) named.0 extension found) in
    (named.0, subst (IsExtension (part path i j) named.0) (sym back) found)
