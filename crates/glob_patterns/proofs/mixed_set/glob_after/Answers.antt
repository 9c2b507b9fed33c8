use Rattle.std.proofs.Common.{◌∷◌, ◌+◌, map, drop, sym, ap, ◌∙◌}
use Rattle.std.proofs.lemmas.List.{drop-map, drop_more}
use Rattle.glob_patterns.specs.MixedSets.{glob_of}
use Rattle.glob_patterns.proofs.mixed_set.glob_after.Goals as goal

pub returns-then-index-globs-clause-first : goal.returns-then-index-globs-clause-first
returns-then-index-globs-clause-first g c =
    let globs = c.args.globs.now in
    let index = c.args.index in
    let glob = c.index-globs-index.result in
    drop-map glob_of index globs
    ∙ ap (map glob_of) (drop_more globs index glob c.if-index-globs.true)
    ∙ ap (λ w. glob_of w ∷ map glob_of (drop (index + 1) globs)) (sym c.index-globs-index.is)
    ∙ ap (λ x. glob_of glob ∷ x) (sym (drop-map glob_of (index + 1) globs))
