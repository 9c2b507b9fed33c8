use Rattle.std.proofs.Common.{◌∷◌, ◌+◌, drop, map, sym, ap, ◌∙◌}
use Rattle.std.proofs.lemmas.List.{drop-map, drop_more}
use Rattle.names_commands.specs.PatternFiles.{pattern_line}
use Rattle.names_commands.proofs.pattern_files.pattern_at.Goals as goal

pub returns : goal.returns
returns g c =
    let patterns = c.args.patterns.now in
    let index = c.args.index in
    let pattern = c.index-patterns-index.result in
    drop-map pattern_line index patterns
    ∙ ap (map pattern_line) (drop_more patterns index pattern c.requires)
    ∙ ap (λ x. pattern_line x ∷ map pattern_line (drop (index + 1) patterns)) (sym c.index-patterns-index.is)
    ∙ ap (λ x. pattern_line pattern ∷ x) (sym (drop-map pattern_line (index + 1) patterns))
