use Rattle.std.proofs.Common.{cond, sym, ap, ◌∙◌}
use Rattle.std.proofs.lemmas.Bool.{ne_eqb}
use Rattle.names_commands.specs.PatternFiles.{without_return}
use Rattle.names_commands.proofs.lemmas.PatternFiles.{stripped}
use Rattle.names_commands.proofs.pattern_files.text_of_line.Goals as goal

pub returns-else-end-eq0 : goal.returns-else-end-eq0
returns-else-end-eq0 c =
    let line = c.args.line.now in
    stripped line c.without_return.result.now c.without_return.ensures ∙ ap (λ t. cond t line (without_return line)) (sym (ne_eqb c.args.end 0 c.if-end-eq0.false))
