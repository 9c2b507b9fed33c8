use Rattle.std.proofs.Common.{◌++◌, length, ap, ◌∙◌, arith}
use Rattle.std.specs.Fmt.Cut.{cut_to}
use Rattle.paths_commands.proofs.components.shown.Goals as goal

pub returns : goal.returns
returns c =
    let none = ap length c.new-empty.ensures.text in
    c.and_str.ensures.to_end (omega (arith, none)) ∙ ap (λ before. cut_to 200 (before ++ c.args.text.now)) c.new-empty.ensures.text
