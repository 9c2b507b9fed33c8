use Rattle.std.proofs.Common.{arith, sym, ◌∙◌}
use Rattle.path_rules.proofs.lemmas.Trims.{trimmed_at, trimmed_none}
use Rattle.path_rules.proofs.trailing.trimmed_of.Goals as goal

pub returns-else-is_separator : goal.returns-else-is_separator
returns-else-is_separator c = trimmed_at c.args.rules c.args.path.now c.loop-at.at (omega arith) c.loop-at.invariant.inside (sym c.is_separator.ensures ∙ c.if-is_separator.false) c.loop-at.invariant.all

pub returns : goal.returns
returns c = trimmed_none c.args.rules c.args.path.now c.as_slice.result.now c.as_slice.ensures (λ k low high. c.loop-at.invariant.all k (omega arith) high)
