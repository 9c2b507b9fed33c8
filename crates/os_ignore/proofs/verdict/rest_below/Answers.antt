use Rattle.std.proofs.Common.{sym, subst, ◌∙◌}
use Rattle.os_ignore.specs.Verdicts.{IsBelow}
use Rattle.os_ignore.proofs.lemmas.Links.{whole_rest, cut_size, cut_rest}
use Rattle.os_ignore.proofs.lemmas.Rests.{empty, not_empty}
use Rattle.os_ignore.proofs.verdict.rest_below.Goals as goal

pub returns-then-is_empty : goal.returns-then-is_empty
returns-then-is_empty c = whole_rest c.args.directory.now c.args.path.now (empty c.args.directory.now (sym c.is_empty.ensures ∙ c.if-is_empty.true))

pub split_at-requires : goal.split_at-requires
split_at-requires c = cut_size c.args.directory.now c.args.path.now (not_empty c.args.directory.now (sym c.is_empty.ensures ∙ c.if-is_empty.false)) c.requires

pub returns-else-is_empty : goal.returns-else-is_empty
returns-else-is_empty c = subst (IsBelow c.args.directory.now c.args.path.now) (sym c.split_at.ensures.back) (cut_rest c.args.directory.now c.args.path.now (not_empty c.args.directory.now (sym c.is_empty.ensures ∙ c.if-is_empty.false)) c.requires)
