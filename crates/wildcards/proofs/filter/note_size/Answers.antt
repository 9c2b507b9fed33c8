use Rattle.std.proofs.Common.{sym, subst}
use Rattle.wildcards.specs.Sets.{Has}
use Rattle.wildcards.proofs.lemmas.Found.{has_more, has_pushed}
use Rattle.wildcards.proofs.filter.note_size.Goals as goal

pub returns-in_ok-push-clause-noted : goal.returns-in_ok-push-clause-noted
returns-in_ok-push-clause-noted g c = subst (λ z. Has z c.args.size) (sym c.in_ok-push.ensures.items) (has_pushed c.args.sizes.now.items c.args.size)

pub returns-in_ok-push-clause-kept : goal.returns-in_ok-push-clause-kept
returns-in_ok-push-clause-kept g c n h = subst (λ z. Has z n) (sym c.in_ok-push.ensures.items) (has_more c.args.sizes.now.items c.args.size n h)
