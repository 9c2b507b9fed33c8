use Rattle.std.proofs.Common.{refl}
use Rattle.path_rules.proofs.lemmas.Strips.{taken_on}
use Rattle.path_rules.specs.Views.{item_of}
use Rattle.path_rules.proofs.stripped.after_base.Goals as goal

pub loop-want-preserved : goal.loop-want-preserved
loop-want-preserved c =
    taken_on c.args.head c.args.base.items c.loop-want.left c.loop-want.wanted.items c.in-Some-first_of.rest c.next.new.self.items (item_of c.in-Some-first_of.have) (item_of c.in-Some.want) c.loop-want.invariant c.in-Some.ensures.steps.0 c.in-Some-first_of.ensures.items c.in-Some-first_of.ensures.takes (c.if-not-are_alike.ensures.0 refl)
