use Rattle.std.proofs.Common.{sym, ◌∙◌}
use Rattle.path_rules.proofs.lemmas.Shared.{left_order, same_order}
use Rattle.path_rules.proofs.by_components.compare_items.Goals as goal

pub returns-in-Some : goal.returns-in-Some
returns-in-Some c =
    c.walk_bodies.ensures ∙ sym (left_order c.args.a c.args.b (c.start_alike.ensures c.if-not-start_alike.false) _ _ c.in-Some.ensures)

pub returns-in-None : goal.returns-in-None
returns-in-None c = sym (same_order c.args.a c.args.b (c.start_alike.ensures c.if-not-start_alike.false) c.in-None.ensures)
