use Rattle.std.proofs.Common.{map, sym, subst}
use Rattle.path_rules.specs.StyleRules.{rules_of_style}
use Rattle.path_rules.specs.Views.{item_of}
use Rattle.path_building.specs.Spelled.{AreSpelled}
use Rattle.path_building.specs.Checked.{NameNoStream}
use Rattle.path_building.proofs.checked.names_after.Goals as goal

pub names_below-requires-clause-spelled : goal.names_below-requires-clause-spelled
names_below-requires-clause-spelled g c = subst (λ w. AreSpelled (rules_of_style w) (map item_of c.args.names.now)) (sym c.new.ensures.style) c.requires.spelled

pub names_below-requires-clause-streams : goal.names_below-requires-clause-streams
names_below-requires-clause-streams g c = subst (λ w. NameNoStream w (map item_of c.args.names.now)) (sym c.new.ensures.style) c.requires.streams

pub names_below-requires-clause-no_alone : goal.names_below-requires-clause-no_alone
names_below-requires-clause-no_alone g c = rw (c.new.ensures.style, c.new.ensures.whole) c.requires.no_alone

pub returns : goal.returns
returns g c = rw (← c.new.ensures.style, ← c.new.ensures.whole) c.names_below.ensures
