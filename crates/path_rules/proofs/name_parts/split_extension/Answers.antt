use Rattle.std.proofs.Common.{◌-◌, refl, arith}
use Rattle.std.proofs.lemmas.List.{take_rest}
use Rattle.path_rules.proofs.lemmas.Dots.{extension_at, none_extension}
use Rattle.path_rules.proofs.name_parts.split_extension.Goals as goal

pub returns-then-name-at-eq46 : goal.returns-then-name-at-eq46
returns-then-name-at-eq46 c =
    let i = c.loop-at.at - 1 in
    extension_at c.args.name.now _ _ i c.loop-at.at (omega arith) (omega arith) (omega arith) refl (take_rest c.args.name.now c.loop-at.at) c.if-name-at-eq46.true c.loop-at.invariant.no_dot c.loop-at.invariant.other

pub returns : goal.returns
returns c = λ stem extension e. none_extension c.args.name.now c.loop-at.at (omega arith) c.loop-at.invariant.no_dot stem extension e
