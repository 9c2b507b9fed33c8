use Rattle.std.proofs.Common.{rules, ◌≡◌, ◌∷◌, ◌++◌, []}
use Rattle.list_programs.specs.Items.{IsCutAt}
use Rattle.paths_commands.proofs.lemmas.Commons.{one_found}
use Rattle.paths_commands.proofs.common.paths_in.Goals as goal

pub loop-path-preserved : goal.loop-path-preserved
loop-path-preserved g c =
    let items = c.loop-path.paths.items in
    let cut : IsCutAt 0 c.loop-path.left.now c.in-Some.path.now c.in-Some.after.now = search rules in
    let pushed : c.push.new.self.items ≡ items ++ c.in-Some.path ∷ [] = search rules in
    one_found c.args.held.now c.loop-path.left.now c.in-Some.after.now items c.push.new.self.items c.in-Some.path c.loop-path.invariant cut pushed
