use Rattle.std.proofs.Common.{rules, ◌≡◌, inr, [], length, refl, sym, append-nil}
use Rattle.platform_str.specs.Strings.{path_bytes}
use Rattle.paths_commands.proofs.lemmas.Ended.{cut_on, ended_on, taken_on}
use Rattle.paths_commands.proofs.item.write_path.Goals as goal

pub returns-then-is_left_out-clause-ok : goal.returns-then-is_left_out-clause-ok
returns-then-is_left_out-clause-ok g c = ([], (inr (inr (c.is_left_out.ensures.yes c.if-is_left_out.true, refl)), sym (append-nil c.args.output.now.items)))

pub returns-in_default : goal.returns-in_default
returns-in_default g c =
    let P = g.E.Platform in
    let S = g.E.PathStyle.follows in
    let task = c.args.task in
    let path = path_bytes c.args.path in
    let call = c.end_result in
    let start = c.len-start.result in
    let old = c.args.output.now.items in
    let mid = c.write_result.new.output.items in
    let new = call.new.output.items in
    let count : start ≡ length old = search rules in record {
      ok = ended_on P S c.args.end task path call.result start old mid new c.in_default.not-Components count c.in-Ok.ensures.ok call.ensures.lacks call.ensures.ok;
      fault = cut_on P S c.args.end task path call.result start old mid c.in_default.not-Components count c.in-Ok.ensures.ok call.ensures.fault;
      unchanged = taken_on P S c.args.end task path call.result start old mid new count c.in-Ok.ensures.ok call.ensures.taken;
    }
