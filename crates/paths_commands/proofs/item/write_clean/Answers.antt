use Rattle.std.proofs.Common.{rules, ◌≡◌, sym, subst}
use Rattle.std.proofs.lemmas.Result.{on_ok_weaker}
use Rattle.path_building.specs.Cleaned.{IsCleaned}
use Rattle.platform_str.specs.Strings.{path_bytes, path_vec_of}
use Rattle.paths_commands.proofs.item.write_clean.Goals as goal

pub returns-clause-ok : goal.returns-clause-ok
returns-clause-ok g c =
    let answer = c.as_encoded_bytes.result.now in
    let bytes : answer ≡ (path_vec_of c.in_ok-clean.clean).items = search rules in
    let is = subst (IsCleaned g.E.PathStyle.follows (path_bytes c.args.path)) (sym bytes) c.in_ok-clean.ensures in
    on_ok_weaker c.write_answer.result (λ e. (answer, (is, e))) c.write_answer.ensures.ok
