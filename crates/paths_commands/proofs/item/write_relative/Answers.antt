use Rattle.std.proofs.Common.{rules, ◌≡◌, ◌++◌, ◌∙◌, Some, None, ap, inr, refl, sym, subst}
use Rattle.std.proofs.lemmas.Result.{on_ok_weaker}
use Rattle.std.specs.Option.{option_map}
use Rattle.path_building.specs.Relative.{IsRelativeFrom}
use Rattle.platform_str.specs.Strings.{path_bytes, path_vec_of}
use Rattle.paths_commands.specs.Task.{way_text}
use Rattle.paths_commands.proofs.item.write_relative.Goals as goal

pub returns-in-Ok-Some-clause-ok : goal.returns-in-Ok-Some-clause-ok
returns-in-Ok-Some-clause-ok g c =
    let S = g.E.PathStyle.follows in
    let path = path_bytes c.args.path in
    let base = c.args.base.now in
    let way = c.as_encoded_bytes.result.now in
    let written : c.way_text.result.now ≡ way_text way = c.way_text.ensures in
    let of_base : path_bytes c.new-2.result ≡ base = search rules in
    let bytes : way ≡ (path_vec_of c.in-Ok-Some.way).items = search rules in
    let found = subst (λ o. IsRelativeFrom S path (path_bytes c.new-2.result) (option_map (λ p. (path_vec_of p).items) o)) c.in-Ok-Some.field-0-is c.in-Ok-Some.ensures in
    let from_base = subst (λ b. IsRelativeFrom S path b (Some (path_vec_of c.in-Ok-Some.way).items)) of_base found in
    let leads = subst (λ r. IsRelativeFrom S path base (Some r)) (sym bytes) from_base in
    on_ok_weaker c.write_answer.result (λ e. (way, (leads, e ∙ ap (λ w. c.args.output.now.items ++ w) written))) c.write_answer.ensures.ok

pub returns-in-Ok-None-clause-fault : goal.returns-in-Ok-None-clause-fault
returns-in-Ok-None-clause-fault g c =
    let S = g.E.PathStyle.follows in
    let path = path_bytes c.args.path in
    let base = c.args.base.now in
    let of_base : path_bytes c.new-2.result ≡ base = search rules in
    let none = subst (λ o. IsRelativeFrom S path (path_bytes c.new-2.result) (option_map (λ p. (path_vec_of p).items) o)) c.in-Ok-None.field-0-is c.in-Ok-None.ensures in
    inr (refl, subst (λ b. IsRelativeFrom S path b None) of_base none)
