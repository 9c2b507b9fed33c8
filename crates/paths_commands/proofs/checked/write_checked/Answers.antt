use Rattle.std.proofs.Common.{rules, ◌≡◌, ⊎_elim, inl, inr, refl, sym, subst}
use Rattle.std.proofs.lemmas.Result.{on_ok_weaker}
use Rattle.platform_str.specs.Strings.{path_bytes}
use Rattle.path_building.specs.BaseViews.{base_style}
use Rattle.path_building.specs.Faults.{IsNameFault}
use Rattle.paths_commands.specs.Task.{IsJoinedBelow}
use Rattle.paths_commands.proofs.checked.write_checked.Goals as goal

pub returns-in-Ok-clause-ok : goal.returns-in-Ok-clause-ok
returns-in-Ok-clause-ok g c =
    let path = path_bytes c.args.path in
    let raw : c.as_encoded_bytes.result.now ≡ path = search rules in
    let answer = c.deref.result.now in
    let bytes : answer ≡ c.in-Ok.joined.items = search rules in
    let below = subst (λ p. IsJoinedBelow c.args.base c.args.keeps p c.in-Ok.joined.items) raw c.in-Ok.ensures.ok in
    on_ok_weaker c.write_answer.result (λ e. (answer, (subst (IsJoinedBelow c.args.base c.args.keeps path) (sym bytes) below, e))) c.write_answer.ensures.ok

pub returns-in-Err : goal.returns-in-Err
returns-in-Err g c =
    let path = path_bytes c.args.path in
    let error = c.in-Err.error in
    let raw : c.as_encoded_bytes.result.now ≡ path = search rules in
    let fault = subst (λ p. IsNameFault (base_style c.args.base) p error) raw c.in-Err.ensures.err in
    record {
      ok = tt;
      fault = ⊎_elim (λ memory. inl memory) (λ reported. inr (reported.1.0, (reported.1.1.0, (error, ((reported.0, fault), reported.1.1.1))))) c.unjoined.ensures;
      unchanged = refl;
    }
