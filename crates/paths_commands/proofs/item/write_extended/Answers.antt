use Rattle.std.proofs.Common.{rules, ◌≡◌, sym, subst}
use Rattle.std.specs.Prelude.{Bool}
use Rattle.std.proofs.lemmas.Result.{on_ok_weaker}
use Rattle.path_building.specs.FileName.{IsExtensionSet}
use Rattle.platform_str.specs.Strings.{path_bytes}
use Rattle.paths_commands.specs.Task.{IsExtendedBy}
use Rattle.paths_commands.proofs.item.write_extended.Goals as goal

pub returns-in-Ok-clause-ok : goal.returns-in-Ok-clause-ok
returns-in-Ok-clause-ok g c =
    let path = path_bytes c.args.path in
    let extension = c.args.extension in
    let made = c.in-Ok.made.items in
    let answer = c.deref.result.now in
    let raw : c.as_encoded_bytes-raw.result.now ≡ path = search rules in
    let text : c.as_bytes.result.now ≡ extension.text.now = search rules in
    let bytes : answer ≡ made = search rules in
    let by_text = subst (λ t. (is_set : Bool) × IsExtensionSet extension.style c.as_encoded_bytes-raw.result.now t made is_set) text c.in-Ok.ensures in
    let is : IsExtendedBy extension path made = subst (λ p. IsExtendedBy extension p made) raw by_text in
    on_ok_weaker c.write_answer.result (λ e. (answer, (subst (IsExtendedBy extension path) (sym bytes) is, e))) c.write_answer.ensures.ok
