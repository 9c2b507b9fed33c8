use Rattle.std.proofs.Common.{◌≡◌, ◌++◌, ap, rules, subst, sym}
use Rattle.std.specs.Prelude.{string_bytes}
use Rattle.std.specs.Str.{IsUtf8}
use Rattle.std.specs.Str.Iter.{chars_rest}
use Rattle.std.proofs.lemmas.List.{nil_from_length}
use Rattle.names_commands.specs.Caret.{spaces_below}
use Rattle.names_commands.proofs.lemmas.Wide.{after_character, after_one, at_end}
use Rattle.names_commands.proofs.caret.push_spaces.Goals as goal

pub loop-character-init : goal.loop-character-init
loop-character-init g c =
    let whole : chars_rest c.into_iter-character-iterator.result ≡ c.args.text.now = search rules in
    (subst IsUtf8 (sym whole) c.utf8.text, ap (λ text. string_bytes c.args.line.now ++ spaces_below text) whole)

pub loop-character-preserved : goal.loop-character-preserved
loop-character-preserved g c =
    let steps = c.in-Some.ensures.steps.0 in
    let said = c.loop-character.invariant in
    (after_character _ _ _ said.0 steps, after_one _ _ _ _ _ _ said.0 steps c.in_ok-push_as_wide.ensures said.1)

pub returns : goal.returns
returns g c = at_end _ _ _ (nil_from_length _ c.in-None.ensures.steps.0.0) c.loop-character.invariant.1
