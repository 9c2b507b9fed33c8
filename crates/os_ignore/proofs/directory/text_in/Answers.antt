use Rattle.std.proofs.Common.{◌∷◌, ◌++◌, [], ap, sym, subst, ◌∙◌, append_assoc}
use Rattle.std.proofs.lemmas.List.{append-nil}
use Rattle.std.specs.List.{AllByRecursion}
use Rattle.os_ignore.specs.Ignores.{FileHasNoText}
use Rattle.os_ignore.proofs.lemmas.Tags.{nil_of_length}
use Rattle.os_ignore.proofs.directory.text_in.Goals as goal

pub loop-file-init : goal.loop-file-init
loop-file-init g c = ([], sym (append-nil _), tt)

pub returns-in-Some-text_of : goal.returns-in-Some-text_of
returns-in-Some-text_of g c =
    let after = c.loop-file.invariant in record {
      front = c.in-Some.before.now;
      file = c.in-Some.file.now;
      back = after.0;
      joined = after.1 ∙ ap (λ z. z ++ after.0) c.in-Some.ensures.cases.0 ∙ append_assoc c.in-Some.before.now (c.in-Some.file.now ∷ []) after.0;
      has = c.in-Some-text_of.ensures;
    }

pub loop-file-preserved : goal.loop-file-preserved
loop-file-preserved g c =
    let after = c.loop-file.invariant in
    let file = c.in-Some.file.now in
    let joined = append_assoc c.in-Some.before.now (file ∷ []) after.0 in (
      file ∷ after.0,
      after.1 ∙ ap (λ z. z ++ after.0) c.in-Some.ensures.cases.0 ∙ joined,
      (c.in_default-text_of.ensures, after.2),
    )

pub returns : goal.returns
returns g c =
    let after = c.loop-file.invariant in
    let all = after.1 ∙ ap (λ z. z ++ after.0) (nil_of_length c.loop-file.left.now c.in_default.ensures.cases) in
    subst (AllByRecursion (FileHasNoText c.args.number c.args.line)) (sym all) after.2
