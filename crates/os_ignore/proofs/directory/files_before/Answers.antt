use Rattle.std.proofs.Common.{◌≤◌, ◌∷◌, ◌++◌, [], length, ap, sym, subst, ◌∙◌, append_assoc, arith}
use Rattle.std.proofs.lemmas.List.{append-nil, length_push, same_from_push}
use Rattle.os_ignore.proofs.directory.files_before.Goals as goal

pub loop-last-init : goal.loop-last-init
loop-last-init g c = ([], sym (append-nil _), tt)

pub loop-last-preserved : goal.loop-last-preserved
loop-last-preserved g c =
    let after = c.loop-last.invariant in
    (c.in-Some.last.now ∷ after.0, after.1 ∙ ap (λ z. z ++ after.0) c.in-Some.ensures.cases.0 ∙ append_assoc c.in-Some.front.now (c.in-Some.last.now ∷ []) after.0, (omega arith, after.2))

pub returns-then-len-directory : goal.returns-then-len-directory
returns-then-len-directory g c =
    let size = length c.args.directory.now in
    let short : length c.in-Some.last.now.directory.items ≤ size = omega arith in
    let whole = sym c.in-Some.ensures.cases.0 in
    let same = same_from_push c.in-Some.front.now in record {
      after = c.loop-last.invariant.0;
      joined = c.loop-last.invariant.1;
      no_longer = λ front last e.
          subst (λ z. length z.directory.items ≤ size) (same front c.in-Some.last.now last (whole ∙ e)).1 short;
      longer = c.loop-last.invariant.2;
    }

pub returns : goal.returns
returns g c = record {
  after = c.loop-last.invariant.0;
  joined = c.loop-last.invariant.1;
  no_longer = λ front last e. absurd (omega (arith, c.in_default.ensures.cases, ap length e, length_push front last));
  longer = c.loop-last.invariant.2;
}
