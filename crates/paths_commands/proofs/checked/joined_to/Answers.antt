use Rattle.std.proofs.Common.{rules, ◌≡◌, refl, subst}
use Rattle.path_building.specs.Trailing.{IsWithTrailingSep}
use Rattle.path_building.proofs.lemmas.Joins.{refuted}
use Rattle.paths_commands.proofs.lemmas.Joined.{ended_joined, plain_joined, unended_joined}
use Rattle.paths_commands.proofs.checked.joined_to.Goals.{else-keeps-via-then-keeps+else-has_trailing_sep, else-keeps-via-else-keeps}
use Rattle.paths_commands.proofs.checked.joined_to.Goals as goal

pub returns-then-has_trailing_sep-clause-ok : goal.returns-then-has_trailing_sep-clause-ok
returns-then-has_trailing_sep-clause-ok g c =
    let style = c.parsed-style.result.style in
    let joined = c.in_ok-joined.joined.items in
    let ended = c.in_ok-with_trailing_sep.field-0.items in
    let bytes : c.deref.result.now ≡ joined = search rules in
    let written = subst (λ s. IsWithTrailingSep style s ended) bytes c.in_ok-with_trailing_sep.ensures in
    ended_joined c.args.base c.args.keeps c.args.path.now joined c.in_ok-joined.ensures.ok c.in_ok-joined.ensures.below style ended c.if-keeps.true c.parsed-style.ensures.style (c.if-has_trailing_sep.ensures.0 refl) written

pub returns-clause-ok : goal.returns-clause-ok
returns-clause-ok g c =
    let joined = c.in_ok-joined.joined.items in
    elim c.else-keeps.branch [
      | else-keeps-via-then-keeps+else-has_trailing_sep w ↦ unended_joined c.args.base c.args.keeps c.args.path.now joined c.in_ok-joined.ensures.ok c.in_ok-joined.ensures.below c.parsed-style.result.style w.if-keeps.true c.parsed-style.ensures.style (refuted _ w.has_trailing_sep.result w.has_trailing_sep.ensures w.if-has_trailing_sep.false)
      | else-keeps-via-else-keeps w ↦ plain_joined c.args.base c.args.keeps c.args.path.now joined c.in_ok-joined.ensures.ok c.in_ok-joined.ensures.below w.if-keeps.false
    ]
