use Rattle.std.proofs.Common.{◌+◌, take, refl, sym, subst, ◌∙◌, arith}
use Rattle.os_ignore.specs.declared.verdict.Verdict.TheVariants.{Neither}
use Rattle.os_ignore.specs.Verdicts as rule
use Rattle.os_ignore.specs.Verdicts.{IsVerdict}
use Rattle.std.proofs.lemmas.List.{take_all}
use Rattle.os_ignore.specs.Links.{IsUpTo}
use Rattle.os_ignore.proofs.lemmas.Links.{up_to_top, up_to_in, up_to_more}
use Rattle.os_ignore.proofs.lemmas.Rests.{empty}
use Rattle.os_ignore.proofs.lemmas.Verdicts.{hides, passed, no_slash}
use Rattle.os_ignore.proofs.verdict.decide.Goals.{then-byte-eq47+else-is_ignored, else-byte-eq47}
use Rattle.os_ignore.proofs.verdict.decide.Goals as goal

pub returns-then-is_empty : goal.returns-then-is_empty
returns-then-is_empty g c =
    let none = empty c.args.files.now (sym c.is_empty.ensures ∙ c.if-is_empty.true) in
    subst (λ files. IsVerdict files c.args.path.now c.args.is_dir Neither) (sym none)
    (rule.own (λ front back cut l. record { verdict = Neither; own = tt; shown = refl }) tt)

pub loop-at-init : goal.loop-at-init
loop-at-init g c = (λ front back cut l. absurd (omega arith), up_to_top c.args.files.now c.last_in-above.result c.last_in-above.ensures)

pub returns-then-is_ignored : goal.returns-then-is_ignored
returns-then-is_ignored g c =
    hides c.args.files.now c.args.path.now c.loop-at.at c.loop-at.invariant.0 c.args.is_dir c.own-verdict.result c.loop-at-test.true c.if-byte-eq47.true c.own-verdict.ensures (sym c.is_ignored.ensures ∙ c.if-is_ignored.true)

pub loop-at-preserved : goal.loop-at-preserved
loop-at-preserved g c =
    let files = c.args.files.now in
    let path = c.args.path.now in
    let at = c.loop-at.at in
    let i = c.loop-at.invariant in
    elim c.if-byte-eq47.branch [
      | then-byte-eq47+else-is_ignored w ↦ (
        passed files path at i.0 w.own-verdict.result w.own-verdict.ensures (sym w.is_ignored.ensures ∙ w.if-is_ignored.false),
        subst (IsUpTo (take (at + 1) path) files) (sym w.above-is) (up_to_in files path at c.loop-at.above c.loop-at-test.true i.1 w.last_in-above-then-byte-eq47.result w.if-byte-eq47.true w.last_in-above-then-byte-eq47.ensures),
      )
      | else-byte-eq47 w ↦ (
        no_slash files path at i.0 w.if-byte-eq47.false,
        subst (IsUpTo (take (at + 1) path) files) (sym w.above-is) (up_to_more files path at c.loop-at.above c.loop-at-test.true i.1 w.if-byte-eq47.false),
      )
    ]

pub own-requires-clause-above : goal.own-requires-clause-above
own-requires-clause-above g c = subst (λ z. IsUpTo z c.args.files.now c.loop-at.above) (take_all c.loop-at.at c.args.path.now c.loop-at-test.false) c.loop-at.invariant.1

pub returns : goal.returns
returns g c =
    let end = c.loop-at-test.false in
    rule.own (λ front back cut l. c.loop-at.invariant.0 front back cut (omega arith)) c.own.ensures
