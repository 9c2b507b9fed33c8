use Rattle.std.proofs.Common.{◌+◌, take, sym, subst}
use Rattle.std.proofs.lemmas.List.{take_all}
use Rattle.os_ignore.specs.Links.{IsUpTo}
use Rattle.os_ignore.proofs.lemmas.Links.{up_to_top, up_to_more, up_to_in}
use Rattle.os_ignore.proofs.directory.files_above.Goals.{then-byte-eq47, else-byte-eq47}
use Rattle.os_ignore.proofs.directory.files_above.Goals as goal

pub loop-at-init : goal.loop-at-init
loop-at-init g c = up_to_top c.args.files.now c.last_in-above.result c.last_in-above.ensures

pub loop-at-preserved : goal.loop-at-preserved
loop-at-preserved g c =
    let files = c.args.files.now in
    let path = c.args.path.now in
    let at = c.loop-at.at in
    elim c.if-byte-eq47.branch [
      | then-byte-eq47 w ↦ subst (IsUpTo (take (at + 1) path) files) (sym w.above-is) (up_to_in files path at c.loop-at.above c.loop-at-test.true c.loop-at.invariant w.last_in-above-then-byte-eq47.result w.if-byte-eq47.true w.last_in-above-then-byte-eq47.ensures)
      | else-byte-eq47 w ↦ subst (IsUpTo (take (at + 1) path) files) (sym w.above-is) (up_to_more files path at c.loop-at.above c.loop-at-test.true c.loop-at.invariant w.if-byte-eq47.false)
    ]

pub returns : goal.returns
returns g c = subst (λ z. IsUpTo z c.args.files.now c.loop-at.above) (take_all c.loop-at.at c.args.path.now c.loop-at-test.false) c.loop-at.invariant
