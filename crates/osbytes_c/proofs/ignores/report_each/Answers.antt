use Rattle.std.proofs.Common.{[], ◌∷◌, ◌++◌, get_or, arith, length-append}
use Rattle.os_ignore.specs.Ignores.{files_of}
use Rattle.osbytes_c.specs.Ignores.{IsPathReported}
use Rattle.osbytes_c.proofs.lemmas.Ignores.{one_more_path}
use Rattle.osbytes_c.proofs.lemmas.ItemLists.{one_more_item}
use Rattle.osbytes_c.proofs.ignores.report_each.Goals as goal

pub loop-path-preserved : goal.loop-path-preserved
loop-path-preserved c =
    let inv = c.loop-path.invariant in
    let names = inv.0 in
    let reported = inv.1.0 in
    let paths = c.args.paths.now in
    let i = c.loop-path.path-index in
    let path = (get_or paths i (record { ref_ptr = (0, 0); now = [] })).now in
    let one = c.reported_of-reported.result in
    let flags = c.args.flags.now in
    let count = c.loop-path.count in
    let is : IsPathReported (files_of c.args.ignore.now) flags count path one = record {
      is_dir = c.flag_at.result;
      flag = c.flag_at.ensures;
      verdict = c.matched.result;
      is = c.matched.ensures;
      reports = c.reported_of-reported.ensures;
    } in
    let more = length-append names (path ∷ []) in (
      names ++ path ∷ [],
      (
        reported ++ one ∷ [],
        (
          one_more_item paths i (record { ref_ptr = (0, 0); now = [] }) names inv.1.1.0 c.loop-path-test.true,
          (
            one_more_path (files_of c.args.ignore.now) flags 0 count names reported path one inv.1.1.1.0 (omega (arith, inv.1.1.1.1.1.0)) is,
            (
              c.push-count.ensures.pushes reported c.args.out.now inv.1.1.1.1.0,
              (omega (arith, c.push-count.ensures.count, inv.1.1.1.1.1.0, more), omega (arith, c.push-count.ensures.count, inv.1.1.1.1.1.1)),
            ),
          ),
        ),
      ),
    )
