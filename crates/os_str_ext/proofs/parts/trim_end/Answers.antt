use Rattle.os_str_ext.proofs.{Common.◌<◌, Common.◌≢◌, Common.length, Common.false-eqb, Common.arith, Common.bytes, lemmas.Runs.cut_before_run}
use Rattle.os_str_ext.proofs.parts.trim_end.Goals as goal

pub split_at-requires : goal.split_at-requires
split_at-requires g c =
    let other : length c.args.text.now ≢ 0 = false-eqb _ 0 c.if-is_empty.ensures in
    let some : 0 < length c.args.text.now = omega arith in
    let trim = rw (c.as_encoded_bytes.ensures.value, c.as_bytes.ensures.value) at c.end_run-at.ensures.trim in
    cut_before_run (bytes c.args.string) c.args.text.now c.end_run-at.result (rw c.as_encoded_bytes.ensures.value at c.end_run-at.ensures.within) c.boundaries.ensures.edges c.utf8.text some trim.count trim.trimmed
