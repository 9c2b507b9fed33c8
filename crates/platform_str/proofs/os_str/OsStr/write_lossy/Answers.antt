use Rattle.platform_str.proofs.Common.{refl, rules, sym, arith}
use Rattle.platform_str.proofs.lemmas.Pushing.{never_rejected, pushed_whole}
use Rattle.platform_str.proofs.os_str.OsStr.write_lossy.Goals as goal

pub write_text-requires-clause-room : goal.write_text-requires-clause-room
write_text-requires-clause-room g c = λ text few. omega (arith, few, c.requires)

pub returns : goal.returns
returns g c =
    let pushed = never_rejected c.write_text.result c.write_text.ensures in
    let same = sym pushed.0 in
    pushed_whole pushed.1 refl refl (search (rules, same))
