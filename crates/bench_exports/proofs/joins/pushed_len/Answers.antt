use Rattle.std.proofs.Common.{refl, rules}
use Rattle.platform_str.specs.Strings.{bytes}
use Rattle.os_str_ext.proofs.lemmas.Repeats.{no_times, once_more}
use Rattle.bench_exports.proofs.joins.pushed_len.Goals as goal

pub loop-init : goal.loop-init
loop-init g c = no_times g.E.Platform.well_formed g.E.Platform.units g.met.E.Platform.occurrence (bytes c.args.part) _ 0 c.new-all.ensures refl

pub loop-preserved : goal.loop-preserved
loop-preserved g c = once_more g.E.Platform.well_formed g.E.Platform.units g.met.E.Platform.occurrence (bytes c.args.part) _ _ c.loop.counter c.loop.invariant c.push.new.self.ok (search rules)
