use Rattle.platform_str.specs.Strings.{bytes, string_vec_of}
use Rattle.os_str_ext.proofs.lemmas.Repeats.{IsRepeated}
use Rattle.bench_exports.proofs.joins.pushed_len.Given as goal

abbrev pub invariant-loop : goal.invariant-loop
invariant-loop g l = IsRepeated g.E.Platform.well_formed g.E.Platform.units g.met.E.Platform.occurrence (bytes l.part) l.counter (string_vec_of l.all).items
