use Rattle.os_quote.proofs.Common.{refl, rules, sym, arith, bytes}
use Rattle.os_quote.proofs.lemmas.{Endings.chunks_before_ending, Escapes.escape_in_is, ItemLengths.escape_is_short}
use Rattle.platform_str.proofs.lemmas.Pushing.{never_rejected, pushed_whole}
use Rattle.os_quote.proofs.write_buffer.push_escape.Goals as goal

pub write_escape_to-requires : goal.write_escape_to-requires
write_escape_to-requires g c =
    let P = g.E.Platform in
    let laws = g.met.E.Platform.laws in
    let s = bytes c.args.string in
    let short = escape_is_short c.args.form P.well_formed P.units P.part_units g.met.E.Platform.parts (chunks_before_ending g.met.E.Platform.occurrence laws.cut_prefix laws.cut_suffix c.args.form) s _ c.args.string.ok (escape_in_is c.args.form P.units s) in
    omega (arith, short, c.requires)

pub returns : goal.returns
returns g c =
    let pushed = never_rejected c.write_escape_to.result c.write_escape_to.ensures in
    let same = sym pushed.0 in
    pushed_whole pushed.1 refl refl (search (rules, same))
