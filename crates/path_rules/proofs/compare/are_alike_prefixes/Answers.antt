use Rattle.path_rules.specs.PrefixViews.{kind_of}
use Rattle.path_rules.proofs.lemmas.Alike.{alike_kinds, and_then, swapped}
use Rattle.path_rules.proofs.compare.are_alike_prefixes.Goals as goal

pub returns : goal.returns
returns c =
    and_then c.are_same.ensures (swapped (alike_kinds c.args.s.now c.args.t.now (kind_of c.in-Some.first) (kind_of c.in-Some-windows_prefix.second) c.in-Some.field-0-1.now c.in-Some-windows_prefix.field-0-1.now c.in-Some.ensures c.in-Some-windows_prefix.ensures))
