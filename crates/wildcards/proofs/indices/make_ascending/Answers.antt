use Rattle.std.proofs.Common.{◌↔◌, sym, subst}
use Rattle.std.proofs.lemmas.List.Filters.{dedup_is}
use Rattle.wildcards.specs.Sets.{Has, Ascends}
use Rattle.wildcards.proofs.lemmas.Found.{sorted_has, sorted_ascends}
use Rattle.wildcards.proofs.indices.make_ascending.Goals as goal

pub returns-clause-same : goal.returns-clause-same
returns-clause-same g c i =
    subst (λ z. Has c.args.numbers.now.items i ↔ Has z i) (sym (dedup_is _ _ _ c.dedup.ensures.filtered))
    (sorted_has c.args.numbers.now.items c.sort_unstable.new.self.items c.sort_unstable.ensures.permutation i)

pub returns-clause-ascends : goal.returns-clause-ascends
returns-clause-ascends g c =
    subst Ascends (sym (dedup_is _ _ _ c.dedup.ensures.filtered))
    (sorted_ascends c.sort_unstable.new.self.items c.sort_unstable.ensures.sorted)
