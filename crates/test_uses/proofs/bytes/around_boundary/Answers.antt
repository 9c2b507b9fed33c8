use Rattle.std.proofs.Common.{sym, subst}
use Rattle.wtf8_core.specs.Wtf8.{IsWtf8}
use Rattle.test_uses.proofs.bytes.around_boundary.Goals as goal

pub starts_with-requires-clause-prefix : goal.starts_with-requires-clause-prefix
starts_with-requires-clause-prefix c = subst IsWtf8 (sym c.split_at.ensures.front) (c.cuts.ensures.parts _ _ c.requires.wtf8 c.requires.cut).0

pub ends_with-requires-clause-suffix : goal.ends_with-requires-clause-suffix
ends_with-requires-clause-suffix c = subst IsWtf8 (sym c.split_at.ensures.back) (c.cuts.ensures.parts _ _ c.requires.wtf8 c.requires.cut).1
