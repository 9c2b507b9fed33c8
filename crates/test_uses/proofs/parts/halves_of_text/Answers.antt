use Rattle.std.proofs.Common.{sym, subst, rules}
use Rattle.std.specs.Str.{IsUtf8}
use Rattle.test_uses.proofs.parts.halves_of_text.Goals as goal

pub returns-then-is_some : goal.returns-then-is_some
returns-then-is_some g c =
    let texts = c.cuts.ensures.texts _ _ c.requires.text c.requires.cut in
    let back = subst IsUtf8 (sym c.split_at.ensures.back) texts.1 in
    search (rules, back)

pub returns-else-is_some : goal.returns-else-is_some
returns-else-is_some g c =
    let texts = c.cuts.ensures.texts _ _ c.requires.text c.requires.cut in
    let prefix = subst IsUtf8 (sym c.split_at.ensures.front) texts.0 in
    search (rules, prefix)
