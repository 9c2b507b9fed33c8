use Rattle.std.proofs.Common.{◌≡◌, true, false, sym, ◌∙◌}
use Rattle.bench_exports.proofs.lemmas.Counts.{all_counted, one_more, none_more}
use Rattle.bench_exports.proofs.globs.matches.Goals as goal

pub loop-len-preserved-then-is_match : goal.loop-len-preserved-then-is_match
loop-len-preserved-then-is_match c =
    one_more _ _ _ _ _ _ c.loop-len.invariant _ _ c.in-Some.ensures.cases.0 _ _ c.split_at.ensures.front c.split_at.ensures.back (c.is_match.ensures.0 c.if-is_match.true)

pub loop-len-preserved : goal.loop-len-preserved
loop-len-preserved c =
    none_more _ _ _ _ _ _ c.loop-len.invariant _ _ c.in-Some.ensures.cases.0 _ _ c.split_at.ensures.front c.split_at.ensures.back (λ m. let k : true ≡ false = sym (c.is_match.ensures.1 m) ∙ c.if-is_match.false in cc)

pub returns : goal.returns
returns c = all_counted _ _ _ _ _ _ c.loop-len.invariant c.in_default.ensures.cases
