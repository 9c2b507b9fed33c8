use Rattle.std.proofs.Common.{◌≡◌, ◌<◌, ◌≤◌, ◌∙◌, true, false, length, sym, arith}
use Rattle.wildcards.proofs.lemmas.Adding.{none_more}
use Rattle.wildcards.proofs.pattern_set.PatternSet.any_of_all.Goals as goal

pub loop-at-preserved : goal.loop-at-preserved
loop-at-preserved g c =
    let set = c.args.self.now in
    let no : ¬ (false ≡ true) = λ e. cc in
    let below = c.loop-at-test.true in
    let len = c.len.ensures in
    let size = set.patterns.ok.0 in
    let at : c.loop-at.at < length set.patterns.items = omega (arith, below, len, size) in
    (omega (arith, at), none_more set.options set.patterns.items (g.L.Letters.letters c.args.path.now) c.loop-at.at c.loop-at.invariant.1 (λ hit. no (sym c.if-is_hit_of.false ∙ c.is_hit_of.ensures.1 hit)))

pub returns : goal.returns
returns g c =
    let set = c.args.self.now in
    let no : ¬ (false ≡ true) = λ e. cc in
    let past = c.loop-at-test.false in
    let len = c.len.ensures in
    let size = set.patterns.ok.0 in
    let l : length set.patterns.items ≤ c.loop-at.at = omega (arith, past, len, size) in
    (λ e. absurd (no e), λ m. let k = m.1.0 in absurd (c.loop-at.invariant.1 m.0 (omega (arith, k, l)) m.1))
