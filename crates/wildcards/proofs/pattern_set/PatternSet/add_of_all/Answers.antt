use Rattle.std.proofs.Common.{◌≡◌, ◌<◌, ◌≤◌, ◌∙◌, true, false, length, sym, arith}
use Rattle.wildcards.proofs.lemmas.Adding.{below_missed, below_pushed}
use Rattle.wildcards.proofs.pattern_set.PatternSet.add_of_all.Goals as goal

pub loop-at-preserved : goal.loop-at-preserved
loop-at-preserved g c =
    let set = c.args.self.now in
    let no : ¬ (false ≡ true) = λ e. cc in
    let below = c.loop-at-test.true in
    let len = c.len.ensures in
    let size = set.patterns.ok.0 in
    let at : c.loop-at.at < length set.patterns.items = omega (arith, below, len, size) in
    (omega (arith, at), below_missed set.options set.patterns.items (g.L.Letters.letters c.args.path.now) c.loop-at.at c.loop-at.found.items (λ hit. no (sym c.if-is_hit_of.false ∙ c.is_hit_of.ensures.1 hit)) c.loop-at.invariant.1)

pub loop-at-preserved-in-Continue-1 : goal.loop-at-preserved-in-Continue-1
loop-at-preserved-in-Continue-1 g c =
    let set = c.args.self.now in
    let below = c.loop-at-test.true in
    let len = c.len.ensures in
    let size = set.patterns.ok.0 in
    let at : c.loop-at.at < length set.patterns.items = omega (arith, below, len, size) in
    (omega (arith, at), below_pushed set.options set.patterns.items (g.L.Letters.letters c.args.path.now) c.loop-at.at c.loop-at.found.items c.push.new.self.items c.in_ok-push.ensures.items (c.is_hit_of.ensures.0 c.if-is_hit_of.true) c.loop-at.invariant.1)
