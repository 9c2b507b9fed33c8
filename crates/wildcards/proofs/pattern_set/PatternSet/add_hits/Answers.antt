use Rattle.std.proofs.Common.{◌≡◌, ◌∙◌, true, false, sym}
use Rattle.wildcards.proofs.lemmas.Adding.{one_added, one_passed}
use Rattle.wildcards.proofs.lemmas.Hits.{hit_of_place}
use Rattle.wildcards.proofs.pattern_set.PatternSet.add_hits.Goals as goal

pub loop-place-preserved : goal.loop-place-preserved
loop-place-preserved g c =
    let no : ¬ (false ≡ true) = λ e. cc in
    one_passed c.args.self.now.options c.args.self.now.patterns.items (g.L.Letters.letters c.args.path.now) c.args.places.now c.args.found.now.items c.loop-place.left.now c.in-Some.rest.now c.loop-place.found.items c.in-Some.place.now c.in-Some.ensures.cases.0 c.loop-place.invariant (λ hit. no (sym c.if-is_hit_at.false ∙ c.is_hit_at.ensures.1 hit))

pub loop-place-preserved-in-Continue-1 : goal.loop-place-preserved-in-Continue-1
loop-place-preserved-in-Continue-1 g c =
    one_added c.args.self.now.options c.args.self.now.patterns.items (g.L.Letters.letters c.args.path.now) c.args.places.now c.args.found.now.items c.loop-place.left.now c.in-Some.rest.now c.loop-place.found.items c.in-Some.place.now c.in-Some.ensures.cases.0 c.loop-place.invariant c.push.new.self.items (hit_of_place c.args.self.now.options (g.L.Letters.letters c.args.path.now) c.args.self.now.patterns.items c.in-Some.place.now (c.is_hit_at.ensures.0 c.if-is_hit_at.true)) c.in_ok-push.ensures.items
