use Rattle.std.proofs.Common.{◌≡◌, ◌∙◌, true, false, sym}
use Rattle.wildcards.specs.Filters.{IsHitAt}
use Rattle.wildcards.proofs.lemmas.Adding.{not_first}
use Rattle.wildcards.proofs.lemmas.Hits.{hit_of_place}
use Rattle.wildcards.proofs.pattern_set.PatternSet.any_hit.Goals as goal

pub returns-then-is_hit_at-clause-sound : goal.returns-then-is_hit_at-clause-sound
returns-then-is_hit_at-clause-sound g c e = (c.in-Some.place.now.pattern, hit_of_place c.args.self.now.options (g.L.Letters.letters c.args.path.now) c.args.self.now.patterns.items c.in-Some.place.now (c.is_hit_at.ensures.0 c.if-is_hit_at.true))

pub loop-place-preserved : goal.loop-place-preserved
loop-place-preserved g c place h hit =
    let no : ¬ (false ≡ true) = λ e. cc in
    not_first (IsHitAt c.args.self.now.options c.args.self.now.patterns.items (g.L.Letters.letters c.args.path.now)) _ _ _ c.in-Some.ensures.cases.0 (λ hit. no (sym c.if-is_hit_at.false ∙ c.is_hit_at.ensures.1 hit)) place hit (c.loop-place.invariant place h hit)
