use Rattle.std.proofs.Common.{◌<◌, ◌∙◌, length, ap, sym, subst, arith}
use Rattle.std.specs.Prelude.{slice_index_or}
use Rattle.wildcards.specs.Match.{Matches}
use Rattle.wildcards.proofs.lemmas.Hits.{at_place}
use Rattle.wildcards.proofs.pattern_set.PatternSet.is_hit_at.Goals as goal

pub returns-then-place-choices : goal.returns-then-place-choices
returns-then-place-choices g c =
    let set = c.args.self.now in
    let path = g.L.Letters.letters c.args.path.now in
    let patterns = set.patterns.items in
    let place = c.args.place in
    let p = c.index.result.now in
    let choice = c.index-choices-place.result in
    let own = c.as_slice-choices.ensures.value in
    let below = c.if-place-len.true in
    let len = c.len.ensures in
    let size = set.patterns.ok.0 in
    let l : place.pattern < length patterns = omega (arith, below, len, size) in
    let within = c.if-place-choices.true in
    let k : place.choice < length p.choices.items = omega (arith, within, ap length own) in
    let pieces = c.deref.ensures.value ∙ ap (λ z. z.pieces.items) (sym c.index-choices-place.is) in
    let both = at_place set.options path patterns place p choice l c.index.ensures k (c.index-choices-place.is ∙ ap (λ z. slice_index_or z place.choice choice) own) in (
      λ e. both.0 (subst (λ z. Matches set.options z path) pieces (c.matches.ensures.0 e)),
      λ h. c.matches.ensures.1 (subst (λ z. Matches set.options z path) (sym pieces) (both.1 h)),
    )
