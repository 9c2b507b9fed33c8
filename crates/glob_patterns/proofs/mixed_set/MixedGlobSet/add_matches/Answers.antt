use Rattle.std.proofs.Common.{◌∙◌, ◌++◌, ap}
use Rattle.glob_patterns.specs.Letters.{letters_of}
use Rattle.glob_patterns.proofs.lemmas.MixedSets.{all_found, set_found}
use Rattle.glob_patterns.proofs.mixed_set.MixedGlobSet.add_matches.Goals as goal

pub loop-set-preserved : goal.loop-set-preserved
loop-set-preserved g c =
    let items = c.in_ok-extend_from_slice.ensures.items ∙ ap (λ z. c.loop-set.found.items ++ z) c.deref.ensures.value in
    set_found c.args.self.now.sets.items (letters_of g.E.Platform.units c.args.path.now) c.in-Some.set.now c.in-Some.rest.now c.loop-set.left.now c.loop-set.found.items c.matches.new.found.items c.extend_from_slice.new.self.items c.in-Some.ensures.cases.0 c.loop-set.invariant c.in_ok-matches.ensures.hits items

pub returns : goal.returns
returns g c =
    all_found c.args.self.now.sets.items (letters_of g.E.Platform.units c.args.path.now) c.loop-set.left.now c.loop-set.found.items c.in_default.ensures.cases c.loop-set.invariant
