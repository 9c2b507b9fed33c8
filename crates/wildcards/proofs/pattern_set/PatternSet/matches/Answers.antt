use Rattle.wildcards.proofs.lemmas.Found.{in_order}
use Rattle.wildcards.proofs.pattern_set.PatternSet.matches.Goals as goal

pub returns-in-Ok-clause-hits : goal.returns-in-Ok-clause-hits
returns-in-Ok-clause-hits g c =
    let set = c.args.self.now in
    in_order set.options set.patterns.items (g.L.Letters.letters c.args.path.now) c.add_matches.new.found.items c.make_ascending.new.numbers.items c.make_ascending.ensures.same c.make_ascending.ensures.ascends c.in-Ok.ensures
