use Rattle.std.proofs.Common.{◌∙◌, [], ◌∷◌, ◌++◌, sym, ap, subst}
use Rattle.wildcards.specs.Candidates.{all_lists, lists_of}
use Rattle.wildcards.specs.Filters.{AddsHits}
use Rattle.wildcards.proofs.lemmas.Adding.{Finding, none_found, more_found, all_found}
use Rattle.wildcards.proofs.lemmas.Queries.{of_hit}
use Rattle.wildcards.proofs.lemmas.Visited.{none_before, next_before, all_before, handed_out, first_list}
use Rattle.wildcards.proofs.pattern_set.PatternSet.add_matches.Goals as goal

pub loop-places-init : goal.loop-places-init
loop-places-init g c =
    let set = c.args.self.now in
    let path = g.L.Letters.letters c.args.path.now in
    let q = c.new-query.result in (
      [],
      (
        none_before q _ c.new-visited.ensures,
        more_found set.options set.patterns.items path [] (lists_of q []) q.filter.now.others.items c.args.found.now.items c.add_hits.new.found.items (first_list q)
            (none_found set.options set.patterns.items path c.args.found.now.items c.requires.empty)
            (subst (λ z. AddsHits set.options set.patterns.items path z c.args.found.now.items c.add_hits.new.found.items) (c.deref.ensures.value ∙ sym (ap (λ z. z.others.items) c.new-query.ensures.filter_is)) c.in_ok-add_hits.ensures),
      ),
    )

pub loop-places-preserved : goal.loop-places-preserved
loop-places-preserved g c =
    let set = c.args.self.now in
    let path = g.L.Letters.letters c.args.path.now in
    let q = c.new-query.result in
    let so_far = c.loop-places.invariant in
    let next = c.in-Some.ensures.next in
    let places = c.in-Some.places.now in (
      so_far.0 ++ next.0 ∷ [],
      (
        next_before q _ _ so_far.0 so_far.1.0 _ _ next.0 next.1.0 c.in-Some.ensures.counted,
        more_found set.options set.patterns.items path (lists_of q so_far.0) _ places c.loop-places.found.items c.add_hits-in-Some.new.found.items (handed_out q _ _ so_far.0 so_far.1.0 next.0 places next.1.1)
            so_far.1.1 c.in_ok-add_hits-2.ensures,
      ),
    )

pub returns : goal.returns
returns g c =
    let set = c.args.self.now in
    let path = g.L.Letters.letters c.args.path.now in
    let q = c.new-query.result in
    let so_far = c.loop-places.invariant in
    all_found set.options set.patterns.items path (all_lists q)
    (λ i hit none. of_hit g.L.Letters.formed g.L.Letters.letters g.met.L.Letters.laws set.options q set.filter c.args.path.now c.new-query.ensures c.requires.formed (c.tries_all.ensures c.if-tries_all.false) set.patterns.items set.covered i hit none)
    c.loop-places.found.items
    (subst (λ z. Finding set.options set.patterns.items path (lists_of q z) c.loop-places.found.items) (sym (all_before q _ _ so_far.0 so_far.1.0 c.in_default.ensures.next)) so_far.1.1)
