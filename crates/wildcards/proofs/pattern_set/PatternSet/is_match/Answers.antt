use Rattle.std.proofs.Common.{◌≡◌, ◌∙◌, [], ◌∷◌, ◌++◌, ⊎_elim, true, false, refl, sym, ap, subst}
use Rattle.wildcards.specs.Candidates.{OneHas, lists_of}
use Rattle.wildcards.specs.Sets.{Has}
use Rattle.wildcards.proofs.lemmas.Queries.{of_hit}
use Rattle.wildcards.proofs.lemmas.Visited.{none_before, next_before, all_before, handed_out, first_list}
use Rattle.wildcards.proofs.pattern_set.PatternSet.is_match.Goals as goal

pub returns-then-any_hit : goal.returns-then-any_hit
returns-then-any_hit g c = (λ e. c.any_hit.ensures.sound c.if-any_hit.true, λ m. refl)

pub returns-then-any_hit-2 : goal.returns-then-any_hit-2
returns-then-any_hit-2 g c = (λ e. c.any_hit-in-Some.ensures.sound c.if-any_hit-2.true, λ m. refl)

pub loop-places-init : goal.loop-places-init
loop-places-init g c =
    let no : ¬ (false ≡ true) = λ e. cc in
    let q = c.new-query.result in (
      [],
      (
        none_before q _ c.new-visited.ensures,
        λ place has hit. ⊎_elim (λ h. h) (λ h. no (sym c.if-any_hit.false ∙ c.any_hit.ensures.complete place (subst (λ z. Has z place) (ap (λ z. z.others.items) c.new-query.ensures.filter_is ∙ sym c.deref.ensures.value) h) hit)) (first_list q place has),
      ),
    )

pub loop-places-preserved : goal.loop-places-preserved
loop-places-preserved g c =
    let no : ¬ (false ≡ true) = λ e. cc in
    let q = c.new-query.result in
    let so_far = c.loop-places.invariant in
    let next = c.in-Some.ensures.next in (
      so_far.0 ++ next.0 ∷ [],
      (
        next_before q _ _ so_far.0 so_far.1.0 _ _ next.0 next.1.0 c.in-Some.ensures.counted,
        λ place has hit. ⊎_elim (λ h. so_far.1.1 place h hit) (λ h. no (sym c.if-any_hit-2.false ∙ c.any_hit-in-Some.ensures.complete place h hit)) (handed_out q _ _ so_far.0 so_far.1.0 next.0 _ next.1.1 place has),
      ),
    )

pub returns : goal.returns
returns g c =
    let no : ¬ (false ≡ true) = λ e. cc in
    let set = c.args.self.now in
    let q = c.new-query.result in
    let so_far = c.loop-places.invariant in (
      λ e. absurd (no e),
      λ m. absurd (of_hit g.L.Letters.formed g.L.Letters.letters g.met.L.Letters.laws set.options q set.filter c.args.path.now c.new-query.ensures c.requires (c.tries_all.ensures c.if-tries_all.false) set.patterns.items set.covered m.0 m.1
          (λ place e hit has. so_far.1.1 place (subst (λ z. OneHas (lists_of q z) place) (all_before q _ _ so_far.0 so_far.1.0 c.in_default.ensures.next) has) hit)),
    )
