use Rattle.std.proofs.Common.{◌≡◌, ◌++◌, ◌∷◌, [], map, sym, ap, ◌∙◌, subst}
use Rattle.path_rules.specs.Views.{item_of}
use Rattle.path_building.specs.Base.{IsVerbatimAlone}
use Rattle.path_building.specs.Spelled.{IsNamesAfter}
use Rattle.path_building.proofs.lemmas.Joins.{refuted}
use Rattle.path_building.proofs.lemmas.Bases.{is_base}
use Rattle.path_building.proofs.lemmas.Checks.{root_still_open, joined_at_root, joined_after, is_below}
use Rattle.path_building.proofs.base.Base.join.Goals as goal

pub names_after-requires-clause-no_alone : goal.names_after-requires-clause-no_alone
names_after-requires-clause-no_alone g c =
    let root : c.deref.result.now ≡ c.args.self.now.parsed.whole.now ++ 0x5C ∷ [] = c.deref.ensures.value ∙ c.in_ok-root.ensures ∙ ap (λ z. c.args.self.now.parsed.whole.now ++ z) c.as_slice.ensures in
    subst (λ z. ¬ (IsVerbatimAlone c.args.self.now.parsed.style z)) (sym root) (root_still_open c.args.self.now.parsed.style c.args.self.now.parsed.whole.now (is_base c.args.self.now.parsed.style c.args.self.now.parsed.whole.now c.args.self.now.complete) (c.is_verbatim_alone.ensures.0 c.if-is_verbatim_alone.true))

pub returns-then-is_verbatim_alone-clause-ok : goal.returns-then-is_verbatim_alone-clause-ok
returns-then-is_verbatim_alone-clause-ok g c =
    let root : c.deref.result.now ≡ c.args.self.now.parsed.whole.now ++ 0x5C ∷ [] = c.deref.ensures.value ∙ c.in_ok-root.ensures ∙ ap (λ z. c.args.self.now.parsed.whole.now ++ z) c.as_slice.ensures in
    let names = map item_of c.in_ok-names.names.items in
    let after = subst (λ z. IsNamesAfter c.args.self.now.parsed.style c.deref.result.now z c.in_ok-names_after.field-0.items) (ap (map item_of) c.deref-then-is_verbatim_alone.ensures.value) c.in_ok-names_after.ensures in
    joined_at_root c.args.self.now.parsed.style c.args.self.now.parsed.whole.now c.deref.result.now c.args.path.now c.in_ok-names_after.field-0.items names root (is_base c.args.self.now.parsed.style c.args.self.now.parsed.whole.now c.args.self.now.complete) c.in_ok-names.ensures.ok (c.is_verbatim_alone.ensures.0 c.if-is_verbatim_alone.true) after

pub returns-then-is_verbatim_alone-clause-below : goal.returns-then-is_verbatim_alone-clause-below
returns-then-is_verbatim_alone-clause-below g c =
    is_below c.args.self.now.parsed.style c.args.self.now.parsed.whole.now c.args.path.now c.in_ok-names_after.field-0.items (returns-then-is_verbatim_alone-clause-ok g c)

pub returns-clause-ok : goal.returns-clause-ok
returns-clause-ok g c =
    let names = map item_of c.in_ok-names.names.items in
    let after = subst (λ z. IsNamesAfter c.args.self.now.parsed.style c.args.self.now.parsed.whole.now z c.in_ok-names_below.field-0.items) (ap (map item_of) c.deref-2.ensures.value) c.in_ok-names_below.ensures in
    joined_after c.args.self.now.parsed.style c.args.self.now.parsed.whole.now c.args.path.now c.in_ok-names_below.field-0.items names (is_base c.args.self.now.parsed.style c.args.self.now.parsed.whole.now c.args.self.now.complete) c.in_ok-names.ensures.ok (refuted _ c.is_verbatim_alone.result c.is_verbatim_alone.ensures c.if-is_verbatim_alone.false) after

pub returns-clause-below : goal.returns-clause-below
returns-clause-below g c =
    is_below c.args.self.now.parsed.style c.args.self.now.parsed.whole.now c.args.path.now c.in_ok-names_below.field-0.items (returns-clause-ok g c)
