use Rattle.std.proofs.Common.{◌⊎◌, IfSome, inl, sym, subst}
use Rattle.wildcards.specs.Small.{IsNeededBy}
use Rattle.wildcards.specs.Sets.{Has}
use Rattle.wildcards.specs.Tables.{bucket}
use Rattle.wildcards.proofs.lemmas.Found.{has_pushed}
use Rattle.wildcards.proofs.lemmas.Covers.{more_others, listed_covered, grows_on}
use Rattle.wildcards.proofs.filter.Filter.add.Goals as goal

pub returns-in_default-clause-covered : goal.returns-in_default-clause-covered
returns-in_default-clause-covered g c = inl (subst (λ z. Has z c.args.place) (sym c.in_ok-push.ensures.items) (has_pushed c.args.self.now.others.items c.args.place))

pub returns-in_default-clause-grows : goal.returns-in_default-clause-grows
returns-in_default-clause-grows g c = more_others c.args.self.now _ c.args.place c.in_ok-push.ensures.items

pub returns-clause-covered : goal.returns-clause-covered
returns-clause-covered g c =
    let key = c.in-Some.key in
    let text = c.as_slice-text.ensures.value in
    listed_covered c.args.options c.note.new.self c.list.new.self c.args.place c.args.pieces.now key.kind key.size key.text.items
    (subst (λ z. IfSome z (λ k. IsNeededBy c.note.new.self.folds c.args.options c.args.pieces.now k.kind k.size k.text.items)) c.in-Some.is
    (subst (λ v. IfSome c.in_ok-key.field-0 (λ k. IsNeededBy v c.args.options c.args.pieces.now k.kind k.size k.text.items)) c.in_ok-note.ensures.grows.same c.in_ok-key.ensures))
    c.in_ok-note.ensures.asked
    c.in_ok-list.ensures.grows
    (subst (λ z. Has c.list.new.self.others.items c.args.place ⊎ Has (bucket c.list.new.self.folds c.list.new.self.buckets.items z) c.args.place) text c.in_ok-list.ensures.listed)

pub returns-clause-grows : goal.returns-clause-grows
returns-clause-grows g c = grows_on c.args.self.now c.note.new.self c.list.new.self c.in_ok-note.ensures.grows c.in_ok-list.ensures.grows
