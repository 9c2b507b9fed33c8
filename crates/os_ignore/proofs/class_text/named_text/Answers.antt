use Rattle.std.proofs.Common.{◌∷◌, sym, subst}
use Rattle.os_ignore.specs.ClassSteps.{AreNamelessWithin}
use Rattle.os_ignore.proofs.lemmas.Nameless.{after_two, before_two}
use Rattle.os_ignore.proofs.class_text.named_text.Goals as goal

pub ends_name-requires : goal.ends_name-requires
ends_name-requires c =
    after_two c.args.nameless.now c.args.first c.in_ok-second.second.now c.in_ok-second.text.now
    (subst (λ z. AreNamelessWithin c.args.nameless.now (c.args.first ∷ z)) c.in_ok-second.ensures.cases.0 c.requires)

pub returns-then-ends_name-clause-nameless : goal.returns-then-ends_name-clause-nameless
returns-then-ends_name-clause-nameless c =
    subst (λ z. AreNamelessWithin c.ends_name.new.nameless (c.args.first ∷ z)) (sym c.in_ok-second.ensures.cases.0)
    (before_two c.ends_name.new.nameless c.args.first c.in_ok-second.second.now c.in_ok-second.text.now c.ends_name.ensures.nameless)

pub returns-else-ends_name-clause-nameless : goal.returns-else-ends_name-clause-nameless
returns-else-ends_name-clause-nameless c =
    subst (λ z. AreNamelessWithin c.ends_name.new.nameless (c.args.first ∷ z)) (sym c.in_ok-second.ensures.cases.0)
    (before_two c.ends_name.new.nameless c.args.first c.in_ok-second.second.now c.in_ok-second.text.now c.ends_name.ensures.nameless)
