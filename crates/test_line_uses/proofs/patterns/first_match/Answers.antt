use Rattle.std.proofs.Common.{length, inl, refl, subst, sym, ap, ◌∙◌}
use Rattle.platform_str.specs.Strings.{bytes}
use Rattle.wildcards.specs.Sets.{Has}
use Rattle.glob_patterns.specs.Letters.{letters_of}
use Rattle.test_line_uses.proofs.FirstHit.{first_hit, no_hit}
use Rattle.test_line_uses.proofs.patterns.first_match.Goals as goal

pub returns-in-Some-clause-first : goal.returns-in-Some-clause-first
returns-in-Some-clause-first g c =
    first_hit c.args.globs.now.set.options c.args.globs.now.set.patterns.items (letters_of g.E.Platform.units (bytes c.args.path)) c.matches.new.found.items c.in-Some.first.now c.in-Some.field-0-1.now (sym c.deref.ensures.value ∙ c.in-Some.ensures.cases.0) c.in_ok-matches.ensures.value

pub returns-clause-first : goal.returns-clause-first
returns-clause-first g c =
    no_hit c.args.globs.now.set.options c.args.globs.now.set.patterns.items (letters_of g.E.Platform.units (bytes c.args.path)) c.matches.new.found.items (sym (ap length c.deref.ensures.value) ∙ c.in-None.ensures.cases) c.in_ok-matches.ensures.value

pub returns-in-Some-clause-texts : goal.returns-in-Some-clause-texts
returns-in-Some-clause-texts g c = λ o texts meanings e.
    let joined = sym c.deref.ensures.value ∙ c.in-Some.ensures.cases.0 in
    (c.in_ok-matches.ensures.texts o texts meanings e c.in-Some.first.now).0 (subst (λ z. Has z c.in-Some.first.now) (sym joined) (inl refl))
