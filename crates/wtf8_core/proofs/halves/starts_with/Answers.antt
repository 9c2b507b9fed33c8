use Rattle.wtf8_core.proofs.Common.{common_steps, rules}
use Rattle.wtf8_core.proofs.lemmas.units.{PrefixTests.never, PrefixTests.stripped_prefix, PrefixTests.not_stripped_prefix, PrefixTests.prefix_tested, PrefixesAndSuffixes.plain_prefix, PrefixesAndSuffixes.prefix_plain, PrefixesAndSuffixes.high_prefix, PrefixesAndSuffixes.high_next}
use Rattle.wtf8_core.proofs.halves.starts_with.Goals as goal

pub returns-in_default : goal.returns-in_default
returns-in_default c =
    let t = prefix_tested c.args.string.now c.args.prefix.now c.starts_with.result c.starts_with.ensures.value in
    (λ h. prefix_plain c.args.string.now c.args.prefix.now c.requires.string c.requires.prefix (t.0 h), λ f. t.1 (plain_prefix c.args.string.now c.args.prefix.now c.requires.string c.requires.prefix c.in_default.ensures f))

pub returns-in_default-strip_prefix : goal.returns-in_default-strip_prefix
returns-in_default-strip_prefix c = search (rules, common_steps, never, not_stripped_prefix, high_prefix, c.in_default-strip_prefix.ensures.cases, c.requires.string, c.requires.prefix)

pub begins_with_unit-requires : goal.begins_with_unit-requires
begins_with_unit-requires c =
    let e = stripped_prefix c.args.string.now c.in-Some.before.now c.in-Some-strip_prefix.rest c.in-Some-strip_prefix.ensures.cases in
    (high_next c.args.string.now c.args.prefix.now c.in-Some.before.now c.in-Some-strip_prefix.rest.now c.in-Some.high c.requires.string c.requires.prefix c.in-Some.ensures.0 c.in-Some.ensures.1 e).formed

pub returns : goal.returns
returns c =
    let e = stripped_prefix c.args.string.now c.in-Some.before.now c.in-Some-strip_prefix.rest c.in-Some-strip_prefix.ensures.cases in
    let w = high_next c.args.string.now c.args.prefix.now c.in-Some.before.now c.in-Some-strip_prefix.rest.now c.in-Some.high c.requires.string c.requires.prefix c.in-Some.ensures.0 c.in-Some.ensures.1 e in
    (λ t. w.from (c.begins_with_unit.ensures.0 t), λ f. c.begins_with_unit.ensures.1 (w.to f))
