use Rattle.wtf8_core.proofs.Common.{common_steps, rules}
use Rattle.wtf8_core.proofs.lemmas.units.{PrefixTests.never, PrefixTests.stripped_suffix, PrefixTests.not_stripped_suffix, PrefixTests.end_tested, PrefixesAndSuffixes.plain_end, PrefixesAndSuffixes.end_plain, PrefixesAndSuffixes.low_suffix, PrefixesAndSuffixes.low_before}
use Rattle.wtf8_core.proofs.halves.ends_with.Goals as goal

pub returns-in_default : goal.returns-in_default
returns-in_default c =
    let t = end_tested c.args.string.now c.args.suffix.now c.ends_with.result c.ends_with.ensures.value in
    (λ h. end_plain c.args.string.now c.args.suffix.now c.requires.string c.requires.suffix (t.0 h), λ f. t.1 (plain_end c.args.string.now c.args.suffix.now c.requires.string c.requires.suffix c.in_default.ensures f))

pub returns-in_default-strip_suffix : goal.returns-in_default-strip_suffix
returns-in_default-strip_suffix c = search (rules, common_steps, never, not_stripped_suffix, low_suffix, c.in_default-strip_suffix.ensures.cases, c.requires.string, c.requires.suffix)

pub ends_with_low-requires-clause-string : goal.ends_with_low-requires-clause-string
ends_with_low-requires-clause-string c =
    let e = stripped_suffix c.args.string.now c.in-Some.after.now c.in-Some-strip_suffix.rest c.in-Some-strip_suffix.ensures.cases in
    (low_before c.args.string.now c.args.suffix.now c.in-Some.after.now c.in-Some-strip_suffix.rest.now c.in-Some.low c.requires.string c.requires.suffix c.in-Some.ensures.0 c.in-Some.ensures.1 e).formed

pub returns : goal.returns
returns c =
    let e = stripped_suffix c.args.string.now c.in-Some.after.now c.in-Some-strip_suffix.rest c.in-Some-strip_suffix.ensures.cases in
    let w = low_before c.args.string.now c.args.suffix.now c.in-Some.after.now c.in-Some-strip_suffix.rest.now c.in-Some.low c.requires.string c.requires.suffix c.in-Some.ensures.0 c.in-Some.ensures.1 e in
    (λ t. w.from (c.ends_with_low.ensures.0 t), λ f. c.ends_with_low.ensures.1 (w.to f))
