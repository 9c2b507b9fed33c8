use Rattle.std.proofs.Common.{sym, subst}
use Rattle.platform_str.specs.Strings.{bytes}
use Rattle.glob_text.specs.Escape.{IsPatternOf}
use Rattle.glob_patterns.specs.Globs.{choices_of}
use Rattle.glob_patterns.specs.Letters.{letters_of}
use Rattle.glob_patterns.specs.Options.{syntax_of}
use Rattle.glob_patterns.specs.Readings.{letter_laws}
use Rattle.test_line_uses.proofs.WrittenOut.{named}
use Rattle.test_line_uses.proofs.patterns.is_named.Goals as goal

pub returns-clause-named : goal.returns-clause-named
returns-clause-named g c =
    let formed = g.E.Platform.well_formed in
    let units = g.E.Platform.units in
    let met = g.met.E.Platform in
    let o = c.new-options.result in
    let name = bytes c.args.name in
    let own = subst (λ t. IsPatternOf formed (letters_of units) (syntax_of o) t (letters_of units name)) (sym c.as_os_str.ensures) c.in_ok-pattern.ensures.pattern in
    named formed units (letter_laws met.laws met.parts met.occurrence) o c.in_ok-glob.glob.options (bytes c.as_os_str.result) name (bytes c.args.path) (choices_of c.in_ok-glob.glob) c.is_match.result c.new-options.ensures c.in_ok-glob.ensures.value.0 c.args.name.ok c.args.path.ok own c.in_ok-glob.ensures.value.1 c.is_match.ensures.text
