use Rattle.platform_str.specs.Strings.{bytes}
use Rattle.glob_patterns.specs.Globs.{choices_of}
use Rattle.glob_patterns.specs.Letters.{letters_of}
use Rattle.test_line_uses.proofs.WrittenOut.{matched}
use Rattle.test_line_uses.proofs.patterns.match_by_text.Goals as goal

pub returns : goal.returns
returns g c =
    let units = g.E.Platform.units in
    matched g.E.Platform.well_formed units c.args.options c.in_ok-glob.glob.options c.args.pattern.now (letters_of units (bytes c.args.path)) (choices_of c.in_ok-glob.glob) c.is_match.result c.in_ok-glob.ensures.value.0 c.in_ok-glob.ensures.value.1 c.is_match.ensures.text
