use Rattle.std.proofs.Common.{rules, ◌↔◌, IsTrue, refl}
use Rattle.platform_str.specs.Strings.{bytes}
use Rattle.wildcards.specs.Sets.{MatchesChoice}
use Rattle.glob_patterns.specs.Globs.{choices_of}
use Rattle.glob_patterns.specs.Letters.{letters_of}
use Rattle.glob_patterns.specs.Options.{options_of}
use Rattle.glob_patterns.proofs.glob.Glob.is_match.Goals as goal

pub returns-clause-text : goal.returns-clause-text
returns-clause-text g c = λ text meaning.
    let o = options_of c.args.self.now.options in
    let choices = choices_of c.args.self.now in
    let path = letters_of g.E.Platform.units (bytes c.args.path) in
    let value : IsTrue c.matches_choice.result ↔ MatchesChoice o choices path = search rules in
    let same = meaning.are.are.matched o refl path in
    (λ k. same.0 (value.0 k), λ k. value.1 (same.1 k))
