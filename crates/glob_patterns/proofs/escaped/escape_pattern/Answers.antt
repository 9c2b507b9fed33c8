use Rattle.std.proofs.Common.{sym, ap, ◌∙◌, subst}
use Rattle.platform_str.specs.Strings.{bytes}
use Rattle.glob_text.specs.Escape.{escaped, IsPatternOf}
use Rattle.glob_text.specs.Marks.{is_quoting}
use Rattle.glob_text.proofs.lemmas.EscapedMeaning.{pattern_of}
use Rattle.glob_patterns.specs.Letters.{letters_of}
use Rattle.glob_patterns.specs.Options.{syntax_of}
use Rattle.glob_patterns.specs.Readings.{letter_laws}
use Rattle.glob_patterns.proofs.lemmas.Around.{around}
use Rattle.glob_patterns.proofs.escaped.escape_pattern.Goals as goal

pub from_encoded_bytes_unchecked-requires : goal.from_encoded_bytes_unchecked-requires
from_encoded_bytes_unchecked-requires g c =
    let formed = g.E.Platform.well_formed in
    let units = g.E.Platform.units in
    let met = g.met.E.Platform in
    let o = syntax_of c.args.options in
    let text = c.in_ok-text.ensures ∙ ap (λ s. escaped (is_quoting s) c.as_encoded_bytes.result.now) c.syntax.ensures ∙ ap (escaped (is_quoting o)) c.as_encoded_bytes.ensures.value in
    let all = pattern_of formed (letters_of units) (letter_laws met.laws met.parts met.occurrence) (around formed units met.occurrence) o (bytes c.args.string) (subst formed c.as_encoded_bytes.ensures.value c.as_encoded_bytes.ensures.formed) in
    subst formed (sym text) all.0

pub returns-clause-pattern : goal.returns-clause-pattern
returns-clause-pattern g c =
    let formed = g.E.Platform.well_formed in
    let units = g.E.Platform.units in
    let met = g.met.E.Platform in
    let o = syntax_of c.args.options in
    let text = c.in_ok-text.ensures ∙ ap (λ s. escaped (is_quoting s) c.as_encoded_bytes.result.now) c.syntax.ensures ∙ ap (escaped (is_quoting o)) c.as_encoded_bytes.ensures.value in
    let all = pattern_of formed (letters_of units) (letter_laws met.laws met.parts met.occurrence) (around formed units met.occurrence) o (bytes c.args.string) (subst formed c.as_encoded_bytes.ensures.value c.as_encoded_bytes.ensures.formed) in
    subst (λ t. IsPatternOf formed (letters_of units) o t (letters_of units (bytes c.args.string))) (sym (ap (λ v. v.items) c.from_encoded_bytes_unchecked.ensures ∙ text)) all.1
