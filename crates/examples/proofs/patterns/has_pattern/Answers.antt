use Rattle.std.proofs.Common.{◌↔◌, List, sym, subst}
use Rattle.std.specs.Prelude.{IsTrue}
use Rattle.os_str_bytes.specs.Strings.{bytes}
use Rattle.glob_text.specs.Marks.{Mark}
use Rattle.glob_text.specs.Meaning.{MatchesWrittenOut}
use Rattle.glob_text.specs.Texts.{AreWrittenOut, IsMeaning}
use Rattle.glob_patterns.specs.Globs.{choices_of}
use Rattle.glob_patterns.specs.Letters.{letters_of}
use Rattle.glob_patterns.specs.Options.{options_of, syntax_of}
use Rattle.examples.proofs.patterns.has_pattern.Goals as goal

pub returns : goal.returns
returns g c =
    let formed = g.E.Platform.well_formed in
    let letters = letters_of g.E.Platform.units in
    let glob = c.in_ok-new.field-0 in
    let text = c.args.pattern.now in
    let same = c.in_ok-new.ensures.value.0 in
    let m = subst (λ o. IsMeaning formed letters (syntax_of o) text (choices_of glob)) (sym same) c.in_ok-new.ensures.value.1 in
    let written : AreWrittenOut formed letters (syntax_of glob.options) text m.are.are.written_out =
    record { symbols = m.symbols; read = m.read; marks = m.are.marks; marks_are = m.are.read; cased = m.are.cased; are_cased = m.are.are_cased; are = m.are.are.are } in
    subst (λ o. (cs : List (List Mark)) × (AreWrittenOut formed letters (syntax_of o) text cs × (IsTrue c.is_match.result ↔ MatchesWrittenOut (options_of o) cs (letters (bytes c.args.path))))) same
    (m.are.are.written_out, (written, c.is_match.ensures.text text m))
