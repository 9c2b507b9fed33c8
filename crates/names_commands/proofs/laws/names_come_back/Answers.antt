use Rattle.std.proofs.Common.{[]}
use Rattle.std.proofs.lemmas.Str.{IsUtf8-nil}
use Rattle.os_quote.specs.declared.form.Form.TheVariants.{Line}
use Rattle.os_quote.proofs.lemmas.Endings.{chunks_before_ending}
use Rattle.names_commands.proofs.lemmas.Lines.{are_lines}
use Rattle.names_commands.proofs.lemmas.EscapesBack.{some_escapes, same_escapes, cut_escapes}
use Rattle.names_commands.proofs.laws.names_come_back.Goals as goal

pub returns-clause-some : goal.returns-clause-some
returns-clause-some g c =
    let P = g.E.Platform in
    let laws = g.met.E.Platform.laws in
    λ empty last list. some_escapes P (are_lines P g.met.E.Platform.parts (laws.text [] IsUtf8-nil) (chunks_before_ending g.met.E.Platform.occurrence laws.cut_prefix laws.cut_suffix Line)) list empty last

pub returns-clause-same : goal.returns-clause-same
returns-clause-same g c =
    let P = g.E.Platform in
    let laws = g.met.E.Platform.laws in
    λ empty list other names lines back. same_escapes P (are_lines P g.met.E.Platform.parts (laws.text [] IsUtf8-nil) (chunks_before_ending g.met.E.Platform.occurrence laws.cut_prefix laws.cut_suffix Line)) list empty other names lines back

pub returns-clause-cut : goal.returns-clause-cut
returns-clause-cut g c =
    let P = g.E.Platform in
    let laws = g.met.E.Platform.laws in
    λ empty list other names lines prefix rest suffix. cut_escapes P (are_lines P g.met.E.Platform.parts (laws.text [] IsUtf8-nil) (chunks_before_ending g.met.E.Platform.occurrence laws.cut_prefix laws.cut_suffix Line)) list empty other names lines prefix rest suffix
