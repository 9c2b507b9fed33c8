use Rattle.std.proofs.Common.{◌≡◌, List}
use Rattle.std.proofs.lemmas.Result.{IfOk-weaker, MatchResult-weaker}
use Rattle.wildcards.specs.declared.pattern.Choice.{Choice}
use Rattle.glob_text.specs.declared.fault.PatternFault.{PatternFault}
use Rattle.glob_text.specs.Texts.{IsFault, IsMeaning}
use Rattle.test_line_uses.proofs.written_out.compile_or_fault.Goals as goal

pub returns : goal.returns
returns g c =
    let formed = g.L.Letters.formed in
    let letters = g.L.Letters.letters in
    let o = c.args.syntax in
    let text = c.args.text.now in
    IfOk-weaker c.compile.result _ _ (λ read h. MatchResult-weaker read
    {P' = λ choices. (fault : PatternFault) → IsFault formed letters o text fault → ⊥}
    {Q' = λ fault. ((other : PatternFault) → IsFault formed letters o text other → other ≡ fault) × ((choices : List (Choice g.row.A.Denot)) → IsMeaning formed letters o text choices → ⊥)}
    h
    (λ choices meaning fault. c.never_both.ensures o text choices.items fault meaning)
    (λ fault is. (λ other k. c.one_fault.ensures o text other fault k is, λ choices meaning. c.never_both.ensures o text choices fault meaning is))) c.compile.ensures
