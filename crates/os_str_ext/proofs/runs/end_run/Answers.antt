use Rattle.std.proofs.Common.{drop_of_length-le}
use Rattle.os_str_ext.proofs.{Common.suc, Common.arith, Common.sym, Common.◌∙◌, Common.false≢true, lemmas.Runs.passed_back, lemmas.Runs.end_trim}
use Rattle.os_str_ext.proofs.runs.end_run.Goals as goal

pub loop-at-preserved : goal.loop-at-preserved
loop-at-preserved c =
    let here = c.ends_at.ensures.0 c.loop-at-test.true in
    let within = c.loop-at.invariant.0 in
    let run = c.loop-at.invariant.1 in
    (omega arith, (suc run.0, passed_back c.args.bytes.now c.args.text.now c.loop-at.at run.0 run.1 here.0 here.1))

pub loop-at-init : goal.loop-at-init
loop-at-init c = (omega arith, (0, drop_of_length-le c.args.bytes.now (omega arith)))

pub returns-clause-trim : goal.returns-clause-trim
returns-clause-trim c =
    end_trim c.args.bytes.now c.args.text.now c.loop-at.at c.loop-at.invariant.0 c.loop-at.invariant.1
    (λ fits occurs. false≢true (sym c.loop-at-test.false ∙ c.ends_at.ensures.1 (fits, occurs)))
