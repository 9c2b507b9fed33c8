use Rattle.os_str_ext.proofs.{Common.suc, Common.arith, Common.sym, Common.◌∙◌, Common.false≢true, lemmas.Runs.passed_more, lemmas.Runs.start_trim}
use Rattle.os_str_ext.proofs.runs.start_run.Goals as goal

pub loop-at-preserved : goal.loop-at-preserved
loop-at-preserved c =
    let here = c.occurs_at.ensures.0 c.loop-at-test.true in
    let fits = here.fits in
    let run = c.loop-at.invariant.1 in
    (omega arith, (suc run.0, passed_more c.args.bytes.now c.args.text.now c.loop-at.at run.0 run.1 here))

pub returns-clause-trim : goal.returns-clause-trim
returns-clause-trim c =
    start_trim c.args.bytes.now c.args.text.now c.loop-at.at c.loop-at.invariant.0 c.loop-at.invariant.1
    (λ occurs. false≢true (sym c.loop-at-test.false ∙ c.occurs_at.ensures.1 occurs))
