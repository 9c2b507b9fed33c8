use Rattle.std.proofs.Common.{sym, ◌∙◌}
use Rattle.std.proofs.lemmas.Bool.{false≢true}
use Rattle.names_commands.proofs.lemmas.Placed.{last_leads, leads_on, not_so}
use Rattle.names_commands.proofs.ignoring.leads_down.Goals as goal

pub loop-first-preserved : goal.loop-first-preserved
loop-first-preserved c =
    let on = leads_on c.loop-first.left.now c.in-Some.first.now c.in-Some.rest.now c.in-Some.ensures (λ k. false≢true (sym c.if-is_no_name.false ∙ c.is_no_name.ensures.1 k)) in
    (λ l. on.0 (c.loop-first.invariant.0 l), λ l. c.loop-first.invariant.1 (on.1 l))

pub returns : goal.returns
returns c =
    let last = last_leads c.loop-first.left.now c.in_default.ensures in
    not_so c.is_no_name-2.result c.is_no_name-2.ensures (λ l. last.0 (c.loop-first.invariant.0 l), λ n. c.loop-first.invariant.1 (last.1 n))
