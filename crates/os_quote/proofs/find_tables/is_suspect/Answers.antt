use Rattle.os_quote.proofs.Common.{not, eqb, sym, ap, ◌∙◌}
use Rattle.os_quote.specs.Hidden.{is_suspect}
use Rattle.os_quote.proofs.lemmas.SuspectLanes.{none_by_lead, pair_of, suspect_of}
use Rattle.os_quote.proofs.find_tables.is_suspect.Goals as goal

pub returns-then-leads-eq0 : goal.returns-then-leads-eq0
returns-then-leads-eq0 c = sym (none_by_lead c.args.first c.args.second c.args.third (sym c.bits-leads.ensures ∙ c.if-leads-eq0.true))

pub returns : goal.returns
unfolding is_suspect
returns c = ap (λ b. not (eqb b 0)) (suspect_of c.args.first c.args.second c.args.third _ _ (pair_of c.args.first c.args.second _ _ c.bits-leads.ensures c.bits.ensures) c.third_bits.ensures)
