use Rattle.platform_str.proofs.{Common.nat_tests, Common.common_steps, Common.◌++◌, Common.ap, Common.arith, lemmas.LossyLoops.one_more}
use Rattle.platform_str.proofs.lossy.text_bytes.Goals as goal

pub loop-fault-init : goal.loop-fault-init
loop-fault-init g c = (c.requires.formed, ap (λ x. x ++ g.E.Platform.lossy c.args.bytes.now) c.in_ok-text.ensures.items, c.requires.fault)

pub push_replaced-requires : goal.push_replaced-requires
push_replaced-requires g c = let fault = rw c.in-Some.is at c.loop-fault.invariant.2 in omega (arith, fault.valid.short)

pub after_fault-rest-requires-clause-fault : goal.after_fault-rest-requires-clause-fault
after_fault-rest-requires-clause-fault g c = rw c.in-Some.is at c.loop-fault.invariant.2

pub loop-fault-preserved : goal.loop-fault-preserved
loop-fault-preserved g c = grind (arith, nat_tests, common_steps, one_more, c.after_fault-rest.ensures, c.in_ok-push_replaced.ensures, c.utf8_fault-fault.ensures)

pub returns : goal.returns
returns g c = grind (arith, nat_tests, common_steps, c.in_default.is, c.in_ok-extend_from_slice.ensures.items, g.met.E.Platform.laws.lossy_text)
