use Rattle.std.proofs.Common.{◌≡◌, ⊎_elim, true, false, arith}
use Rattle.osbytes_c.proofs.uses.strings.is_fed.Goals as goal

pub returns-clause-rejected : goal.returns-clause-rejected
returns-clause-rejected c = λ is known fed h. (
  c.osb_core_feed.new.fault,
  ⊎_elim (λ zero. let never : true ≡ false = rw zero at is in absurd cc)
      (⊎_elim (λ one. c.osb_core_feed.ensures.fault one fed h)
      (λ none. let past = c.osb_core_feed.ensures.state.0 none in absurd (omega (arith, past, known))))
      c.osb_core_feed.ensures.answers,
)
