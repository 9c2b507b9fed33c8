use Rattle.std.proofs.Common.{rules, ◌≡◌, ⊎_elim, refl, arith}
use Rattle.osbytes_c.proofs.lemmas.Pieces.{not_wtf8}
use Rattle.osbytes_c.proofs.uses.strings.is_finished.Goals as goal

pub returns : goal.returns
returns c = λ known fed h. (
  λ is. let zero : c.osb_core_finish.result ≡ 0 = search rules in c.osb_core_finish.ensures.string zero fed h,
  λ w. ⊎_elim (λ zero. rw zero refl)
      (⊎_elim (λ one. absurd (not_wtf8 fed c.osb_core_finish.new.fault (c.osb_core_finish.ensures.fault one fed h) w))
      (λ none. let past = c.osb_core_finish.ensures.state.0 none in absurd (omega (arith, past, known))))
      c.osb_core_finish.ensures.answers,
)
