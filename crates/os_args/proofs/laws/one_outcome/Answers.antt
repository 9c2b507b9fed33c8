use Rattle.os_args.proofs.lemmas.OneOutcome.{one_word, one_value, one_optional_value, one_rest}
use Rattle.os_args.proofs.laws.one_outcome.Goals as goal

pub returns-clause-next : goal.returns-clause-next
returns-clause-next c = one_word

pub returns-clause-value : goal.returns-clause-value
returns-clause-value c = one_value

pub returns-clause-optional : goal.returns-clause-optional
returns-clause-optional c = one_optional_value

pub returns-clause-rest : goal.returns-clause-rest
returns-clause-rest c = one_rest
