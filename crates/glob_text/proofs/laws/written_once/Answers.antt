use Rattle.glob_text.proofs.lemmas.Backwards.{one_list}
use Rattle.glob_text.proofs.laws.written_once.Goals as goal

pub returns : goal.returns
returns c = one_list
