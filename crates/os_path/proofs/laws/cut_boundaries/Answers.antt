use Rattle.os_path.proofs.lemmas.Cuts.{cut_boundary}
use Rattle.os_path.proofs.laws.cut_boundaries.Goals as goal

pub returns : goal.returns
returns c = λ s before after e cut. cut_boundary s before after e cut
