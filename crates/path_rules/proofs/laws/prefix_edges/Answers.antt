use Rattle.path_rules.proofs.lemmas.Edges.{edge_after}
use Rattle.path_rules.proofs.laws.prefix_edges.Goals as goal

pub returns : goal.returns
returns c = λ s kind rest h. edge_after s kind rest h
