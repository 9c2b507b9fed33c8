use Rattle.wtf8_core.proofs.Common.{common_steps, rules}
use Rattle.wtf8_core.proofs.lemmas.{forms.Cuts.char_boundary, forms.Cuts.boundary_of_str, occurrence.Boundaries.edges_of_text, characters.Overlaps.boundary_in_prefix, characters.Overlaps.boundary_in_rest}
use Rattle.wtf8_core.proofs.laws.boundaries.Goals as goal

pub returns : goal.returns
returns c = search (rules, common_steps, edges_of_text, boundary_in_prefix, boundary_in_rest, char_boundary, boundary_of_str)
