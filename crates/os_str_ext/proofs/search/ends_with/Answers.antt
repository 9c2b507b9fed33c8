use Rattle.os_str_ext.proofs.{Common.sym, Common.◌∙◌, lemmas.Comparing.end_from_drop, lemmas.Searches.cut_before_end}
use Rattle.os_str_ext.proofs.search.ends_with.Goals as goal

pub returns-then-text-bytes-clause-edge : goal.returns-then-text-bytes-clause-edge
returns-then-text-bytes-clause-edge c = λ e. cut_before_end c.boundaries.ensures.edges _ _ c.utf8.text (end_from_drop _ _ (sym c.split_at.ensures.back ∙ c.are_same.ensures.0 e ∙ c.as_bytes.ensures.value))
