use Rattle.os_str_ext.proofs.{Common.sym, Common.◌∙◌, lemmas.Comparing.prefix_from_take, lemmas.Searches.cut_after_prefix}
use Rattle.os_str_ext.proofs.search.starts_with.Goals as goal

pub returns-then-text-bytes-clause-edge : goal.returns-then-text-bytes-clause-edge
returns-then-text-bytes-clause-edge c = λ e. cut_after_prefix c.boundaries.ensures.edges _ _ c.utf8.text (prefix_from_take _ _ (sym c.split_at.ensures.front ∙ c.are_same.ensures.0 e ∙ c.as_bytes.ensures.value))
