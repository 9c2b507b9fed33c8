use Rattle.os_str_ext.proofs.Common.{arith, sym, ◌∙◌}
use Rattle.os_str_ext.proofs.lemmas.Indices.{boundary_by_end, end_by_boundary, none_from_test}
use Rattle.os_str_ext.proofs.boundary.is_boundary.Goals as goal

pub returns-else-is_some : goal.returns-else-is_some
returns-else-is_some c = (
  λ e. boundary_by_end c.args.bytes.now c.args.at _ c.char_before.ensures (sym c.is_some-else-is_some.ensures ∙ e),
  λ b. c.is_some-else-is_some.ensures ∙ end_by_boundary c.args.bytes.now c.args.at _ c.char_before.ensures (omega arith) (omega arith) (none_from_test _ _ _ (sym c.is_some.ensures ∙ c.if-is_some.false) c.char_at.ensures) b,
)
