use Rattle.wtf8_core.proofs.{Common.common_steps, Common.rules, lemmas.buffers.Truncated.prefix_written}
use Rattle.platform_str.proofs.wide_buffer.fill_up.Goals as goal

pub returns-then-count-buffer : goal.returns-then-count-buffer
returns-then-count-buffer c = search (rules, common_steps, prefix_written, c.copy_from_slice.ensures.after, c.if-count-buffer.true, c.requires)
