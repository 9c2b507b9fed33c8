use Rattle.wtf8_core.proofs.{Common.common_steps, Common.rules, lemmas.vectors.Windows.ascii_at, lemmas.vectors.Windows.ascii_is_utf8}
use Rattle.wtf8_core.proofs.utf8.ascii_len.Goals as goal

pub returns-then-near-lt-STEP-clause-text : goal.returns-then-near-lt-STEP-clause-text
returns-then-near-lt-STEP-clause-text c = search (rules, common_steps, ascii_is_utf8, ascii_at)

pub returns-else-near-lt-STEP-clause-text : goal.returns-else-near-lt-STEP-clause-text
returns-else-near-lt-STEP-clause-text c = search (rules, common_steps, ascii_is_utf8, ascii_at)
