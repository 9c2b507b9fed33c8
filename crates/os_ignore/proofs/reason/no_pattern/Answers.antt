use Rattle.os_ignore.proofs.lemmas.LineReadings.{has_reason}
use Rattle.os_ignore.proofs.reason.no_pattern.Goals as goal

pub returns : goal.returns
returns g c = has_reason _ _ c.line_text.ensures c.in_ok-read.read c.in_ok-read.ensures.line c.reason_of.result c.reason_of.ensures
