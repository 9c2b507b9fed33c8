use Rattle.wtf8_core.proofs.lemmas.chunks.Runs.{chunks_by_runs}
use Rattle.wtf8_core.proofs.laws.chunks.Goals as goal

pub returns-clause-runs : goal.returns-clause-runs
returns-clause-runs c = chunks_by_runs
