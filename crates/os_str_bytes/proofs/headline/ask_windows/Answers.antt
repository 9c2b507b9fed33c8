use Rattle.std.proofs.Common.{subst}
use Rattle.wtf8_core.specs.Chunks.{AreChunks}
use Rattle.os_str_bytes.proofs.headline.ask_windows.Goals as goal

pub returns-clause-utf8_chunks : goal.returns-clause-utf8_chunks
returns-clause-utf8_chunks c = λ cs encoded. c.chunks.ensures.runs _ cs _ encoded (subst (λ b. AreChunks b c.utf8_chunks.result) c.as_os_str-2.ensures c.utf8_chunks.ensures.chunks)
