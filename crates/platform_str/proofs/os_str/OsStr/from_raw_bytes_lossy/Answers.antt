use Rattle.platform_str.proofs.Common.{sym, subst}
use Rattle.platform_str.proofs.os_str.OsStr.from_raw_bytes_lossy.Goals as goal

pub returns-in_err-reading-in-Err-clause-without_memory : goal.returns-in_err-reading-in-Err-clause-without_memory
returns-in_err-reading-in-Err-clause-without_memory g c = λ formed. absurd (g.met.E.Platform.laws.faulty _ _ c.in-Err.ensures formed)

pub returns-in-Ok-clause-reading : goal.returns-in-Ok-clause-reading
returns-in-Ok-clause-reading g c = subst (g.E.Platform.reads_as c.args.raw.now) (sym c.from_encoded_bytes_unchecked.ensures) (g.met.E.Platform.readings.reads_itself c.args.raw.now c.in-Ok.ensures)

pub returns-in-Ok-clause-kept : goal.returns-in-Ok-clause-kept
returns-in-Ok-clause-kept g c = λ _. c.from_encoded_bytes_unchecked.ensures

pub returns-in_ok-reading-in-Err-clause-reading : goal.returns-in_ok-reading-in-Err-clause-reading
returns-in_ok-reading-in-Err-clause-reading g c = subst (λ vec. g.E.Platform.reads_as c.args.raw.now vec.items) (sym c.from_encoded_bytes_unchecked-in-Err.ensures) c.in_ok-reading-in-Err.ensures.reading

pub returns-in_ok-reading-in-Err-clause-kept : goal.returns-in_ok-reading-in-Err-clause-kept
returns-in_ok-reading-in-Err-clause-kept g c = λ formed. absurd (g.met.E.Platform.laws.faulty _ _ c.in-Err.ensures formed)
