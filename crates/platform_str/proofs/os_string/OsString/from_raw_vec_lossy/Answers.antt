use Rattle.platform_str.proofs.Common.{sym, subst, nat_tests, common_steps, arith}
use Rattle.platform_str.proofs.os_string.OsString.from_raw_vec_lossy.Goals as goal

pub returns-in_err-alloc-in-Err-clause-without_memory : goal.returns-in_err-alloc-in-Err-clause-without_memory
returns-in_err-alloc-in-Err-clause-without_memory g c = λ formed. absurd (g.met.E.Platform.laws.faulty _ _ c.in-Err.ensures (subst g.E.Platform.well_formed (sym c.as_slice.ensures.value) formed))

pub returns-in_err-reading-in-Err-clause-without_memory : goal.returns-in_err-reading-in-Err-clause-without_memory
returns-in_err-reading-in-Err-clause-without_memory g c = λ formed. absurd (g.met.E.Platform.laws.faulty _ _ c.in-Err.ensures (subst g.E.Platform.well_formed (sym c.as_slice.ensures.value) formed))

pub returns-in-Ok-clause-reading : goal.returns-in-Ok-clause-reading
returns-in-Ok-clause-reading g c = grind (arith, nat_tests, common_steps, c.as_slice.ensures.value, c.in-Ok.ensures, c.from_encoded_bytes_unchecked.ensures, g.met.E.Platform.readings.reads_itself)

pub returns-in-Ok-clause-kept : goal.returns-in-Ok-clause-kept
returns-in-Ok-clause-kept g c = λ _. c.from_encoded_bytes_unchecked.ensures

pub returns-in_ok-reading-in-Err-clause-reading : goal.returns-in_ok-reading-in-Err-clause-reading
returns-in_ok-reading-in-Err-clause-reading g c = grind (arith, nat_tests, common_steps, c.from_encoded_bytes_unchecked-in-Err.ensures, c.as_slice-in-Err.ensures.value, c.in_ok-reading-in-Err.ensures.reading)

pub returns-in_ok-reading-in-Err-clause-kept : goal.returns-in_ok-reading-in-Err-clause-kept
returns-in_ok-reading-in-Err-clause-kept g c = λ formed. absurd (g.met.E.Platform.laws.faulty _ _ c.in-Err.ensures (subst g.E.Platform.well_formed (sym c.as_slice.ensures.value) formed))
