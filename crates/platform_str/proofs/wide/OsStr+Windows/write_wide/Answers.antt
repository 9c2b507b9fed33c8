use Rattle.platform_str.proofs.Common.{has_units_of, nat_tests, common_steps, arith}
use Rattle.platform_str.proofs.wide.OsStr+Windows.write_wide.Goals as goal

pub returns-clause-has_units : goal.returns-clause-has_units
returns-clause-has_units c = grind (arith, nat_tests, common_steps, has_units_of, c.as_encoded_bytes.ensures, c.write_units.ensures)
