use Rattle.platform_str.proofs.lemmas.ToWide.{has_written}
use Rattle.platform_str.proofs.wide.OsStr+Windows.to_wide.Goals as goal

pub returns-clause-has_units : goal.returns-clause-has_units
returns-clause-has_units g c = has_written c.as_encoded_bytes-encoded.ensures.formed c.as_encoded_bytes-encoded.ensures.value c.in_ok-wide.ensures.items c.in_ok-push_units.ensures.ok
