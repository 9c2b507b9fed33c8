use Rattle.std.proofs.Common.{rules}
use Rattle.os_str_ext.proofs.slice_index.fits.Goals as goal

pub returns-then-is_boundary : goal.returns-then-is_boundary
returns-then-is_boundary g c = rw (← c.as_encoded_bytes-bytes.ensures.value) (search rules)
