use Rattle.os_quote.proofs.Common.{arith, form_bounds}
use Rattle.os_quote.proofs.read_string.push_form.Goals as goal

pub write_form-len-requires-clause-room : goal.write_form-len-requires-clause-room
write_form-len-requires-clause-room c = omega (arith, (form_bounds c.args.code_point).1)
