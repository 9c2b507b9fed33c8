use Rattle.std.proofs.{Common.◌<◌, lemmas.List.Elements.All-from_get_or}
use Rattle.os_str_bytes.proofs.headline.ask_units.Goals as goal

pub returns-clause-unix : goal.returns-clause-unix
returns-clause-unix g c = c.accepted.ensures.ok (All-from_get_or (λ b. b < 256) c.args.bytes.now 0 (λ i _. (c.type_inv.bytes i).fits))
