use Rattle.os_args.proofs.lemmas.OneReading.{one_reading}
use Rattle.os_args.proofs.laws.one_reading.Goals as goal

pub returns : goal.returns
returns c = one_reading
