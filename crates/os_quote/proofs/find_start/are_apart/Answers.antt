use Rattle.os_quote.proofs.{Common.◌||◌, Common.not, Common.get_or, Common.and_parts, lemmas.FirstUnits.told_apart}
use Rattle.std.proofs.{Math.Dec.leb, lemmas.Bool.leb-true}
use Rattle.os_quote.proofs.find_start.are_apart.Goals as goal

pub returns : goal.returns
returns c = λ apart.
    let first = get_or c.args.bytes.now 0 0 in
    let both = and_parts (leb 0x80 first) (c.is_continuation.result || not c.is_continuation-2.result) apart in
    told_apart c.args.bytes.now _ _ (leb-true 0x80 first both.0) c.is_continuation.ensures.0 c.is_continuation-2.ensures.1 both.1
