use Rattle.os_str_ext.proofs.{Common.IsLastIndex, Common.bytes, lemmas.Searches.parts_around}
use Rattle.os_str_ext.proofs.parts.rsplit_once.Goals as goal

pub returns-in_default : goal.returns-in_default
returns-in_default g c = rw c.as_encoded_bytes.ensures.value at c.in_default.ensures.index

pub returns : goal.returns
returns g c =
    let found = rw c.as_encoded_bytes.ensures.value at c.in-Some.ensures.index in
    parts_around IsLastIndex c.args.text.now (bytes c.args.string) _ _ c.in-Some.at found found.occurs c.around.ensures.prefix c.around.ensures.suffix
