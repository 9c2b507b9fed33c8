use Rattle.std.proofs.Common.{length, refl}
use Rattle.test_uses.proofs.bytes.occurs_in_bytes.Goals as goal

pub returns : goal.returns
returns c =
    let found = c.occurrence.ensures.units_occur c.args.text.now c.args.raw.now _ _ c.utf8.text c.requires.some c.requires.wtf8 c.requires.occurs in
    (length found.prefix, record { before = found.prefix; after = found.suffix; joined = found.joined; index = refl })
