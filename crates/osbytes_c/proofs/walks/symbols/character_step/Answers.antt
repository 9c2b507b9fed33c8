use Rattle.std.proofs.Common.{refl, arith}
use Rattle.osbytes_c.proofs.lemmas.Symbols.{character_first, character_is_symbol, character_starts, some_n, size}
use Rattle.osbytes_c.proofs.walks.symbols.character_step.Goals as goal

pub returns-clause-first : goal.returns-clause-first
returns-clause-first c = λ platform w. character_first platform c.args.character c.args.bytes.now c.args.rest.now _ c.ranges.character.0 c.requires (refl, refl) refl w

pub returns-clause-starts : goal.returns-clause-starts
returns-clause-starts c = λ platform. character_starts platform c.args.character c.args.bytes.now c.args.rest.now _ c.ranges.character.0 c.requires (refl, refl) refl

pub returns-clause-within : goal.returns-clause-within
returns-clause-within c =
    let s = c.args.bytes.now in
    let rest = c.args.rest.now in
    let scalar = c.ranges.character.0 in
    let some = some_n c.args.character s rest scalar c.requires in
    let sizes = size c.args.character s rest scalar c.requires in
    (omega (arith, some, sizes), omega (arith, sizes))

pub returns-clause-some : goal.returns-clause-some
returns-clause-some c = λ platform. character_is_symbol platform c.args.character c.args.bytes.now c.args.rest.now c.ranges.character.0 c.requires
