use Rattle.platform_str.proofs.Common.{rules, length, length-append, length-drop, take, drop, ap, arith, flat_map, nat_tests, common_steps}
use Rattle.platform_str.specs.FromWide.{word_bytes, bytes_after_first}
use Rattle.platform_str.proofs.lemmas.{ToWide.appended, FromWide.block_words, FromWide.gives_few, FromWide.some_after, FromWideLanes.few_bytes}
use Rattle.platform_str.proofs.from_wide.put_block.Goals as goal

pub put_words-requires-clause-few : goal.put_words-requires-clause-few
put_words-requires-clause-few c i h = grind (arith, nat_tests, common_steps, gives_few, few_bytes, c.unit_words.ensures, c.type_inv.units)

pub put_words-requires-clause-room : goal.put_words-requires-clause-room
put_words-requires-clause-room c =
    let us = c.args.units.now in
    let rest = drop 16 us in
    let gives = block_words 16 us c.unit_words.result (search rules) (omega (arith, c.requires.some)) c.unit_words.ensures in
    omega (arith, c.requires.some, c.requires.room, ap length gives, length-append (flat_map word_bytes c.unit_words.result) (bytes_after_first rest), some_after rest, length-drop 16 us)

pub returns-clause-written : goal.returns-clause-written
returns-clause-written c =
    let gives = block_words 16 c.args.units.now c.unit_words.result (search rules) (omega (arith, c.requires.some)) c.unit_words.ensures in
    appended _ (take c.args.at c.args.bytes.now) _ _ _ c.put_words.ensures.written gives

pub returns-clause-end : goal.returns-clause-end
returns-clause-end c =
    let gives = block_words 16 c.args.units.now c.unit_words.result (search rules) (omega (arith, c.requires.some)) c.unit_words.ensures in
    omega (arith, c.put_words.ensures.end, ap length gives, length-append (flat_map word_bytes c.unit_words.result) (bytes_after_first (drop 16 c.args.units.now)))
