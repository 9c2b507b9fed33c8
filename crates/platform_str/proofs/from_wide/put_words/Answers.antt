use Rattle.platform_str.proofs.Common.{length-append, length-take-le, arith, append_assoc, nat_tests, common_steps}
use Rattle.std.proofs.lemmas.{List.drop_more, Simd.length-put_chunk}
use Rattle.platform_str.proofs.lemmas.FromWideLanes.{word_stored}
use Rattle.platform_str.proofs.from_wide.put_words.Goals as goal

pub loop-i-preserved : goal.loop-i-preserved
loop-i-preserved c = grind (arith, nat_tests, common_steps, drop_more, word_stored, length-put_chunk, append_assoc, length-take-le, length-append, c.loop-i-test.true, c.requires.few, c.requires.room)
