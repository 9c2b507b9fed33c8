use Rattle.std.proofs.Common.{rules, refl, sym, arith}
use Rattle.platform_str.proofs.lemmas.Pushing.{never_rejected, pushed_whole}
use Rattle.os_command_line.proofs.lemmas.Fish.{word_len}
use Rattle.os_command_line.proofs.shell.fish.push_word.Goals as goal

pub write_word-requires : goal.write_word-requires
write_word-requires c = record { accepted = tt; room = omega (arith, c.requires, word_len c.args.name.now) }

pub returns : goal.returns
returns c =
    let pushed = never_rejected c.write_word.result c.write_word.ensures in
    let same = sym pushed.0 in
    pushed_whole pushed.1 refl refl (search (rules, same))
