use Rattle.std.proofs.Common.{length, ◌∙◌, ap, length-append, arith}
use Rattle.os_command_line.specs.ShellViews.{word_bytes}
use Rattle.platform_str.proofs.lemmas.Pushing.{nothing_pushed, one_pushed, all_pushed, push_both, PushesRest}
use Rattle.std.proofs.Common.{subst, sym}
use Rattle.osbytes_c.proofs.lines.shell_words.push_word.Goals as goal

pub loop-byte-init : goal.loop-byte-init
loop-byte-init c = subst (λ z. PushesRest c.args.out.now c.args.count c.args.out.now c.args.count z (word_bytes c.args.word)) (sym (c.into_iter-byte-iterator.ensures.into_iter_gives ∙ c.bytes-byte-items.ensures)) (nothing_pushed c.args.out.now c.args.count (word_bytes c.args.word))

pub push_truncated-len-requires : goal.push_truncated-len-requires
push_truncated-len-requires c =
    let so_far = c.loop-byte.invariant in
    omega (arith, so_far.1.1, ap length so_far.2, length-append so_far.0 c.loop-byte.byte-iterator, ap length c.in-Some.ensures.steps, c.requires)

pub loop-byte-preserved : goal.loop-byte-preserved
loop-byte-preserved c = one_pushed c.loop-byte.invariant (c.push_truncated-len.ensures.written, c.push_truncated-len.ensures.len) c.in-Some.ensures.steps

pub push_truncated-requires : goal.push_truncated-requires
push_truncated-requires c =
    let so_far = c.loop-byte.invariant in
    omega (arith, so_far.1.1, ap length so_far.2, length-append so_far.0 c.loop-byte.byte-iterator, c.requires)

pub returns : goal.returns
returns c = push_both (all_pushed c.loop-byte.invariant c.in-None.ensures.steps.0) (c.push_truncated.ensures.written, c.push_truncated.ensures.len)
