use Rattle.std.proofs.Common.{◌∷◌, ◌<◌, ◌^◌, [], length, arith, refl, rules, sym, subst}
use Rattle.wtf8_core.specs.Truncated.{IsTruncated}
use Rattle.wtf8_core.proofs.lemmas.buffers.Truncated.{none_yet}
use Rattle.platform_str.proofs.lemmas.Pushing.{push_bytes, one_pushed, all_pushed, pushed_all, room_left}
use Rattle.os_command_line.proofs.lemmas.ShellBare.{bare_raw, raw_short}
use Rattle.os_command_line.proofs.shell.word.Word.write_to.Goals as goal

pub returns-then-self : goal.returns-then-self
returns-then-self c =
    let word = c.args.self in
    subst (λ x. IsTruncated x c.args.buffer.now c.push_truncated.new.buffer c.push_truncated.result) (sym (bare_raw word.language word.is_bare word.raw.now c.if-self.true)) (c.push_truncated.ensures.written [] c.args.buffer.now (none_yet c.args.buffer.now))

pub push_truncated-count-requires : goal.push_truncated-count-requires
push_truncated-count-requires c =
    let word = c.args.self in
    let short : length word.raw.now < 2 ^ 64 = search rules in
    room_left c.loop-byte.invariant (c.in-Some.byte ∷ []) _ (omega (arith, short, raw_short word.language word.is_bare word.raw.now)) c.in-Some.ensures.steps

pub loop-byte-preserved : goal.loop-byte-preserved
loop-byte-preserved c = one_pushed c.loop-byte.invariant (push_bytes refl c.push_truncated-count.ensures.written c.push_truncated-count.ensures.len) c.in-Some.ensures.steps

pub returns : goal.returns
returns c = pushed_all (all_pushed c.loop-byte.invariant c.in-None.ensures.steps.0)
