use Rattle.std.proofs.Common.{ap, arith}
use Rattle.std.proofs.Math.ListN.{drop_of_length-le}
use Rattle.std.specs.List.{flat_map}
use Rattle.std.proofs.lemmas.List.{drop_more}
use Rattle.os_command_line.specs.ShellWriting.{octal_text}
use Rattle.platform_str.proofs.lemmas.Taking.{nothing_taken, one_taken, all_taken, room_left, none_taken, rejected}
use Rattle.os_command_line.proofs.shell.write_word.write_octals.Goals as goal

pub loop-byte-init : goal.loop-byte-init
loop-byte-init g c = nothing_taken g.S.Sink.rules

pub write_octal-requires : goal.write_octal-requires
write_octal-requires g c = room_left g.S.Sink.rules c.loop-byte.invariant _ _ c.requires (ap (flat_map octal_text) (drop_more c.args.bytes.now c.loop-byte.byte-index 0 c.loop-byte-test.true))

pub loop-byte-preserved : goal.loop-byte-preserved
loop-byte-preserved g c = one_taken g.S.Sink.rules c.loop-byte.invariant c.in_ok-write_octal.ensures (ap (flat_map octal_text) (drop_more c.args.bytes.now c.loop-byte.byte-index 0 c.loop-byte-test.true))

pub returns : goal.returns
returns g c = all_taken g.S.Sink.rules c.loop-byte.invariant (ap (flat_map octal_text) (drop_of_length-le c.args.bytes.now (omega (arith, c.loop-byte-test.false))))

pub returns-in_err-write_octal : goal.returns-in_err-write_octal
returns-in_err-write_octal g c = rejected g.S.Sink.rules _ _ c.from_residual.result c.from_residual.ensures.1 (none_taken g.S.Sink.rules c.loop-byte.invariant _ _ c.in_err-write_octal.ensures (ap (flat_map octal_text) (drop_more c.args.bytes.now c.loop-byte.byte-index 0 c.loop-byte-test.true)))
