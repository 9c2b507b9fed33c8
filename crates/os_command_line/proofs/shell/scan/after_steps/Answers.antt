use Rattle.std.proofs.Common.{◌∙◌, sym, ap}
use Rattle.std.proofs.lemmas.List.{nil_from_length}
use Rattle.os_command_line.specs.declared.shell.fault.FaultKind.TheVariants.{UnclosedSingle, UnclosedDouble, UnclosedDollar}
use Rattle.os_command_line.specs.ShellReader.{at_end}
use Rattle.os_command_line.proofs.lemmas.ShellScan.{nothing_yet, one_more, stopped, refused, go_within, outside_opened, inside_opened, word_ends, quote_open}
use Rattle.os_command_line.proofs.shell.scan.after_steps.Goals as goal

pub loop-byte-init : goal.loop-byte-init
loop-byte-init c = nothing_yet c.args.language c.args.text.now

pub returns-in-End : goal.returns-in-End
returns-in-End c =
    stopped c.args.language c.args.text.now c.loop-byte.state c.loop-byte.from.now c.loop-byte.rest.now c.loop-byte.invariant c.in-Some.byte.now c.in-Some.after.now c.in-Some.ensures.cases.0 (sym c.step_at.ensures ∙ c.in-End.is)

pub returns-in-Refuse : goal.returns-in-Refuse
returns-in-Refuse c =
    refused c.args.language c.args.text.now c.loop-byte.state c.loop-byte.from.now c.loop-byte.rest.now c.loop-byte.invariant c.in-Some.byte.now c.in-Some.after.now c.in-Some.ensures.cases.0 c.in-Refuse.kind (sym c.step_at.ensures ∙ c.in-Refuse.is)

pub split_at-requires : goal.split_at-requires
split_at-requires c = go_within c.args.language c.loop-byte.state c.in-Some.byte.now c.in-Some.after.now _ _ _ c.in-Go.skipped c.step_at.ensures c.in-Go.is

pub loop-byte-preserved-then-is_outside : goal.loop-byte-preserved-then-is_outside
loop-byte-preserved-then-is_outside c =
    one_more c.args.language c.args.text.now c.loop-byte.state c.loop-byte.from.now c.loop-byte.rest.now c.loop-byte.invariant c.in-Some.byte.now c.in-Some.after.now c.in-Some.ensures.cases.0 _ c.in-Go.next c.in-Go.skipped _ _
    (sym c.step_at.ensures ∙ c.in-Go.is) c.split_at.ensures.back (outside_opened c.loop-byte.state c.loop-byte.from.now c.loop-byte.rest.now (sym c.is_outside.ensures ∙ c.if-is_outside.true))

pub loop-byte-preserved : goal.loop-byte-preserved
loop-byte-preserved c =
    one_more c.args.language c.args.text.now c.loop-byte.state c.loop-byte.from.now c.loop-byte.rest.now c.loop-byte.invariant c.in-Some.byte.now c.in-Some.after.now c.in-Some.ensures.cases.0 _ c.in-Go.next c.in-Go.skipped _ _
    (sym c.step_at.ensures ∙ c.in-Go.is) c.split_at.ensures.back (inside_opened c.loop-byte.state c.loop-byte.from.now c.loop-byte.rest.now (sym c.is_outside.ensures ∙ c.if-is_outside.false))

pub returns-in-Start : goal.returns-in-Start
returns-in-Start c =
    word_ends c.args.language c.args.text.now c.loop-byte.state c.loop-byte.from.now c.loop-byte.rest.now c.loop-byte.invariant (nil_from_length c.loop-byte.rest.now c.in_default.ensures.cases) (ap (λ s. at_end s c.loop-byte.from.now) c.in-Start.is)

pub returns-in-Bare : goal.returns-in-Bare
returns-in-Bare c =
    word_ends c.args.language c.args.text.now c.loop-byte.state c.loop-byte.from.now c.loop-byte.rest.now c.loop-byte.invariant (nil_from_length c.loop-byte.rest.now c.in_default.ensures.cases) (ap (λ s. at_end s c.loop-byte.from.now) c.in-Bare.is)

pub returns-in-Single : goal.returns-in-Single
returns-in-Single c =
    quote_open c.args.language c.args.text.now c.loop-byte.state c.loop-byte.from.now c.loop-byte.rest.now c.loop-byte.invariant (nil_from_length c.loop-byte.rest.now c.in_default.ensures.cases) UnclosedSingle (ap (λ s. at_end s c.loop-byte.from.now) c.in-Single.is)

pub returns-in-Double : goal.returns-in-Double
returns-in-Double c =
    quote_open c.args.language c.args.text.now c.loop-byte.state c.loop-byte.from.now c.loop-byte.rest.now c.loop-byte.invariant (nil_from_length c.loop-byte.rest.now c.in_default.ensures.cases) UnclosedDouble (ap (λ s. at_end s c.loop-byte.from.now) c.in-Double.is)

pub returns-in-Dollar : goal.returns-in-Dollar
returns-in-Dollar c =
    quote_open c.args.language c.args.text.now c.loop-byte.state c.loop-byte.from.now c.loop-byte.rest.now c.loop-byte.invariant (nil_from_length c.loop-byte.rest.now c.in_default.ensures.cases) UnclosedDollar (ap (λ s. at_end s c.loop-byte.from.now) c.in-Dollar.is)
