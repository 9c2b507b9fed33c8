use Rattle.std.proofs.Common.{◌∙◌, sym}
use Rattle.std.proofs.lemmas.Bool.{true≢false}
use Rattle.wtf8_core.specs.UnitsOf.{units_of}
use Rattle.platform_str.specs.Strings.{bytes}
use Rattle.os_command_line.proofs.lemmas.WindowsBatch.{none_read, all_read, kept_read, dropped_read, not_so}
use Rattle.os_command_line.proofs.windows.batch.ends_in_batch.Goals as goal

pub loop-unit-init : goal.loop-unit-init
loop-unit-init c = none_read (units_of (bytes c.args.program)) c.into_iter-unit-iterator.result (c.into_iter-unit-iterator.ensures.into_iter_gives ∙ c.encode_wide-unit-items.ensures.units)

pub loop-unit-preserved-then-not-is_dropped : goal.loop-unit-preserved-then-not-is_dropped
loop-unit-preserved-then-not-is_dropped c =
    kept_read (units_of (bytes c.args.program)) c.loop-unit.unit-iterator c.next.new.self c.loop-unit.is_batch c.ends_as_batch-is_batch.result c.loop-unit.dot c.loop-unit.first c.loop-unit.second c.in-Some.unit c.loop-unit.invariant c.in-Some.ensures.steps
    (λ d. true≢false (sym (c.is_dropped.ensures.1 (not_so _ (λ t. d.0 (c.requires.0 t)), d.1)) ∙ c.if-not-is_dropped.true)) c.ends_as_batch-is_batch.ensures

pub loop-unit-preserved : goal.loop-unit-preserved
loop-unit-preserved c =
    let known = c.is_dropped.ensures.0 c.if-not-is_dropped.false in
    dropped_read (units_of (bytes c.args.program)) c.loop-unit.unit-iterator c.next.new.self c.loop-unit.is_batch c.loop-unit.dot c.loop-unit.first c.loop-unit.second c.in-Some.unit c.loop-unit.invariant c.in-Some.ensures.steps
    ((λ v. true≢false (sym (c.requires.1 v) ∙ known.0)), known.1) known.1

pub returns : goal.returns
returns c = all_read (units_of (bytes c.args.program)) c.loop-unit.unit-iterator c.loop-unit.is_batch c.loop-unit.dot c.loop-unit.first c.loop-unit.second c.loop-unit.invariant c.in-None.ensures.steps.0
