use Rattle.std.proofs.Common.{◌≡◌, ◌∷◌, ◌++◌, [], ◌∙◌, ap, sym, subst, arith, length, append_assoc, append-nil}
use Rattle.std.specs.List.{AllByRecursion}
use Rattle.wtf8_core.specs.UnitsOf.{units_of}
use Rattle.platform_str.specs.Strings.{bytes}
use Rattle.os_command_line.specs.Windows.{IsBlank}
use Rattle.os_command_line.specs.WindowsWriting.{IsWritten}
use Rattle.os_command_line.proofs.lemmas.WindowsStrings.{units_fit}
use Rattle.os_command_line.proofs.lemmas.WindowsWriting.{begun, written_on, grown_on}
use Rattle.os_command_line.proofs.windows.writing.push_units.Goals as goal

pub loop-unit-init : goal.loop-unit-init
loop-unit-init g c =
    let e = c.into_iter-unit-iterator.ensures.into_iter_gives ∙ c.encode_wide-unit-items.ensures.units in
    ([], sym e, begun c.args.inside c.args.line.now.items, λ i. subst (AllByRecursion (λ u. ¬ (IsBlank u))) (sym e) (c.requires i), omega (arith, ap length e))

pub push_unit-requires-clause-room : goal.push_unit-requires-clause-room
push_unit-requires-clause-room g c = omega (arith, c.loop-unit.invariant.4, ap length c.in-Some.ensures.steps, units_fit (bytes c.args.argument) c.args.argument.ok, c.len.ensures)

pub push_unit-requires-clause-no_blank : goal.push_unit-requires-clause-no_blank
push_unit-requires-clause-no_blank g c = λ i. (subst (AllByRecursion (λ u. ¬ (IsBlank u))) c.in-Some.ensures.steps (c.loop-unit.invariant.3 i)).0

pub returns-in_err-run-clause-grows : goal.returns-in_err-run-clause-grows
returns-in_err-run-clause-grows g c = let w = c.loop-unit.invariant.2 in grown_on c.args.line.now.items c.loop-unit.line.items c.push_unit.new.line.items (w.prefix, w.new_is) c.push_unit.ensures.grows

pub loop-unit-preserved : goal.loop-unit-preserved
loop-unit-preserved g c =
    let so_far = c.loop-unit.invariant in
    let more = c.in_ok-run.ensures.added in
    let e = c.in-Some.ensures.steps in (
      so_far.0 ++ c.in-Some.unit ∷ [],
      so_far.1 ∙ ap (λ z. so_far.0 ++ z) e ∙ sym (append_assoc so_far.0 (c.in-Some.unit ∷ []) c.next.new.self),
      written_on c.args.inside c.args.line.now.items c.loop-unit.line.items c.push_unit.new.line.items c.loop-unit.run so_far.0 c.in-Some.unit more.0 c.in_ok-run.run' so_far.2 more.1 more.2,
      λ i. (subst (AllByRecursion (λ u. ¬ (IsBlank u))) e (so_far.3 i)).1,
      omega (arith, so_far.4, more.3, ap length e),
    )

pub returns-clause-written : goal.returns-clause-written
returns-clause-written g c =
    let so_far = c.loop-unit.invariant in
    let all : so_far.0 ≡ units_of (bytes c.args.argument) = sym (so_far.1 ∙ ap (λ z. so_far.0 ++ z) c.in-None.ensures.steps.0 ∙ append-nil so_far.0) in
    subst (IsWritten c.args.inside c.args.line.now.items c.loop-unit.line.items c.loop-unit.run) all so_far.2

pub returns-clause-grows : goal.returns-clause-grows
returns-clause-grows g c = let w = c.loop-unit.invariant.2 in (w.prefix, w.new_is)
