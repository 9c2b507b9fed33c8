use Rattle.std.proofs.Common.{[], ◌∷◌, ◌++◌, length, ◌∙◌, sym, ap, subst, append_assoc, length-append, arith}
use Rattle.std.specs.List.{AllByRecursion}
use Rattle.platform_str.specs.Strings.{bytes}
use Rattle.os_command_line.specs.Windows.{IsBlank}
use Rattle.os_command_line.proofs.lemmas.WindowsStrings.{units_fit}
use Rattle.osbytes_c.proofs.lemmas.ArgumentWriting.{one_more_unit}
use Rattle.osbytes_c.proofs.lines.windows_quote.push_units.Goals as goal

pub push_escaped-requires-clause-room : goal.push_escaped-requires-clause-room
push_escaped-requires-clause-room c =
    let so_far = c.loop-unit.invariant in
    omega (arith, so_far.2.few, ap length so_far.1, length-append so_far.0 c.loop-unit.unit-iterator, ap length c.in-Some.ensures.steps, units_fit (bytes c.args.argument) c.args.argument.ok, c.requires.room)

pub loop-unit-preserved : goal.loop-unit-preserved
loop-unit-preserved c =
    let so_far = c.loop-unit.invariant in
    let e = c.in-Some.ensures.steps in (
      so_far.0 ++ c.in-Some.unit ∷ [],
      so_far.1 ∙ ap (λ z. so_far.0 ++ z) e ∙ sym (append_assoc so_far.0 (c.in-Some.unit ∷ []) c.next.new.self),
      one_more_unit c.args.inside c.args.out.now c.args.count so_far.0 c.in-Some.unit c.loop-unit.out c.push_escaped.new.out c.loop-unit.len c.loop-unit.run c.push_escaped.result.0 c.push_escaped.result.1 so_far.2 c.push_escaped.ensures,
      λ i. (subst (AllByRecursion (λ u. ¬ (IsBlank u))) e (so_far.3 i)).1,
    )
