use Rattle.std.proofs.Common.{◌≡◌, ◌∷◌, ◌++◌, [], ◌∙◌, ap, sym, append_assoc, append-nil}
use Rattle.wtf8_core.specs.UnitsOf.{units_of}
use Rattle.platform_str.specs.Strings.{bytes}
use Rattle.os_command_line.proofs.windows.writing.push_name.Goals as goal

pub loop-unit-init : goal.loop-unit-init
loop-unit-init g c = ([], sym (c.into_iter-unit-iterator.ensures.into_iter_gives ∙ c.encode_wide-unit-items.ensures.units), c.in_ok-push_one.ensures.pushed)

pub loop-unit-preserved : goal.loop-unit-preserved
loop-unit-preserved g c =
    let so_far = c.loop-unit.invariant in (
      so_far.0 ++ c.in-Some.unit ∷ [],
      so_far.1 ∙ ap (λ z. so_far.0 ++ z) c.in-Some.ensures.steps ∙ sym (append_assoc so_far.0 (c.in-Some.unit ∷ []) c.next.new.self),
      c.in_ok-push_one-2.ensures.pushed ∙ ap (λ z. z ++ c.in-Some.unit ∷ []) so_far.2 ∙ append_assoc c.args.line.now.items (0x22 ∷ so_far.0) (c.in-Some.unit ∷ []),
    )

pub returns : goal.returns
returns g c =
    let so_far = c.loop-unit.invariant in
    let all : so_far.0 ≡ units_of (bytes c.args.program) = sym (so_far.1 ∙ ap (λ z. so_far.0 ++ z) c.in-None.ensures.steps.0 ∙ append-nil so_far.0) in
    c.in_ok-push_one-3.ensures.pushed ∙ ap (λ z. z ++ 0x22 ∷ []) so_far.2 ∙ append_assoc c.args.line.now.items (0x22 ∷ so_far.0) (0x22 ∷ []) ∙ ap (λ z. c.args.line.now.items ++ 0x22 ∷ (z ++ 0x22 ∷ [])) all
