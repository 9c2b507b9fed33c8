use Rattle.std.proofs.Common.{◌||◌, ◌&&◌, ◌∙◌, sym, subst}
use Rattle.std.specs.Prelude.{◌↔◌, IsTrue}
use Rattle.std.proofs.lemmas.Bool.{true≢false}
use Rattle.wtf8_core.specs.UnitsOf.{units_of}
use Rattle.platform_str.specs.Strings.{bytes}
use Rattle.os_command_line.specs.WindowsBatch.{IsDropped}
use Rattle.os_command_line.proofs.lemmas.WindowsBatch.{IsLeft, none_left, unit_left, all_left, goes_on, not_so}
use Rattle.os_command_line.proofs.windows.batch.ends_in_dots.Goals as goal

pub loop-unit-init : goal.loop-unit-init
loop-unit-init c = none_left (units_of (bytes c.args.path)) c.into_iter-unit-iterator.result (c.into_iter-unit-iterator.ensures.into_iter_gives ∙ c.encode_wide-unit-items.ensures.units)

pub loop-unit-preserved : goal.loop-unit-preserved
loop-unit-preserved c =
    let path = units_of (bytes c.args.path) in
    let is = c.is_dropped-dropped.ensures in
    let drops : IsTrue c.is_dropped-dropped.result ↔ IsDropped path c.in-Some.unit = (
      λ t. let known = is.0 t in ((λ v. true≢false (sym (c.requires.1 v) ∙ known.0)), known.1),
      λ d. is.1 (not_so _ (λ t. d.0 (c.requires.0 t)), d.1),
    ) in
    let dots = (c.loop-unit.first || c.loop-unit.dots) && c.is_dropped-dropped.result in
    let next = unit_left path c.loop-unit.unit-iterator c.next.new.self c.loop-unit.first c.loop-unit.dots dots c.in-Some.unit c.loop-unit.invariant c.in-Some.ensures.steps (goes_on (c.loop-unit.first || c.loop-unit.dots) c.is_dropped-dropped.result drops) in
    subst (λ first. IsLeft (IsDropped path) path first dots c.next.new.self) (sym c.is_separator-first.ensures) next

pub returns : goal.returns
returns c = all_left (units_of (bytes c.args.path)) c.loop-unit.unit-iterator c.loop-unit.first c.loop-unit.dots c.loop-unit.invariant c.in-None.ensures.steps.0
