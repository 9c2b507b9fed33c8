use Rattle.std.proofs.Common.{map, sym, subst}
use Rattle.std.specs.Prelude.{None, Ok, MatchOption}
use Rattle.os_args.specs.Reading.{TakesWord}
use Rattle.os_args.specs.Views.{reading}
use Rattle.os_str_bytes.specs.Strings.{bytes}
use Rattle.list_programs.specs.Arguments.{Takes, TakesAll, unread}
use Rattle.list_programs.proofs.lemmas.Arguments.{less_after, one_more}
use Rattle.list_programs.proofs.arguments.read_strings.Goals as goal

pub loop-one-smaller : goal.loop-one-smaller
loop-one-smaller g c =
    let spelled = g.O.ProgramOption.spelled in
    let has_value = g.O.ProgramOption.has_value in
    let before = reading c.loop-one.arguments in
    let after = reading c.read_one.new.arguments in
    let takes = subst (λ read. MatchOption read (TakesWord before (Ok None) after) (λ given. Takes spelled has_value before given after)) c.in-Ok-Some.field-0-is c.in-Ok-Some.ensures.read in
    less_after spelled has_value before after c.in-Ok-Some.one takes

pub loop-one-preserved : goal.loop-one-preserved
loop-one-preserved g c =
    let spelled = g.O.ProgramOption.spelled in
    let has_value = g.O.ProgramOption.has_value in
    let start = unread (map bytes c.args.strings.now) in
    let before = reading c.loop-one.arguments in
    let after = reading c.read_one.new.arguments in
    let takes = subst (λ read. MatchOption read (TakesWord before (Ok None) after) (λ given. Takes spelled has_value before given after)) c.in-Ok-Some.field-0-is c.in-Ok-Some.ensures.read in
    subst (λ items. TakesAll spelled has_value start items after) (sym c.in-Ok.ensures.items)
    (one_more spelled has_value start before after c.loop-one.given.items c.in-Ok-Some.one c.loop-one.invariant takes)
