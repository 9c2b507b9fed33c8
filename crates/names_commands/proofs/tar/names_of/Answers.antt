use Rattle.std.proofs.Common.{[], None, Some, arith}
use Rattle.tar_names.specs.Name.{name_bytes}
use Rattle.names_commands.specs.Tar.{ended, faulty}
use Rattle.names_commands.proofs.lemmas.Entries.{broken_off, continued, finished}
use Rattle.names_commands.proofs.tar.names_of.Goals as goal

pub returns-in-Ok-None : goal.returns-in-Ok-None
returns-in-Ok-None g c =
    finished g.E.Platform c.args.list _ _ _ (c.loop-output.invariant.1 [] None [] None ((rw c.in-Ok-None.field-0-is at c.in-Ok-None.ensures.ok) [] None) ended)

pub returns-in-Err : goal.returns-in-Err
returns-in-Err g c =
    broken_off g.E.Platform c.args.list _ _ _ _ c.earlier.ensures (c.loop-output.invariant.1 [] (Some c.in-Err.fault) [] _ c.in-Err.ensures.err faulty)

pub loop-output-preserved : goal.loop-output-preserved
loop-output-preserved g c = (
  let shorter = rw c.in-Ok-Some.field-0-is at c.in-Ok-Some.ensures.shorter in
      omega (arith, c.loop-output.invariant.0, shorter),
  λ names end output later left are.
      let read = (rw c.in-Ok-Some.field-0-is at c.in-Ok-Some.ensures.ok) names end left in
      continued g.E.Platform c.args.list _ _ _ (name_bytes c.in-Ok-Some.name) _ names end output _ _ _ later c.in_ok-rejected-in-Ok-Some.ensures c.earlier-first.ensures (λ lines others more. c.loop-output.invariant.1 _ end lines others read more) are,
)
