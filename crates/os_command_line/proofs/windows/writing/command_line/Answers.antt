use Rattle.std.proofs.Common.{◌++◌, map, ap, ◌∙◌, inl, inr}
use Rattle.wtf8_core.specs.UnitsOf.{units_of}
use Rattle.platform_str.specs.Strings.{bytes}
use Rattle.os_command_line.proofs.lemmas.ShellJoining.{one_joined, all_joined, none_has_nul}
use Rattle.os_command_line.proofs.lemmas.WindowsLines.{none_yet, line_reads, maps}
use Rattle.os_command_line.proofs.windows.writing.command_line.Goals as goal

pub returns-in-Some-clause-fault : goal.returns-in-Some-clause-fault
returns-in-Some-clause-fault g c = inl c.in-Some.ensures

pub loop-argument-init : goal.loop-argument-init
loop-argument-init g c = none_yet (units_of (bytes c.args.program)) _ _ c.new-line.result.items _ (maps units_of bytes c.args.arguments.now) c.new-line.ensures.items c.in_ok-push_name.ensures

pub loop-argument-preserved : goal.loop-argument-preserved
loop-argument-preserved g c =
    one_joined _ _ _ _ _ c.loop-argument.invariant (units_of (bytes c.in-Some-string_at.argument)) _ (ap (map units_of) c.in-Some-string_at.ensures.first) _ _ c.in_ok-push_one.ensures.pushed c.in-Ok.ensures.written c.in-Ok.ensures.no_nul

pub returns-in-Err-clause-fault : goal.returns-in-Err-clause-fault
returns-in-Err-clause-fault g c =
    let so_far = c.loop-argument.invariant in
    inr (
      (c.in_default.ensures, c.in_default-first_at.ensures),
      record {
        before = so_far.done;
        argument = units_of (bytes c.in-Some-string_at.argument);
        after = _;
        joined = so_far.joined ∙ ap (λ z. so_far.done ++ z) (ap (map units_of) c.in-Some-string_at.ensures.first);
        none_before = so_far.no_nul;
        is = c.in-Err.ensures.fault;
      },
    )

pub returns-clause-written : goal.returns-clause-written
returns-clause-written g c = all_joined _ _ _ _ _ c.loop-argument.invariant (ap (map units_of) c.in_default-string_at.ensures.first)

pub returns-clause-line : goal.returns-clause-line
returns-clause-line g c = line_reads _ _ _ c.in_default-first_at.ensures (all_joined _ _ _ _ _ c.loop-argument.invariant (ap (map units_of) c.in_default-string_at.ensures.first))

pub returns-clause-no_nul : goal.returns-clause-no_nul
returns-clause-no_nul g c = ((c.in_default.ensures, c.in_default-first_at.ensures), none_has_nul _ _ _ _ _ c.loop-argument.invariant (ap (map units_of) c.in_default-string_at.ensures.first))
