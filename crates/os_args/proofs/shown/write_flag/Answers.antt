use Rattle.std.proofs.Common.{◌++◌, ap, ◌∙◌}
use Rattle.std.proofs.Output.{has_written_styled_of_eq}
use Rattle.os_args.specs.ErrorText.{shown}
use Rattle.os_args.proofs.shown.write_flag.Goals as goal

pub returns : goal.returns
returns g c = λ flush ok. has_written_styled_of_eq _ _ _ _ _ (ap (λ s. c.args.before.now ++ shown g.E.Platform.units s) (c.new.ensures ∙ c.encode_utf8.ensures.value)) (c.write_after_prefix.ensures flush ok)
