use Rattle.std.proofs.Common.{sym, ap}
use Rattle.std.proofs.Output.{has_written_styled_of_eq}
use Rattle.std.specs.Option.{option_map}
use Rattle.os_args.specs.Kinds.{kind_of}
use Rattle.os_args.specs.ErrorText.{after_text}
use Rattle.os_args.proofs.error.write_after.Goals as goal

pub returns-in-Some : goal.returns-in-Some
returns-in-Some g c = λ flush ok. has_written_styled_of_eq _ _ _ _ _ (sym (ap (λ l. after_text g.E.Platform.units (option_map kind_of l)) c.in-Some.is)) (c.write_word_between.ensures flush ok)
