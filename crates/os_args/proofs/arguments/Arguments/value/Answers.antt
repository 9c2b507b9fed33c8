use Rattle.std.proofs.Common.{inr, ◌+◌, map, drop}
use Rattle.platform_str.specs.Strings.{bytes}
use Rattle.os_args.specs.Views.{reading}
use Rattle.os_args.proofs.lemmas.Steps.{takes_whole}
use Rattle.os_args.proofs.arguments.Arguments.value.Goals as goal

pub returns : goal.returns
returns g c =
    let now = c.optional_value.new.self in
    inr (c.in_default.ensures.0, takes_whole (reading c.args.self.now) (reading now) (bytes c.in-Some-string_at.word) (drop (now.index + 1) (map bytes now.words.now)) c.in_default.ensures.1 c.in-Some-string_at.ensures.first)
