use Rattle.std.proofs.Common.{inr, ◌+◌, map, drop}
use Rattle.std.specs.Option.{option_map}
use Rattle.platform_str.specs.Strings.{bytes}
use Rattle.os_args.specs.Kinds.{kind_of}
use Rattle.os_args.specs.Views.{reading}
use Rattle.os_args.proofs.lemmas.Steps.{no_dashes, takes_next}
use Rattle.os_args.proofs.arguments.Arguments.next_word.Goals as goal

pub read_in-requires : goal.read_in-requires
read_in-requires g c =
    let now = c.skip_dashes.new.self in
    no_dashes (reading c.args.self.now) (reading now) (bytes c.in_ok-word.word) (drop (now.index + 1) (map bytes now.words.now)) c.skip_dashes.ensures c.in_ok-word.ensures.first

pub returns : goal.returns
returns g c =
    let now = c.skip_dashes.new.self in
    inr (takes_next (reading c.args.self.now) (reading now) (bytes c.in_ok-word.word) (drop (now.index + 1) (map bytes now.words.now)) (kind_of c.read_in.result.0) (bytes c.read_in.result.1) (option_map kind_of c.last_option-self.result)
    c.requires c.skip_dashes.ensures c.in_ok-word.ensures.first c.read_in.ensures c.last_option-self.ensures)
