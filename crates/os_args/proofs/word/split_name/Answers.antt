use Rattle.platform_str.specs.Strings.{bytes}
use Rattle.os_args.proofs.lemmas.NameEnd.{name_ends}
use Rattle.os_args.proofs.word.split_name.Goals as goal

pub returns-in-Some : goal.returns-in-Some
returns-in-Some g c = name_ends (bytes c.args.long) c.in-Some.end _ _ c.around_index.ensures.before_first c.in-Some.ensures.bytes c.split_at.ensures.front c.split_at.ensures.back
